-- What is left of a predicate subtype, and of a predicate as a type.
use Rattle.std.specs.Prelude.{ℕ, List, [], ◌∷◌}
use Rattle.pvs_base.specs.Answers.{◌>>=◌}
use Rattle.pvs_base.specs.declared.place.Pos.{Pos}
use Rattle.pvs_terms.specs.Tree.{Text, Tree, Var, TBool, TSub, App}
use Rattle.pvs_terms.specs.declared.shape.Sort.{Sort}
use Rattle.pvs_terms.specs.declared.shape.Sort.TheVariants.{OfType, OfTerm}
use Rattle.pvs_terms.specs.Stored.{Stored, tree_at}
use Rattle.pvs_types.specs.Outcome.{from_result}
use Rattle.pvs_types.specs.Forms.{head}
use Rattle.pvs_types.specs.Coerce.{lift_one}
use Rattle.pvs_elab.specs.Answer.{Answer, within_limits_at, from_outcome}
use Rattle.pvs_elab.specs.Elab.{Elab, TypedTree, under_name, domain_if, domain_of}
use Rattle.pvs_elaboration.specs.declared.binder.Binding.{Binding}
use Rattle.pvs_elaboration.specs.declared.subtypes.SubtypeRow.{SubtypeRow}
use Rattle.pvs_elaboration.specs.declared.subtypes.SubtypeRow.TheVariants as subtype
use Rattle.pvs_elaboration.specs.declared.subtypes.PredicateRow.{PredicateRow}
use Rattle.pvs_elaboration.specs.declared.subtypes.PredicateRow.TheVariants as predicate
use Rattle.pvs_elaboration.specs.Known.{Sources, place_in, word_at, Site}
use Rattle.pvs_elaboration.specs.Names.{accepted_at}
use Rattle.pvs_elaboration.specs.Meanings.{Meaning, formed_answer, on_typed, on_term, on_formed, elab_at}

-- A predicate subtype, after each of its steps.
abbrev pub subtype_tree : Pos → Tree → Tree → Answer Tree
subtype_tree at c q = within_limits_at at (TSub c q)

abbrev pub subtype_type : Site → Text → Elab → Pos → Tree → Answer Tree
subtype_type z x p at c = p.check (under_name x c z.here) p.place TBool >>= subtype_tree at c

abbrev pub subtype_answer : Site → Stored → Sources → SubtypeRow → Binding → Meaning → Answer Meaning
subtype_answer z s text subtype.Type o = on_formed (λ c. formed_answer (subtype_type z (word_at text o.name) (elab_at z text o.body) (place_in text o.at) c))
subtype_answer z s text (subtype.Predicate c) o = on_term (λ q. formed_answer (subtype_tree (place_in text o.at) (tree_at s c) q))

abbrev pub subtype_numbers : SubtypeRow → List (Sort × ℕ)
subtype_numbers subtype.Type = []
subtype_numbers (subtype.Predicate c) = (OfType, c) ∷ []

-- A predicate `p` as a type, after each of its steps: it begins at `start`, and its domain is `a`.
abbrev pub predicate_application : Site → Pos → Tree → Tree → Answer Tree
predicate_application z at a t = within_limits_at at (TSub a t) >>= accepted_at z at

abbrev pub predicate_lifted : Site → Pos → Tree → Tree → Answer Tree
predicate_lifted z at a p = within_limits_at at (App p (Var 0)) >>= predicate_application z at a

abbrev pub predicate_subtype : Site → Pos → Tree → Tree → Answer Tree
predicate_subtype z at p a = within_limits_at at (TSub a (App (lift_one p) (Var 0))) >>= accepted_at z at

abbrev pub predicate_range : Site → Pos → Pos → Tree → Tree → Tree → Answer Tree
predicate_range z start at p a b = from_outcome start (domain_if a b) >>= predicate_subtype z at p

abbrev pub predicate_head : Site → Pos → Pos → Tree → Tree → Answer Tree
predicate_head z start at p d = from_outcome start (domain_of z.lookups d) >>= predicate_subtype z at p

abbrev pub predicate_type : Site → Pos → Pos → TypedTree → Answer Tree
predicate_type z start at p = from_outcome start (from_result (head z.lookups p.ty)) >>= predicate_head z start at p.tree

abbrev pub predicate_answer : Site → Stored → Sources → PredicateRow → ℕ → ℕ → Meaning → Answer Meaning
predicate_answer z s text predicate.Type start at = on_typed (λ p. formed_answer (predicate_type z (place_in text start) (place_in text at) p))
predicate_answer z s text (predicate.Head p) start at = on_formed (λ d. formed_answer (predicate_head z (place_in text start) (place_in text at) (tree_at s p) d))
predicate_answer z s text (predicate.Range p a) start at = on_formed (λ b. formed_answer (predicate_range z (place_in text start) (place_in text at) (tree_at s p) (tree_at s a) b))
predicate_answer z s text (predicate.Lifted a) start at = on_term (λ p. formed_answer (predicate_lifted z (place_in text at) (tree_at s a) p))
predicate_answer z s text (predicate.Application a) start at = on_term (λ t. formed_answer (predicate_application z (place_in text at) (tree_at s a) t))

abbrev pub predicate_numbers : PredicateRow → List (Sort × ℕ)
predicate_numbers predicate.Type = []
predicate_numbers (predicate.Head p) = (OfTerm, p) ∷ []
predicate_numbers (predicate.Range p a) = (OfTerm, p) ∷ (OfType, a) ∷ []
predicate_numbers (predicate.Lifted a) = (OfType, a) ∷ []
predicate_numbers (predicate.Application a) = (OfType, a) ∷ []
