-- What is left of a LET.
use Rattle.std.specs.Prelude.{ℕ, List, [], ◌∷◌, Ok}
use Rattle.pvs_base.specs.Answers.{◌>>=◌}
use Rattle.pvs_base.specs.declared.place.Pos.{Pos}
use Rattle.pvs_terms.specs.Tree.{Text, Tree, TFun, Lam, App}
use Rattle.pvs_terms.specs.declared.shape.Sort.{Sort}
use Rattle.pvs_terms.specs.declared.shape.Sort.TheVariants.{OfType, OfTerm}
use Rattle.pvs_terms.specs.Stored.{Stored, tree_at}
use Rattle.pvs_subst.specs.Replace.{put_in}
use Rattle.pvs_types.specs.Typing.{check, well_formed}
use Rattle.pvs_elab.specs.Answer.{Answer, within_limits_at, from_outcome}
use Rattle.pvs_elab.specs.Elab.{Elab, TypedTree, under_name}
use Rattle.pvs_elaboration.specs.declared.lets.Definition.{Definition}
use Rattle.pvs_elaboration.specs.declared.lets.LetRow.{LetRow}
use Rattle.pvs_elaboration.specs.declared.lets.LetRow.TheVariants as lets
use Rattle.pvs_elaboration.specs.Known.{Sources, place_in, word_at, Site}
use Rattle.pvs_elaboration.specs.Meanings.{Meaning, typed_at, typed_answer, on_typed, on_term, on_formed, on_done, elab_at}

-- A LET of `x` in `b`, after each of its steps: the type of the variable is `c`, its value is `w`, and the type of the body
-- is `r`.
abbrev pub let_type : Pos → Tree → Tree → Tree → Answer TypedTree
let_type at t r w = within_limits_at at (put_in r w) >>= (λ u. Ok (record { tree = t; ty = u }))

abbrev pub let_tree : Pos → Tree → Tree → Tree → Tree → Answer TypedTree
let_tree at c r w t = within_limits_at at (TFun c r) >>= (λ _. let_type at t r w)

abbrev pub let_lambda : Pos → Tree → Tree → Tree → Tree → Answer TypedTree
let_lambda at c r w l = within_limits_at at (App l w) >>= let_tree at c r w

abbrev pub let_body : Pos → Tree → Tree → TypedTree → Answer TypedTree
let_body at c w e = within_limits_at at (App (Lam c e.tree) w) >>= let_tree at c e.ty w

abbrev pub let_checked : Site → Text → Elab → Pos → Tree → Tree → Answer TypedTree
let_checked z x b at c w = b.infer (under_name x c z.here) >>= let_body at c w

-- the value has a type of its own
abbrev pub let_formed : Site → Text → Elab → Pos → Pos → TypedTree → Answer TypedTree
let_formed z x b value at a = from_outcome value (check z.lookups z.here.context a.tree a.ty) >>= (λ _. let_checked z x b at a.ty a.tree)

abbrev pub let_value : Site → Text → Elab → Pos → Pos → TypedTree → Answer TypedTree
let_value z x b value at a = from_outcome value (well_formed z.lookups z.here.context a.ty) >>= (λ _. let_formed z x b value at a)

-- the value has the type that is written
abbrev pub let_annotation : Site → Text → Elab → Elab → Pos → Tree → Answer TypedTree
let_annotation z x v b at c = v.check z.here v.place c >>= let_checked z x b at c

abbrev pub let_answer : Site → Stored → Sources → LetRow → Definition → Meaning → Answer Meaning
let_answer z s text lets.Value o = on_typed (λ a. typed_answer (let_value z (word_at text o.name) (elab_at z text o.body) (place_in text o.value_at) (place_in text o.at) a))
let_answer z s text (lets.Formed a) o = on_done (typed_answer (let_formed z (word_at text o.name) (elab_at z text o.body) (place_in text o.value_at) (place_in text o.at) (typed_at s a)))
let_answer z s text lets.Annotation o = on_formed (λ c. typed_answer (let_annotation z (word_at text o.name) (elab_at z text o.value) (elab_at z text o.body) (place_in text o.at) c))
let_answer z s text (lets.Checked c) o = on_term (λ w. typed_answer (let_checked z (word_at text o.name) (elab_at z text o.body) (place_in text o.at) (tree_at s c) w))
let_answer z s text (lets.Body c w) o = on_typed (λ e. typed_answer (let_body (place_in text o.at) (tree_at s c) (tree_at s w) e))
let_answer z s text (lets.Lambda c r w) o = on_term (λ l. typed_answer (let_lambda (place_in text o.at) (tree_at s c) (tree_at s r) (tree_at s w) l))
let_answer z s text (lets.Tree c r w) o = on_term (λ t. typed_answer (let_tree (place_in text o.at) (tree_at s c) (tree_at s r) (tree_at s w) t))
let_answer z s text (lets.Type t r w) o = on_formed (λ _. typed_answer (let_type (place_in text o.at) (tree_at s t) (tree_at s r) (tree_at s w)))

abbrev pub let_numbers : LetRow → List (Sort × ℕ)
let_numbers lets.Value = []
let_numbers (lets.Formed a) = (OfTerm, a.tree) ∷ (OfType, a.ty) ∷ []
let_numbers lets.Annotation = []
let_numbers (lets.Checked c) = (OfType, c) ∷ []
let_numbers (lets.Body c w) = (OfType, c) ∷ (OfTerm, w) ∷ []
let_numbers (lets.Lambda c r w) = (OfType, c) ∷ (OfType, r) ∷ (OfTerm, w) ∷ []
let_numbers (lets.Tree c r w) = (OfType, c) ∷ (OfType, r) ∷ (OfTerm, w) ∷ []
let_numbers (lets.Type t r w) = (OfTerm, t) ∷ (OfType, r) ∷ (OfTerm, w) ∷ []
