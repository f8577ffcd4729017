-- The rows of applications.
use Rattle.std.proofs.Common.{◌≡◌, ℕ, refl, sym, ◌∙◌, ap}
use Rattle.std.specs.Prelude.{Result, Ok}
use Rattle.pvs_base.specs.Answers.{◌>>=◌}
use Rattle.pvs_base.specs.declared.place.Pos.{Pos}
use Rattle.pvs_base.specs.declared.code.Code.{Code}
use Rattle.pvs_base.specs.declared.code.Code.TheVariants as code
use Rattle.pvs_terms.specs.declared.shape.Sort.TheVariants.{OfType}
use Rattle.pvs_terms.specs.Tree.{Tree, App, IsWithinLimits}
use Rattle.pvs_terms.specs.declared.node.Node.TheVariants as node
use Rattle.pvs_terms.specs.Stored.{tree_at, node_tree}
use Rattle.pvs_subst.specs.Replace.{put_in}
use Rattle.pvs_types.specs.Forms.{head}
use Rattle.pvs_types.specs.Outcome.{Outcome, Refused}
use Rattle.pvs_types.specs.Typing.{Components, function_of}
use Rattle.pvs_typing.specs.Answers.{Gives, IsRefusal}
use Rattle.pvs_typing.specs.declared.fault.TypeFault.{TypeFault}
use Rattle.pvs_elab.specs.Answer.{within_limits_at, from_outcome, place_of_code}
use Rattle.pvs_elab.specs.Phrase.{place}
use Rattle.pvs_elab.specs.Phrase as phrase
use Rattle.pvs_elab.specs.Elab.{TypedTree}
use Rattle.pvs_elaboration.specs.declared.fault.ElabFault.{ElabFault}
use Rattle.pvs_elaboration.specs.declared.here.Here.{Here}
use Rattle.pvs_elaboration.specs.declared.here.Typed as here
use Rattle.pvs_elaboration.specs.declared.value.Mode.TheVariants as mode
use Rattle.pvs_elaboration.specs.declared.value.Value.TheVariants as value
use Rattle.pvs_elaboration.specs.declared.apply.ApplyRow.TheVariants as apply
use Rattle.pvs_elaboration.specs.declared.apply.Operands.{Operands}
use Rattle.pvs_elaboration.specs.declared.frame.Next.{Next}
use Rattle.pvs_elaboration.specs.declared.frame.Frame.TheVariants as frame
use Rattle.pvs_elaboration.specs.Known.{Sources, phrase_at, place_in, Known, Grows, site_in, IsHere, IsTypeOf, IsTermOf, AreKnownNumbers, Failed}
use Rattle.pvs_elaboration.specs.Meanings.{Typed, Term, Formed, typed_at, typed_answer, on_typed, fault_of, fault_at, elab_at}
use Rattle.pvs_elaboration.specs.Apply.{apply_tree, apply_argument, apply_parts, apply_head, apply_function, apply_answer, apply_numbers}
use Rattle.pvs_elaboration.specs.Machine.{asked_at, made_answer, Follows, Steps}
use Rattle.pvs_elaboration.proofs.KnownLaws.{grows_none, within_limits_made, large_failed, failed_then}
use Rattle.pvs_elaboration.proofs.MachineLaws.{then_typed, then_term, then_same}
use Rattle.pvs_elaboration.proofs.StepLaws.{given, follows_at_once, steps_same, type_found, type_refused, type_given}
use Rattle.pvs_elaboration.proofs.AskLaws.{asked_then, elab_place}

-- the function is asked first
pub apply_follows : {k : Known} (text : Sources) (h : Here) (f : ℕ) (o : Operands) → place_in text o.at ≡ place (phrase_at text f)
    → Follows k k text h (asked_at (site_in k text h) k.stored text mode.Infer (phrase.Apply (phrase_at text f) (phrase_at text o.argument))) (asked_then f mode.Infer (frame.Apply apply.Function o))
unfolding site_in
apply_follows {k} text h f o p =
    let z = site_in k text h in
    follows_at_once text h _ _ (record { entrance = tt; control = tt; frame = tt })
    (then_typed ((elab_at z text f).infer z.here) (apply_function z (elab_at z text o.argument) (elab_at z text f).place) (λ (t : TypedTree). Ok (Typed t))
    ∙ ap (λ (q : Pos). typed_answer ((elab_at z text f).infer z.here) >>= on_typed (λ c. typed_answer (apply_function z (elab_at z text o.argument) q c))) (elab_place k.lookups k.names (phrase_at text f) ∙ sym p))

-- the head of its type
pub function_follows : {a b : Known} (text : Sources) (h : Here) (o : Operands) (c : here.Typed) (i : ℕ) → Grows a b → IsHere a h → IsTermOf a c.tree → IsTypeOf b i
    → head a.lookups (tree_at a.stored c.ty) ≡ Ok (tree_at b.stored i)
    → Follows a b text h (apply_answer (site_in a text h) a.stored text apply.Function o (Typed (typed_at a.stored c))) (given (value.Formed i) (frame.Apply (apply.Head c.tree) o))
unfolding site_in
function_follows {a} text h o c i g n m t e =
    let z = site_in a text h in
    type_found text h (place_in text o.at) (head a.lookups (tree_at a.stored c.ty)) (apply_head z (elab_at z text o.argument) (place_in text o.at) (tree_at a.stored c.tree)) (λ (t : TypedTree). Ok (Typed t)) (frame.Apply (apply.Head c.tree) o) i g n (m, tt) t e (λ t. refl)

pub function_refused : {a b : Known} (text : Sources) (h : Here) (o : Operands) (c : here.Typed) (e : TypeFault) → Grows a b → IsRefusal (head a.lookups (tree_at a.stored c.ty)) e
    → Failed a b (apply_answer (site_in a text h) a.stored text apply.Function o (Typed (typed_at a.stored c))) (fault_of (place_in text o.at) (place_in text o.at) e)
unfolding site_in
function_refused {a} text h o c e g x =
    let z = site_in a text h in
    type_refused (place_in text o.at) (head a.lookups (tree_at a.stored c.ty)) (apply_head z (elab_at z text o.argument) (place_in text o.at) (tree_at a.stored c.tree)) (λ (t : TypedTree). Ok (Typed t)) e g x

-- the argument, as one of the domain
pub head_follows : {k : Known} (text : Sources) (h : Here) (o : Operands) (c i d e : ℕ) → AreKnownNumbers k (apply_numbers (apply.Head c)) → IsTypeOf k d → IsTypeOf k e → tree_at k.stored i ≡ node_tree k.stored (node.TFun d e)
    → Follows k k text h (apply_answer (site_in k text h) k.stored text (apply.Head c) o (Formed (tree_at k.stored i))) (asked_then o.argument (mode.Check d) (frame.Apply (apply.Argument c e) o))
head_follows {k} text h o c i d e n m r x =
    let z = site_in k text h in
    follows_at_once text h _ _ (record { entrance = tt; control = (m, tt); frame = (n.0, (r, tt)) })
    (ap (λ (t : Tree). typed_answer (apply_head z (elab_at z text o.argument) (place_in text o.at) (tree_at k.stored c) t)) x
    ∙ then_term ((elab_at z text o.argument).check z.here (elab_at z text o.argument).place (tree_at k.stored d)) (apply_argument (place_in text o.at) (tree_at k.stored c) (tree_at k.stored e)) (λ (t : TypedTree). Ok (Typed t)))

pub not_a_function : (k : Known) (text : Sources) (h : Here) (o : Operands) (c : ℕ) (t : Tree) (e : Code) → function_of t ≡ Refused e
    → Failed k k (apply_answer (site_in k text h) k.stored text (apply.Head c) o (Formed t)) (fault_at (place_of_code (place_in text o.at) (place_in text o.at) e) e)
not_a_function k text h o c t e x = record {
  kept = grows_none k;
  is = ap (λ (q : Outcome Components). typed_answer (from_outcome (place_in text o.at) q >>= apply_parts (site_in k text h) (elab_at (site_in k text h) text o.argument) (place_in text o.at) (tree_at k.stored c))) x;
}

-- the tree
pub argument_row : (k c : Known) (text : Sources) (h : Here) (o : Operands) (f d a : ℕ) (res : Result Next ElabFault)
    → Steps k c text h (made_answer (site_in k text h) k.stored text o.at (node_tree k.stored (node.App f a)) (frame.Apply (apply.Tree d a) o)) res
    → Steps k c text h (apply_answer (site_in k text h) k.stored text (apply.Argument f d) o (Term (tree_at k.stored a))) res
argument_row k c text h o f d a res t =
    steps_same k c text h _ _ res (then_same (within_limits_at (place_in text o.at) (App (tree_at k.stored f) (tree_at k.stored a))) (apply_tree (place_in text o.at) (tree_at k.stored d) (tree_at k.stored a)) (λ (t : TypedTree). Ok (Typed t))) t

-- its type
pub range_follows : {a b : Known} (text : Sources) (h : Here) (o : Operands) (d x t i : ℕ) → Grows a b → IsHere a h → IsTermOf a t
    → Gives b.stored b.declares OfType (put_in (tree_at a.stored d) (tree_at a.stored x)) i
    → Follows a b text h (apply_answer (site_in a text h) a.stored text (apply.Tree d x) o (Term (tree_at a.stored t))) (given (value.Formed i) (frame.WithTerm t))
range_follows {a} {b} text h o d x t i g n m s =
    type_given text h t (put_in (tree_at a.stored d) (tree_at a.stored x)) (within_limits_at (place_in text o.at) (put_in (tree_at a.stored d) (tree_at a.stored x))) i g n m s.known
    (within_limits_made (place_in text o.at) (put_in (tree_at a.stored d) (tree_at a.stored x)) s.fits) (sym s.tree)

pub range_large : {a b : Known} (text : Sources) (h : Here) (o : Operands) (d x t : ℕ) → Grows a b → ¬ IsWithinLimits (put_in (tree_at a.stored d) (tree_at a.stored x))
    → Failed a b (apply_answer (site_in a text h) a.stored text (apply.Tree d x) o (Term (tree_at a.stored t))) (fault_at (place_in text o.at) code.TooLarge)
range_large {a} text h o d x t g n =
    failed_then (λ (u : TypedTree). Ok (Typed u)) (fault_at (place_in text o.at) code.TooLarge) (large_failed (place_in text o.at) (put_in (tree_at a.stored d) (tree_at a.stored x)) (λ u. Ok (record { tree = tree_at a.stored t; ty = u })) g n)
