-- The rows of LET.
use Rattle.std.proofs.Common.{◌≡◌, ℕ, refl, sym, ◌∙◌, ap, arith}
use Rattle.std.specs.Prelude.{Result, Ok}
use Rattle.pvs_base.specs.Answers.{◌>>=◌}
use Rattle.pvs_base.specs.declared.place.Pos.{Pos}
use Rattle.pvs_base.specs.declared.code.Code.TheVariants as code
use Rattle.pvs_terms.specs.declared.shape.Sort.TheVariants.{OfType}
use Rattle.pvs_terms.specs.Tree.{Tree, TFun, Lam, App, IsWithinLimits}
use Rattle.pvs_terms.specs.declared.node.Node.TheVariants as node
use Rattle.pvs_terms.specs.Stored.{tree_at, node_tree}
use Rattle.pvs_subst.specs.Replace.{put_in}
use Rattle.pvs_subst.specs.Contexts.{context_at}
use Rattle.pvs_types.specs.Typing.{check, well_formed}
use Rattle.pvs_typing.specs.Answers.{Gives, IsFault}
use Rattle.pvs_typing.specs.declared.fault.TypeFault.{TypeFault}
use Rattle.pvs_elab.specs.Answer.{Answer, within_limits_at, from_outcome}
use Rattle.pvs_elab.specs.Phrase.{place}
use Rattle.pvs_elab.specs.Phrase as phrase
use Rattle.pvs_elab.specs.Elab.{TypedTree, under_name}
use Rattle.pvs_elaboration.specs.declared.fault.ElabFault.{ElabFault}
use Rattle.pvs_elaboration.specs.declared.here.Here.{Here}
use Rattle.pvs_elaboration.specs.declared.here.Typed as here
use Rattle.pvs_elaboration.specs.declared.value.Mode.TheVariants as mode
use Rattle.pvs_elaboration.specs.declared.value.Value.TheVariants as value
use Rattle.pvs_elaboration.specs.declared.lets.Definition.{Definition}
use Rattle.pvs_elaboration.specs.declared.lets.LetRow.TheVariants as lets
use Rattle.pvs_elaboration.specs.declared.frame.Frame.TheVariants as frame
use Rattle.pvs_elaboration.specs.declared.frame.Control.TheVariants as control
use Rattle.pvs_elaboration.specs.declared.frame.Entrance.TheVariants as entrance
use Rattle.pvs_elaboration.specs.declared.frame.Next.{Next}
use Rattle.pvs_elaboration.specs.Known.{Sources, phrase_at, place_in, word_at, Known, Grows, Accepts, site_in, IsHere, IsTypeOf, IsTermOf, AreKnownNumbers, Failed}
use Rattle.pvs_elaboration.specs.Meanings.{Typed, Term, Formed, Done, value_numbers, typed_at, typed_answer, on_typed, fault_of, fault_at, elab_at}
use Rattle.pvs_elaboration.specs.Lets.{let_type, let_tree, let_lambda, let_body, let_checked, let_formed, let_value, let_answer}
use Rattle.pvs_elaboration.specs.Machine.{asked_at, made_answer, made_type_answer, Follows, Steps}
use Rattle.pvs_elaboration.proofs.KnownLaws.{number_stays, tree_stays, within_limits_made, large_failed, failed_then}
use Rattle.pvs_elaboration.proofs.MachineLaws.{then_typed, then_term, then_same}
use Rattle.pvs_elaboration.proofs.StepLaws.{given, given_follows, follows_at_once, follows_same, steps_same, typing_failed, accepted_value, type_given}
use Rattle.pvs_elaboration.proofs.AskLaws.{asked_then, elab_place}
use Rattle.pvs_elaboration.proofs.BinderLaws.{part_first}

-- the value is asked first, where no type is written

pub let_asked : {k : Known} (text : Sources) (h : Here) (o : Definition) → place_in text o.value_at ≡ place (phrase_at text o.value)
    → Follows k k text h (asked_at (site_in k text h) k.stored text mode.Infer (phrase.Let (word_at text o.name) (phrase_at text o.value) (phrase_at text o.body) (place_in text o.at))) (asked_then o.value mode.Infer (frame.Let lets.Value o))
unfolding site_in
let_asked {k} text h o p =
    let z = site_in k text h in
    let v = elab_at z text o.value in
    follows_at_once text h _ _ (record { entrance = tt; control = tt; frame = tt })
    (then_typed (v.infer z.here) (let_value z (word_at text o.name) (elab_at z text o.body) v.place (place_in text o.at)) (λ (t : TypedTree). Ok (Typed t))
    ∙ ap (λ (q : Pos). typed_answer (v.infer z.here) >>= on_typed (λ a. typed_answer (let_value z (word_at text o.name) (elab_at z text o.body) q (place_in text o.at) a))) (elab_place k.lookups k.names (phrase_at text o.value) ∙ sym p))

-- a value with a type of its own

pub value_follows : {a b : Known} (text : Sources) (h : Here) (o : Definition) (c : here.Typed) → Grows a b → IsHere a h → AreKnownNumbers a (value_numbers (value.Typed c))
    → Accepts (well_formed a.lookups (context_at a.stored h.context.items) (tree_at a.stored c.ty)) tt
    → Follows a b text h (let_answer (site_in a text h) a.stored text lets.Value o (Typed (typed_at a.stored c))) (given value.Done (frame.Let (lets.Formed c) o))
unfolding site_in
value_follows {a} {b} text h o c g i n x =
    let z = site_in a text h in
    let step : Unit {0} → Answer TypedTree = λ _. let_formed z (word_at text o.name) (elab_at z text o.body) (place_in text o.value_at) (place_in text o.at) (typed_at a.stored c) in
    let at = place_in text o.value_at in
    let r : Answer (Unit {0}) = from_outcome at (well_formed a.lookups (context_at a.stored h.context.items) (tree_at a.stored c.ty)) in
    follows_same text h _ _ _ (then_same r step (λ (t : TypedTree). Ok (Typed t)))
    (given_follows text h r tt (λ _. Done) value.Done (frame.Let (lets.Formed c) o) g i n tt (accepted_value at at x) refl)

pub value_refused : {a b : Known} (text : Sources) (h : Here) (o : Definition) (c : here.Typed) (e : TypeFault) → Grows a b
    → IsFault (well_formed a.lookups (context_at a.stored h.context.items) (tree_at a.stored c.ty)) e
    → Failed a b (let_answer (site_in a text h) a.stored text lets.Value o (Typed (typed_at a.stored c))) (fault_of (place_in text o.value_at) (place_in text o.value_at) e)
unfolding site_in
value_refused {a} text h o c e g x =
    let z = site_in a text h in
    let at = place_in text o.value_at in
    failed_then (λ (t : TypedTree). Ok (Typed t)) (fault_of at at e)
    (typing_failed at at (well_formed a.lookups (context_at a.stored h.context.items) (tree_at a.stored c.ty)) (λ _. let_formed z (word_at text o.name) (elab_at z text o.body) at (place_in text o.at) (typed_at a.stored c)) e g x)

pub formed_follows : {a b : Known} (text : Sources) (h : Here) (o : Definition) (c : here.Typed) → Grows a b → IsHere a h → AreKnownNumbers a (value_numbers (value.Typed c))
    → Accepts (check a.lookups (context_at a.stored h.context.items) (tree_at a.stored c.tree) (tree_at a.stored c.ty)) tt
    → Follows a b text h (let_answer (site_in a text h) a.stored text (lets.Formed c) o Done) (given (value.Term c.tree) (frame.Let (lets.Checked c.ty) o))
unfolding site_in
formed_follows {a} {b} text h o c g i n x =
    let z = site_in a text h in
    let step : Unit {0} → Answer TypedTree = λ _. let_checked z (word_at text o.name) (elab_at z text o.body) (place_in text o.at) (tree_at a.stored c.ty) (tree_at a.stored c.tree) in
    let at = place_in text o.value_at in
    let r : Answer (Unit {0}) = from_outcome at (check a.lookups (context_at a.stored h.context.items) (tree_at a.stored c.tree) (tree_at a.stored c.ty)) in
    follows_same text h _ _ _ (then_same r step (λ (t : TypedTree). Ok (Typed t)))
    (given_follows text h r tt (λ _. Term (tree_at a.stored c.tree)) (value.Term c.tree) (frame.Let (lets.Checked c.ty) o) g i n.1 (number_stays g n.0, tt) (accepted_value at at x) (ap Term (sym (tree_stays g n.0))))

pub formed_refused : {a b : Known} (text : Sources) (h : Here) (o : Definition) (c : here.Typed) (e : TypeFault) → Grows a b
    → IsFault (check a.lookups (context_at a.stored h.context.items) (tree_at a.stored c.tree) (tree_at a.stored c.ty)) e
    → Failed a b (let_answer (site_in a text h) a.stored text (lets.Formed c) o Done) (fault_of (place_in text o.value_at) (place_in text o.value_at) e)
unfolding site_in
formed_refused {a} text h o c e g x =
    let z = site_in a text h in
    let at = place_in text o.value_at in
    failed_then (λ (t : TypedTree). Ok (Typed t)) (fault_of at at e)
    (typing_failed at at (check a.lookups (context_at a.stored h.context.items) (tree_at a.stored c.tree) (tree_at a.stored c.ty)) (λ _. let_checked z (word_at text o.name) (elab_at z text o.body) (place_in text o.at) (tree_at a.stored c.ty) (tree_at a.stored c.tree)) e g x)

-- a value as one of the type that is written
pub annotation_follows : {k : Known} (text : Sources) (h : Here) (o : Definition) (c : ℕ) → IsTypeOf k c
    → Follows k k text h (let_answer (site_in k text h) k.stored text lets.Annotation o (Formed (tree_at k.stored c))) (asked_then o.value (mode.Check c) (frame.Let (lets.Checked c) o))
annotation_follows {k} text h o c n =
    let z = site_in k text h in
    let v = elab_at z text o.value in
    follows_at_once text h _ _ (record { entrance = tt; control = (n, tt); frame = (n, tt) })
    (then_term (v.check z.here v.place (tree_at k.stored c)) (let_checked z (word_at text o.name) (elab_at z text o.body) (place_in text o.at) (tree_at k.stored c)) (λ (t : TypedTree). Ok (Typed t)))

-- the body, under the variable
pub checked_follows : {k : Known} (text : Sources) (h : Here) (o : Definition) (c w : ℕ) → IsTypeOf k c → IsTermOf k w
    → Follows k k text h (let_answer (site_in k text h) k.stored text (lets.Checked c) o (Term (tree_at k.stored w))) (record { entrance = entrance.Variable o.name c; control = control.Ask o.body mode.Infer; frame = frame.Let (lets.Body c w) o })
checked_follows {k} text h o c w n m =
    let z = site_in k text h in
    follows_at_once text h _ _ (record { entrance = (n, tt); control = tt; frame = (n, (m, tt)) })
    (then_typed ((elab_at z text o.body).infer (under_name (word_at text o.name) (tree_at k.stored c) z.here)) (let_body (place_in text o.at) (tree_at k.stored c) (tree_at k.stored w)) (λ (t : TypedTree). Ok (Typed t)))

-- the trees that are made

function_fits : (f a : Tree) → IsWithinLimits (App f a) → IsWithinLimits f
function_fits f a h = record { deep = omega (arith, h.deep); large = omega (arith, h.large); index = omega (arith, h.index) }

-- an application is made of its function
let_parts : (at : Pos) (c w : Tree) (e : TypedTree) → typed_answer (let_body at c w e) ≡ (within_limits_at at (Lam c e.tree) >>= (λ l. typed_answer (let_lambda at c e.ty w l)))
let_parts at c w e =
    let same = then_same (within_limits_at at (App (Lam c e.tree) w)) (let_tree at c e.ty w) (λ (t : TypedTree). Ok (Typed t)) in
    same ∙ part_first at (Lam c e.tree) (App (Lam c e.tree) w) (λ t. typed_answer (let_tree at c e.ty w t)) (λ l. typed_answer (let_lambda at c e.ty w l)) (function_fits (Lam c e.tree) w) (sym same)

pub body_row : (k j : Known) (text : Sources) (h : Here) (o : Definition) (c w : ℕ) (e : here.Typed) (res : Result Next ElabFault)
    → Steps k j text h (made_answer (site_in k text h) k.stored text o.at (node_tree k.stored (node.Lam c e.tree)) (frame.Let (lets.Lambda c e.ty w) o)) res
    → Steps k j text h (let_answer (site_in k text h) k.stored text (lets.Body c w) o (Typed (typed_at k.stored e))) res
body_row k j text h o c w e res t = steps_same k j text h _ _ res (let_parts (place_in text o.at) (tree_at k.stored c) (tree_at k.stored w) (typed_at k.stored e)) t

pub lambda_row : (k j : Known) (text : Sources) (h : Here) (o : Definition) (c r w l : ℕ) (res : Result Next ElabFault)
    → Steps k j text h (made_answer (site_in k text h) k.stored text o.at (node_tree k.stored (node.App l w)) (frame.Let (lets.Tree c r w) o)) res
    → Steps k j text h (let_answer (site_in k text h) k.stored text (lets.Lambda c r w) o (Term (tree_at k.stored l))) res
lambda_row k j text h o c r w l res t =
    steps_same k j text h _ _ res (then_same (within_limits_at (place_in text o.at) (App (tree_at k.stored l) (tree_at k.stored w))) (let_tree (place_in text o.at) (tree_at k.stored c) (tree_at k.stored r) (tree_at k.stored w)) (λ (t : TypedTree). Ok (Typed t))) t

pub tree_row : (k j : Known) (text : Sources) (h : Here) (o : Definition) (c r w t : ℕ) (res : Result Next ElabFault)
    → Steps k j text h (made_type_answer (site_in k text h) k.stored text o.at (node_tree k.stored (node.TFun c r)) (frame.Let (lets.Type t r w) o)) res
    → Steps k j text h (let_answer (site_in k text h) k.stored text (lets.Tree c r w) o (Term (tree_at k.stored t))) res
tree_row k j text h o c r w t res s =
    steps_same k j text h _ _ res (then_same (within_limits_at (place_in text o.at) (TFun (tree_at k.stored c) (tree_at k.stored r))) (λ _. let_type (place_in text o.at) (tree_at k.stored t) (tree_at k.stored r) (tree_at k.stored w)) (λ (t : TypedTree). Ok (Typed t))) s

-- its type
pub type_follows : {a b : Known} (text : Sources) (h : Here) (o : Definition) (t r w f i : ℕ) → Grows a b → IsHere a h → IsTermOf a t
    → Gives b.stored b.declares OfType (put_in (tree_at a.stored r) (tree_at a.stored w)) i
    → Follows a b text h (let_answer (site_in a text h) a.stored text (lets.Type t r w) o (Formed (tree_at a.stored f))) (given (value.Formed i) (frame.WithTerm t))
type_follows {a} {b} text h o t r w f i g n m s =
    type_given text h t (put_in (tree_at a.stored r) (tree_at a.stored w)) (within_limits_at (place_in text o.at) (put_in (tree_at a.stored r) (tree_at a.stored w))) i g n m s.known
    (within_limits_made (place_in text o.at) (put_in (tree_at a.stored r) (tree_at a.stored w)) s.fits) (sym s.tree)

pub type_large : {a b : Known} (text : Sources) (h : Here) (o : Definition) (t r w f : ℕ) → Grows a b → ¬ IsWithinLimits (put_in (tree_at a.stored r) (tree_at a.stored w))
    → Failed a b (let_answer (site_in a text h) a.stored text (lets.Type t r w) o (Formed (tree_at a.stored f))) (fault_at (place_in text o.at) code.TooLarge)
type_large {a} text h o t r w f g n =
    failed_then (λ (u : TypedTree). Ok (Typed u)) (fault_at (place_in text o.at) code.TooLarge) (large_failed (place_in text o.at) (put_in (tree_at a.stored r) (tree_at a.stored w)) (λ u. Ok (record { tree = tree_at a.stored t; ty = u })) g n)
