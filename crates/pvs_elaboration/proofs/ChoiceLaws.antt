-- The rows of a choice and of NOT.
use Rattle.std.proofs.Common.{◌≡◌, ℕ, ◌∷◌, refl, sym, ◌∙◌, ap, ap₂}
use Rattle.std.specs.Prelude.{Result, Ok, Err}
use Rattle.pvs_base.specs.Answers.{◌>>=◌}
use Rattle.pvs_base.specs.declared.place.Pos.{Pos}
use Rattle.pvs_terms.specs.Tree.{Tree, If, TBool, True, False}
use Rattle.pvs_terms.specs.declared.node.Node.TheVariants as node
use Rattle.pvs_terms.specs.Stored.{tree_at, node_tree}
use Rattle.pvs_subst.specs.Contexts.{Hypothesis}
use Rattle.pvs_types.specs.Coerce.{coerce}
use Rattle.pvs_types.specs.Typing.{negation}
use Rattle.pvs_elab.specs.Answer.{Answer, within_limits_at, from_outcome}
use Rattle.pvs_elab.specs.Elab as definition
use Rattle.pvs_elaboration.specs.declared.fault.ElabFault.{ElabFault}
use Rattle.pvs_elaboration.specs.declared.here.Here.{Here}
use Rattle.pvs_elaboration.specs.declared.here.Typed as here
use Rattle.pvs_elaboration.specs.declared.value.Mode.{Mode}
use Rattle.pvs_elaboration.specs.declared.value.Mode.TheVariants as mode
use Rattle.pvs_elaboration.specs.declared.value.Value.TheVariants as value
use Rattle.pvs_elaboration.specs.declared.choice.Branches.{Branches}
use Rattle.pvs_elaboration.specs.declared.choice.ChoiceRow.TheVariants.{First, Negation, Second, Join, CheckFirst, CheckNegation, CheckSecond, CheckLast}
use Rattle.pvs_elaboration.specs.declared.choice.NotRow.TheVariants as not_form
use Rattle.pvs_elaboration.specs.declared.frame.Frame.{Frame}
use Rattle.pvs_elaboration.specs.declared.frame.Frame.TheVariants as frame
use Rattle.pvs_elaboration.specs.declared.frame.Control.TheVariants as control
use Rattle.pvs_elaboration.specs.declared.frame.Entrance.TheVariants as entrance
use Rattle.pvs_elaboration.specs.declared.frame.Next.{Next}
use Rattle.pvs_elaboration.specs.Known.{Sources, place_in, Known, site_in, IsHere, IsTermOf, AreKnownNumbers}
use Rattle.pvs_elaboration.specs.Meanings.{Meaning, Term, Typed, typed_at, term_answer, on_term, elab_at}
use Rattle.pvs_elaboration.specs.Choice.{places_of, join, branch_second, branch_negation, choice_answer, choice_numbers, not_answer, not_numbers, not_tree, not_true, check_negation, check_second, check_last}
use Rattle.pvs_elaboration.specs.Machine.{made_answer, Follows, Steps}
use Rattle.pvs_elaboration.proofs.MachineLaws.{then_typed, then_term, then_same}
use Rattle.pvs_elaboration.proofs.StepLaws.{given, follows_at_once, steps_same}

-- what asks under a hypothesis
abbrev pub asked_under : ℕ → ℕ → Mode → Frame → Next
asked_under p x m f = record { entrance = entrance.Hypothesis p; control = control.Ask x m; frame = f }

pub first_follows : {k : Known} (text : Sources) (h : Here) (b : Branches) (p : ℕ) → IsTermOf k p
    → Follows k k text h (choice_answer (site_in k text h) k.stored text First b (Term (tree_at k.stored p))) (asked_under p b.first mode.Infer (frame.Choice (Negation p) b))
first_follows {k} text h b p n =
    let z = site_in k text h in
    follows_at_once text h _ _ (record { entrance = (n, tt); control = tt; frame = (n, tt) })
    (then_typed ((elab_at z text b.first).infer (definition.under_hypothesis (tree_at k.stored p) z.here))
    (branch_negation z b.early (places_of text b) (elab_at z text b.second) (tree_at k.stored p)) (λ (x : definition.TypedTree). Ok (Typed x)))

pub second_follows : {k : Known} (text : Sources) (h : Here) (b : Branches) (p : ℕ) (a : here.Typed) (n : ℕ) → IsTermOf k n → AreKnownNumbers k (choice_numbers (Second p a))
    → Follows k k text h (choice_answer (site_in k text h) k.stored text (Second p a) b (Term (tree_at k.stored n))) (asked_under n b.second mode.Infer (frame.Choice (Join p a n) b))
second_follows {k} text h b p a n m r =
    let z = site_in k text h in
    follows_at_once text h _ _ (record { entrance = (m, tt); control = tt; frame = (r.0, (r.1.0, (r.1.1.0, (m, tt)))) })
    (then_typed ((elab_at z text b.second).infer (definition.under_hypothesis (tree_at k.stored n) z.here))
    (join z b.early (places_of text b) (tree_at k.stored p) (typed_at k.stored a) (tree_at k.stored n)) (λ (x : definition.TypedTree). Ok (Typed x)))

pub check_first_follows : {k : Known} (text : Sources) (h : Here) (b : Branches) (u p : ℕ) → IsTermOf k p → AreKnownNumbers k (choice_numbers (CheckFirst u))
    → Follows k k text h (choice_answer (site_in k text h) k.stored text (CheckFirst u) b (Term (tree_at k.stored p))) (asked_under p b.first (mode.Check u) (frame.Choice (CheckNegation u p) b))
check_first_follows {k} text h b u p n r =
    let z = site_in k text h in
    follows_at_once text h _ _ (record { entrance = (n, tt); control = r; frame = (r.0, (n, tt)) })
    (then_term ((elab_at z text b.first).check (definition.under_hypothesis (tree_at k.stored p) z.here) (elab_at z text b.first).place (tree_at k.stored u))
    (check_negation (elab_at z text b.second) (place_in text b.at) z.here (tree_at k.stored u) (tree_at k.stored p)) (λ (x : Tree). Ok (Term x)))

pub check_second_follows : {k : Known} (text : Sources) (h : Here) (b : Branches) (u p a n : ℕ) → IsTermOf k n → AreKnownNumbers k (choice_numbers (CheckSecond u p a))
    → Follows k k text h (choice_answer (site_in k text h) k.stored text (CheckSecond u p a) b (Term (tree_at k.stored n))) (asked_under n b.second (mode.Check u) (frame.Choice (CheckLast p a) b))
check_second_follows {k} text h b u p a n m r =
    let z = site_in k text h in
    follows_at_once text h _ _ (record { entrance = (m, tt); control = (r.0, tt); frame = r.1 })
    (then_term ((elab_at z text b.second).check (definition.under_hypothesis (tree_at k.stored n) z.here) (elab_at z text b.second).place (tree_at k.stored u))
    (check_last (place_in text b.at) (tree_at k.stored p) (tree_at k.stored a)) (λ (x : Tree). Ok (Term x)))

-- NOT of a term is made with the nodes of FALSE and TRUE
negation_is : {k : Known} (h : Here) (p : ℕ) → IsHere k h → negation (tree_at k.stored p) ≡ node_tree k.stored (node.If p h.no h.yes)
negation_is {k} h p i = ap₂ (λ (u : Tree) (v : Tree). If (tree_at k.stored p) u v) (sym i.is_no) (sym i.is_yes)

negation_made : {k : Known} {A : Type 0} (text : Sources) (h : Here) (at : ℕ) (p : ℕ) (f : Tree → Answer A) (g : A → Answer Meaning) → IsHere k h
    → ((within_limits_at (place_in text at) (negation (tree_at k.stored p)) >>= f) >>= g) ≡ (within_limits_at (place_in text at) (node_tree k.stored (node.If p h.no h.yes)) >>= (λ t. f t >>= g))
negation_made text h at p f g i = then_same _ f g ∙ ap (λ t. within_limits_at (place_in text at) t >>= (λ t. f t >>= g)) (negation_is h p i)

pub negation_row : (k c : Known) (text : Sources) (h : Here) (b : Branches) (p : ℕ) (a : here.Typed) (res : Result Next ElabFault) → IsHere k h
    → Steps k c text h (made_answer (site_in k text h) k.stored text b.at (node_tree k.stored (node.If p h.no h.yes)) (frame.Choice (Second p a) b)) res
    → Steps k c text h (choice_answer (site_in k text h) k.stored text (Negation p) b (Typed (typed_at k.stored a))) res
negation_row k c text h b p a res i t =
    let z = site_in k text h in
    steps_same k c text h _ _ res (negation_made text h b.at p
    (branch_second z b.early (places_of text b) (elab_at z text b.second) (tree_at k.stored p) (typed_at k.stored a)) (λ (x : definition.TypedTree). Ok (Typed x)) i) t

pub check_negation_row : (k c : Known) (text : Sources) (h : Here) (b : Branches) (u p a : ℕ) (res : Result Next ElabFault) → IsHere k h
    → Steps k c text h (made_answer (site_in k text h) k.stored text b.at (node_tree k.stored (node.If p h.no h.yes)) (frame.Choice (CheckSecond u p a) b)) res
    → Steps k c text h (choice_answer (site_in k text h) k.stored text (CheckNegation u p) b (Term (tree_at k.stored a))) res
check_negation_row k c text h b u p a res i t =
    let z = site_in k text h in
    steps_same k c text h _ _ res (negation_made text h b.at p
    (check_second (elab_at z text b.second) (place_in text b.at) z.here (tree_at k.stored u) (tree_at k.stored p) (tree_at k.stored a)) (λ (x : Tree). Ok (Term x)) i) t

pub check_last_row : (k c : Known) (text : Sources) (h : Here) (b : Branches) (p x y : ℕ) (res : Result Next ElabFault)
    → Steps k c text h (made_answer (site_in k text h) k.stored text b.at (node_tree k.stored (node.If p x y)) frame.Same) res
    → Steps k c text h (choice_answer (site_in k text h) k.stored text (CheckLast p x) b (Term (tree_at k.stored y))) res
check_last_row k c text h b p x y res t = steps_same k c text h _ _ res refl t

pub not_row : (k c : Known) (text : Sources) (h : Here) (pos at : ℕ) (p : ℕ) (res : Result Next ElabFault) → IsHere k h
    → Steps k c text h (made_answer (site_in k text h) k.stored text pos (node_tree k.stored (node.If p h.no h.yes)) (frame.WithType h.truth)) res
    → Steps k c text h (not_answer (site_in k text h) k.stored text not_form.Tree pos at (Term (tree_at k.stored p))) res
not_row k c text h pos at p res i t =
    steps_same k c text h _ _ res (negation_made text h pos p (λ (n : Tree). Ok (record { tree = n; ty = TBool })) (λ (x : definition.TypedTree). Ok (Typed x)) i ∙ ap (λ (u : Tree). within_limits_at (place_in text pos) (node_tree k.stored (node.If p h.no h.yes)) >>= (λ t. Ok (Typed (record { tree = t; ty = u })))) (sym i.is_truth)) t

pub not_negation_row : (k c : Known) (text : Sources) (h : Here) (pos at : ℕ) (u p f : ℕ) (res : Result Next ElabFault) → IsHere k h
    → Steps k c text h (made_answer (site_in k text h) k.stored text pos (node_tree k.stored (node.If p h.no h.yes)) (frame.Not (not_form.True u) pos at)) res
    → Steps k c text h (not_answer (site_in k text h) k.stored text (not_form.Negation u p) pos at (Term (tree_at k.stored f))) res
not_negation_row k c text h pos at u p f res i t =
    steps_same k c text h _ _ res (negation_made text h pos p (not_true (site_in k text h) (place_in text at) (tree_at k.stored u)) (λ (x : Tree). Ok (Term x)) i) t

-- a coercion whose term is not used
then_unused : (r : Answer (Unit {0})) (t : Tree) (q : Answer Tree) → term_answer (r >>= (λ _. q)) ≡ (term_answer (r >>= (λ _. Ok t)) >>= on_term (λ _. term_answer q))
then_unused (Ok v) t q = refl
then_unused (Err e) t q = refl

coerced_under : (k : Known) (h : Here) (text : Sources) (at : Pos) (v w : ℕ) (x y u p : Tree) (q : Answer Tree) → tree_at k.stored v ≡ x → tree_at k.stored w ≡ y
    → term_answer (from_outcome at (coerce k.lookups (Hypothesis p ∷ (site_in k text h).here.context) x y u) >>= (λ _. q))
    ≡ (term_answer (from_outcome at (coerce k.lookups (Hypothesis p ∷ (site_in k text h).here.context) (tree_at k.stored v) (tree_at k.stored w) u) >>= (λ _. Ok (tree_at k.stored v))) >>= on_term (λ _. term_answer q))
coerced_under k h text at v w x y u p q e d =
    ap₂ (λ (s : Tree) (t : Tree). term_answer (from_outcome at (coerce k.lookups (Hypothesis p ∷ (site_in k text h).here.context) s t u) >>= (λ _. q))) (sym e) (sym d) ∙ then_unused _ (tree_at k.stored v) q

-- what coerces under a hypothesis
abbrev pub coerces_under : ℕ → ℕ → ℕ → ℕ → ℕ → Frame → Next
coerces_under p t a at u f = record { entrance = entrance.Hypothesis p; control = control.Coerce (record { tree = t; ty = a }) at at u; frame = f }

pub false_follows : {k : Known} (text : Sources) (h : Here) (pos at : ℕ) (u p : ℕ) → IsHere k h → IsTermOf k p → AreKnownNumbers k (not_numbers (not_form.False u))
    → Follows k k text h (not_answer (site_in k text h) k.stored text (not_form.False u) pos at (Term (tree_at k.stored p))) (coerces_under p h.no h.truth at u (frame.Not (not_form.Negation u p) pos at))
unfolding site_in
false_follows {k} text h pos at u p i n r =
    follows_at_once text h _ _ (record { entrance = (n, tt); control = (i.no, (i.truth, r)); frame = (r.0, (n, tt)) })
    (coerced_under k h text (place_in text at) h.no h.truth False TBool (tree_at k.stored u) (tree_at k.stored p) (not_tree (site_in k text h) (place_in text pos) (place_in text at) (tree_at k.stored u) (tree_at k.stored p)) i.is_no i.is_truth)

pub true_follows : {k : Known} (text : Sources) (h : Here) (pos at : ℕ) (u n : ℕ) → IsHere k h → IsTermOf k n → AreKnownNumbers k (not_numbers (not_form.True u))
    → Follows k k text h (not_answer (site_in k text h) k.stored text (not_form.True u) pos at (Term (tree_at k.stored n))) (coerces_under n h.yes h.truth at u (frame.Not (not_form.Last n) pos at))
unfolding site_in
true_follows {k} text h pos at u n i m r =
    follows_at_once text h _ _ (record { entrance = (m, tt); control = (i.yes, (i.truth, r)); frame = (m, tt) })
    (coerced_under k h text (place_in text at) h.yes h.truth True TBool (tree_at k.stored u) (tree_at k.stored n) (Ok (tree_at k.stored n)) i.is_yes i.is_truth)

pub last_follows : {k : Known} (text : Sources) (h : Here) (pos at : ℕ) (n p : ℕ) → AreKnownNumbers k (not_numbers (not_form.Last n))
    → Follows k k text h (not_answer (site_in k text h) k.stored text (not_form.Last n) pos at (Term (tree_at k.stored p))) (given (value.Term n) frame.Same)
last_follows text h pos at n p r = follows_at_once text h _ _ (record { entrance = tt; control = r; frame = tt }) refl
