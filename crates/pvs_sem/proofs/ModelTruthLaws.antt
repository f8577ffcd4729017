-- The truth of a tree by the values of its atoms in a model.
use Rattle.std.proofs.Common.{◌≡◌, ◌↔◌, ◌∙◌, refl, ap, sym, inl, inr, Bool, true, false, cond}
use Rattle.pvs_terms.specs.Tree.{Tree, TBool, Leaf, Var, Name, Bind, Join, Project, If}
use Rattle.pvs_terms.specs.declared.shape.Plain.TheVariants.{BoolType, Yes, No}
use Rattle.pvs_sem.specs.Truth.{truth}
use Rattle.pvs_sem.specs.Value.{Value, Truth, Atom, Pair, EmptyTable, Row, IsMember, is_true}
use Rattle.pvs_sem.specs.Meaning.{Model, Env, mean}
use Rattle.pvs_sem.specs.ModelTruth.{is_true_in}

is_true-choice : (b : Bool) (v w : Value) → cond b (is_true v) (is_true w) ≡ is_true (cond b v w)
is_true-choice true v w = refl
is_true-choice false v w = refl

pub truth_is_value : (m : Model) (e : Env) (t : Tree) → truth (is_true_in m e) t ≡ is_true_in m e t
truth_is_value m e (Leaf BoolType) = refl
truth_is_value m e (Leaf Yes) = refl
truth_is_value m e (Leaf No) = refl
truth_is_value m e (Var n) = refl
truth_is_value m e (Name s r) = refl
truth_is_value m e (Bind o a b) = refl
truth_is_value m e (Join o a b) = refl
truth_is_value m e (Project o a) = refl
truth_is_value m e (If c a b) =
    rw (truth_is_value m e c, truth_is_value m e a, truth_is_value m e b) (is_true-choice (is_true_in m e c) (mean m a e).value (mean m b e).value)

is_true-value : (v : Value) → is_true v ≡ true → v ≡ Truth true
is_true-value (Truth b) h = ap Truth h
is_true-value (Atom n) h = cc
is_true-value (Pair a b) h = cc
is_true-value EmptyTable h = cc
is_true-value (Row a b c) h = cc

pub true_terms_are_true : (m : Model) (e : Env) (t : Tree) → truth (is_true_in m e) t ≡ true ↔ (mean m t e).value ≡ Truth true
true_terms_are_true m e t = (
  (λ h. is_true-value (mean m t e).value (sym (truth_is_value m e t) ∙ h)),
  (λ h. truth_is_value m e t ∙ ap is_true h),
)

boolean_value : (v : Value) (m : Model) (e : Env) → IsMember v (mean m TBool e).set → v ≡ Truth (is_true v)
boolean_value v m e (inl h) = h ∙ ap (λ x. Truth (is_true x)) (sym h)
boolean_value v m e (inr (inl h)) = h ∙ ap (λ x. Truth (is_true x)) (sym h)
boolean_value v m e (inr (inr h)) = absurd h

pub boolean_terms_are_truths : (m : Model) (e : Env) (t : Tree) → IsMember (mean m t e).value (mean m TBool e).set
    → (mean m t e).value ≡ Truth (truth (is_true_in m e) t)
boolean_terms_are_truths m e t h = boolean_value (mean m t e).value m e h ∙ ap Truth (sym (truth_is_value m e t))
