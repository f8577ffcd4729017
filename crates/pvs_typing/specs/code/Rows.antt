-- What is left of a row of typing after its first steps.
use Rattle.std.specs.Prelude.{ℕ, zero, suc, Bool, true, false, ◌&&◌, List, [], ◌∷◌, Option, Some, None, Result, IfOk}
use Rattle.pvs_terms.specs.Tree.{Tree, Leaf, Bind, tree_eq, TBool, True, False, TFun, TPair, Fst}
use Rattle.pvs_terms.specs.declared.shape.Plain.TheVariants.{Yes}
use Rattle.pvs_terms.specs.declared.shape.Binder.TheVariants.{Lambda}
use Rattle.pvs_terms.specs.Stored.{Stored, tree_at}
use Rattle.pvs_subst.specs.Replace.{put_in}
use Rattle.pvs_subst.specs.Contexts.{Assumptions, Variable, Hypothesis}
use Rattle.pvs_subst.specs.declared.context.Assumed.{Assumed}
use Rattle.pvs_subst.specs.declared.context.Assumed.TheVariants as assumed
use Rattle.pvs_sig.specs.Lookups.{Lookups}
use Rattle.pvs_typing.specs.Answers.{IsOptionOf, tree_option}
use Rattle.pvs_typing.specs.Judging.{Answers}
use Rattle.pvs_typing.specs.State.{State, IsTypeOf, Grows}
use Rattle.pvs_typing.specs.declared.fault.TypeFault.{TypeFault}
use Rattle.pvs_types.specs.Outcome.{Outcome, ◌>>=◌, ◌>>◌, pure, from_result, within_limits}
use Rattle.pvs_types.specs.Forms.{head, up, most, first_among}
use Rattle.pvs_types.specs.Coerce.{lift_one, coerce}
use Rattle.pvs_types.specs.Typing.{Components, function_of, tuple_of, predicate_check, negation, common_type, typing, infer, check}

-- the type of the binder of this index, the innermost first, as it stands there
abbrev pub binder_at : List Assumed → ℕ → Option ℕ
binder_at [] n = None
binder_at (assumed.Bind i ∷ g) zero = Some i
binder_at (assumed.Bind i ∷ g) (suc n) = binder_at g n
binder_at (assumed.Hyp i ∷ g) n = binder_at g n

abbrev pub truth_tree : Bool → Tree
truth_tree true = True
truth_tree false = False

abbrev pub is_truth : Tree → Bool
is_truth (Leaf Yes) = true
is_truth t = false

-- whether a term is the predicate on this type that is TRUE
abbrev pub is_true_on : Tree → Tree → Bool
is_true_on a (Bind Lambda b t) = is_truth t && tree_eq a b
is_true_on a t = false

abbrev pub components_at : Stored → ℕ → ℕ → Components
components_at s a b = record { first = tree_at s a; second = tree_at s b }

-- the domain and the range of a type whose head is a function type
abbrev pub function_at : Lookups → Tree → Outcome Components
function_at l c = from_result (head l c) >>= function_of

-- the components of a type whose head is a tuple type
abbrev pub tuple_at : Lookups → ℕ → Tree → Outcome Components
tuple_at l k c = from_result (head l c) >>= tuple_of k

-- a type above both types
abbrev pub common_above : Lookups → Tree → Tree → Outcome (Option Tree)
common_above l c d = do
  above_c ← from_result (up l c)
  above_d ← from_result (up l d)
  pure (first_among above_c above_d)

-- a term that is no IF against a type
abbrev pub inferred_check : Lookups → Assumptions → Tree → Tree → Outcome (Unit {0})
inferred_check l g t a = infer l g t >>= (λ b. coerce l g t b a)

-- a FORALL
abbrev pub forall_infer : Lookups → Assumptions → Tree → Tree → Outcome Tree
forall_infer l g a p = predicate_check a (typing l a) (typing l p) g >> pure TBool

-- an abstraction, once its domain is well formed
abbrev pub lambda_body : Lookups → Assumptions → Tree → Tree → Outcome Tree
lambda_body l g a b = do
  c ← infer l (Variable a ∷ g) b
  within_limits (TFun a c)

-- an application, once the type of the function is known
abbrev pub apply_at : Lookups → Assumptions → Tree → Tree → Outcome Tree
apply_at l g a c = do
  d ← from_result (head l c)
  function ← function_of d
  check l g a function.first
  within_limits (put_in function.second a)

-- once its domain and range are
abbrev pub apply_to : Lookups → Assumptions → Tree → Tree → Tree → Outcome Tree
apply_to l g a domain range = do
  check l g a domain
  within_limits (put_in range a)

-- a tuple, once the type of its first component is known
abbrev pub tuple_second : Lookups → Assumptions → ℕ → Tree → Tree → Outcome Tree
tuple_second l g k b c = do
  d ← infer l g b
  within_limits (TPair k c (lift_one d))

-- an equation, once the type of its left side is known
abbrev pub equal_right : Lookups → Assumptions → Tree → Tree → Tree → Outcome Tree
equal_right l g a b c = do
  d ← infer l g b
  common ← from_result (most l c)
  coerce l g b d common
  coerce l g a c common
  pure TBool

-- once both types are
abbrev pub equal_sides : Lookups → Assumptions → Tree → Tree → Tree → Tree → Outcome Tree
equal_sides l g a b c d = do
  common ← from_result (most l c)
  coerce l g b d common
  coerce l g a c common
  pure TBool

-- once the type of both sides is
abbrev pub equal_at : Lookups → Assumptions → Tree → Tree → Tree → Tree → Tree → Outcome Tree
equal_at l g a b c d common = do
  coerce l g b d common
  coerce l g a c common
  pure TBool

-- the left side of an equation
abbrev pub equal_left : Lookups → Assumptions → Tree → Tree → Tree → Outcome Tree
equal_left l g a c common = do
  coerce l g a c common
  pure TBool

-- a projection, once the type of the tuple is known
abbrev pub first_type : Lookups → ℕ → Tree → Outcome Tree
first_type l k c = do
  d ← from_result (head l c)
  tuple ← tuple_of k d
  pure tuple.first

abbrev pub second_type : Lookups → ℕ → Tree → Tree → Outcome Tree
second_type l k t c = do
  d ← from_result (head l c)
  tuple ← tuple_of k d
  first ← within_limits (Fst k t)
  within_limits (put_in tuple.second first)

-- once the components of the type are
abbrev pub second_component : ℕ → Tree → Tree → Outcome Tree
second_component k t b = do
  first ← within_limits (Fst k t)
  within_limits (put_in b first)

-- the branches of an IF, once its condition is checked
abbrev pub branches : Lookups → Assumptions → Tree → Tree → Tree → Outcome Tree
branches l g t a b = do
  c ← infer l (Hypothesis t ∷ g) a
  n ← within_limits (negation t)
  d ← infer l (Hypothesis n ∷ g) b
  above_c ← from_result (up l c)
  above_d ← from_result (up l d)
  common_type l (Hypothesis t ∷ g) (Hypothesis n ∷ g) a b c d (first_among above_c above_d)

-- once the type of the first is known
abbrev pub other_branch : Lookups → Assumptions → Tree → Tree → Tree → Tree → Outcome Tree
other_branch l g t a b c = do
  n ← within_limits (negation t)
  d ← infer l (Hypothesis n ∷ g) b
  above_c ← from_result (up l c)
  above_d ← from_result (up l d)
  common_type l (Hypothesis t ∷ g) (Hypothesis n ∷ g) a b c d (first_among above_c above_d)

-- once the negation of the condition is made
abbrev pub else_branch : Lookups → Assumptions → Tree → Tree → Tree → Tree → Tree → Outcome Tree
else_branch l g t n a b c = do
  d ← infer l (Hypothesis n ∷ g) b
  above_c ← from_result (up l c)
  above_d ← from_result (up l d)
  common_type l (Hypothesis t ∷ g) (Hypothesis n ∷ g) a b c d (first_among above_c above_d)

-- once both types are known
abbrev pub joined : Lookups → Assumptions → Assumptions → Tree → Tree → Tree → Tree → Outcome Tree
joined l g h a b c d = do
  above_c ← from_result (up l c)
  above_d ← from_result (up l d)
  common_type l g h a b c d (first_among above_c above_d)

-- both branches are of the most general form of the first one's type
abbrev pub widened : Lookups → Assumptions → Assumptions → Tree → Tree → Tree → Tree → Outcome Tree
widened l g h a b c d = do
  common ← from_result (most l c)
  coerce l g a c common
  coerce l h b d common
  pure common

abbrev pub widened_to : Lookups → Assumptions → Assumptions → Tree → Tree → Tree → Tree → Tree → Outcome Tree
widened_to l g h a b c d common = do
  coerce l g a c common
  coerce l h b d common
  pure common

abbrev pub widened_other : Lookups → Assumptions → Tree → Tree → Tree → Outcome Tree
widened_other l h b d common = do
  coerce l h b d common
  pure common

-- the branches of an IF against a type
abbrev pub checked_branches : Lookups → Assumptions → Tree → Tree → Tree → Tree → Outcome (Unit {0})
checked_branches l g t a b u = do
  check l (Hypothesis t ∷ g) a u
  n ← within_limits (negation t)
  check l (Hypothesis n ∷ g) b u

abbrev pub checked_other : Lookups → Assumptions → Tree → Tree → Tree → Outcome (Unit {0})
checked_other l g t b u = do
  n ← within_limits (negation t)
  check l (Hypothesis n ∷ g) b u

-- What a call answers that goes from one state to the next, in the terms of a theory.

-- the two parts of the head of a type, by number
pub record FindsParts (k m : State) (theory : ℕ) (f : Stored → Lookups → Outcome Components) (r : Result (ℕ × ℕ) TypeFault) : Type 0 where
  pub answer : Answers (λ (p : ℕ × ℕ). components_at m.stored p.0 p.1) m.stored (m.declares theory) [] (f k.stored (k.lookups theory)) [] r
  pub first : IfOk r (λ p. IsTypeOf m theory p.0)
  pub second : IfOk r (λ p. IsTypeOf m theory p.1)
  pub kept : Grows k m theory

-- a type by number, if there is one
pub record FindsCommon (k m : State) (theory : ℕ) (f : Stored → Lookups → Outcome (Option Tree)) (r : Result (Option ℕ) TypeFault) : Type 0 where
  pub answer : Answers (tree_option m.stored) m.stored (m.declares theory) [] (f k.stored (k.lookups theory)) [] r
  pub known : IfOk r (IsOptionOf m theory)
  pub kept : Grows k m theory
