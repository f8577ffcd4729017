-- What typing promises of the meaning, in a model that fits the look-ups.
use Rattle.std.specs.Prelude.{◌≡◌, ℕ, true, List, [], ◌∷◌, Some, None}
use Rattle.pvs_terms.specs.Tree.{Tree, Ref, Bind, Lam}
use Rattle.pvs_terms.specs.declared.shape.Binder.TheVariants.{Lambda}
use Rattle.pvs_subst.specs.Contexts.{Assumptions, Variable, Hypothesis}
use Rattle.pvs_sem.specs.Value.{Value, Truth, IsMember, IsAscending}
use Rattle.pvs_sem.specs.Meaning.{Model, Env, env_rest, mean, inside}
use Rattle.pvs_types.specs.ProperTerms.{IsProperTerm}
use Rattle.pvs_sig.specs.Lookups.{Lookups}
use Rattle.pvs_types.specs.Outcome.{Condition, Outcome, Refused, Accepted}
use Rattle.pvs_types.specs.Typing.{Typing, variable_type}

-- The references that are looked up have a meaning: sets are sets, a defined type is the set of its body, and a type
-- that was declared nonempty has a member.
pub record IsModelOf (m : Model) (s : Lookups) : Type 0 where
  pub sets : (r : Ref) → IsAscending (m.meaning r).set
  pub types : (r : Ref) → s.is_type r ≡ true → m.has r ≡ true
  pub constants : (r : Ref) (a : Tree) → s.type_of r ≡ Some a → m.has r ≡ true
  pub definitions : (r : Ref) (a : Tree) (e : Env) → s.body_of r ≡ Some a → (m.meaning r).set ≡ (mean m a e).set
  pub nonempty : (r : Ref) → s.body_of r ≡ None → s.is_nonempty r ≡ true → (v : Value) × IsMember v (m.meaning r).set

-- A notion of which environments count for a context: an environment that counts still does with a value in its set
-- and under a hypothesis that is TRUE; and a variable has a value in its type.
pub record IsSatisfaction (m : Model) (Sat : Assumptions → Env → Type 0) : Type 0 where
  pub under_variable : (a : Tree) (g : Assumptions) (e : Env) → IsMember (e 0) (mean m a (env_rest e)).set → Sat g (env_rest e)
      → Sat (Variable a ∷ g) e
  pub under_hypothesis : (p : Tree) (g : Assumptions) (e : Env) → (mean m p e).value ≡ Truth true → Sat g e → Sat (Hypothesis p ∷ g) e
  pub variables_typed : (g : Assumptions) (n : ℕ) (a : Tree) (e : Env) → variable_type g n ≡ Some a → Sat g e
      → IsMember (e n) (mean m a e).set

-- a condition is TRUE in each environment that counts for its context
abbrev pub IsTrueCondition : Model → (Assumptions → Env → Type 0) → Condition → Type 0
IsTrueCondition m Sat c = (e : Env) → Sat c.context e → (mean m c.goal e).value ≡ Truth true

-- a constant has a value in its type
abbrev pub IsValued : Model → Lookups → Ref → Type 0
IsValued m s r = (a : Tree) (e : Env) → s.type_of r ≡ Some a → IsMember (m.meaning r).value (mean m a e).set

abbrev pub AllHold : {A : Type 0} → (A → Type 0) → List A → Type 0
AllHold H [] = Unit {0}
AllHold H (x ∷ xs) = H x × AllHold H xs

-- what is accepted has the property `P`, where `H` holds of each condition and `V` of each symbol used
abbrev pub Provides : {A : Type 0} → (Condition → Type 0) → (Ref → Type 0) → (A → Type 0) → Outcome A → Type 0
Provides H V P (Refused c) = Unit {0}
Provides H V P (Accepted a cs rs) = AllHold H cs → AllHold V rs → P a

-- the term's value is in the set of the type, and the term is inside
pub record IsOfType (m : Model) (t a : Tree) (e : Env) : Type 0 where
  pub member : IsMember (mean m t e).value (mean m a e).set
  pub inside : inside m t e ≡ true

-- a term that is of the type in each environment that counts
pub record HasType (m : Model) (Sat : Assumptions → Env → Type 0) (g : Assumptions) (t a : Tree) : Type 0 where
  pub term : IsProperTerm t
  pub in_each : (e : Env) → Sat g e → IsOfType m t a e

-- where the term's value is in the set of `b`, it is in the set of `a`
abbrev pub Converts : Model → (Assumptions → Env → Type 0) → Assumptions → Tree → Tree → Tree → Type 0
Converts m Sat g t b a = (e : Env) → Sat g e → IsMember (mean m t e).value (mean m b e).set → IsMember (mean m t e).value (mean m a e).set

-- all that the type applies is defined
abbrev pub IsDefined : Model → (Assumptions → Env → Type 0) → Assumptions → Tree → Type 0
IsDefined m Sat g a = (e : Env) → Sat g e → inside m a e ≡ true

-- an abstraction is defined, and so is its type
abbrev pub IsPredicate : Model → (Assumptions → Env → Type 0) → Assumptions → Tree → Type 0
IsPredicate m Sat g (Bind Lambda a p) = (e : Env) → Sat g e → (inside m a e ≡ true) × (inside m (Lam a p) e ≡ true)
IsPredicate m Sat g t = Unit {0}

-- what each answer of a typing provides where its conditions are TRUE and the constants used have values in their types
pub record IsSoundTyping (m : Model) (s : Lookups) (Sat : Assumptions → Env → Type 0) (t : Tree) (x : Typing) : Type 0 where
  pub infer : (g : Assumptions) → Provides (IsTrueCondition m Sat) (IsValued m s) (λ a. HasType m Sat g t a) (x.infer g)
  pub check : (g : Assumptions) (a : Tree) → Provides (IsTrueCondition m Sat) (IsValued m s) (λ _. HasType m Sat g t a) (x.check g a)
  pub well_formed : (g : Assumptions) → Provides (IsTrueCondition m Sat) (IsValued m s) (λ _. IsDefined m Sat g t) (x.well_formed g)
  pub predicate : (g : Assumptions) → Provides (IsTrueCondition m Sat) (IsValued m s) (λ _. IsPredicate m Sat g t) (x.predicate g)
