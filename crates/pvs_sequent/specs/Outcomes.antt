-- What a row of the table of rules gives: a code, or a result with the conditions that are to hold
-- for it, in order.
use Rattle.std.specs.Prelude.{Bool, true, false, List, [], ◌++◌, Option, Some, None}
use Rattle.pvs_base.specs.declared.code.Code.{Code}
use Rattle.pvs_base.specs.declared.code.Code.TheVariants as code
use Rattle.pvs_subst.specs.Contexts.{Obligation}

-- type-correctness conditions, each with its context
abbrev pub Conditions : Type 0
Conditions = List Obligation

pub data Outcome (A : Type 0) : Type 0 where
  Refused : Code → Outcome A
  Accepted : A → Conditions → Outcome A

-- with these conditions before its own
abbrev pub after_conditions : {A : Type 0} → Conditions → Outcome A → Outcome A
after_conditions cs (Refused c) = Refused c
after_conditions cs (Accepted a ds) = Accepted a (cs ++ ds)

-- the first code, or the conditions one after the other
infixl 10 ◌>>=◌
abbrev pub ◌>>=◌ : {A B : Type 0} → Outcome A → (A → Outcome B) → Outcome B
Refused c >>= f = Refused c
Accepted a cs >>= f = after_conditions cs (f a)

infixl 10 ◌>>◌
abbrev pub ◌>>◌ : {A B : Type 0} → Outcome A → Outcome B → Outcome B
p >> q = p >>= (λ _. q)

-- without a condition
abbrev pub pure : {A : Type 0} → A → Outcome A
pure a = Accepted a []

-- goes on where there is a value; the code says why not
abbrev pub found : {A : Type 0} → Code → Option A → Outcome A
found c None = Refused c
found c (Some a) = pure a

-- goes on where a test holds, and where a term has the form that the rule needs
abbrev pub only : Bool → Outcome (Unit {0})
only true = pure tt
only false = Refused code.NotApplicable

abbrev pub applicable : {A : Type 0} → Option A → Outcome A
applicable o = found code.NotApplicable o
