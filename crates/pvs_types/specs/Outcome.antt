-- What typing answers: a code, or a value with the conditions that are owed, in order, and the symbols used.
use Rattle.std.specs.Prelude.{if◌then◌else◌, List, [], ◌∷◌, ◌++◌, Option, Some, None, Result, Ok, Err}
use Rattle.pvs_base.specs.declared.code.Code.{Code}
use Rattle.pvs_base.specs.declared.code.Code.TheVariants.{TooLarge}
use Rattle.pvs_terms.specs.Tree.{Tree, Ref}
use Rattle.pvs_subst.specs.Contexts.{Assumptions, Obligation}
use Rattle.pvs_types.specs.Limits.{is_within_limits}

-- a formula that is to hold in a context
abbrev pub Condition : Type 0
Condition = Obligation

abbrev pub Conditions : Type 0
Conditions = List Condition

pub data Outcome (A : Type 0) : Type 0 where
  Refused : Code → Outcome A
  Accepted : A → Conditions → List Ref → Outcome A

-- an outcome after these conditions and symbols
abbrev pub outcome_after : {A : Type 0} → Conditions → List Ref → Outcome A → Outcome A
outcome_after cs rs (Refused c) = Refused c
outcome_after cs rs (Accepted a ds ss) = Accepted a (cs ++ ds) (rs ++ ss)

-- one step and then the next: the first code, or the conditions and symbols of both, in order
infixl 10 ◌>>=◌
abbrev pub ◌>>=◌ : {A B : Type 0} → Outcome A → (A → Outcome B) → Outcome B
Refused c >>= f = Refused c
Accepted a cs rs >>= f = outcome_after cs rs (f a)

infixl 10 ◌>>◌
abbrev pub ◌>>◌ : {A B : Type 0} → Outcome A → Outcome B → Outcome B
p >> q = p >>= (λ _. q)

abbrev pub pure : {A : Type 0} → A → Outcome A
pure a = Accepted a [] []

abbrev pub refuse : {A : Type 0} → Code → Outcome A
refuse c = Refused c

-- one condition
abbrev pub owe : Assumptions → Tree → Outcome (Unit {0})
owe g goal = Accepted tt (record { context = g; goal = goal } ∷ []) []

-- these symbols are used
abbrev pub uses : List Ref → Outcome (Unit {0})
uses rs = Accepted tt [] rs

-- a value that may be lacking, which is refused by this code
abbrev pub from_option : {A : Type 0} → Code → Option A → Outcome A
from_option c None = Refused c
from_option c (Some a) = pure a

abbrev pub from_result : {A : Type 0} → Result A Code → Outcome A
from_result (Err c) = Refused c
from_result (Ok a) = pure a

-- a tree that a case needs: TooLarge where it passes a limit
abbrev pub within_limits : Tree → Outcome Tree
within_limits t = if is_within_limits t then pure t else refuse TooLarge
