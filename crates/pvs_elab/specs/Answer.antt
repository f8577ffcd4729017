-- What elaboration answers: a result, or the first fault; and what of typing's answers it goes on with.
use Rattle.std.specs.Prelude.{if◌then◌else◌, List, Result, Ok, Err}
use Rattle.pvs_base.specs.Answers.{◌>>=◌}
use Rattle.pvs_base.specs.declared.place.Pos.{Pos}
use Rattle.pvs_base.specs.declared.code.Fault.{Fault}
use Rattle.pvs_base.specs.declared.code.Code.{Code}
use Rattle.pvs_base.specs.declared.code.Code.TheVariants.{TooLarge, NoSuchPart}
use Rattle.pvs_terms.specs.Tree.{Tree, Ref}
use Rattle.pvs_types.specs.Limits.{is_within_limits}
use Rattle.pvs_types.specs.Outcome.{Conditions, Outcome, Refused, Accepted}

abbrev pub Answer : Type 0 → Type 0
Answer A = Result A Fault

infixl 10 ◌>>◌
abbrev pub ◌>>◌ : {A B : Type 0} → Answer A → Answer B → Answer B
p >> q = p >>= (λ _. q)

abbrev pub pure : {A : Type 0} → A → Answer A
pure a = Ok a

abbrev pub fault : {A : Type 0} → Pos → Code → Answer A
fault at c = Err (record { pos = at; code = c })

-- a tree that is made at this place: TooLarge there where it passes a limit
abbrev pub within_limits_at : Pos → Tree → Answer Tree
within_limits_at at t = if is_within_limits t then pure t else fault at TooLarge

-- the place of a code: of what is too large, and of all else
abbrev pub place_of_code : Pos → Pos → Code → Pos
place_of_code large at TooLarge = large
place_of_code large at c = at

-- what typing answers, without its conditions, and with the place of its code: one for TooLarge, and one for all else
abbrev pub from_outcome_at : {A : Type 0} → Pos → Pos → Outcome A → Answer A
from_outcome_at large at (Refused c) = fault (place_of_code large at c) c
from_outcome_at large at (Accepted a cs rs) = pure a

abbrev pub from_outcome : {A : Type 0} → Pos → Outcome A → Answer A
from_outcome at o = from_outcome_at at at o

-- what typing answers, where the place of its code is that of the fault which the text has, if it has one
abbrev pub from_text_or_outcome : {A B : Type 0} → Answer A → Pos → Outcome B → Answer B
from_text_or_outcome (Err f) at (Refused c) = Err f
from_text_or_outcome (Ok a) at (Refused c) = fault at c
from_text_or_outcome r at (Accepted b cs rs) = pure b

-- what is found, or this code
abbrev pub from_name : {A : Type 0} → Pos → Result A Code → Answer A
from_name at (Ok a) = pure a
from_name at (Err c) = fault at c

-- the place of a code of a projection: of its number, or of its operand
abbrev pub place_of_part : Pos → Pos → Code → Pos
place_of_part number at NoSuchPart = number
place_of_part number at c = at

abbrev pub from_part : {A : Type 0} → Pos → Pos → Outcome A → Answer A
from_part number at (Refused c) = fault (place_of_part number at c) c
from_part number at (Accepted a cs rs) = pure a

-- all that typing answers
pub record Judgement (A : Type 0) : Type 0 where
  pub value : A
  pub conditions : Conditions
  pub uses : List Ref

abbrev pub judgement_at : {A : Type 0} → Pos → Outcome A → Answer (Judgement A)
judgement_at at (Refused c) = fault at c
judgement_at at (Accepted a cs rs) = pure (record { value = a; conditions = cs; uses = rs })
