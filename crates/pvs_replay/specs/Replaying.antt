-- What the replay of a script comes to.
use Rattle.std.specs.Prelude.{◌==◌, if◌then◌else◌, List, [], ◌∷◌, ◌++◌, length, Option, Some, None, Result, Ok, Err}
use Rattle.pvs_base.specs.declared.place.Pos.{Pos}
use Rattle.pvs_base.specs.declared.code.Fault.{Fault}
use Rattle.pvs_base.specs.declared.code.Code.TheVariants as code
use Rattle.pvs_terms.specs.Tree.{Ref}
use Rattle.pvs_script.specs.declared.tree.Step.{Step}
use Rattle.pvs_script.specs.declared.tree.Script.{Script}
use Rattle.pvs_script.specs.declared.tree.Script.TheOpen.{Script-F}
use Rattle.pvs_script.specs.declared.tree.Script.TheFolds.{fold-Script}
use Rattle.pvs_sequent.specs.Sequents.{Sequent}
use Rattle.pvs_replay.specs.Effects.{Effect, Effects}

pub data Outcome : Type 0 where
  -- the formulas that were cited, and the references that were used, in order
  Proved : List Ref → List Ref → Outcome
  -- the first sequent that is left open
  Open : Sequent → Outcome
  -- the fault of the first step that is refused
  Refused : Fault → Outcome

-- one part of a script after the other
abbrev pub both : Outcome → Outcome → Outcome
both (Refused f) o = Refused f
both (Proved fs rs) (Proved gs qs) = Proved (fs ++ gs) (rs ++ qs)
both (Proved fs rs) (Open q) = Open q
both (Proved fs rs) (Refused f) = Refused f
both (Open q) (Proved gs qs) = Open q
both (Open q) (Open r) = Open q
both (Open q) (Refused f) = Refused f

-- a script for each premise, in order
abbrev pub branches : List (Sequent → Outcome) → List Sequent → Outcome
branches [] [] = Proved [] []
branches [] (q ∷ qs) = Open q
branches (f ∷ fs) [] = Proved [] []
branches (f ∷ fs) (q ∷ qs) = both (f q) (branches fs qs)

-- a step with another number of premises than scripts or steps follow it
abbrev pub wrong_count : Pos → Outcome
wrong_count at = Refused (record { pos = at; code = code.NotApplicable })

-- a step alone, without its premises
abbrev pub closed_or_open : Option Sequent → List Ref → List Ref → Outcome
closed_or_open None fs rs = Proved fs rs
closed_or_open (Some q) fs rs = Open q

abbrev pub alone : Effect → Outcome
alone e = closed_or_open e.left_open e.cited e.uses

-- what steps leave: their outcome so far with the premises of the last one and its place, or an
-- outcome that asks for no scripts after the steps
pub data Run : Type 0 where
  Leaves : Outcome → Pos → List Sequent → Run
  Stops : Outcome → Run

-- with the outcome of what came before
abbrev pub after : Outcome → Run → Run
after o (Leaves p at qs) = Leaves (both o p) at qs
after o (Stops p) = Stops (both o p)

-- the last step
abbrev pub last_step : Pos → Result Effect Fault → Run
last_step at (Err f) = Stops (Refused f)
last_step at (Ok e) = Leaves (alone e) at e.premises

-- a step with another after it: exactly one premise, on which that one works
abbrev pub on_premise : Pos → (Sequent → Run) → List Sequent → Run
on_premise at next [] = Stops (wrong_count at)
on_premise at next (q ∷ []) = next q
on_premise at next (q ∷ r ∷ qs) = Stops (wrong_count at)

abbrev pub inner_step : Pos → (Sequent → Run) → Result Effect Fault → Run
inner_step at next (Err f) = Stops (Refused f)
inner_step at next (Ok e) = after (alone e) (on_premise at next e.premises)

-- steps on a sequent; no step at all leaves it open
abbrev pub run : Effects → List Step → Sequent → Run
run effect [] q = Stops (Open q)
run effect (x ∷ []) q = last_step x.pos (effect x q)
run effect (x ∷ y ∷ xs) q = inner_step x.pos (run effect (y ∷ xs)) (effect x q)

-- after the last step stands a script for each of its premises
abbrev pub finish : List (Sequent → Outcome) → Run → Outcome
finish fs (Stops o) = o
finish fs (Leaves o at qs) = both o (if length qs == length fs then branches fs qs else wrong_count at)

-- one script, with the replays of the scripts in it in their places
abbrev pub replay_step : Effects → Script-F (Sequent → Outcome) → Sequent → Outcome
replay_step effect x q = finish x.trees (run effect x.steps q)

-- a script on a sequent
abbrev pub replay : Effects → Script → Sequent → Outcome
replay effect = fold-Script (Sequent → Outcome) (replay_step effect)

-- the item of a list of one
abbrev pub only_one : {X : Type 0} → List X → Option X
only_one [] = None
only_one (x ∷ []) = Some x
only_one (x ∷ y ∷ xs) = None
