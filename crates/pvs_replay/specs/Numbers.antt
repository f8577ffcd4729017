-- What effects and outcomes by number stand for, in a store.
use Rattle.std.specs.Prelude.{◌≡◌, ℕ, List, map, length, Option, Some, None, Result, Ok, Err}
use Rattle.std.specs.Option.{option_map}
use Rattle.pvs_base.specs.declared.code.Fault.{Fault}
use Rattle.pvs_terms.specs.Tree.{Ref}
use Rattle.pvs_terms.specs.Stored.{Stored, ref_at, AllBelow}
use Rattle.pvs_base.specs.declared.place.Pos.{Pos}
use Rattle.pvs_sequent.specs.Sequents.{Sequent}
use Rattle.pvs_sequent.specs.Numbered.{Numbered}
use Rattle.pvs_sequent.specs.Numbers.{sequent_at, sequents_at, IsSequent, AreSequents}
use Rattle.pvs_replay.specs.declared.effect.Effect as code
use Rattle.pvs_replay.specs.declared.fault.StepFault.{StepFault}
use Rattle.pvs_replay.specs.declared.fault.StepFault.TheVariants as fault
use Rattle.pvs_replay.specs.declared.outcome.Outcome as code_outcome
use Rattle.pvs_replay.specs.declared.outcome.Outcome.TheVariants as outcome
use Rattle.pvs_replay.specs.declared.outcome.Run as code_run
use Rattle.pvs_replay.specs.declared.outcome.Run.TheVariants as run
use Rattle.pvs_replay.specs.declared.outcome.Inner as code_inner
use Rattle.pvs_replay.specs.declared.outcome.Inner.TheVariants as inner
use Rattle.pvs_replay.specs.Effects.{Effect}
use Rattle.pvs_replay.specs.Replaying.{Outcome, Proved, Open, Refused, Run, Leaves, Stops, after, inner_step}

-- the effect of a step on trees, or its fault
abbrev pub Answer : Type 0
Answer = Result Effect Fault

-- the outcome of trees, by a name of its own
abbrev pub TreeOutcome : Type 0
TreeOutcome = Outcome

abbrev pub refs_at : Stored → List ℕ → List Ref
refs_at s rs = map (ref_at s) rs

abbrev pub AreRefs : Stored → List ℕ → Type 0
AreRefs s rs = AllBelow (length s.refs) rs

abbrev pub IsOptional : Stored → Option Numbered → Type 0
IsOptional s None = Unit {0}
IsOptional s (Some q) = IsSequent s q

abbrev pub effect_at : Stored → code.Effect → Effect
effect_at s e = record { premises = sequents_at s e.premises.items; left_open = option_map (sequent_at s) e.left_open; cited = refs_at s e.cited.items; uses = refs_at s e.uses.items }

-- an effect of numbers stands for the one that a step has
pub record IsEffect (s : Stored) (o : Result Effect Fault) (e : code.Effect) : Type 0 where
  pub premises : AreSequents s e.premises.items
  pub left_open : IsOptional s e.left_open
  pub cited : AreRefs s e.cited.items
  pub uses : AreRefs s e.uses.items
  pub is : o ≡ Ok (effect_at s e)

-- the fault is the one that refuses a step; being out of memory says nothing
abbrev pub IsStepFault : Result Effect Fault → StepFault → Type 0
IsStepFault o (fault.At f) = o ≡ Err f
IsStepFault o fault.Memory = Unit {0}

abbrev pub outcome_at : Stored → code_outcome.Outcome → Outcome
outcome_at s (outcome.Proved fs rs) = Proved (refs_at s fs.items) (refs_at s rs.items)
outcome_at s (outcome.Open q) = Open (sequent_at s q)
outcome_at s (outcome.Refused f) = Refused f

-- the numbers of an outcome are of the store
abbrev pub OutcomeIn : Stored → code_outcome.Outcome → Type 0
OutcomeIn s (outcome.Proved fs rs) = AreRefs s fs.items × AreRefs s rs.items
OutcomeIn s (outcome.Open q) = IsSequent s q
OutcomeIn s (outcome.Refused f) = Unit {0}

-- an outcome by number stands for this one
pub record IsOutcome (s : Stored) (o : Outcome) (p : code_outcome.Outcome) : Type 0 where
  pub numbers : OutcomeIn s p
  pub is : outcome_at s p ≡ o

abbrev pub run_at : Stored → code_run.Run → Run
run_at s (run.Leaves o at qs) = Leaves (outcome_at s o) at (sequents_at s qs.items)
run_at s (run.Stops o) = Stops (outcome_at s o)

abbrev pub RunIn : Stored → code_run.Run → Type 0
RunIn s (run.Leaves o at qs) = OutcomeIn s o × AreSequents s qs.items
RunIn s (run.Stops o) = OutcomeIn s o

pub record IsRun (s : Stored) (r : Run) (p : code_run.Run) : Type 0 where
  pub numbers : RunIn s p
  pub is : run_at s p ≡ r

-- what a step with others after it leaves, by what these make of a sequent
abbrev pub inner_run : Stored → (Sequent → Run) → code_inner.Inner → Run
inner_run s next (inner.Goes o q) = after (outcome_at s o) (next (sequent_at s q))
inner_run s next (inner.Stops o) = Stops (outcome_at s o)

abbrev pub InnerIn : Stored → code_inner.Inner → Type 0
InnerIn s (inner.Goes o q) = OutcomeIn s o × IsSequent s q
InnerIn s (inner.Stops o) = OutcomeIn s o

-- after an outcome, by number, what a step with others after it leaves
pub record IsInner (s : Stored) (before : Outcome) (at : Pos) (r : Answer) (i : code_inner.Inner) : Type 0 where
  pub numbers : InnerIn s i
  pub is : (next : Sequent → Run) → after before (inner_step at next r) ≡ inner_run s next i
