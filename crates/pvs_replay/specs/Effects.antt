-- What one step of a script does: the parameter of replay.
use Rattle.std.specs.Prelude.{List, Option, Result}
use Rattle.pvs_base.specs.declared.code.Fault.{Fault}
use Rattle.pvs_terms.specs.Tree.{Ref}
use Rattle.pvs_sequent.specs.Sequents.{Sequent}
use Rattle.pvs_script.specs.declared.tree.Step.{Step}

-- the premises of a step, the sequent that it leaves open if it leaves one, the formulas that it
-- cites, and the references that it uses
pub record Effect : Type 0 where
  pub premises : List Sequent
  pub left_open : Option Sequent
  pub cited : List Ref
  pub uses : List Ref

-- the effect of each step on each sequent, or the fault that refuses it there
abbrev pub Effects : Type 0
Effects = Step → Sequent → Result Effect Fault
