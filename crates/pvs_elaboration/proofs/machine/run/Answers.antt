use Rattle.pvs_elaboration.specs.declared.frame.Turn.{Turn}
use Rattle.pvs_elaboration.proofs.RunLaws.{runs_fail, runs_find, runs_on}
use Rattle.pvs_elaboration.proofs.machine.run.Goals as goal

pub returns-in-Ok-Stop-clause-tells : goal.returns-in-Ok-Stop-clause-tells
returns-in-Ok-Stop-clause-tells g c = runs_find c.in-Ok-Stop.value c.loop.invariant c.in-Ok-Stop.ensures.more (λ t h. rw c.in-Ok-Stop.field-0-is at (c.in-Ok-Stop.ensures.turns t h))

pub returns-in-Err-clause-tells : goal.returns-in-Err-clause-tells
returns-in-Err-clause-tells g c = runs_fail Turn c.in-Err.fault c.loop.invariant c.in-Err.ensures.more c.in-Err.ensures.turns

pub loop-preserved : goal.loop-preserved
loop-preserved g c = runs_on c.loop.invariant c.in-Ok-Go.ensures.more (λ t h. rw c.in-Ok-Go.field-0-is at (c.in-Ok-Go.ensures.turns t h))
