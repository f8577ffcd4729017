use Rattle.std.proofs.Common.{ap}
use Rattle.pvs_replay.specs.Replaying.{Stops}
use Rattle.pvs_replay.proofs.outcome.stop.Goals as goal

pub returns : goal.returns
returns c s h k = record { numbers = c.in_ok-outcome.ensures.numbers s h k; is = ap Stops (c.in_ok-outcome.ensures.is s) }
