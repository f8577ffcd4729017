use Rattle.std.proofs.Common.{◌∙◌, ap}
use Rattle.pvs_sequent.specs.Numbers.{sequents_at}
use Rattle.pvs_replay.specs.Numbers.{outcome_at}
use Rattle.pvs_replay.specs.Replaying.{Outcome, Leaves, both}
use Rattle.pvs_replay.proofs.outcome.leave.Goals as goal

pub returns : goal.returns
returns c s o h k = rw k.is (record {
  numbers = (c.in_ok-outcome.ensures.numbers s h (c.alone.ensures.numbers s k.left_open k.cited k.uses), k.premises);
  is = ap (λ (p : Outcome). Leaves p c.args.pos (sequents_at s c.args.effect.premises.items)) (c.in_ok-outcome.ensures.is s ∙ ap (both (outcome_at s c.args.before)) (c.alone.ensures.is s));
})
