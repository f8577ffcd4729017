use Rattle.pvs_sequent.specs.Numbers.{sequent_at}
use Rattle.pvs_replay.specs.Replaying.{Refused, Stops, last_step}
use Rattle.pvs_replay.proofs.RunLaws.{run_after_extends}
use Rattle.pvs_replay.proofs.replaying.run_step.Goals as goal

pub returns-in_ok-run-in-Ok-clause-run : goal.returns-in_ok-run-in-Ok-clause-run
returns-in_ok-run-in-Ok-clause-run g c =
    run_after_extends (g.R.Rules.stored c.args.rules.now) (g.R.Rules.stored c.apply.new.self) c.args.before
    (last_step c.args.step.now.pos (g.R.Rules.effect c.args.rules.now c.args.step.now (sequent_at (g.R.Rules.stored c.args.rules.now) c.args.sequent)))
    c.in_ok-run-in-Ok.run' c.in-Ok.ensures.kept c.requires.before (λ k. c.in_ok-run-in-Ok.ensures (g.R.Rules.stored c.apply.new.self) _ k c.in-Ok.ensures.ok)

pub returns-in_ok-run-in-Err-At-clause-run : goal.returns-in_ok-run-in-Err-At-clause-run
returns-in_ok-run-in-Err-At-clause-run g c =
    let e = rw c.in-Err-At.field-0-is at c.in-Err-At.ensures.refused in
    rw e (run_after_extends (g.R.Rules.stored c.args.rules.now) (g.R.Rules.stored c.apply.new.self) c.args.before (Stops (Refused c.in-Err-At.fault))
    c.in_ok-run-in-Err-At.run' c.in-Err-At.ensures.kept c.requires.before (λ k. c.in_ok-run-in-Err-At.ensures (g.R.Rules.stored c.apply.new.self) k tt))
