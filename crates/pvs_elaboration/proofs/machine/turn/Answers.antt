use Rattle.std.specs.Prelude.{Ok}
use Rattle.pvs_elaboration.specs.declared.frame.Control.TheVariants as spec_control
use Rattle.pvs_elaboration.proofs.MachineLaws.{turn_of}
use Rattle.pvs_elaboration.proofs.machine.turn.Goals as goal

pub returns-in-Give-clause-turns : goal.returns-in-Give-clause-turns
returns-in-Give-clause-turns g c = λ t h.
    let k = g.S.Scope.known c.args.scope.now in
    turn_of k k t c.args.machine.now c.args.control (spec_control.Give c.in-Give.value) c.turn_given.new.machine (Ok c.turn_given.result) c.in-Give.is (c.turn_given.ensures t)
