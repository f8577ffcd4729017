use Rattle.pvs_elaboration.specs.declared.frame.Control.TheVariants as spec_control
use Rattle.pvs_elaboration.specs.declared.frame.Next.{Next}
use Rattle.pvs_elaboration.specs.declared.frame.Turn.{Turn}
use Rattle.std.specs.Prelude.{Err}
use Rattle.pvs_elaboration.specs.Machine.{machine_answer}
use Rattle.pvs_elaboration.proofs.ListingLaws.{adds, adds_same}
use Rattle.pvs_elaboration.proofs.MachineLaws.{turn_fails, turn_goes_on, turn_is_out_of_memory}
use Rattle.pvs_elaboration.proofs.machine.turn_asked.Goals as goal

pub returns-in-Ok-add : goal.returns-in-Ok-add
returns-in-Ok-add g c = record {
  turns = λ t h. turn_goes_on t c.args.machine.now (spec_control.Ask c.args.part c.args.mode) c.in-Ok.next c.add.new.machine c.in-Ok-add.control c.requires.machine (c.in-Ok.ensures.steps t h) c.in-Ok-add.ensures.machine c.in-Ok-add.ensures.control;
  more = c.in-Ok.ensures.more;
}

pub returns-in-Err-add : goal.returns-in-Err-add
returns-in-Err-add g c = record {
  turns = λ t h. turn_is_out_of_memory (machine_answer (g.S.Scope.known c.args.scope.now) t c.args.machine.now (spec_control.Ask c.args.part c.args.mode)) c.in-Err-add.fault (c.in-Ok.ensures.steps t h).kept c.in-Err-add.ensures.memory;
  more = adds {A = Turn} (Err c.in-Err-add.fault) c.in-Ok.ensures.more;
}

pub returns-in-Err : goal.returns-in-Err
returns-in-Err g c = record {
  turns = λ t h. turn_fails t c.args.machine.now (spec_control.Ask c.args.part c.args.mode) c.in-Err.fault (c.in-Err.ensures.steps t h);
  more = adds_same Next Turn c.args.listing.now c.ask.new.listing c.in-Err.fault c.in-Err.ensures.more;
}
