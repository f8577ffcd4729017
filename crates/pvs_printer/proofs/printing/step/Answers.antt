use Rattle.pvs_terms.specs.Stored.{text_at}
use Rattle.pvs_instantiate.specs.InstancesView.{development}
use Rattle.pvs_printer.specs.Names.{names_from}
use Rattle.pvs_printer.proofs.LoopLaws.{step_expands_at}
use Rattle.pvs_printer.proofs.printing.step.Goals as goal

pub returns-in_ok-expand-in_default : goal.returns-in_ok-expand-in_default
returns-in_ok-expand-in_default g c =
    let a = c.args in
    let s = a.instances.now.store in
    record {
      ok = step_expands_at c.store.result.now s (names_from (development a.instances.now) (text_at s a.theory)) a.variables a.task a.stack.now.items c.expand.new.stack.items a.out.now.items c.store.ensures
          c.in_default.not-Write c.requires.room c.in_ok-expand-in_default.ensures;
      err = tt;
    }
