use Rattle.pvs_terms.specs.Stored.{text_at}
use Rattle.pvs_instantiate.specs.InstancesView.{development}
use Rattle.pvs_printer.specs.Names.{names_from}
use Rattle.pvs_printer.specs.code.Tasks.{left_bytes, all_work}
use Rattle.pvs_printer.specs.code.TasksAt.{tasks_at, TasksIn, HaveRoom, Progress}
use Rattle.pvs_printer.proofs.printing.print_all.Given as goal

abbrev pub invariant-loop-task : goal.invariant-loop-task
invariant-loop-task g l =
    let s = l.fn.instances.store in
    let names = names_from (development l.fn.instances) (text_at s l.fn.theory) in
    record {
      within : TasksIn s l.stack.items;
      room : HaveRoom s l.stack.items;
      progress : Progress l.fn.out.items (left_bytes names l.fn.variables (tasks_at s names l.fn.stack.items)) l.out.items (left_bytes names l.fn.variables (tasks_at s names l.stack.items));
    }

abbrev pub decreases-loop-task : goal.decreases-loop-task
decreases-loop-task g l =
    let s = l.fn.instances.store in
    all_work (tasks_at s (names_from (development l.fn.instances) (text_at s l.fn.theory)) l.stack.items)
