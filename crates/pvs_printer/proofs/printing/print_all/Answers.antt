use Rattle.std.proofs.Common.{sym, refl, [], append-nil}
use Rattle.pvs_terms.specs.Stored.{text_at}
use Rattle.pvs_instantiate.specs.InstancesView.{development}
use Rattle.pvs_printer.specs.Names.{names_from}
use Rattle.pvs_printer.specs.code.Tasks.{left_bytes}
use Rattle.pvs_printer.specs.code.TasksAt.{tasks_at}
use Rattle.pvs_printer.proofs.LoopLaws.{last_within, last_room, goes_on, goes_less, stops, ends, emptied, err_holds}
use Rattle.pvs_printer.proofs.printing.print_all.Goals as goal

pub loop-task-init : goal.loop-task-init
loop-task-init g c = record { within = c.requires.within; room = c.requires.room; progress = record { written = []; whole = refl; adds = sym (append-nil c.args.out.now.items) } }

pub step-requires-clause-within : goal.step-requires-clause-within
step-requires-clause-within g c = (last_within c.args.instances.now.store c.pop.new.self.items c.loop-task.stack.items c.in-Some.task c.in-Some.ensures.items c.loop-task.invariant.within).1

pub step-requires-clause-room : goal.step-requires-clause-room
step-requires-clause-room g c = λ names. (last_room c.args.instances.now.store c.pop.new.self.items c.loop-task.stack.items c.in-Some.task c.in-Some.ensures.items c.loop-task.invariant.room names).1

pub loop-task-smaller : goal.loop-task-smaller
loop-task-smaller g c =
    let a = c.args in
    let s = a.instances.now.store in
    let names = names_from (development a.instances.now) (text_at s a.theory) in
    let l = c.loop-task in
    goes_less s names a.variables c.pop.new.self.items l.stack.items c.step.new.stack.items c.in-Some.task l.out.items c.step.new.out.items c.in-Some.ensures.items c.in_ok-step.ensures.ok

pub loop-task-preserved : goal.loop-task-preserved
loop-task-preserved g c =
    let a = c.args in
    let s = a.instances.now.store in
    let names = names_from (development a.instances.now) (text_at s a.theory) in
    let l = c.loop-task in
    let k = c.in_ok-step.ensures.ok in
    record {
      within = k.within (last_within s c.pop.new.self.items l.stack.items c.in-Some.task c.in-Some.ensures.items l.invariant.within).0;
      room = k.room (λ ns. (last_room s c.pop.new.self.items l.stack.items c.in-Some.task c.in-Some.ensures.items l.invariant.room ns).0);
      progress = goes_on s names a.variables c.pop.new.self.items l.stack.items c.step.new.stack.items c.in-Some.task a.out.now.items (left_bytes names a.variables (tasks_at s names a.stack.now.items)) l.out.items c.step.new.out.items
          c.in-Some.ensures.items l.invariant.progress k;
    }

pub returns-in_err-step-clause-err : goal.returns-in_err-step-clause-err
returns-in_err-step-clause-err g c =
    let a = c.args in
    let s = a.instances.now.store in
    let names = names_from (development a.instances.now) (text_at s a.theory) in
    let l = c.loop-task in
    err_holds _ (stops s names a.variables c.pop.new.self.items l.stack.items c.in-Some.task a.out.now.items (left_bytes names a.variables (tasks_at s names a.stack.now.items)) l.out.items c.step.new.out.items
    c.in-Some.ensures.items l.invariant.progress c.in_err-step.ensures.err)

pub returns-clause-ok : goal.returns-clause-ok
returns-clause-ok g c =
    let a = c.args in
    let s = a.instances.now.store in
    let names = names_from (development a.instances.now) (text_at s a.theory) in
    let l = c.loop-task in
    ends s names a.variables l.stack.items a.out.now.items (left_bytes names a.variables (tasks_at s names a.stack.now.items)) l.out.items
    (emptied l.stack.items c.pop.new.self.items _ c.in_default.ensures.items c.in_default.ensures.rest c.in_default.ensures.cases.0) l.invariant.progress
