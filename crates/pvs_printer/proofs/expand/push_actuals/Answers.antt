use Rattle.std.proofs.Common.{length}
use Rattle.pvs_terms.specs.Tree.{ref_actuals}
use Rattle.pvs_terms.specs.Stored.{ref_at}
use Rattle.pvs_printer.specs.code.Tasks.{actual_tasks}
use Rattle.pvs_printer.specs.code.TasksAt.{trees_from}
use Rattle.pvs_printer.proofs.PushLaws.{none_tasks, last_tasks, more_tasks, below_at}
use Rattle.pvs_printer.proofs.expand.push_actuals.Goals as goal

pub returns-then-from-actuals : goal.returns-then-from-actuals
returns-then-from-actuals c =
    let s = c.args.store.now in
    c.push.ensures s (λ names. actual_tasks (trees_from c.args.from (ref_actuals (ref_at s c.args.r)))) tt
    (λ names. none_tasks s c.args.from c.actuals-actuals.result.now (ref_actuals (ref_at s c.args.r)) c.actuals-actuals.ensures.trees c.if-from-actuals.true)

pub returns-then-from-actuals-2 : goal.returns-then-from-actuals-2
returns-then-from-actuals-2 c =
    let s = c.args.store.now in
    let i = c.index-actuals-from in
    let e = c.actuals-actuals.ensures in
    c.push-then-from-actuals-2.ensures s (λ names. actual_tasks (trees_from c.args.from (ref_actuals (ref_at s c.args.r))))
    (below_at (length s.nodes) i.result c.args.from c.actuals-actuals.result.now i.is e.nodes c.if-from-actuals.false, tt)
    (λ names. last_tasks s i.result c.args.from c.actuals-actuals.result.now (ref_actuals (ref_at s c.args.r)) i.is e.trees c.if-from-actuals-2.true)

pub returns-else-from-actuals-2 : goal.returns-else-from-actuals-2
returns-else-from-actuals-2 c =
    let s = c.args.store.now in
    let i = c.index-actuals-from-else-from-actuals-2 in
    let e = c.actuals-actuals.ensures in
    c.push-else-from-actuals-2.ensures s (λ names. actual_tasks (trees_from c.args.from (ref_actuals (ref_at s c.args.r))))
    (below_at (length s.nodes) i.result c.args.from c.actuals-actuals.result.now i.is e.nodes c.if-from-actuals.false, (tt, (tt, (c.requires, tt))))
    (λ names. more_tasks s i.result c.args.from c.actuals-actuals.result.now (ref_actuals (ref_at s c.args.r)) i.is e.trees c.if-from-actuals.false c.if-from-actuals-2.false)
