use Rattle.pvs_terms.specs.Stored.{tree_at}
use Rattle.pvs_subst.specs.Contexts.{context_at}
use Rattle.pvs_types.specs.Coerce.{coerce}
use Rattle.pvs_typing.specs.Owed.{conditions_at}
use Rattle.pvs_typing.proofs.GrowthLaws.{keeps_trans}
use Rattle.pvs_typing.proofs.AboveLaws.{listed_kept}
use Rattle.pvs_typing.proofs.StackLaws.{last_known, loop_goes_on, loop_less, loop_fault}
use Rattle.pvs_typing.proofs.JudgingLaws.{result_err}
use Rattle.pvs_typing.proofs.coercion.coerce_listed.Goals as goal

pub step-requires-clause-above : goal.step-requires-clause-above
step-requires-clause-above g c = listed_kept c.args.theory c.args.above.now c.loop-task.invariant.kept c.requires.above

pub step-requires-clause-task : goal.step-requires-clause-task
step-requires-clause-task g c =
    let t = g.T.Theories in
    let w = c.loop-task.theories in
    last_known (t.state w).stored ((t.state w).declares c.args.theory) c.pop.new.self.items c.loop-task.tasks.items c.in-Some.task c.in-Some.ensures.items c.loop-task.invariant.left.tasks

pub returns-in_err-next : goal.returns-in_err-next
returns-in_err-next g c =
    let t = g.T.Theories in
    let a = c.args in
    let s = (t.state a.theories.now).stored in
    let i = c.loop-task.invariant in
    rw (result_err c.from_residual-in_err-next.result c.from_residual-in_err-next.ensures.1) (record {
      ok = tt;
      known = tt;
      refused = loop_fault (conditions_at s a.conditions.now.items) (coerce ((t.state a.theories.now).lookups a.theory) (context_at s a.g.now.items) (tree_at s a.term) (tree_at s a.from) (tree_at s a.to))
          c.loop-task.conditions.items c.pop.new.self.items c.loop-task.tasks.items c.in-Some.task c.in_err-next.field-0.0 i.left c.in-Some.ensures.items i.kept.lookups c.in_err-next.ensures.refused;
      kept = keeps_trans c.loop-task.invariant.kept c.in_err-next.ensures.kept;
    })

pub returns-in_err-add_next : goal.returns-in_err-add_next
returns-in_err-add_next g c =
    rw (result_err c.from_residual-in_err-add_next.result c.from_residual-in_err-add_next.ensures.1) (record {
      ok = tt;
      known = tt;
      refused = tt;
      kept = keeps_trans c.loop-task.invariant.kept c.in_ok-next.ensures.kept;
    })

pub loop-task-preserved : goal.loop-task-preserved
loop-task-preserved g c =
    let i = c.loop-task.invariant in
    let added = c.in_ok-add_next.ensures in
    record {
      kept = keeps_trans i.kept c.in_ok-next.ensures.kept;
      left = loop_goes_on c.loop-task.conditions.items c.add_next.new.conditions.items c.pop.new.self.items c.loop-task.tasks.items c.add_next.new.tasks.items c.in-Some.task c.in_ok-next.next
          i.left c.in-Some.ensures.items i.kept.lookups c.in_ok-next.ensures.kept c.in_ok-next.ensures.ok added.conditions added.tasks;
    }

pub loop-task-smaller : goal.loop-task-smaller
loop-task-smaller g c =
    let i = c.loop-task.invariant in
    loop_less c.loop-task.conditions.items c.pop.new.self.items c.loop-task.tasks.items c.add_next.new.tasks.items c.in-Some.task c.in_ok-next.next
    i.left c.in-Some.ensures.items i.kept.lookups c.in_ok-next.ensures.kept c.in_ok-next.ensures.ok c.in_ok-add_next.ensures.tasks
