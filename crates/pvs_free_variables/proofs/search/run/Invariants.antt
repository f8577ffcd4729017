use Rattle.std.proofs.Common.{◌≡◌}
use Rattle.pvs_free_variables.specs.code.Tasks.{next_first, work}
use Rattle.pvs_free_variables.specs.code.Searching.{outcome}
use Rattle.pvs_free_variables.proofs.search.run.Given as goal

abbrev pub invariant-loop-task : goal.invariant-loop-task
invariant-loop-task g l =
    let names = (g.S.Scope.known l.fn.scope).names in
    record {
      text : l.search.text.now ≡ l.fn.search.text.now;
      same : outcome names l.search (next_first l.search.tasks) ≡ outcome names l.fn.search (next_first l.fn.search.tasks);
    }

abbrev pub decreases-loop-task : goal.decreases-loop-task
decreases-loop-task g l = work l.fn.search.text.now (next_first l.search.tasks)
