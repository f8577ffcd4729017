use Rattle.std.proofs.Common.{[]}
use Rattle.pvs_terms.specs.Stored.{tree_at}
use Rattle.pvs_subst.specs.Contexts.{context_at}
use Rattle.pvs_types.specs.Outcome.{outcome_after}
use Rattle.pvs_types.specs.Coerce.{coerce}
use Rattle.pvs_typing.specs.State.{Grows}
use Rattle.pvs_typing.specs.Owed.{conditions_at}
use Rattle.pvs_typing.specs.code.Tasks.{Leaves, stack_work}
use Rattle.pvs_typing.proofs.coercion.coerce_listed.Given as goal

abbrev pub invariant-loop-task : goal.invariant-loop-task
invariant-loop-task g l =
    let t = g.T.Theories in
    let s = (t.state l.fn.theories).stored in
    let n = (t.state l.fn.theories).lookups l.theory in
    record {
      kept : Grows (t.state l.fn.theories) (t.state l.theories) l.theory;
      left : Leaves n (t.state l.theories).stored ((t.state l.theories).declares l.theory)
          (outcome_after (conditions_at s l.fn.conditions.items) [] (coerce n (context_at s l.fn.g.items) (tree_at s l.fn.term) (tree_at s l.fn.from) (tree_at s l.fn.to)))
          l.conditions.items l.tasks.items;
    }

abbrev pub decreases-loop-task : goal.decreases-loop-task
decreases-loop-task g l = stack_work ((g.T.Theories.state l.fn.theories).lookups l.theory) (g.T.Theories.state l.theories).stored l.tasks.items
