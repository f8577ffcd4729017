use Rattle.pvs_terms.specs.Sorts.{IsTerm}
use Rattle.pvs_terms.specs.Stored.{IsNode, tree_at}
use Rattle.pvs_terms.proofs.tests.projects_to_the_greatest_depth.Given as goal

abbrev pub invariant-loop : goal.invariant-loop
invariant-loop _ l = IsNode l.store l.part × IsTerm (tree_at l.store l.part)
