use Rattle.std.proofs.Common.{◌<◌, ◌^◌}
use Rattle.pvs_terms.specs.Sorts.{IsTerm}
use Rattle.pvs_terms.specs.Stored.{IsNode, tree_at}
use Rattle.pvs_terms.proofs.tests.doubles_to_the_largest_size.Given as goal

abbrev pub invariant-loop : goal.invariant-loop
invariant-loop _ l = IsNode l.store l.formula × IsTerm (tree_at l.store l.formula) × (l.size < 2 ^ 40)
