use Rattle.std.proofs.Common.{◌+◌, ◌*◌}
use Rattle.pvs_terms.specs.Tree.{depth}
use Rattle.pvs_terms.specs.Stored.{tree_at, shape_tree}
use Rattle.pvs_subst.proofs.lifting.+lift.Given as goal

abbrev pub decreases-lift_from : goal.decreases-lift_from
decreases-lift_from l = 2 * depth (tree_at l.store.now l.id) + 1

abbrev pub decreases-lift_parts : goal.decreases-lift_parts
decreases-lift_parts l = 2 * depth (shape_tree l.store.now l.shape)
