use Rattle.std.proofs.Common.{◌+◌, ◌*◌}
use Rattle.pvs_terms.specs.Tree.{depth}
use Rattle.pvs_terms.specs.Stored.{tree_at, shape_tree}
use Rattle.pvs_subst.proofs.putting.+put.Given as goal

abbrev pub decreases-put_below : goal.decreases-put_below
decreases-put_below l = 3 * depth (tree_at l.store.now l.body) + 2

abbrev pub decreases-put_whole : goal.decreases-put_whole
decreases-put_whole l = 3 * depth (shape_tree l.store.now l.shape) + 1

abbrev pub decreases-put_parts : goal.decreases-put_parts
decreases-put_parts l = 3 * depth (shape_tree l.store.now l.shape)
