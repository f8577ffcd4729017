use Rattle.std.proofs.Common.{◌+◌, ◌*◌}
use Rattle.pvs_terms.specs.Tree.{size, ref_size, trees_size}
use Rattle.pvs_terms.specs.Stored.{tree_at, ref_at, trees_at, shape_tree}
use Rattle.pvs_subst.proofs.instances.+instantiate.Given as goal

abbrev pub decreases-instantiate_tree : goal.decreases-instantiate_tree
decreases-instantiate_tree l = 5 * size (tree_at l.store.now l.id) + 2

abbrev pub decreases-instantiate_whole : goal.decreases-instantiate_whole
decreases-instantiate_whole l = 5 * size (shape_tree l.store.now l.shape) + 1

abbrev pub decreases-instantiate_name : goal.decreases-instantiate_name
decreases-instantiate_name l = 5 * (1 + ref_size (ref_at l.store.now l.r))

abbrev pub decreases-instantiate_list : goal.decreases-instantiate_list
decreases-instantiate_list l = 5 * trees_size (trees_at l.store.now l.ids.now) + 3

abbrev pub decreases-instantiate_both : goal.decreases-instantiate_both
decreases-instantiate_both l = 5 * (size (tree_at l.store.now l.a) + size (tree_at l.store.now l.b)) + 4

abbrev pub decreases-instantiate_parts : goal.decreases-instantiate_parts
decreases-instantiate_parts l = 5 * size (shape_tree l.store.now l.shape)
