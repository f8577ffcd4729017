use Rattle.std.proofs.Common.{◌+◌, ◌*◌}
use Rattle.pvs_terms.specs.Tree.{size, ref_size, trees_size}
use Rattle.pvs_terms.specs.Stored.{tree_at, ref_at, trees_at}
use Rattle.pvs_typing.proofs.symbols.+symbols.Given as goal

abbrev pub decreases-add_symbols : goal.decreases-add_symbols
decreases-add_symbols l = 4 * size (tree_at l.store.now l.id) + 1

abbrev pub decreases-add_both : goal.decreases-add_both
decreases-add_both l = 4 * (size (tree_at l.store.now l.a) + size (tree_at l.store.now l.b)) + 2

abbrev pub decreases-add_reference : goal.decreases-add_reference
decreases-add_reference l = 4 * ref_size (ref_at l.store.now l.r) + 3

abbrev pub decreases-add_all : goal.decreases-add_all
decreases-add_all l = 4 * trees_size (trees_at l.store.now l.ids.now) + 2
