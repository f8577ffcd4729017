use Rattle.pvs_terms.specs.Tree.{size}
use Rattle.pvs_terms.specs.Stored.{tree_at}
use Rattle.pvs_printer.proofs.shapes.+is_tuple.Given as goal

abbrev pub decreases-is_tuple : goal.decreases-is_tuple
decreases-is_tuple l = size (tree_at l.store.now l.id)
