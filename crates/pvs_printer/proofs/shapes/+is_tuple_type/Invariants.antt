use Rattle.pvs_terms.specs.Tree.{size}
use Rattle.pvs_terms.specs.Stored.{tree_at}
use Rattle.pvs_printer.proofs.shapes.+is_tuple_type.Given as goal

abbrev pub decreases-is_tuple_type : goal.decreases-is_tuple_type
decreases-is_tuple_type l = size (tree_at l.store.now l.id)
