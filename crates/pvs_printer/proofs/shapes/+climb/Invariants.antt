use Rattle.pvs_terms.specs.Tree.{size}
use Rattle.pvs_terms.specs.Stored.{tree_at}
use Rattle.pvs_printer.proofs.shapes.+climb.Given as goal

abbrev pub decreases-climb : goal.decreases-climb
decreases-climb l = size (tree_at l.store.now l.id)
