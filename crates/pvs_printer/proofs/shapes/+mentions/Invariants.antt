use Rattle.pvs_terms.specs.Tree.{size}
use Rattle.pvs_terms.specs.Stored.{tree_at}
use Rattle.pvs_printer.proofs.shapes.+mentions.Given as goal

abbrev pub decreases-mentions : goal.decreases-mentions
decreases-mentions l = size (tree_at l.store.now l.id)
