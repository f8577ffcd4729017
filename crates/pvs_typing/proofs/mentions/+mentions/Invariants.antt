use Rattle.pvs_terms.specs.Tree.{depth}
use Rattle.pvs_terms.specs.Stored.{tree_at}
use Rattle.pvs_typing.proofs.mentions.+mentions.Given as goal

abbrev pub decreases-mentions : goal.decreases-mentions
decreases-mentions l = depth (tree_at l.store.now l.id)
