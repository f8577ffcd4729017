use Rattle.pvs_terms.proofs.StoredLaws.{extends_trans}
use Rattle.pvs_instantiate.proofs.ExampleLaws.{trees_later, trees_kept}
use Rattle.pvs_instantiate.proofs.tests.is_answered.Goals as goal

pub grow-requires-clause-trees : goal.grow-requires-clause-trees
grow-requires-clause-trees g c =
    trees_later _ _ _ _ _ _ (extends_trans c.in_ok-made.ensures.kept c.in_ok-kept.ensures.kept) (trees_kept c.args.instances.now.store c.add.new.instances.store _ _ _ _ c.in_ok-add.ensures.store c.requires.trees)

pub returns-then-eq-3-clause-trees : goal.returns-then-eq-3-clause-trees
returns-then-eq-3-clause-trees g c =
    trees_kept c.ask-3.new.instances.store c.remove-removed.new.instances.store _ _ _ _ c.remove-removed.ensures.store
    (trees_later _ _ _ _ _ _ c.in_ok-grown.ensures.kept (trees_kept c.ask-2.new.instances.store c.grow.new.instances.store _ _ _ _ c.in_ok-grow.ensures.store
    (trees_later _ _ _ _ _ _ (extends_trans c.in_ok-made.ensures.kept c.in_ok-kept.ensures.kept) (trees_kept c.args.instances.now.store c.add.new.instances.store _ _ _ _ c.in_ok-add.ensures.store c.requires.trees))))

pub returns-else-eq-3-clause-trees : goal.returns-else-eq-3-clause-trees
returns-else-eq-3-clause-trees g c =
    trees_kept c.ask-3.new.instances.store c.remove-removed.new.instances.store _ _ _ _ c.remove-removed.ensures.store
    (trees_later _ _ _ _ _ _ c.in_ok-grown.ensures.kept (trees_kept c.ask-2.new.instances.store c.grow.new.instances.store _ _ _ _ c.in_ok-grow.ensures.store
    (trees_later _ _ _ _ _ _ (extends_trans c.in_ok-made.ensures.kept c.in_ok-kept.ensures.kept) (trees_kept c.args.instances.now.store c.add.new.instances.store _ _ _ _ c.in_ok-add.ensures.store c.requires.trees))))
