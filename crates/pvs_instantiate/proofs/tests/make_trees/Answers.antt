use Rattle.pvs_instantiate.proofs.ExampleLaws.{trees_made, leaves_then}
use Rattle.pvs_instantiate.proofs.tests.make_trees.Goals as goal

pub returns-clause-ok : goal.returns-clause-ok
returns-clause-ok g c =
    trees_made c.make.new.self.store c.make-2.new.self.store c.make-3.new.self.store c.formal_type.new.instances.store _ _ _ _
    c.in_ok-boolean.ensures.ok c.make-2.ensures.kept.store c.in_ok-truth.ensures.ok c.make-3.ensures.kept.store c.in_ok-falsity.ensures.ok c.in_ok-formal.ensures.kept.store c.in_ok-formal.ensures.ok

pub returns-clause-kept : goal.returns-clause-kept
returns-clause-kept g c =
    leaves_then _ _ _ (leaves_then _ _ _ (leaves_then _ _ _ c.make.ensures.kept c.make-2.ensures.kept) c.make-3.ensures.kept) c.in_ok-formal.ensures.kept
