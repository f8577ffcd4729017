use Rattle.pvs_instantiate.proofs.ExampleLaws.{refs_made, leaves_then}
use Rattle.pvs_instantiate.proofs.tests.make_refs.Goals as goal

pub returns-clause-ok : goal.returns-clause-ok
returns-clause-ok g c =
    refs_made c.args.instances.now.store c.name.new.self.store c.reference.new.self.store c.reference-2.new.self.store c.args.boolean _ _ _
    c.requires.node c.requires.is c.name.ensures.kept.store c.in_ok-theory.ensures.ok.name c.reference.ensures.kept.store c.in_ok-constant.ensures.ok c.reference-2.ensures.kept.store c.in_ok-lemma.ensures.ok

pub returns-clause-kept : goal.returns-clause-kept
returns-clause-kept g c = leaves_then _ _ _ (leaves_then _ _ _ c.name.ensures.kept c.reference.ensures.kept) c.reference-2.ensures.kept
