use Rattle.std.proofs.Common.{inl, refl}
use Rattle.pvs_terms.specs.declared.shape.Plain.TheVariants.{BoolType, Yes}
use Rattle.pvs_instantiate.proofs.ExampleLaws.{example_may_grow, example_alone, example_grown}
use Rattle.pvs_instantiate.proofs.tests.grow.Goals as goal

pub grow_entry-requires-clause-over : goal.grow_entry-requires-clause-over
grow_entry-requires-clause-over g c =
    example_may_grow c.args.instances.now c.args.theory c.requires.has _ (inl (BoolType, c.requires.trees.boolean_is, refl), inl (Yes, c.requires.trees.truth_is, refl))

pub grow_entry-requires-clause-alone : goal.grow_entry-requires-clause-alone
grow_entry-requires-clause-alone g c = example_alone c.args.instances.now c.args.theory c.requires.has

pub returns-clause-ok : goal.returns-clause-ok
returns-clause-ok g c =
    example_grown c.args.instances.now c.args.theory c.requires.has _ (inl (BoolType, c.requires.trees.boolean_is, refl), inl (Yes, c.requires.trees.truth_is, refl))
    c.grow_entry.new.self c.grow_entry.ensures.store c.in_ok-grow_entry.ensures.ok
