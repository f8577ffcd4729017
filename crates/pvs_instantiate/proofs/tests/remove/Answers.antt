use Rattle.std.proofs.Common.{◌∙◌}
use Rattle.pvs_instantiate.proofs.ExampleLaws.{example_alone, example_removed}
use Rattle.pvs_instantiate.proofs.tests.remove.Goals as goal

pub remove-requires-clause-alone : goal.remove-requires-clause-alone
remove-requires-clause-alone g c = example_alone c.args.instances.now c.args.theory c.requires.has

pub returns-clause-rest : goal.returns-clause-rest
returns-clause-rest g c = c.remove.ensures.rest ∙ example_removed c.args.instances.now c.args.theory c.requires.has
