use Rattle.pvs_instantiate.proofs.ExampleLaws.{example_lacks}
use Rattle.pvs_instantiate.proofs.tests.sees_nothing.Goals as goal

pub scope_of-requires-clause-imports : goal.scope_of-requires-clause-imports
scope_of-requires-clause-imports c = example_lacks _ _ c.requires.has
