use Rattle.std.proofs.Common.{◌∙◌}
use Rattle.pvs_instantiate.proofs.ExampleLaws.{trees_later}
use Rattle.pvs_instantiate.proofs.tests.begin.Goals as goal

pub make_refs-requires-clause-node : goal.make_refs-requires-clause-node
make_refs-requires-clause-node g c = c.in_ok-trees.ensures.ok.boolean_in

pub make_refs-requires-clause-is : goal.make_refs-requires-clause-is
make_refs-requires-clause-is g c = c.in_ok-trees.ensures.ok.boolean_is

pub returns-clause-trees : goal.returns-clause-trees
returns-clause-trees g c = trees_later _ _ _ _ _ _ c.in_ok-refs.ensures.kept.store c.in_ok-trees.ensures.ok

pub returns-clause-refs : goal.returns-clause-refs
returns-clause-refs g c = c.in_ok-refs.ensures.ok

pub returns-clause-none : goal.returns-clause-none
returns-clause-none g c = c.in_ok-refs.ensures.kept.development ∙ c.in_ok-trees.ensures.kept.development ∙ c.in_ok-instances.ensures.theories
