use Rattle.std.proofs.Common.{inl, refl}
use Rattle.pvs_terms.specs.declared.shape.Plain.TheVariants.{Yes}
use Rattle.pvs_instantiate.proofs.tests.example_alone.Goals as goal

pub add-requires-clause-simple : goal.add-requires-clause-simple
add-requires-clause-simple c = inl (Yes, c.in_ok-instances.ensures.trees.truth_is, refl)
