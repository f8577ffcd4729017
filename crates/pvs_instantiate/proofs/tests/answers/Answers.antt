use Rattle.std.proofs.Common.{inl, refl}
use Rattle.pvs_terms.specs.declared.shape.Plain.TheVariants.{Yes}
use Rattle.pvs_instantiate.proofs.tests.answers.Goals as goal

pub is_answered-requires-clause-simple : goal.is_answered-requires-clause-simple
is_answered-requires-clause-simple g c = inl (Yes, c.in_ok-instances.ensures.trees.truth_is, refl)
