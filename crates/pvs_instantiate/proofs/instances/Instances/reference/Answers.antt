use Rattle.pvs_instantiate.proofs.SoundLaws.{is_later}
use Rattle.pvs_instantiate.proofs.instances.Instances.reference.Goals as goal

pub invariant_of-self : goal.invariant_of-self
invariant_of-self g c = (is_later _ c.reference.new.self c.self.invariant c.reference.ensures.kept).sound

pub returns-clause-kept : goal.returns-clause-kept
returns-clause-kept g c = rw (← c.self.view_is) (is_later _ c.reference.new.self c.self.invariant c.reference.ensures.kept).leaves
