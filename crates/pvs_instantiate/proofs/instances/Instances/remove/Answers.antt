use Rattle.std.proofs.Common.{sym}
use Rattle.pvs_terms.specs.Stored.{text_at}
use Rattle.pvs_instantiate.specs.InstancesView.{development}
use Rattle.pvs_instantiate.proofs.RestLaws.{without_absent, stamps_absent}
use Rattle.pvs_instantiate.proofs.instances.Instances.remove.Goals as goal

pub returns-in-None-clause-rest : goal.returns-in-None-clause-rest
returns-in-None-clause-rest g c = sym (without_absent (text_at c.args.self.now.store c.args.theory) (development c.args.self.now) c.in-None.ensures.none)

pub returns-in-None-clause-stamps : goal.returns-in-None-clause-stamps
returns-in-None-clause-stamps g c = stamps_absent c.args.self.now (text_at c.args.self.now.store c.args.theory) c.soundness.ensures c.in-None.ensures.none
