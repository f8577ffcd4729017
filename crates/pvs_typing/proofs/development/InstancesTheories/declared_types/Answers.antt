use Rattle.pvs_terms.specs.Stored.{text_at}
use Rattle.pvs_instantiate.specs.InstancesView.{development}
use Rattle.pvs_typing.proofs.DevelopmentLaws.{declared_is_type}
use Rattle.pvs_typing.proofs.development.InstancesTheories.declared_types.Goals as goal

pub returns : goal.returns
returns g c = λ r h. declared_is_type (development c.args.self.now) (text_at c.args.self.now.store c.args._theory) r h
