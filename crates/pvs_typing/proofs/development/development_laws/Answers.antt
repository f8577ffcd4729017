use Rattle.pvs_terms.specs.Stored.{text_at}
use Rattle.pvs_instantiate.specs.InstancesView.{development}
use Rattle.pvs_typing.proofs.DevelopmentLaws.{ordered_from}
use Rattle.pvs_typing.proofs.development.development_laws.Goals as goal

pub returns : goal.returns
returns g c = record { ordered = λ n. ordered_from (development c.args.instances.now) c.soundness.ensures.standing.over (text_at c.args.instances.now.store n) }
