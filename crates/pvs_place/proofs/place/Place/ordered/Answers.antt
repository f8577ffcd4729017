use Rattle.pvs_place.proofs.StartLaws.{latest_ordered}
use Rattle.pvs_place.proofs.place.Place.ordered.Goals as goal

pub returns : goal.returns
returns g c = rw (← c.self.view_is) (latest_ordered c.self.inside.instances c.self.inside.theory c.self.invariant.latest c.soundness.ensures.standing.over)
