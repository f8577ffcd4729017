use Rattle.pvs_place.proofs.ReadingLaws.{reads_at}
use Rattle.pvs_place.proofs.theories.PlaceTheories.declared_types.Goals as goal

pub returns : goal.returns
returns g c =
    let v = c.self.inside.instances in
    rw (← c.self.view_is) (λ r h. (reads_at v c.self.inside.theory v.store r c.self.invariant.latest c.soundness.ensures.standing.over).is_type h)
