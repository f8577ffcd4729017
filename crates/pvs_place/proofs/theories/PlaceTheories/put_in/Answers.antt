use Rattle.pvs_place.proofs.PlaceLaws.{place_kept}
use Rattle.pvs_place.proofs.theories.PlaceTheories.put_in.Goals as goal

pub invariant_of-self : goal.invariant_of-self
invariant_of-self g c = place_kept c.self.invariant c.put_in.ensures.kept
