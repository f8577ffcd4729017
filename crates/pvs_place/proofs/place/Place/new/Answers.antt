use Rattle.pvs_place.proofs.PlaceLaws.{place_begins}
use Rattle.pvs_place.proofs.place.Place.new.Goals as goal

pub invariant_of-result : goal.invariant_of-result
invariant_of-result g c =
    place_begins c.args.instances.store c.empty_signature-signature.result c.args.theory c.empty_signature-signature.ensures c.add.ensures.store c.in_ok-add.ensures.ok c.requires.theory c.new.ensures
