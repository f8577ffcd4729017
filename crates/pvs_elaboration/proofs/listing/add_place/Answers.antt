use Rattle.std.proofs.Common.{refl, arith}
use Rattle.pvs_elaboration.proofs.ListingLaws.{place_added}
use Rattle.pvs_elaboration.proofs.listing.add_place.Goals as goal

pub returns : goal.returns
returns c = place_added _ _ c.args.place c.len-number.result (omega (arith, c.len-number.ensures)) refl refl c.in_ok-push.ensures.items refl
