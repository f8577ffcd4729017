use Rattle.std.proofs.Common.{refl, arith}
use Rattle.pvs_elaboration.proofs.ListingLaws.{part_added}
use Rattle.pvs_elaboration.proofs.listing.add_part.Goals as goal

pub returns : goal.returns
returns c = part_added _ _ c.args.part c.len-number.result (omega (arith, c.len-number.ensures)) refl c.in_ok-push.ensures.items refl refl
