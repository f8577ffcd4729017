use Rattle.std.proofs.Common.{refl, arith}
use Rattle.pvs_elaboration.proofs.ListingLaws.{name_added}
use Rattle.pvs_elaboration.proofs.listing.add_name.Goals as goal

pub returns : goal.returns
returns c = name_added _ _ c.args.name c.len-number.result (omega (arith, c.len-number.ensures)) refl refl refl c.in_ok-push.ensures.items
