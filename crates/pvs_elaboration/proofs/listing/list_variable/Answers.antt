use Rattle.std.proofs.Common.{refl}
use Rattle.pvs_elaboration.proofs.ListingLaws.{last_name}
use Rattle.pvs_elaboration.proofs.listing.list_variable.Goals as goal

pub returns : goal.returns
returns c = last_name _ _ c.spelling-name.result _ c.spelling-name.ensures refl refl refl c.in_ok-push.ensures.items
