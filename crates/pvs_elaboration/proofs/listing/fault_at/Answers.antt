use Rattle.std.proofs.Common.{arith}
use Rattle.pvs_elaboration.proofs.ListingLaws.{fault_listed}
use Rattle.pvs_elaboration.proofs.listing.fault_at.Goals as goal

pub returns : goal.returns
returns c = λ t h. fault_listed c.args.code h (omega (arith, c.if-at-len.false, c.len.ensures)) c.index-place.ensures c.resolve-pos.ensures
