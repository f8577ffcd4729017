use Rattle.std.proofs.Common.{arith}
use Rattle.pvs_elaboration.proofs.ListingLaws.{start_found}
use Rattle.pvs_elaboration.proofs.listing.start_at.Goals as goal

pub returns-clause-start : goal.returns-clause-start
returns-clause-start c = start_found (omega (arith, c.if-part-len.false, c.len.ensures)) c.index-part.ensures c.in_ok-start.ensures
