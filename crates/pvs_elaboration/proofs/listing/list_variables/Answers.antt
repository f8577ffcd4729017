use Rattle.pvs_elaboration.proofs.ListingLaws.{scope_listed}
use Rattle.pvs_elaboration.proofs.listing.list_variables.Goals as goal

pub returns : goal.returns
returns c = rw c.len.ensures (scope_listed c.args.variables.now c.args.body c.args.pos c.in_ok-first.ensures c.in_ok-at.ensures c.in_ok-body.ensures)
