use Rattle.pvs_elaboration.proofs.ListingLaws.{variable_listed}
use Rattle.pvs_elaboration.proofs.listing.list_names.Goals as goal

pub loop-variable-preserved : goal.loop-variable-preserved
loop-variable-preserved c =
    let e = c.as_slice-variable-items.ensures in
    let i = c.loop-variable.variable-index in
    let short = rw e at c.loop-variable-test.true in
    let item = rw e at c.variable-item.is in
    variable_listed c.args.variables.now i c.variable-item.result short item c.loop-variable.invariant c.in_ok-list_variable.ensures
