use Rattle.std.proofs.Common.{◌∙◌}
use Rattle.pvs_elaboration.proofs.listing.add_start.Goals as goal

pub returns : goal.returns
returns c =
    let a = c.in_ok-number.ensures in
    record { more = a.more; is = λ t h. a.is t h ∙ c.start_of-place.ensures }
