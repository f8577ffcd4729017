use Rattle.pvs_elaboration.specs.Known.{place_in}
use Rattle.pvs_elaboration.specs.Meanings.{fault_of}
use Rattle.pvs_elaboration.proofs.ListingLaws.{failed_or_memory}
use Rattle.pvs_elaboration.proofs.StepLaws.{coercion_failed}
use Rattle.pvs_elaboration.proofs.steps.coerce.Goals as goal

pub returns-in-Err : goal.returns-in-Err
returns-in-Err g c =
    let a = c.args in
    λ t l.
    failed_or_memory _ (fault_of (place_in t a.large) (place_in t a.at) c.in-Err.fault) c.fault_of.result (c.fault_of.ensures t l)
    (coercion_failed t a.here.now a.large a.at a.term a.want c.in-Err.fault c.coerce.ensures.kept c.in-Err.ensures.refused)
