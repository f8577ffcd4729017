use Rattle.pvs_elaboration.proofs.ListingLaws.{failed_or_memory}
use Rattle.pvs_elaboration.proofs.PartLaws.{from_refused}
use Rattle.pvs_elaboration.proofs.parts.resume_from.Goals as goal

pub returns-in-Err : goal.returns-in-Err
returns-in-Err g c = λ t l.
    failed_or_memory _ _ _ (c.fault_of.ensures t l) (from_refused t c.args.here.now c.args.projection c.args.beyond c.args.before c.args.tuple c.in-Err.fault c.in-Err.ensures.kept c.in-Err.ensures.refused)
