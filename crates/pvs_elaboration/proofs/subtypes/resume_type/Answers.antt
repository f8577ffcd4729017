use Rattle.pvs_elaboration.proofs.ListingLaws.{failed_or_memory}
use Rattle.pvs_elaboration.proofs.SubtypeLaws.{type_refused}
use Rattle.pvs_elaboration.proofs.subtypes.resume_type.Goals as goal

pub returns-in-Err : goal.returns-in-Err
returns-in-Err g c = λ t l.
    failed_or_memory _ _ _ (c.fault_of.ensures t l) (type_refused t c.args.here.now c.args.start c.args.at c.args.predicate c.in-Err.fault c.in-Err.ensures.kept c.in-Err.ensures.refused)
