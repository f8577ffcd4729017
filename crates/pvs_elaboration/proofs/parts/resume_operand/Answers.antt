use Rattle.pvs_elaboration.proofs.ListingLaws.{failed_or_memory}
use Rattle.pvs_elaboration.proofs.PartLaws.{operand_refused}
use Rattle.pvs_elaboration.proofs.parts.resume_operand.Goals as goal

pub returns-in-Err : goal.returns-in-Err
returns-in-Err g c = λ t l.
    failed_or_memory _ _ _ (c.fault_of.ensures t l) (operand_refused t c.args.here.now c.args.projection c.args.operand c.in-Err.fault c.in-Err.ensures.kept c.in-Err.ensures.refused)
