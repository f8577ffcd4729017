use Rattle.pvs_elaboration.proofs.ListingLaws.{failed_or_memory}
use Rattle.pvs_elaboration.proofs.ApplyLaws.{function_refused}
use Rattle.pvs_elaboration.proofs.apply.head_of.Goals as goal

pub returns-in-Err : goal.returns-in-Err
returns-in-Err g c = λ t h. failed_or_memory _ _ _ (c.fault_of.ensures t h) (function_refused t c.args.here.now c.args.operands c.args.function c.in-Err.fault c.in-Err.ensures.kept c.in-Err.ensures.refused)
