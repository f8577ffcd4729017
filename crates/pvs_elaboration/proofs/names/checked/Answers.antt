use Rattle.pvs_elaboration.proofs.ListingLaws.{failed_or_memory}
use Rattle.pvs_elaboration.proofs.NameLaws.{check_failed}
use Rattle.pvs_elaboration.proofs.names.checked.Goals as goal

pub returns-in-Err : goal.returns-in-Err
returns-in-Err g c = λ t h. failed_or_memory _ _ _ (c.fault_of.ensures t h) (check_failed t c.args.here.now c.args.at c.args.want c.args.tree c.in-Err.fault c.in-Err.ensures.kept c.in-Err.ensures.refused)
