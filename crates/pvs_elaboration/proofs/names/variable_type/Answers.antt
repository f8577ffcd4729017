use Rattle.pvs_elaboration.proofs.ListingLaws.{failed_or_memory}
use Rattle.pvs_elaboration.proofs.NameLaws.{variable_follows, variable_unknown}
use Rattle.pvs_elaboration.proofs.names.variable_type.Goals as goal

pub returns-in-Ok : goal.returns-in-Ok
returns-in-Ok g c = λ t h. rw c.give_to.ensures (variable_follows t c.args.here.now c.args.name.now c.args.at c.in-Ok.ty c.in-Ok.ensures.ok.0 c.in-Ok.ensures.ok.1)

pub returns-in-Err : goal.returns-in-Err
returns-in-Err g c = λ t h.
    failed_or_memory _ _ _ (c.fault_at.ensures t h) (variable_unknown (g.S.Scope.known c.args.scope.now) t c.args.here.now c.args.name.now c.args.at c.in-Err.code c.in-Err.ensures.refused)
