use Rattle.pvs_elaboration.proofs.ListingLaws.{failed_or_memory}
use Rattle.pvs_elaboration.proofs.NameLaws.{constant_row, constant_unknown}
use Rattle.pvs_elaboration.proofs.names.constant_term.Goals as goal

pub returns-in-Ok : goal.returns-in-Ok
returns-in-Ok g c = λ t h.
    constant_row (g.S.Scope.known c.args.scope.now) (g.S.Scope.known c.make_term.new.scope) t c.args.here.now c.args.name.now c.args.at c.in-Ok.reference c.args.frame c.make_term.result c.in-Ok.ensures.ok.1 (c.make_term.ensures t h)

pub returns-in-Err : goal.returns-in-Err
returns-in-Err g c = λ t h.
    failed_or_memory _ _ _ (c.fault_at.ensures t h) (constant_unknown (g.S.Scope.known c.args.scope.now) t c.args.here.now c.args.here.now.depth c.args.name.now c.args.at c.args.frame c.in-Err.code c.in-Err.ensures.refused)
