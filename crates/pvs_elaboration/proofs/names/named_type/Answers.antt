use Rattle.std.proofs.Common.{sym, ◌∙◌}
use Rattle.pvs_elaboration.proofs.ListingLaws.{failed_or_memory}
use Rattle.pvs_elaboration.proofs.NameLaws.{type_named_row, type_unknown}
use Rattle.pvs_elaboration.proofs.names.named_type.Goals as goal

pub returns-in-Ok : goal.returns-in-Ok
returns-in-Ok g c = λ t h.
    type_named_row (g.S.Scope.known c.args.scope.now) (g.S.Scope.known c.make_type.new.scope) t c.args.here.now c.args.name.now c.args.at c.in-Ok.reference c.make_type.result (sym c.is_bool.ensures ∙ c.if-is_bool.false) c.in-Ok.ensures.ok.1 (c.make_type.ensures t h)

pub returns-in-Err : goal.returns-in-Err
returns-in-Err g c = λ t h.
    failed_or_memory _ _ _ (c.fault_at.ensures t h) (type_unknown (g.S.Scope.known c.args.scope.now) t c.args.here.now c.args.name.now c.args.at c.in-Err.code (sym c.is_bool.ensures ∙ c.if-is_bool.false) c.in-Err.ensures.refused)
