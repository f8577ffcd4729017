use Rattle.pvs_elaboration.proofs.PartLaws.{tuple_row}
use Rattle.pvs_elaboration.proofs.parts.make_others.Goals as goal

pub returns-in-Ok : goal.returns-in-Ok
returns-in-Ok g c =
    let k = g.S.Scope.known in
    λ t l. tuple_row (k c.args.scope.now) (k c.make_term.new.scope) t c.args.here.now c.args.projection c.args.beyond c.args.before c.args.tuple c.args.second c.args.first c.in-Ok.size c.make_term.result c.in-Ok.ensures (c.make_term.ensures t l)
