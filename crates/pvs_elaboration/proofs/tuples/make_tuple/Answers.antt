use Rattle.pvs_elaboration.proofs.TupleLaws.{second_row}
use Rattle.pvs_elaboration.proofs.tuples.make_tuple.Goals as goal

pub returns-in-Ok : goal.returns-in-Ok
returns-in-Ok g c =
    let k = g.S.Scope.known in
    λ t l. second_row (k c.args.scope.now) (k c.make_term.new.scope) t c.args.here.now c.args.pair c.args.first c.args.second c.in-Ok.size c.make_term.result c.in-Ok.ensures (c.make_term.ensures t l)
