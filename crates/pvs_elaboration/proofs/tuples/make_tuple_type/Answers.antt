use Rattle.pvs_elaboration.proofs.TupleLaws.{lifted_row}
use Rattle.pvs_elaboration.proofs.tuples.make_tuple_type.Goals as goal

pub returns-in-Ok : goal.returns-in-Ok
returns-in-Ok g c =
    let k = g.S.Scope.known in
    λ t l. lifted_row (k c.args.scope.now) (k c.make_type.new.scope) t c.args.here.now c.args.pair c.args.tree c.args.first c.args.lifted c.in-Ok.size c.make_type.result c.in-Ok.ensures (c.make_type.ensures t l)
