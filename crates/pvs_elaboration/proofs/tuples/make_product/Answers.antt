use Rattle.pvs_elaboration.proofs.TupleLaws.{product_row}
use Rattle.pvs_elaboration.proofs.tuples.make_product.Goals as goal

pub returns-in-Ok : goal.returns-in-Ok
returns-in-Ok g c =
    let k = g.S.Scope.known in
    λ t l. product_row (k c.args.scope.now) (k c.make_type.new.scope) t c.args.here.now c.args.binding c.args.first c.args.second c.args.beyond c.in-Ok.size c.make_type.result c.in-Ok.ensures (c.make_type.ensures t l)
