use Rattle.std.proofs.Common.{◌≡◌, suc, arith}
use Rattle.pvs_elaboration.proofs.PartLaws.{head_row}
use Rattle.pvs_elaboration.proofs.parts.resume_head.Goals as goal

pub returns-then-size-beyond : goal.returns-then-size-beyond
returns-then-size-beyond g c =
    let k = g.S.Scope.known in
    let p = c.in-TPair in
    let e : p.size ≡ suc (suc c.args.beyond) = omega (arith, p.ensures.parts.0, c.if-size-beyond.true) in
    λ t l. head_row (k c.args.scope.now) (k c.make_first.new.scope) t c.args.here.now c.args.projection c.args.beyond c.args.before c.args.tuple c.args.head p.size p.first p.second c.make_first.result p.ensures.tree e (c.make_first.ensures t l)
