use Rattle.std.proofs.Common.{◌≡◌, ◌-◌, suc, arith}
use Rattle.pvs_elaboration.proofs.PartLaws.{first_row, others_row}
use Rattle.pvs_elaboration.proofs.parts.make_first.Goals as goal

pub returns-then-before-eq0 : goal.returns-then-before-eq0
returns-then-before-eq0 g c =
    let k = g.S.Scope.known in
    λ t l. first_row (k c.args.scope.now) (k c.make_term.new.scope) t c.args.here.now c.args.projection c.args.tuple c.args.first c.args.second c.args.size c.args.before c.make_term.result c.if-before-eq0.true (c.make_term.ensures t l)

pub returns-else-before-eq0 : goal.returns-else-before-eq0
returns-else-before-eq0 g c =
    let k = g.S.Scope.known in
    let e : c.args.before ≡ suc (c.args.before - 1) = omega (arith, c.if-before-eq0.false) in
    let m = c.make_term-else-before-eq0 in
    λ t l. others_row (k c.args.scope.now) (k m.new.scope) t c.args.here.now c.args.projection c.args.tuple c.args.first c.args.second c.args.size c.args.beyond c.args.before (c.args.before - 1) m.result e c.requires.size (m.ensures t l)
