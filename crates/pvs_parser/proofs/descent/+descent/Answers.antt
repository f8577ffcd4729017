use Rattle.std.proofs.Common.{◌≡◌, ◌<◌, refl, arith}
use Rattle.pvs_parser.proofs.Knot.{expr-more, expr-none, type-more, type-none}
use Rattle.pvs_parser.proofs.descent.+descent.Goals as goal

pub expr-returns-then-room-eq0 : goal.expr-returns-then-room-eq0
expr-returns-then-room-eq0 t c =
    let none : c.args.room ≡ 0 = omega arith in
    rw (c.stop.ensures, expr-none c.args.room c.args.start c.args.nesting c.args.tokens.now none) refl

pub expr-returns : goal.expr-returns
expr-returns t c =
    let some : 0 < c.args.room = omega arith in
    rw (expr-more c.args.room c.args.start c.args.nesting c.args.tokens.now some) c.expr_rule.ensures

pub type_expr-returns-then-room-eq0 : goal.type_expr-returns-then-room-eq0
type_expr-returns-then-room-eq0 t c =
    let none : c.args.room ≡ 0 = omega arith in
    rw (c.stop.ensures, type-none c.args.room c.args.nesting c.args.tokens.now none) refl

pub type_expr-returns : goal.type_expr-returns
type_expr-returns t c =
    let some : 0 < c.args.room = omega arith in
    rw (type-more c.args.room c.args.nesting c.args.tokens.now some) c.type_rule.ensures
