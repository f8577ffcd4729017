use Rattle.pvs_elaboration.proofs.ApplyLaws.{argument_row}
use Rattle.pvs_elaboration.proofs.apply.tree_of.Goals as goal

pub returns : goal.returns
returns g c = λ t h.
    argument_row (g.S.Scope.known c.args.scope.now) (g.S.Scope.known c.make_term.new.scope) t c.args.here.now c.args.operands c.args.function c.args.range c.args.argument c.make_term.result (c.make_term.ensures t h)
