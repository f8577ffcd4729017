use Rattle.pvs_elaboration.proofs.JoinLaws.{join_early_row}
use Rattle.pvs_elaboration.proofs.choice.join.Goals as goal

pub returns-then-branches : goal.returns-then-branches
returns-then-branches g c =
    let k = g.S.Scope.known in
    let a = c.args in
    λ t l. join_early_row (k a.scope.now) (k c.make_term.new.scope) t a.here.now a.branches a.condition a.first a.negation a.second c.make_term.result c.if-branches.true (c.make_term.ensures t l)
