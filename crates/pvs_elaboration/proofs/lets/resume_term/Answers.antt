use Rattle.pvs_elaboration.proofs.LetLaws.{lambda_row, tree_row}
use Rattle.pvs_elaboration.proofs.lets.resume_term.Goals as goal

pub returns-in-Lambda : goal.returns-in-Lambda
returns-in-Lambda g c =
    let k = g.S.Scope.known in
    let r = c.in-Lambda in
    λ t l. rw r.is (lambda_row (k c.args.scope.now) (k c.make_term.new.scope) t c.args.here.now c.args.definition r.ty r.body r.value c.args.term c.make_term.result (c.make_term.ensures t l))

pub returns-in-Tree : goal.returns-in-Tree
returns-in-Tree g c =
    let k = g.S.Scope.known in
    let r = c.in-Tree in
    λ t l. rw r.is (tree_row (k c.args.scope.now) (k c.make_type.new.scope) t c.args.here.now c.args.definition r.ty r.body r.value c.args.term c.make_type.result (c.make_type.ensures t l))
