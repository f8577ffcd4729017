use Rattle.pvs_elaboration.proofs.KnownLaws.{grows_none, memory_failed}
use Rattle.pvs_elaboration.proofs.BinderLaws.{all_body_row, all_predicate_row, all_equation_row, lambda_tree_row, predicate_done}
use Rattle.pvs_elaboration.proofs.binder.resume_term.Goals as goal

pub returns-in-AllBody : goal.returns-in-AllBody
returns-in-AllBody g c =
    let k = g.S.Scope.known in
    λ t l. rw c.in-AllBody.is (all_body_row (k c.args.scope.now) (k c.make_term.new.scope) t c.args.here.now c.args.binding c.in-AllBody.ty c.args.term c.make_term.result (c.make_term.ensures t l))

pub returns-in-AllPredicate : goal.returns-in-AllPredicate
returns-in-AllPredicate g c =
    let k = g.S.Scope.known in
    λ t l. rw c.in-AllPredicate.is (all_predicate_row (k c.args.scope.now) (k c.make_term-in-AllPredicate.new.scope) t c.args.here.now c.args.binding c.in-AllPredicate.ty c.args.term c.make_term-in-AllPredicate.result c.requires.here (c.make_term-in-AllPredicate.ensures t l))

pub returns-in-AllEquation : goal.returns-in-AllEquation
returns-in-AllEquation g c =
    let k = g.S.Scope.known in
    λ t l. rw c.in-AllEquation.is (all_equation_row (k c.args.scope.now) (k c.make_term-in-AllEquation.new.scope) t c.args.here.now c.args.binding c.in-AllEquation.predicate c.args.term c.make_term-in-AllEquation.result c.requires.here (c.make_term-in-AllEquation.ensures t l))

pub returns-in-LambdaTree : goal.returns-in-LambdaTree
returns-in-LambdaTree g c =
    let k = g.S.Scope.known in
    λ t l. rw c.in-LambdaTree.is (lambda_tree_row (k c.args.scope.now) (k c.make_type.new.scope) t c.args.here.now c.args.binding c.in-LambdaTree.domain c.in-LambdaTree.range c.args.term c.make_type.result (c.make_type.ensures t l))

pub returns-in-PredicateBody : goal.returns-in-PredicateBody
returns-in-PredicateBody g c = λ t l. rw (c.in-PredicateBody.is, c.give.ensures) (predicate_done t c.args.here.now c.args.binding c.args.term)

pub returns-in_default : goal.returns-in_default
returns-in_default g c = λ t l. memory_failed _ (grows_none (g.S.Scope.known c.args.scope.now))
