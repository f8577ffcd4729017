use Rattle.pvs_elaboration.proofs.BinderLaws.{lambda_body_row, range_row}
use Rattle.pvs_elaboration.proofs.binder.resume_binder.Goals as goal

pub returns-in-Range : goal.returns-in-Range
returns-in-Range g c =
    let k = g.S.Scope.known in
    λ t l. rw (c.in-Range.is, c.in-Formed.is) (range_row (k c.args.scope.now) (k c.make_type.new.scope) t c.args.here.now c.args.binding c.in-Range.domain c.in-Formed.ty c.make_type.result (c.make_type.ensures t l))

pub returns-in_default : goal.returns-in_default
returns-in_default g c = λ t l. rw c.in-Formed.is (c.resume_type.ensures t)

pub returns-in-LambdaBody : goal.returns-in-LambdaBody
returns-in-LambdaBody g c =
    let k = g.S.Scope.known in
    λ t l. rw (c.in-LambdaBody.is, c.in-Typed.is) (lambda_body_row (k c.args.scope.now) (k c.make_term.new.scope) t c.args.here.now c.args.binding c.in-LambdaBody.ty c.in-Typed.body c.make_term.result (c.make_term.ensures t l))
