use Rattle.pvs_elaboration.proofs.KnownLaws.{grows_none, memory_failed}
use Rattle.pvs_elaboration.proofs.BinderLaws.{all_follows, lambda_follows, predicate_body_follows, function_range_follows}
use Rattle.pvs_elaboration.proofs.binder.resume_type.Goals as goal

pub returns-in-All : goal.returns-in-All
returns-in-All g c = λ t. rw (c.in-All.is, c.ask_below.ensures) (all_follows t c.args.here.now c.args.binding c.args.ty c.requires.here c.requires.ty)

pub returns-in-Lambda : goal.returns-in-Lambda
returns-in-Lambda g c = λ t. rw (c.in-Lambda.is, c.ask_below-in-Lambda.ensures) (lambda_follows t c.args.here.now c.args.binding c.args.ty c.requires.ty)

pub returns-in-Predicate : goal.returns-in-Predicate
returns-in-Predicate g c = λ t. rw (c.in-Predicate.is, c.ask_below-in-Predicate.ensures) (predicate_body_follows t c.args.here.now c.args.binding c.args.ty c.requires.here c.requires.ty)

pub returns-in-Function : goal.returns-in-Function
returns-in-Function g c = λ t. rw (c.in-Function.is, c.ask_below-in-Function.ensures) (function_range_follows t c.args.here.now c.args.binding c.args.ty c.requires.ty)

pub returns-in_default : goal.returns-in_default
returns-in_default g c = λ t. memory_failed _ (grows_none (g.S.Scope.known c.args.scope.now))
