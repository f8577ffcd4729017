use Rattle.pvs_terms.specs.Stored.{tree_at}
use Rattle.pvs_subst.specs.Contexts.{context_at}
use Rattle.pvs_typing.proofs.GrowthLaws.{known_kept, context_kept}
use Rattle.pvs_typing.proofs.OwedLaws.{conditions_kept}
use Rattle.pvs_typing.proofs.AboveLaws.{up_refused, coerces_later}
use Rattle.pvs_typing.proofs.TaskLaws.{coerce_above_fault}
use Rattle.pvs_typing.proofs.JudgingLaws.{result_err}
use Rattle.pvs_typing.proofs.coercion.coerce_of.Goals as goal

pub coerce_listed-requires-clause-context : goal.coerce_listed-requires-clause-context
coerce_listed-requires-clause-context g c = context_kept c.args.g.now.items c.in_ok-above.ensures.kept c.requires.context

pub coerce_listed-requires-clause-term : goal.coerce_listed-requires-clause-term
coerce_listed-requires-clause-term g c = known_kept _ c.args.term c.in_ok-above.ensures.kept c.requires.term

pub coerce_listed-requires-clause-from : goal.coerce_listed-requires-clause-from
coerce_listed-requires-clause-from g c = known_kept _ c.args.from c.in_ok-above.ensures.kept c.requires.from

pub coerce_listed-requires-clause-to : goal.coerce_listed-requires-clause-to
coerce_listed-requires-clause-to g c = known_kept _ c.args.to c.in_ok-above.ensures.kept c.requires.to

pub coerce_listed-requires-clause-conditions : goal.coerce_listed-requires-clause-conditions
coerce_listed-requires-clause-conditions g c = conditions_kept c.args.conditions.now.items c.in_ok-above.ensures.kept c.requires.conditions

pub returns : goal.returns
returns g c =
    let a = c.args in
    coerces_later a.theory a.g.now.items a.term a.from a.to a.conditions.now.items c.coerce_listed.new.conditions.items c.coerce_listed.result c.in_ok-above.ensures.kept
    c.requires.context c.requires.term c.requires.from c.requires.to c.requires.conditions c.coerce_listed.ensures

pub returns-in_err-above : goal.returns-in_err-above
returns-in_err-above g c =
    let t = g.T.Theories in
    let a = c.args in
    let s = (t.state a.theories.now).stored in
    let l = (t.state a.theories.now).lookups a.theory in
    rw (result_err c.from_residual.result c.from_residual.ensures.1) (record {
      ok = tt;
      known = tt;
      refused = coerce_above_fault l c.requires.ordered (context_at s a.g.now.items) (tree_at s a.term) (tree_at s a.from) (tree_at s a.to) c.known_node-term.ensures.sorted c.requires.term.sort
          c.in_err-above.field-0.0 (up_refused l (tree_at s a.from) (tree_at s a.to) c.in_err-above.field-0.0 c.in_err-above.ensures.refused);
      kept = c.in_err-above.ensures.kept;
    })
