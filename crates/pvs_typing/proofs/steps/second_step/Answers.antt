use Rattle.pvs_terms.specs.declared.shape.Sort.TheVariants.{OfType, OfTerm}
use Rattle.pvs_subst.specs.Contexts.{context_at}
use Rattle.pvs_typing.proofs.GrowthLaws.{keeps_trans, known_kept}
use Rattle.pvs_typing.proofs.TaskLaws.{second_follows, second_fault}
use Rattle.pvs_typing.proofs.JudgingLaws.{result_err}
use Rattle.pvs_typing.proofs.steps.second_step.Goals as goal

pub returns : goal.returns
returns g c =
    let a = c.args in
    record {
      ok = second_follows a.context a.components a.term a.first a.from a.to c.in_ok-second.second c.in_ok-second_from.second_from c.in_ok-second_from.second_to
          c.in_ok-second.ensures.kept c.in_ok-second_from.ensures.kept c.requires.coercion c.requires.first c.in_ok-second.ensures.ok c.in_ok-second_from.ensures.first c.in_ok-second_from.ensures.second;
      refused = tt;
      kept = keeps_trans c.in_ok-second.ensures.kept c.in_ok-second_from.ensures.kept;
    }

pub substitute_both-requires-clause-first : goal.substitute_both-requires-clause-first
substitute_both-requires-clause-first g c = known_kept OfType c.args.from c.in_ok-second.ensures.kept c.requires.coercion.from

pub substitute_both-requires-clause-second : goal.substitute_both-requires-clause-second
substitute_both-requires-clause-second g c = known_kept OfType c.args.to c.in_ok-second.ensures.kept c.requires.coercion.to

pub substitute_both-requires-clause-arg : goal.substitute_both-requires-clause-arg
substitute_both-requires-clause-arg g c = known_kept OfTerm c.args.first c.in_ok-second.ensures.kept c.requires.first

pub returns-in_err-second_from : goal.returns-in_err-second_from
returns-in_err-second_from g c =
    let a = c.args in
    let t = g.T.Theories in
    rw (result_err c.from_residual-in_err-second_from.result c.from_residual-in_err-second_from.ensures.1) (record {
      ok = tt;
      refused = second_fault ((t.state a.theories.now).lookups a.theory) (context_at (t.state a.theories.now).stored a.context.items) a.components a.term a.first a.from a.to c.in_ok-second.second c.in_err-second_from.field-0.0
          c.in_ok-second.ensures.kept c.requires.first c.requires.coercion.from c.requires.coercion.to c.in_ok-second.ensures.ok c.in_err-second_from.ensures.refused;
      kept = keeps_trans c.in_ok-second.ensures.kept c.in_err-second_from.ensures.kept;
    })
