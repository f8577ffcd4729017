use Rattle.pvs_terms.specs.declared.shape.Sort.TheVariants.{OfType, OfTerm}
use Rattle.pvs_typing.proofs.GrowthLaws.{keeps_trans, known_kept, context_kept}
use Rattle.pvs_typing.proofs.TaskLaws.{function_follows, function_fault}
use Rattle.pvs_typing.proofs.JudgingLaws.{result_err}
use Rattle.pvs_typing.proofs.steps.to_function.Goals as goal

pub between_functions-requires-clause-domains : goal.between_functions-requires-clause-domains
between_functions-requires-clause-domains g c =
    let k = c.in_ok-form.ensures.kept in
    let h = c.requires.domain in
    record { context = context_kept c.args.context.items k h.context; term = known_kept OfTerm c.args.term k h.term; from = c.in-TFun.ensures.parts.0; to = known_kept OfType c.args.domain k h.to }

pub between_functions-requires-clause-ranges : goal.between_functions-requires-clause-ranges
between_functions-requires-clause-ranges g c =
    let k = c.in_ok-form.ensures.kept in
    let h = c.requires.domain in
    record { context = context_kept c.args.context.items k h.context; term = known_kept OfTerm c.args.term k h.term; from = c.in-TFun.ensures.parts.1; to = known_kept OfType c.args.range k c.requires.range }

pub returns-in_err-next-in-TFun : goal.returns-in_err-next-in-TFun
returns-in_err-next-in-TFun g c =
    let a = c.args in
    rw (result_err c.from_residual-in_err-next-in-TFun.result c.from_residual-in_err-next-in-TFun.ensures.1) (record {
      ok = tt;
      refused = function_fault a.context a.term a.from c.in_ok-form.form c.in-TFun.domain_from c.in-TFun.range_from a.domain a.range c.in_err-next-in-TFun.field-0.0
          c.in_ok-form.ensures.kept c.requires.domain c.requires.range c.in_ok-form.ensures.ok c.in-TFun.ensures.tree c.in_err-next-in-TFun.ensures.refused;
      kept = keeps_trans c.in_ok-form.ensures.kept c.in_err-next-in-TFun.ensures.kept;
    })

pub returns-in_ok-next-in-TFun : goal.returns-in_ok-next-in-TFun
returns-in_ok-next-in-TFun g c =
    let t = g.T.Theories in
    let a = c.args in
    record {
      ok = function_follows (t.state c.between_functions.new.theories).stored ((t.state c.between_functions.new.theories).declares a.theory) a.context a.term a.from c.in_ok-form.form c.in-TFun.domain_from c.in-TFun.range_from a.domain a.range c.in_ok-next-in-TFun.next
          c.requires.ordered c.in_ok-form.ensures.kept c.requires.domain c.requires.range c.in_ok-form.ensures.ok c.in-TFun.ensures.tree c.in_ok-next-in-TFun.ensures.ok;
      refused = tt;
      kept = keeps_trans c.in_ok-form.ensures.kept c.in_ok-next-in-TFun.ensures.kept;
    }
