use Rattle.std.proofs.Common.{ap, Ok, ◌∙◌}
use Rattle.pvs_terms.specs.declared.shape.Sort.TheVariants.{OfType}
use Rattle.pvs_terms.specs.Stored.{tree_at, ref_at}
use Rattle.pvs_subst.specs.Contexts.{context_at}
use Rattle.pvs_typing.specs.Answers.{tree_option}
use Rattle.pvs_typing.proofs.GrowthLaws.{keeps_trans, known_kept}
use Rattle.pvs_typing.proofs.TaskLaws.{name_done, name_follows, name_fault}
use Rattle.pvs_typing.proofs.JudgingLaws.{result_err}
use Rattle.pvs_typing.proofs.steps.to_name.Goals as goal

pub same_head-requires-clause-from : goal.same_head-requires-clause-from
same_head-requires-clause-from g c = known_kept OfType c.args.from c.in_ok-body_of.ensures.kept c.requires.coercion.from

pub returns-in_err-same_head-in-None : goal.returns-in_err-same_head-in-None
returns-in_err-same_head-in-None g c =
    rw (result_err c.from_residual-in_err-same_head-in-None.result c.from_residual-in_err-same_head-in-None.ensures.1) (record {
      ok = tt;
      refused = name_fault (context_at (g.T.Theories.state c.args.theories.now).stored c.args.context.items) (tree_at (g.T.Theories.state c.args.theories.now).stored c.args.term) c.args.from c.args.to (ref_at (g.T.Theories.state c.args.theories.now).stored c.args.r) c.in_ok-body_of.field-0 c.in_err-same_head-in-None.field-0.0 c.in_ok-body_of.ensures.kept c.requires.coercion.from c.requires.coercion.to c.requires.is c.in-None.is c.in_ok-body_of.ensures.ok c.in_err-same_head-in-None.ensures.refused;
      kept = keeps_trans c.in_ok-body_of.ensures.kept c.in_err-same_head-in-None.ensures.kept;
    })

pub returns-in_ok-same_head-in-None : goal.returns-in_ok-same_head-in-None
returns-in_ok-same_head-in-None g c =
    let t = g.T.Theories in
    let s = (t.state c.args.theories.now).stored in
    record {
      ok = name_done (t.state c.same_head.new.theories).stored ((t.state c.same_head.new.theories).declares c.args.theory) (context_at s c.args.context.items) (tree_at s c.args.term) c.args.from c.args.to (ref_at s c.args.r) c.in_ok-body_of.field-0
          c.in_ok-body_of.ensures.kept c.requires.coercion.from c.requires.coercion.to c.requires.is c.in-None.is c.in_ok-body_of.ensures.ok c.in_ok-same_head-in-None.ensures.ok;
      refused = tt;
      kept = keeps_trans c.in_ok-body_of.ensures.kept c.in_ok-same_head-in-None.ensures.kept;
    }

pub returns-in-Some : goal.returns-in-Some
returns-in-Some g c =
    let t = g.T.Theories in
    let s = (t.state c.args.theories.now).stored in
    record {
      ok = name_follows c.args.context c.args.term c.args.from c.args.to c.in-Some.body (ref_at s c.args.r) c.requires.ordered c.in_ok-body_of.ensures.kept c.requires.coercion
          (rw c.in-Some.is at c.in_ok-body_of.ensures.known) (c.in_ok-body_of.ensures.ok ∙ ap (λ o. Ok (tree_option (t.state c.body_of.new.self).stored o)) c.in-Some.is);
      refused = tt;
      kept = c.in_ok-body_of.ensures.kept;
    }
