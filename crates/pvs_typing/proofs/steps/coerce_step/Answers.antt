use Rattle.std.proofs.Common.{ap, Ok, ◌∙◌}
use Rattle.pvs_terms.specs.Stored.{tree_at}
use Rattle.pvs_subst.specs.Contexts.{context_at}
use Rattle.pvs_typing.proofs.GrowthLaws.{keeps_trans}
use Rattle.pvs_typing.proofs.TaskLaws.{above_follows, coerce_above_fault, coercion_kept, to_follows, to_fault}
use Rattle.pvs_typing.proofs.JudgingLaws.{result_err}
use Rattle.pvs_typing.proofs.steps.coerce_step.Goals as goal

pub coerce_to-requires-clause-coercion : goal.coerce_to-requires-clause-coercion
coerce_to-requires-clause-coercion g c = coercion_kept c.in_ok-is_above.ensures.kept c.args.context c.args.term c.args.from c.args.to c.requires.coercion

pub returns-in_err-next : goal.returns-in_err-next
returns-in_err-next g c =
    let a = c.args in
    rw (result_err c.from_residual-in_err-next.result c.from_residual-in_err-next.ensures.1) (record {
      ok = tt;
      refused = to_fault a.context a.term a.from a.to c.in_err-next.field-0.0 c.requires.ordered c.in_ok-is_above.ensures.kept c.requires.coercion c.known_node-term.ensures.sorted
          (c.in_ok-is_above.ensures.ok ∙ ap (λ x. Ok x) c.if-branch.false) c.in_err-next.ensures.refused;
      kept = keeps_trans c.in_ok-is_above.ensures.kept c.in_err-next.ensures.kept;
    })

pub returns : goal.returns
returns g c =
    let t = g.T.Theories in
    let a = c.args in
    let w = c.coerce_to.new.theories in
    record {
      ok = to_follows (t.state w).stored ((t.state w).declares a.theory) a.context a.term a.from a.to c.in_ok-next.next c.requires.ordered c.in_ok-is_above.ensures.kept c.requires.coercion c.known_node-term.ensures.sorted
          (c.in_ok-is_above.ensures.ok ∙ ap (λ x. Ok x) c.if-branch.false) c.in_ok-next.ensures.ok;
      refused = tt;
      kept = keeps_trans c.in_ok-is_above.ensures.kept c.in_ok-next.ensures.kept;
    }

pub returns-in_err-is_above : goal.returns-in_err-is_above
returns-in_err-is_above g c =
    let t = g.T.Theories in
    let a = c.args in
    let s = (t.state a.theories.now).stored in
    rw (result_err c.from_residual.result c.from_residual.ensures.1) (record {
      ok = tt;
      refused = coerce_above_fault ((t.state a.theories.now).lookups a.theory) c.requires.ordered (context_at s a.context.items) (tree_at s a.term) (tree_at s a.from) (tree_at s a.to) c.known_node-term.ensures.sorted c.requires.coercion.term.sort
          c.in_err-is_above.field-0.0 c.in_err-is_above.ensures.refused;
      kept = c.in_err-is_above.ensures.kept;
    })

pub returns-then-branch : goal.returns-then-branch
returns-then-branch g c =
    let t = g.T.Theories in
    let a = c.args in
    let s = (t.state a.theories.now).stored in
    let w = c.is_above.new.theories in
    record {
      ok = above_follows ((t.state a.theories.now).lookups a.theory) c.requires.ordered (t.state w).stored ((t.state w).declares a.theory) (context_at s a.context.items) (tree_at s a.term) (tree_at s a.from) (tree_at s a.to) c.known_node-term.ensures.sorted c.requires.coercion.term.sort
          (c.in_ok-is_above.ensures.ok ∙ ap (λ x. Ok x) c.if-branch.true);
      refused = tt;
      kept = c.in_ok-is_above.ensures.kept;
    }
