use Rattle.std.proofs.Common.{ap, sym, subst}
use Rattle.pvs_terms.specs.Stored.{tree_at}
use Rattle.pvs_subst.specs.Contexts.{context_at}
use Rattle.pvs_types.specs.Coerce.{coerce}
use Rattle.pvs_typing.specs.Growth.{IsKnownContext}
use Rattle.pvs_typing.proofs.JudgingLaws.{answers_as, coercion_answers}
use Rattle.pvs_typing.proofs.rows.coerce_under.Goals as goal

pub coerce_of-requires-clause-context : goal.coerce_of-requires-clause-context
coerce_of-requires-clause-context g c =
    subst (IsKnownContext (g.T.Theories.state c.args.theories.now).stored ((g.T.Theories.state c.args.theories.now).declares c.args.theory)) (sym c.in_ok-inner.ensures) (c.requires.hypothesis, c.requires.given.context)

pub returns : goal.returns
returns g c =
    let t = g.T.Theories in
    let s = (t.state c.args.theories.now).stored in
    let l = (t.state c.args.theories.now).lookups c.args.theory in
    record {
      answer = answers_as (ap (λ x. coerce l (context_at s x) (tree_at s c.args.term) (tree_at s c.args.from) (tree_at s c.args.to)) c.in_ok-inner.ensures)
          (coercion_answers c.coerce_of.result c.coerce_of.ensures.ok c.coerce_of.ensures.known c.coerce_of.ensures.refused);
      kept = c.coerce_of.ensures.kept;
    }
