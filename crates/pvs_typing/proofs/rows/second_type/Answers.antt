use Rattle.std.proofs.Common.{[]}
use Rattle.pvs_terms.specs.Stored.{tree_at}
use Rattle.pvs_terms.specs.declared.shape.Sort.TheVariants.{OfTerm}
use Rattle.pvs_types.specs.Outcome.{from_result}
use Rattle.pvs_types.specs.Forms.{head}
use Rattle.pvs_types.specs.Typing.{tuple_of}
use Rattle.pvs_typing.specs.code.Rows.{second_component}
use Rattle.pvs_typing.proofs.GrowthLaws.{keeps_trans, known_kept}
use Rattle.pvs_typing.proofs.JudgingLaws.{answers_as, row1, then_assoc}
use Rattle.pvs_typing.proofs.rows.second_type.Goals as goal

pub returns : goal.returns
returns g c =
    let h = c.in_ok-parts.ensures in
    let t = g.T.Theories in
    let l = (t.state c.args.theories.now).lookups c.args.theory in
    record {
      answer = answers_as (then_assoc (from_result (head l (tree_at (t.state c.args.theories.now).stored c.args.ty))) (tuple_of c.args.components) _)
          (row1 (λ _ _ t p. second_component c.args.components t p.second) [] c.args.tuple h.kept tt c.requires.tuple h.answer.is c.second_component.ensures.answer);
      known = c.second_component.ensures.known;
      kept = keeps_trans c.in_ok-parts.ensures.kept c.second_component.ensures.kept;
    }

pub second_component-requires-clause-tuple : goal.second_component-requires-clause-tuple
second_component-requires-clause-tuple g c =
    known_kept OfTerm c.args.tuple c.in_ok-parts.ensures.kept c.requires.tuple
