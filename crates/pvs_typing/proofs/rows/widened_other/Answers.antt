use Rattle.pvs_terms.specs.Stored.{tree_at}
use Rattle.pvs_terms.specs.declared.shape.Sort.TheVariants.{OfType}
use Rattle.pvs_types.specs.Outcome.{pure}
use Rattle.pvs_typing.proofs.GrowthLaws.{known_kept}
use Rattle.pvs_typing.proofs.JudgingLaws.{answers_then, pure_answers}
use Rattle.pvs_typing.proofs.rows.widened_other.Goals as goal

pub returns : goal.returns
returns g c =
    let h = c.in_ok-coerce_under.ensures in
    let t = g.T.Theories in
    record {
      answer = answers_then (λ _. pure (tree_at (t.state c.args.theories.now).stored c.args.common)) h.answer.is
          (pure_answers (tree_at (t.state c.coerce_under.new.theories).stored) (t.state c.coerce_under.new.theories).stored ((t.state c.coerce_under.new.theories).declares c.args.theory) c.coerce_under.new.conditions.items c.args.common (tree_at (t.state c.args.theories.now).stored c.args.common) h.answer.is.conditions (h.kept.stored.trees c.args.common c.requires.common.node));
      known = known_kept OfType c.args.common c.in_ok-coerce_under.ensures.kept c.requires.common;
      kept = h.kept;
    }
