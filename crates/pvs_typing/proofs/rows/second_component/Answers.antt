use Rattle.std.proofs.Common.{[]}
use Rattle.pvs_terms.specs.declared.shape.Sort.TheVariants.{OfType}
use Rattle.pvs_subst.specs.Replace.{put_in}
use Rattle.pvs_types.specs.Outcome.{within_limits}
use Rattle.pvs_typing.proofs.GrowthLaws.{keeps_trans, known_kept}
use Rattle.pvs_typing.proofs.JudgingLaws.{made_accepts, made_answers, row1, made_known}
use Rattle.pvs_typing.proofs.rows.second_component.Goals as goal

pub returns : goal.returns
returns g c =
    let h = c.in_ok-first.ensures in
    record {
      answer = row1 (λ _ _ b f. within_limits (put_in b f)) [] c.args.second h.kept tt c.requires.second (made_accepts h.ok) (made_answers OfType _ c.substitute.result c.substitute.ensures.ok c.substitute.ensures.refused);
      known = made_known c.substitute.ensures;
      kept = keeps_trans c.in_ok-first.ensures.kept c.substitute.ensures.kept;
    }

pub substitute-requires-clause-body : goal.substitute-requires-clause-body
substitute-requires-clause-body g c =
    known_kept OfType c.args.second c.in_ok-first.ensures.kept c.requires.second
