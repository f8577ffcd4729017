use Rattle.pvs_terms.specs.declared.shape.Sort.TheVariants.{OfType}
use Rattle.pvs_terms.specs.Stored.{tree_at}
use Rattle.pvs_types.specs.Coerce.{lift_one}
use Rattle.pvs_typing.proofs.GrowthLaws.{keeps_trans, known_kept}
use Rattle.pvs_typing.proofs.PartLaws.{gives_kept, both_fault}
use Rattle.pvs_typing.proofs.JudgingLaws.{result_err}
use Rattle.pvs_typing.proofs.parts.lift_both.Goals as goal

pub lift_type-requires-2-clause-id : goal.lift_type-requires-2-clause-id
lift_type-requires-2-clause-id g c = known_kept OfType c.args.second c.in_ok-lifted_first.ensures.kept c.requires.second

pub returns-in_err-lifted_second : goal.returns-in_err-lifted_second
returns-in_err-lifted_second g c =
    let s = (g.T.Theories.state c.args.theories.now).stored in
    rw (result_err c.from_residual-in_err-lifted_second.result c.from_residual-in_err-lifted_second.ensures.1) (record {
      first = tt;
      second = tt;
      refused = both_fault (lift_one (tree_at s c.args.first)) (lift_one (tree_at s c.args.second)) c.in_err-lifted_second.field-0.0 c.in_ok-lifted_first.ensures.ok.fits (rw (c.in_ok-lifted_first.ensures.kept.stored.trees c.args.second c.requires.second.node) at c.in_err-lifted_second.ensures.refused);
      kept = keeps_trans c.in_ok-lifted_first.ensures.kept c.in_err-lifted_second.ensures.kept;
    })

pub returns : goal.returns
returns g c =
    record {
      first = gives_kept c.in_ok-lifted_second.ensures.kept c.in_ok-lifted_first.ensures.ok;
      second = rw (c.in_ok-lifted_first.ensures.kept.stored.trees c.args.second c.requires.second.node) at c.in_ok-lifted_second.ensures.ok;
      refused = tt;
      kept = keeps_trans c.in_ok-lifted_first.ensures.kept c.in_ok-lifted_second.ensures.kept;
    }
