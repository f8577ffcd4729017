use Rattle.pvs_terms.specs.declared.shape.Sort.TheVariants.{OfType, OfTerm}
use Rattle.pvs_terms.specs.Stored.{tree_at}
use Rattle.pvs_subst.specs.Replace.{put_in}
use Rattle.pvs_typing.proofs.GrowthLaws.{keeps_trans, known_kept}
use Rattle.pvs_typing.proofs.PartLaws.{gives_kept, both_fault}
use Rattle.pvs_typing.proofs.JudgingLaws.{result_err}
use Rattle.pvs_typing.proofs.parts.substitute_both.Goals as goal

pub substitute-requires-2-clause-body : goal.substitute-requires-2-clause-body
substitute-requires-2-clause-body g c = known_kept OfType c.args.second c.in_ok-first_made.ensures.kept c.requires.second

pub returns-in_err-second_made : goal.returns-in_err-second_made
returns-in_err-second_made g c =
    let s = (g.T.Theories.state c.args.theories.now).stored in
    rw (result_err c.from_residual-in_err-second_made.result c.from_residual-in_err-second_made.ensures.1) (record {
      first = tt;
      second = tt;
      refused = both_fault (put_in (tree_at s c.args.first) (tree_at s c.args.arg)) (put_in (tree_at s c.args.second) (tree_at s c.args.arg)) c.in_err-second_made.field-0.0 c.in_ok-first_made.ensures.ok.fits (rw (c.in_ok-first_made.ensures.kept.stored.trees c.args.second c.requires.second.node, c.in_ok-first_made.ensures.kept.stored.trees c.args.arg c.requires.arg.node) at c.in_err-second_made.ensures.refused);
      kept = keeps_trans c.in_ok-first_made.ensures.kept c.in_err-second_made.ensures.kept;
    })

pub returns : goal.returns
returns g c =
    record {
      first = gives_kept c.in_ok-second_made.ensures.kept c.in_ok-first_made.ensures.ok;
      second = rw (c.in_ok-first_made.ensures.kept.stored.trees c.args.second c.requires.second.node, c.in_ok-first_made.ensures.kept.stored.trees c.args.arg c.requires.arg.node) at c.in_ok-second_made.ensures.ok;
      refused = tt;
      kept = keeps_trans c.in_ok-first_made.ensures.kept c.in_ok-second_made.ensures.kept;
    }

pub substitute-requires-2-clause-arg : goal.substitute-requires-2-clause-arg
substitute-requires-2-clause-arg g c = known_kept OfTerm c.args.arg c.in_ok-first_made.ensures.kept c.requires.arg
