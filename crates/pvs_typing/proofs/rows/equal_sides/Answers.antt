use Rattle.pvs_terms.specs.Stored.{tree_at}
use Rattle.pvs_terms.specs.declared.shape.Sort.TheVariants.{OfType, OfTerm}
use Rattle.pvs_types.specs.Outcome.{from_result}
use Rattle.pvs_types.specs.Forms.{most}
use Rattle.pvs_typing.specs.code.Rows.{equal_at}
use Rattle.pvs_typing.proofs.GrowthLaws.{keeps_trans, known_kept}
use Rattle.pvs_typing.proofs.OwedLaws.{conditions_kept}
use Rattle.pvs_typing.proofs.JudgingLaws.{answers_fault, form_accepts, form_fault, given_kept, quiet_accepts, result_err, row4}
use Rattle.pvs_typing.proofs.rows.equal_sides.Goals as goal

pub returns : goal.returns
returns g c =
    let h = c.in_ok-common.ensures in
    let r = c.requires in
    let t = g.T.Theories in
    let l = (t.state c.args.theories.now).lookups c.args.theory in
    record {
      answer = row4 (equal_at) c.args.g.now.items c.args.left c.args.right c.args.left_type c.args.right_type h.kept r.given.context r.left r.right r.left_type r.right_type
          (quiet_accepts c.args.conditions.now.items h.kept r.given.conditions (form_accepts (t.state c.most_of.new.theories).stored ((t.state c.most_of.new.theories).declares c.args.theory) (most l (tree_at (t.state c.args.theories.now).stored c.args.left_type)) (tree_at (t.state c.most_of.new.theories).stored c.in_ok-common.common) h.ok))
          c.equal_at.ensures.answer;
      known = c.equal_at.ensures.known;
      kept = keeps_trans c.in_ok-common.ensures.kept c.equal_at.ensures.kept;
    }

pub equal_at-requires-clause-given : goal.equal_at-requires-clause-given
equal_at-requires-clause-given g c =
    given_kept c.requires.given c.in_ok-common.ensures.kept (conditions_kept c.args.conditions.now.items c.in_ok-common.ensures.kept c.requires.given.conditions)

pub equal_at-requires-clause-left : goal.equal_at-requires-clause-left
equal_at-requires-clause-left g c =
    known_kept OfTerm c.args.left c.in_ok-common.ensures.kept c.requires.left

pub equal_at-requires-clause-right : goal.equal_at-requires-clause-right
equal_at-requires-clause-right g c =
    known_kept OfTerm c.args.right c.in_ok-common.ensures.kept c.requires.right

pub equal_at-requires-clause-left_type : goal.equal_at-requires-clause-left_type
equal_at-requires-clause-left_type g c =
    known_kept OfType c.args.left_type c.in_ok-common.ensures.kept c.requires.left_type

pub equal_at-requires-clause-right_type : goal.equal_at-requires-clause-right_type
equal_at-requires-clause-right_type g c =
    known_kept OfType c.args.right_type c.in_ok-common.ensures.kept c.requires.right_type

pub returns-in_err-common : goal.returns-in_err-common
returns-in_err-common g c =
    let l = (g.T.Theories.state c.args.theories.now).lookups c.args.theory in
    record {
      answer = answers_fault (from_result (most l (tree_at (g.T.Theories.state c.args.theories.now).stored c.args.left_type))) _ c.in_err-common.field-0.0 (result_err c.from_residual.result c.from_residual.ensures.1) (form_fault _ c.in_err-common.field-0.0 c.in_err-common.ensures.refused);
      known = rw (result_err c.from_residual.result c.from_residual.ensures.1) tt;
      kept = c.in_err-common.ensures.kept;
    }
