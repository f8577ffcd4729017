use Rattle.std.proofs.Common.{◌∷◌}
use Rattle.pvs_terms.specs.Stored.{tree_at}
use Rattle.pvs_terms.specs.declared.shape.Sort.TheVariants.{OfType, OfTerm}
use Rattle.pvs_subst.specs.Contexts.{Hypothesis}
use Rattle.pvs_types.specs.Outcome.{from_result}
use Rattle.pvs_types.specs.Forms.{most}
use Rattle.pvs_typing.specs.code.Rows.{widened_to}
use Rattle.pvs_typing.proofs.GrowthLaws.{keeps_trans, known_kept}
use Rattle.pvs_typing.proofs.OwedLaws.{conditions_kept}
use Rattle.pvs_typing.proofs.JudgingLaws.{answers_fault, form_accepts, form_fault, given_kept, quiet_accepts, result_err, row6}
use Rattle.pvs_typing.proofs.rows.widened.Goals as goal

pub returns : goal.returns
returns g c =
    let h = c.in_ok-common.ensures in
    let r = c.requires in
    let t = g.T.Theories in
    let l = (t.state c.args.theories.now).lookups c.args.theory in
    record {
      answer = row6 (λ l g t n a b c d m. widened_to l (Hypothesis t ∷ g) (Hypothesis n ∷ g) a b c d m) c.args.g.now.items c.args.condition c.args.negation c.args.first c.args.second c.args.first_type c.args.second_type h.kept r.given.context r.condition r.negation r.first r.second r.first_type r.second_type
          (quiet_accepts c.args.conditions.now.items h.kept r.given.conditions (form_accepts (t.state c.most_of.new.theories).stored ((t.state c.most_of.new.theories).declares c.args.theory) (most l (tree_at (t.state c.args.theories.now).stored c.args.first_type)) (tree_at (t.state c.most_of.new.theories).stored c.in_ok-common.common) h.ok))
          c.widened_to.ensures.answer;
      known = c.widened_to.ensures.known;
      kept = keeps_trans c.in_ok-common.ensures.kept c.widened_to.ensures.kept;
    }

pub widened_to-requires-clause-given : goal.widened_to-requires-clause-given
widened_to-requires-clause-given g c =
    given_kept c.requires.given c.in_ok-common.ensures.kept (conditions_kept c.args.conditions.now.items c.in_ok-common.ensures.kept c.requires.given.conditions)

pub widened_to-requires-clause-condition : goal.widened_to-requires-clause-condition
widened_to-requires-clause-condition g c =
    known_kept OfTerm c.args.condition c.in_ok-common.ensures.kept c.requires.condition

pub widened_to-requires-clause-negation : goal.widened_to-requires-clause-negation
widened_to-requires-clause-negation g c =
    known_kept OfTerm c.args.negation c.in_ok-common.ensures.kept c.requires.negation

pub widened_to-requires-clause-first : goal.widened_to-requires-clause-first
widened_to-requires-clause-first g c =
    known_kept OfTerm c.args.first c.in_ok-common.ensures.kept c.requires.first

pub widened_to-requires-clause-second : goal.widened_to-requires-clause-second
widened_to-requires-clause-second g c =
    known_kept OfTerm c.args.second c.in_ok-common.ensures.kept c.requires.second

pub widened_to-requires-clause-first_type : goal.widened_to-requires-clause-first_type
widened_to-requires-clause-first_type g c =
    known_kept OfType c.args.first_type c.in_ok-common.ensures.kept c.requires.first_type

pub widened_to-requires-clause-second_type : goal.widened_to-requires-clause-second_type
widened_to-requires-clause-second_type g c =
    known_kept OfType c.args.second_type c.in_ok-common.ensures.kept c.requires.second_type

pub returns-in_err-common : goal.returns-in_err-common
returns-in_err-common g c =
    let l = (g.T.Theories.state c.args.theories.now).lookups c.args.theory in
    record {
      answer = answers_fault (from_result (most l (tree_at (g.T.Theories.state c.args.theories.now).stored c.args.first_type))) _ c.in_err-common.field-0.0 (result_err c.from_residual.result c.from_residual.ensures.1) (form_fault _ c.in_err-common.field-0.0 c.in_err-common.ensures.refused);
      known = rw (result_err c.from_residual.result c.from_residual.ensures.1) tt;
      kept = c.in_err-common.ensures.kept;
    }
