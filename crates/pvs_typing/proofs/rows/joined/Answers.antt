use Rattle.std.proofs.Common.{◌∷◌, refl, sym}
use Rattle.pvs_terms.specs.Stored.{tree_at}
use Rattle.pvs_terms.specs.declared.shape.Sort.TheVariants.{OfType, OfTerm}
use Rattle.pvs_subst.specs.Contexts.{Hypothesis, context_at}
use Rattle.pvs_types.specs.Typing.{common_type}
use Rattle.pvs_typing.specs.code.Rows.{common_above}
use Rattle.pvs_typing.proofs.GrowthLaws.{keeps_trans, known_kept}
use Rattle.pvs_typing.proofs.OwedLaws.{conditions_kept}
use Rattle.pvs_typing.proofs.JudgingLaws.{answers_as, answers_fault, answers_then, given_kept, pure_answers, quiet_accepts, result_err, row6}
use Rattle.pvs_typing.proofs.RowLaws.{joined_common}
use Rattle.pvs_typing.proofs.rows.joined.Goals as goal

pub returns-in-Some : goal.returns-in-Some
returns-in-Some g c =
    let h = c.in_ok-above.ensures in
    let r = c.requires in
    let t = g.T.Theories in
    let l = (t.state c.args.theories.now).lookups c.args.theory in
    let s = (t.state c.args.theories.now).stored in
    let u = (t.state c.common_above.new.theories).stored in
    let x = quiet_accepts c.args.conditions.now.items h.kept r.given.conditions h.answer.is in
    let jc = joined_common l (Hypothesis (tree_at s c.args.condition) ∷ context_at s c.args.g.now.items) (Hypothesis (tree_at s c.args.negation) ∷ context_at s c.args.g.now.items) (tree_at s c.args.first) (tree_at s c.args.second) (tree_at s c.args.first_type) (tree_at s c.args.second_type) in
    let y = rw c.in-Some.is at x in
    record {
      answer = answers_as (sym jc) (answers_then (common_type l (Hypothesis (tree_at s c.args.condition) ∷ context_at s c.args.g.now.items) (Hypothesis (tree_at s c.args.negation) ∷ context_at s c.args.g.now.items) (tree_at s c.args.first) (tree_at s c.args.second) (tree_at s c.args.first_type) (tree_at s c.args.second_type)) y
          (pure_answers (tree_at u) u ((t.state c.common_above.new.theories).declares c.args.theory) c.args.conditions.now.items c.in-Some.ty (tree_at u c.in-Some.ty) (conditions_kept c.args.conditions.now.items h.kept r.given.conditions) refl));
      known = rw c.in-Some.is at h.known;
      kept = h.kept;
    }

pub returns-in-None : goal.returns-in-None
returns-in-None g c =
    let h = c.in_ok-above.ensures in
    let r = c.requires in
    let t = g.T.Theories in
    let l = (t.state c.args.theories.now).lookups c.args.theory in
    let s = (t.state c.args.theories.now).stored in
    let u = (t.state c.common_above.new.theories).stored in
    let x = quiet_accepts c.args.conditions.now.items h.kept r.given.conditions h.answer.is in
    let jc = joined_common l (Hypothesis (tree_at s c.args.condition) ∷ context_at s c.args.g.now.items) (Hypothesis (tree_at s c.args.negation) ∷ context_at s c.args.g.now.items) (tree_at s c.args.first) (tree_at s c.args.second) (tree_at s c.args.first_type) (tree_at s c.args.second_type) in
    let y = rw c.in-None.is at x in
    record {
      answer = answers_as (sym jc) (row6 (λ l g t n a b c d o. common_type l (Hypothesis t ∷ g) (Hypothesis n ∷ g) a b c d o) c.args.g.now.items c.args.condition c.args.negation c.args.first c.args.second c.args.first_type c.args.second_type h.kept r.given.context r.condition r.negation r.first r.second r.first_type r.second_type y c.widened.ensures.answer);
      known = c.widened.ensures.known;
      kept = keeps_trans c.in_ok-above.ensures.kept c.widened.ensures.kept;
    }

pub widened-requires-clause-given : goal.widened-requires-clause-given
widened-requires-clause-given g c =
    given_kept c.requires.given c.in_ok-above.ensures.kept (conditions_kept c.args.conditions.now.items c.in_ok-above.ensures.kept c.requires.given.conditions)

pub widened-requires-clause-condition : goal.widened-requires-clause-condition
widened-requires-clause-condition g c =
    known_kept OfTerm c.args.condition c.in_ok-above.ensures.kept c.requires.condition

pub widened-requires-clause-negation : goal.widened-requires-clause-negation
widened-requires-clause-negation g c =
    known_kept OfTerm c.args.negation c.in_ok-above.ensures.kept c.requires.negation

pub widened-requires-clause-first : goal.widened-requires-clause-first
widened-requires-clause-first g c =
    known_kept OfTerm c.args.first c.in_ok-above.ensures.kept c.requires.first

pub widened-requires-clause-second : goal.widened-requires-clause-second
widened-requires-clause-second g c =
    known_kept OfTerm c.args.second c.in_ok-above.ensures.kept c.requires.second

pub widened-requires-clause-first_type : goal.widened-requires-clause-first_type
widened-requires-clause-first_type g c =
    known_kept OfType c.args.first_type c.in_ok-above.ensures.kept c.requires.first_type

pub widened-requires-clause-second_type : goal.widened-requires-clause-second_type
widened-requires-clause-second_type g c =
    known_kept OfType c.args.second_type c.in_ok-above.ensures.kept c.requires.second_type

pub returns-in_err-above : goal.returns-in_err-above
returns-in_err-above g c =
    let s = (g.T.Theories.state c.args.theories.now).stored in
    let l = (g.T.Theories.state c.args.theories.now).lookups c.args.theory in
    let jc = joined_common l (Hypothesis (tree_at s c.args.condition) ∷ context_at s c.args.g.now.items) (Hypothesis (tree_at s c.args.negation) ∷ context_at s c.args.g.now.items) (tree_at s c.args.first) (tree_at s c.args.second) (tree_at s c.args.first_type) (tree_at s c.args.second_type) in
    record {
      answer = answers_as (sym jc) (answers_fault (common_above l (tree_at s c.args.first_type) (tree_at s c.args.second_type)) _ c.in_err-above.field-0.0 (result_err c.from_residual.result c.from_residual.ensures.1) c.in_err-above.ensures.answer.is);
      known = rw (result_err c.from_residual.result c.from_residual.ensures.1) tt;
      kept = c.in_err-above.ensures.kept;
    }
