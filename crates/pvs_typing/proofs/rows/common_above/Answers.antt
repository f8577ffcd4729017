use Rattle.std.proofs.Common.{ap, ◌∙◌}
use Rattle.pvs_terms.specs.Stored.{tree_at}
use Rattle.pvs_terms.specs.declared.shape.Sort.TheVariants.{OfType}
use Rattle.pvs_types.specs.Outcome.{from_result}
use Rattle.pvs_types.specs.Forms.{up, first_among}
use Rattle.pvs_typing.specs.Growth.{all_at}
use Rattle.pvs_typing.proofs.GrowthLaws.{all_kept, keeps_trans, known_kept, trees_kept}
use Rattle.pvs_typing.proofs.JudgingLaws.{accepts_pure, answers_fault, form_fault, result_err}
use Rattle.pvs_typing.proofs.RowLaws.{common_at, common_fault}
use Rattle.pvs_typing.proofs.rows.common_above.Goals as goal

pub returns : goal.returns
returns g c =
    let t = g.T.Theories in
    let h1 = c.in_ok-above_first.ensures in
    let h2 = c.in_ok-above_second.ensures in
    let s = (t.state c.args.theories.now).stored in
    let u = (t.state c.up_of-2.new.theories).stored in
    let l = (t.state c.args.theories.now).lookups c.args.theory in
    let second = rw (h1.kept.lookups, h1.kept.stored.trees c.args.second c.requires.second.node) at h2.ok in
    record {
      answer = record {
        is = accepts_pure u ((t.state c.up_of-2.new.theories).declares c.args.theory) _ _ (common_at l (tree_at s c.args.first) (tree_at s c.args.second) _ _ _ h1.ok second
            ((rw (c.deref.ensures.value, c.deref-2.ensures.value) at c.first_common.ensures.first) ∙ ap (λ x. first_among x (all_at u c.in_ok-above_second.above_second.items)) (trees_kept OfType c.in_ok-above_first.above_first.items h2.kept h1.known)));
      };
      known = c.first_common.ensures.known;
      kept = keeps_trans c.in_ok-above_first.ensures.kept c.in_ok-above_second.ensures.kept;
    }

pub returns-in_err-above_first : goal.returns-in_err-above_first
returns-in_err-above_first g c =
    let l = (g.T.Theories.state c.args.theories.now).lookups c.args.theory in
    record {
      answer = answers_fault (from_result (up l (tree_at (g.T.Theories.state c.args.theories.now).stored c.args.first))) _ c.in_err-above_first.field-0.0 (result_err c.from_residual.result c.from_residual.ensures.1) (form_fault _ c.in_err-above_first.field-0.0 c.in_err-above_first.ensures.refused);
      known = rw (result_err c.from_residual.result c.from_residual.ensures.1) tt;
      kept = c.in_err-above_first.ensures.kept;
    }

pub returns-in_err-above_second : goal.returns-in_err-above_second
returns-in_err-above_second g c =
    let t = g.T.Theories in
    let l = (t.state c.args.theories.now).lookups c.args.theory in
    let s = (t.state c.args.theories.now).stored in
    let h1 = c.in_ok-above_first.ensures in
    let p = result_err c.from_residual-in_err-above_second.result c.from_residual-in_err-above_second.ensures.1 in
    record {
      answer = rw p (record { is = common_fault l (tree_at s c.args.first) (tree_at s c.args.second) _ c.in_err-above_second.field-0.0 h1.ok (rw (h1.kept.lookups, h1.kept.stored.trees c.args.second c.requires.second.node) at c.in_err-above_second.ensures.refused) });
      known = rw (result_err c.from_residual-in_err-above_second.result c.from_residual-in_err-above_second.ensures.1) tt;
      kept = keeps_trans c.in_ok-above_first.ensures.kept c.in_err-above_second.ensures.kept;
    }

pub up_of-requires-2-clause-ty : goal.up_of-requires-2-clause-ty
up_of-requires-2-clause-ty g c =
    known_kept OfType c.args.second c.in_ok-above_first.ensures.kept c.requires.second

pub first_common-requires-clause-types : goal.first_common-requires-clause-types
first_common-requires-clause-types g c =
    rw c.deref.ensures.value (all_kept OfType c.in_ok-above_first.above_first.items c.in_ok-above_second.ensures.kept c.in_ok-above_first.ensures.known)
