use Rattle.std.proofs.Common.{◌+◌, ◌≡◌, Some, None, ◌∙◌, sym}
use Rattle.pvs_terms.specs.Stored.{tree_at}
use Rattle.pvs_subst.specs.Replace.{lift}
use Rattle.pvs_subst.specs.Contexts.{context_at}
use Rattle.pvs_types.specs.Typing.{variable_infer}
use Rattle.pvs_typing.specs.code.Rows.{binder_at}
use Rattle.pvs_typing.proofs.PartLaws.{large_refused, subst_fault}
use Rattle.pvs_typing.proofs.JudgingLaws.{answers_as, made_accepts, result_err}
use Rattle.pvs_typing.proofs.RowLaws.{binder_known, lifted_by_gives, variable_none, variable_some}
use Rattle.pvs_typing.proofs.GrowthLaws.{keeps_none}
use Rattle.pvs_typing.proofs.rows.variable_type.Goals as goal

pub lift-requires : goal.lift-requires
lift-requires g c =
    let t = g.T.Theories in
    let s = (t.state c.args.theories.now).stored in
    let p = (t.state c.args.theories.now).declares c.args.theory in
    let items = c.args.g.now.items in
    let found : binder_at items c.args.index ≡ Some c.in-Some.ty = sym c.binder_at.ensures ∙ c.in-Some.is in
    (binder_known s p items c.args.index c.in-Some.ty c.requires.context found).node

pub returns-in-None : goal.returns-in-None
returns-in-None g c =
    let t = g.T.Theories in
    let s = (t.state c.args.theories.now).stored in
    let p = (t.state c.args.theories.now).declares c.args.theory in
    let items = c.args.g.now.items in
    let found : binder_at items c.args.index ≡ None = sym c.binder_at.ensures ∙ c.in-None.is in
    record {
      answer = record { is = variable_none s items c.args.index found };
      known = tt;
      kept = keeps_none _ _ _;
    }

pub returns-in_err-lifted-in-Some : goal.returns-in_err-lifted-in-Some
returns-in_err-lifted-in-Some g c =
    let t = g.T.Theories in
    let s = (t.state c.args.theories.now).stored in
    let p = (t.state c.args.theories.now).declares c.args.theory in
    let items = c.args.g.now.items in
    let found : binder_at items c.args.index ≡ Some c.in-Some.ty = sym c.binder_at.ensures ∙ c.in-Some.is in
    let large = variable_some s items c.args.index c.in-Some.ty found in
    record {
      answer = rw (result_err c.from_residual.result c.from_residual.ensures.1) (record {
        is = subst_fault (variable_infer c.args.index (context_at s items)) c.in_err-lifted-in-Some.field-0.0
            (λ h. large ∙ large_refused (lift (tree_at s c.in-Some.ty) (c.args.index + 1) 0) (c.in_err-lifted-in-Some.ensures.large h));
      });
      known = rw (result_err c.from_residual.result c.from_residual.ensures.1) tt;
      kept = c.in_err-lifted-in-Some.ensures.kept c.args.theory c.requires.theory;
    }

pub returns-in_ok-lifted-in-Some : goal.returns-in_ok-lifted-in-Some
returns-in_ok-lifted-in-Some g c =
    let t = g.T.Theories in
    let s = (t.state c.args.theories.now).stored in
    let p = (t.state c.args.theories.now).declares c.args.theory in
    let items = c.args.g.now.items in
    let found : binder_at items c.args.index ≡ Some c.in-Some.ty = sym c.binder_at.ensures ∙ c.in-Some.is in
    let h = c.in_ok-lifted-in-Some.ensures in
    let made = lifted_by_gives (c.args.index + 1) c.in-Some.ty c.in_ok-lifted-in-Some.lifted (h.kept c.args.theory c.requires.theory) (binder_known s p items c.args.index c.in-Some.ty c.requires.context found) h.ok in
    record {
      answer = answers_as (sym (variable_some s items c.args.index c.in-Some.ty found)) (record { is = made_accepts made });
      known = (lifted_by_gives (c.args.index + 1) c.in-Some.ty c.in_ok-lifted-in-Some.lifted (h.kept c.args.theory c.requires.theory) (binder_known s p items c.args.index c.in-Some.ty c.requires.context found) h.ok).known;
      kept = h.kept c.args.theory c.requires.theory;
    }
