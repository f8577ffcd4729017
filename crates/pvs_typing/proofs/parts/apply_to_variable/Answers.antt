use Rattle.pvs_terms.specs.Tree.{Var, App}
use Rattle.pvs_terms.specs.Stored.{tree_at}
use Rattle.pvs_types.specs.Outcome.{within_limits}
use Rattle.pvs_types.specs.Coerce.{lift_one}
use Rattle.pvs_typing.proofs.GrowthLaws.{keeps_trans}
use Rattle.pvs_typing.proofs.PartLaws.{applied_sorts, applied_gives, applied_large, make_fault, variable_fits}
use Rattle.pvs_typing.proofs.JudgingLaws.{result_err}
use Rattle.pvs_typing.proofs.parts.apply_to_variable.Goals as goal

pub returns-in_err-variable : goal.returns-in_err-variable
returns-in_err-variable g c =
    let k1 = c.in_ok-function.ensures.kept c.args._theory c.requires.theory in
    rw (result_err c.from_residual-in_err-variable.result c.from_residual-in_err-variable.ensures.1) (record {
      ok = tt;
      refused = make_fault (within_limits (App (lift_one (tree_at (g.T.Theories.state c.args.theories.now).stored c.args.term)) (Var 0))) c.in_err-variable.field-0.0 (λ h. absurd (c.in_err-variable.ensures.large h variable_fits));
      kept = keeps_trans k1 (c.in_err-variable.ensures.kept c.args._theory (k1.stored.names c.args._theory c.requires.theory));
    })

pub make-requires-2-clause-sorted : goal.make-requires-2-clause-sorted
make-requires-2-clause-sorted g c =
    let t = g.T.Theories in
    let k1 = c.in_ok-function.ensures.kept c.args._theory c.requires.theory in
    let k2 = c.in_ok-variable.ensures.kept c.args._theory (k1.stored.names c.args._theory c.requires.theory) in
    let a = applied_sorts (t.state c.args.theories.now).stored ((t.state c.args.theories.now).declares c.args._theory) c.args.term c.in_ok-function.function c.in_ok-variable.variable k2 c.requires.term c.in_ok-function.ensures.ok c.in_ok-variable.ensures.ok in
    (tt, a.0, a.1)

pub returns : goal.returns
returns g c =
    let n = c.args._theory in
    let k1 = c.in_ok-function.ensures.kept n c.requires.theory in
    let k2 = c.in_ok-variable.ensures.kept n (k1.stored.names n c.requires.theory) in
    let k3 = c.in_ok-applied.ensures.kept n (k2.stored.names n (k1.stored.names n c.requires.theory)) in
    record {
      ok = applied_gives c.args.term c.in_ok-function.function c.in_ok-variable.variable c.in_ok-applied.applied k1 k2 k3 c.requires.term c.in_ok-function.ensures.ok c.in_ok-variable.ensures.ok c.in_ok-applied.ensures.ok;
      refused = tt;
      kept = keeps_trans (keeps_trans k1 k2) k3;
    }

pub returns-in_err-applied : goal.returns-in_err-applied
returns-in_err-applied g c =
    let n = c.args._theory in
    let s = (g.T.Theories.state c.args.theories.now).stored in
    let k1 = c.in_ok-function.ensures.kept n c.requires.theory in
    let k2 = c.in_ok-variable.ensures.kept n (k1.stored.names n c.requires.theory) in
    let k3 = c.in_err-applied.ensures.kept n (k2.stored.names n (k1.stored.names n c.requires.theory)) in
    rw (result_err c.from_residual-in_err-applied.result c.from_residual-in_err-applied.ensures.1) (record {
      ok = tt;
      refused = make_fault (within_limits (App (lift_one (tree_at s c.args.term)) (Var 0))) c.in_err-applied.field-0.0
          (λ h. applied_large s c.args.term c.in_ok-function.function c.in_ok-variable.variable k2 c.in_ok-function.ensures.ok c.in_ok-variable.ensures.ok (c.in_err-applied.ensures.large h));
      kept = keeps_trans (keeps_trans k1 k2) k3;
    })
