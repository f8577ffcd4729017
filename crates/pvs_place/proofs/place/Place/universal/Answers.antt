use Rattle.std.proofs.Common.{subst, sym}
use Rattle.pvs_terms.specs.Tree.{IsWithinLimits}
use Rattle.pvs_terms.specs.Stored.{tree_at}
use Rattle.pvs_typing.proofs.JudgingLaws.{result_err}
use Rattle.pvs_elab.specs.Elab.{universal}
use Rattle.pvs_elaboration.proofs.KnownLaws.{grows_trans}
use Rattle.pvs_place.proofs.ExistenceLaws.{always_part, equation_is, makes_last, makes_none}
use Rattle.pvs_place.proofs.place.Place.universal.Goals as goal

pub returns-in_err-always : goal.returns-in_err-always
returns-in_err-always g c =
    let s = c.args.self.now.store in
    let k = c.in_ok-predicate.ensures.kept in
    rw (result_err c.from_residual-in_err-always.result c.from_residual-in_err-always.ensures.1)
    (makes_none (universal (tree_at s c.args.ty) (tree_at s c.args.property)) c.in_err-always.field-0.0 k c.in_err-always.ensures (always_part c.args.ty c.args.property c.requires.here c.requires.ty k))

pub returns-in_err-equation : goal.returns-in_err-equation
returns-in_err-equation g c =
    let s = c.args.self.now.store in
    let p = c.in_ok-predicate in
    let q = c.in_ok-always in
    rw (result_err c.from_residual-in_err-equation.result c.from_residual-in_err-equation.ensures.1)
    (makes_none (universal (tree_at s c.args.ty) (tree_at s c.args.property)) c.in_err-equation.field-0.0 (grows_trans p.ensures.kept q.ensures.kept) c.in_err-equation.ensures
    (subst IsWithinLimits (sym (equation_is c.args.ty c.args.property c.requires.here c.requires.ty p.ensures.kept p.predicate q.always q.ensures.kept p.ensures.ok q.ensures.ok))))

pub returns : goal.returns
returns g c =
    let p = c.in_ok-predicate in
    let q = c.in_ok-always in
    makes_last (grows_trans p.ensures.kept q.ensures.kept) c.in_ok-equation.ensures (equation_is c.args.ty c.args.property c.requires.here c.requires.ty p.ensures.kept p.predicate q.always q.ensures.kept p.ensures.ok q.ensures.ok)
