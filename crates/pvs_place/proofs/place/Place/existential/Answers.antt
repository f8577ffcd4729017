use Rattle.std.proofs.Common.{subst, sym}
use Rattle.pvs_terms.specs.Tree.{IsWithinLimits}
use Rattle.pvs_terms.specs.Stored.{tree_at}
use Rattle.pvs_typing.proofs.JudgingLaws.{result_err}
use Rattle.pvs_elab.specs.Declaration.{existential}
use Rattle.pvs_elaboration.proofs.KnownLaws.{grows_trans, here_stays}
use Rattle.pvs_place.proofs.ExistenceLaws.{empty_part, inhabited_is, makes_last, makes_none}
use Rattle.pvs_place.proofs.place.Place.existential.Goals as goal

pub universal-requires-clause-here : goal.universal-requires-clause-here
universal-requires-clause-here g c = here_stays c.in_ok-never.ensures.kept c.requires.here

pub negation-requires-2-clause-here : goal.negation-requires-2-clause-here
negation-requires-2-clause-here g c = here_stays (grows_trans c.in_ok-never.ensures.kept c.in_ok-empty.ensures.kept) c.requires.here

pub returns-in_err-empty : goal.returns-in_err-empty
returns-in_err-empty g c =
    let n = c.in_ok-never in
    rw (result_err c.from_residual-in_err-empty.result c.from_residual-in_err-empty.ensures.1)
    (makes_none (existential (tree_at c.args.self.now.store c.args.ty)) c.in_err-empty.field-0.0 n.ensures.kept c.in_err-empty.ensures (empty_part c.args.ty n.never c.requires.here c.requires.ty n.ensures.kept n.ensures.ok))

pub returns-in_err-inhabited : goal.returns-in_err-inhabited
returns-in_err-inhabited g c =
    let n = c.in_ok-never in
    let m = c.in_ok-empty in
    rw (result_err c.from_residual-in_err-inhabited.result c.from_residual-in_err-inhabited.ensures.1)
    (makes_none (existential (tree_at c.args.self.now.store c.args.ty)) c.in_err-inhabited.field-0.0 (grows_trans n.ensures.kept m.ensures.kept) c.in_err-inhabited.ensures
    (subst IsWithinLimits (sym (inhabited_is c.args.ty n.never c.requires.here c.requires.ty n.ensures.kept n.ensures.ok m.empty m.ensures.ok))))

pub returns : goal.returns
returns g c =
    let n = c.in_ok-never in
    let m = c.in_ok-empty in
    makes_last (grows_trans n.ensures.kept m.ensures.kept) c.in_ok-inhabited.ensures (inhabited_is c.args.ty n.never c.requires.here c.requires.ty n.ensures.kept n.ensures.ok m.empty m.ensures.ok)
