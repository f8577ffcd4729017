use Rattle.std.specs.Prelude.{Some, None}
use Rattle.pvs_typing.specs.Growth.{all_at}
use Rattle.pvs_elaboration.specs.Known.{place_in}
use Rattle.pvs_elaboration.specs.Meanings.{fault_of}
use Rattle.pvs_elaboration.proofs.KnownLaws.{here_stays, number_stays}
use Rattle.pvs_elaboration.proofs.ListingLaws.{failed_or_memory}
use Rattle.pvs_elaboration.proofs.JoinLaws.{first_type_refused, second_type_refused, types_shared, types_apart, shared_kept, shared_fault_kept, result_err}
use Rattle.pvs_elaboration.proofs.join.join_types.Goals as goal

pub returns-in-Err : goal.returns-in-Err
returns-in-Err g c =
    let a = c.args in
    λ t i l n.
    let at = place_in t a.branches.first_at in
    failed_or_memory _ (fault_of at at c.in-Err.fault) c.fault_of.result (c.fault_of.ensures t l)
    (first_type_refused t a.here.now a.branches a.condition a.first a.negation a.second i c.in-Err.fault c.up.ensures.kept c.in-Err.ensures.refused)

pub first_shared-requires-clause-here : goal.first_shared-requires-clause-here
first_shared-requires-clause-here g c = here_stays c.up.ensures.kept c.requires.here

pub first_shared-requires-clause-second : goal.first_shared-requires-clause-second
first_shared-requires-clause-second g c = number_stays c.up.ensures.kept c.requires.row.1.1.1.1.1.0

pub returns-in_err-ty : goal.returns-in_err-ty
returns-in_err-ty g c =
    let a = c.args in
    let m = g.S.Scope.known c.up.new.self in
    let e = c.in_err-ty.field-0.0 in
    λ t i l n.
    let us = all_at m.stored c.in-Ok.types.items in
    let f = rw c.as_slice.ensures.value at (c.in_err-ty.ensures t l) in
    rw (result_err c.from_residual.result c.from_residual.ensures.1)
    (second_type_refused t a.here.now a.branches a.condition a.first a.negation a.second i us e c.in-Ok.ensures.ok.1
    (shared_fault_kept (place_in t a.branches.second_at) us e c.up.ensures.kept c.requires.row.1.1.1.1.1.0 f))

pub returns-in-Some : goal.returns-in-Some
returns-in-Some g c =
    let a = c.args in
    let m = g.S.Scope.known c.up.new.self in
    λ t i l n.
    let us = all_at m.stored c.in-Ok.types.items in
    let f = rw (c.as_slice.ensures.value, c.in-Some.is) at (c.in_ok-ty.ensures t l) in
    let s = shared_kept (place_in t a.branches.second_at) us (Some c.in-Some.ty) c.up.ensures.kept c.requires.row.1.1.1.1.1.0 f in
    rw c.give_to.ensures (types_shared t a.here.now a.branches a.condition a.first a.negation a.second i c.in-Some.ty us s.kept c.requires.here c.requires.row s.known c.in-Ok.ensures.ok.1 s.is)

pub returns : goal.returns
returns g c =
    let a = c.args in
    let m = g.S.Scope.known c.up.new.self in
    λ t i l n.
    let us = all_at m.stored c.in-Ok.types.items in
    let f = rw (c.as_slice.ensures.value, c.in-None.is) at (c.in_ok-ty.ensures t l) in
    let s = shared_kept (place_in t a.branches.second_at) us None c.up.ensures.kept c.requires.row.1.1.1.1.1.0 f in
    rw c.give_to-in-None.ensures (types_apart t a.here.now a.branches a.condition a.first a.negation a.second i us s.kept c.requires.here c.requires.row c.in-Ok.ensures.ok.1 s.is)
