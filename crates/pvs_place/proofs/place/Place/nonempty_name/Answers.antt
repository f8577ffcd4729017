use Rattle.std.proofs.Common.{◌∙◌, sym}
use Rattle.std.proofs.lemmas.Result.{err_from_is_err_and}
use Rattle.pvs_terms.specs.Stored.{ref_at}
use Rattle.pvs_instantiate.specs.InstancesView.{development}
use Rattle.pvs_place.specs.Place.{IsDeclaredIn, lookups_in}
use Rattle.pvs_place.proofs.NonemptyLaws.{body_fault, body_reduces, declared_reduces, undeclared_reduces}
use Rattle.pvs_place.proofs.place.Place.nonempty_name.Goals as goal

pub returns-in-Some-clause-ok : goal.returns-in-Some-clause-ok
returns-in-Some-clause-ok g c =
    let v = c.args.self.now in
    let w = c.body_of.new.self in
    body_reduces (lookups_in (development v)) c.ordered.ensures w.store (IsDeclaredIn (development w)) (ref_at v.store c.args.r) c.in-Some.body (rw c.in-Some.is at c.in_ok-body.ensures.ok) (rw c.in-Some.is at c.in_ok-body.ensures.known)

pub returns-in-None-clause-ok : goal.returns-in-None-clause-ok
returns-in-None-clause-ok g c =
    let v = c.args.self.now in
    let w = c.body_of.new.self in
    declared_reduces (lookups_in (development v)) c.ordered.ensures w.store (IsDeclaredIn (development w)) (ref_at v.store c.args.r) (rw c.in-None.is at c.in_ok-body.ensures.ok)
    (sym c.if-is_nonempty.true ∙ (rw c.self.view_is at c.is_nonempty_reference-is_nonempty.ensures))

pub returns-in-None-2-clause-ok : goal.returns-in-None-2-clause-ok
returns-in-None-2-clause-ok g c =
    let v = c.args.self.now in
    let w = c.body_of.new.self in
    undeclared_reduces (lookups_in (development v)) c.ordered.ensures w.store (IsDeclaredIn (development w)) (ref_at v.store c.args.r) (rw c.in-None-2.is at c.in_ok-body.ensures.ok)
    (sym c.if-is_nonempty.false ∙ (rw c.self.view_is at c.is_nonempty_reference-is_nonempty.ensures))

pub returns-in_err-body-clause-refused : goal.returns-in_err-body-clause-refused
returns-in_err-body-clause-refused g c =
    let v = c.args.self.now in
    let p = err_from_is_err_and c.from_residual.result c.from_residual.ensures.1 in
    rw (p.1, p.2) (body_fault (lookups_in (development v)) c.ordered.ensures (ref_at v.store c.args.r) c.in_err-body.field-0.0 c.in_err-body.ensures.large)
