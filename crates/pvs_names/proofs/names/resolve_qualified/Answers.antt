use Rattle.std.proofs.Common.{Some, refl, sym, ap, subst, ◌∙◌}
use Rattle.pvs_names.specs.Qualifiers.{AreActualsIn, actuals_at}
use Rattle.pvs_names.proofs.PlaceLaws.{place_extends, actuals_extend, actuals_kept, qualified_is}
use Rattle.pvs_names.proofs.names.resolve_qualified.Goals as goal

pub resolve_in_instance-requires-clause-actuals : goal.resolve_in_instance-requires-clause-actuals
resolve_in_instance-requires-clause-actuals g c =
    (actuals_extend (Some c.in-Some.actuals) c.in_ok-theory.ensures.kept.store (subst (AreActualsIn c.args.instances.now.store) c.in-Some.is c.requires.actuals)).0

pub resolve_in_instance-requires-clause-closed : goal.resolve_in_instance-requires-clause-closed
resolve_in_instance-requires-clause-closed g c =
    (actuals_extend (Some c.in-Some.actuals) c.in_ok-theory.ensures.kept.store (subst (AreActualsIn c.args.instances.now.store) c.in-Some.is c.requires.actuals)).1

pub returns-in-None-clause-resolved : goal.returns-in-None-clause-resolved
returns-in-None-clause-resolved g c d sg i p =
    let x = c.in_ok-theory.ensures.kept.store in
    let th = c.in_ok-theory.ensures.ok in
    qualified_is _ _ d sg i c.args.kind th.is (sym (ap (actuals_at c.args.instances.now.store) c.in-None.is)) (x.texts c.args.name c.requires.name)
    (c.resolve_in_theory.ensures c.name.new.self.store d sg i (record { names = c.distinct.ensures.names; references = c.distinct.ensures.references }) th.name (x.names c.args.name c.requires.name) (place_extends x p))

pub returns-in-Some-clause-resolved : goal.returns-in-Some-clause-resolved
returns-in-Some-clause-resolved g c d sg i p =
    let x = c.in_ok-theory.ensures.kept.store in
    let th = c.in_ok-theory.ensures.ok in
    qualified_is _ _ d sg i c.args.kind th.is
    (actuals_kept (Some c.in-Some.actuals) x (subst (AreActualsIn c.args.instances.now.store) c.in-Some.is c.requires.actuals) ∙ sym (ap (actuals_at c.args.instances.now.store) c.in-Some.is))
    (x.texts c.args.name c.requires.name)
    (c.resolve_in_instance.ensures.resolved d sg i (place_extends x p))
