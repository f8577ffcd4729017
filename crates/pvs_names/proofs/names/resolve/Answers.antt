use Rattle.std.proofs.Common.{Some, sym, ap, subst, ◌∙◌}
use Rattle.pvs_instantiate.specs.InstancesView.{development}
use Rattle.pvs_names.specs.Qualifiers.{QualifierIn, qualifier_at}
use Rattle.pvs_names.proofs.PlaceLaws.{place_extends, actuals_extend, actuals_kept, resolved_is}
use Rattle.pvs_names.proofs.names.resolve.Goals as goal

pub resolve_qualified-requires-clause-actuals : goal.resolve_qualified-requires-clause-actuals
resolve_qualified-requires-clause-actuals g c =
    actuals_extend c.in-Some.qualifier.actuals c.in_ok-name.ensures.kept.store (subst (QualifierIn c.args.instances.now.store) c.in-Some.is c.requires)

pub returns-in-None-clause-resolved : goal.returns-in-None-clause-resolved
returns-in-None-clause-resolved g c sg i p =
    let x = c.in_ok-name.ensures.kept.store in
    let q = place_extends x p in
    let name = c.in_ok-name.ensures.ok in
    resolved_is _ _ (development c.args.instances.now) sg i c.args.kind (sym (ap (qualifier_at c.args.instances.now.store) c.in-None.is)) name.is
    (c.resolve_plain.ensures c.name.new.self.store (development c.args.instances.now) sg i (record { names = c.distinct.ensures.names; references = c.distinct.ensures.references }) name.name q.visible q.own)

pub returns-in-Some-clause-resolved : goal.returns-in-Some-clause-resolved
returns-in-Some-clause-resolved g c sg i p =
    let x = c.in_ok-name.ensures.kept.store in
    let name = c.in_ok-name.ensures.ok in
    resolved_is _ _ (development c.args.instances.now) sg i c.args.kind
    (ap (λ xs. Some (record { theory = c.in-Some.qualifier.theory.now; actuals = xs })) (actuals_kept c.in-Some.qualifier.actuals x (subst (QualifierIn c.args.instances.now.store) c.in-Some.is c.requires))
    ∙ sym (ap (qualifier_at c.args.instances.now.store) c.in-Some.is))
    name.is
    (c.resolve_qualified.ensures.resolved (development c.args.instances.now) sg i (place_extends x p))
