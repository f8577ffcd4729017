use Rattle.std.proofs.Common.{subst}
use Rattle.pvs_terms.specs.Stored.{text_at, trees_at}
use Rattle.pvs_names.specs.Answer.{Resolves}
use Rattle.pvs_names.specs.Resolve.{resolve_by_instance}
use Rattle.pvs_names.proofs.PlaceLaws.{place_extends}
use Rattle.pvs_names.proofs.names.resolve_in_instance.Goals as goal

pub returns-in-Ok-clause-resolved : goal.returns-in-Ok-clause-resolved
returns-in-Ok-clause-resolved g c d sg i p =
    let x = c.in-Ok.ensures.kept.store in
    let q = place_extends x p in
    let r = c.in-Ok.ensures.ok in
    subst (λ w. Resolves c.reference-made.new.self.store c.resolve_by_instance.result (resolve_by_instance d sg i c.args.kind (text_at c.args.instances.now.store c.args.theory) (trees_at c.args.instances.now.store c.args.actuals.now) w))
    (x.texts c.args.name c.requires.name)
    (c.resolve_by_instance.ensures c.reference-made.new.self.store d sg i (record { reference = r.ref; theory = _; actuals = _; is = r.is }) (record { names = c.distinct.ensures.names; references = c.distinct.ensures.references }) (x.names c.args.name c.requires.name) q.visible q.instances_are)
