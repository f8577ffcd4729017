use Rattle.std.proofs.Common.{◌≡◌, Some, slice_get, sym, subst}
use Rattle.std.specs.Map.{keys_of}
use Rattle.pvs_instantiate.proofs.ListLaws.{key_within}
use Rattle.pvs_instantiate.proofs.LookupLaws.{found_at}
use Rattle.pvs_instantiate.proofs.instances.Instances.signature.Goals as goal

pub theory-found-requires : goal.theory-found-requires
theory-found-requires g c =
    key_within c.self.inside.theories c.in-Some.at c.args.theory (subst (λ z. slice_get (keys_of z.entries) c.in-Some.at ≡ Some c.args.theory) (sym c.self.view_is) c.in-Some.ensures.some)

pub returns-in-Some-clause-some : goal.returns-in-Some-clause-some
returns-in-Some-clause-some g c =
    let key = subst (λ z. slice_get (keys_of z.entries) c.in-Some.at ≡ Some c.args.theory) (sym c.self.view_is) c.in-Some.ensures.some in
    let f = found_at c.self.inside.store c.self.inside.theories c.in-Some.at c.args.theory c.theory-found.result.now c.self.invariant.standing key c.theory-found.ensures in
    rw (← c.self.view_is) (f.stored, f.stands)
