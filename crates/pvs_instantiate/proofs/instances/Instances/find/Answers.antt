use Rattle.std.proofs.Common.{sym, subst}
use Rattle.pvs_terms.specs.Stored.{IsName}
use Rattle.pvs_instantiate.proofs.LookupLaws.{none_found}
use Rattle.pvs_instantiate.proofs.instances.Instances.find.Goals as goal

pub returns-in-Some-clause-some : goal.returns-in-Some-clause-some
returns-in-Some-clause-some g c = rw (← c.self.view_is) c.in-Some.ensures.some

pub returns-in-None-clause-none : goal.returns-in-None-clause-none
returns-in-None-clause-none g c =
    rw (← c.self.view_is)
    (none_found c.self.inside.store c.args.theory (subst (λ z. IsName z.store c.args.theory) (sym c.self.view_is) c.requires) c.one_name_per_text.ensures c.self.inside.theories c.self.invariant.standing c.in-None.ensures.none)
