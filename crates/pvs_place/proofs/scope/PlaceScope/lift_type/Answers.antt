use Rattle.pvs_terms.specs.declared.shape.Sort.TheVariants.{OfType}
use Rattle.pvs_place.proofs.NodeLaws.{lift_answer}
use Rattle.pvs_place.proofs.PlaceLaws.{place_kept, state_grows}
use Rattle.pvs_place.proofs.scope.PlaceScope.lift_type.Goals as goal

pub invariant_of-self : goal.invariant_of-self
invariant_of-self g c = place_kept c.self.invariant c.lift.ensures.kept

pub returns-clause-ok : goal.returns-clause-ok
returns-clause-ok g c = rw (← c.self.view_is) (lift_answer (state_grows c.lift.ensures.kept.store c.lift.ensures.kept.development) OfType c.args.by c.args.id c.lift.result (rw c.self.view_is c.requires) c.lift.ensures.ok)
