use Rattle.pvs_terms.specs.declared.shape.Sort.TheVariants.{OfType}
use Rattle.pvs_place.proofs.NodeLaws.{put_answer}
use Rattle.pvs_place.proofs.PlaceLaws.{place_kept, state_grows}
use Rattle.pvs_place.proofs.scope.PlaceScope.put_in.Goals as goal

pub invariant_of-self : goal.invariant_of-self
invariant_of-self g c = place_kept c.self.invariant c.put_in.ensures.kept

pub returns-clause-ok : goal.returns-clause-ok
returns-clause-ok g c = rw (← c.self.view_is) (put_answer (state_grows c.put_in.ensures.kept.store c.put_in.ensures.kept.development) OfType c.args.body c.args.arg c.put_in.result (rw c.self.view_is c.requires.body) (rw c.self.view_is c.requires.arg) c.put_in.ensures.ok)
