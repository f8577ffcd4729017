use Rattle.pvs_place.proofs.NodeLaws.{node_answer}
use Rattle.pvs_place.proofs.PlaceLaws.{place_kept, state_grows}
use Rattle.pvs_place.proofs.scope.PlaceScope.make.Goals as goal

pub invariant_of-self : goal.invariant_of-self
invariant_of-self g c = place_kept c.self.invariant c.make.ensures.kept

pub returns-clause-ok : goal.returns-clause-ok
returns-clause-ok g c = rw (← c.self.view_is) (node_answer (state_grows c.make.ensures.kept.store c.make.ensures.kept.development) c.args.node c.make.result (rw c.self.view_is c.requires) c.make.ensures.ok)
