use Rattle.pvs_terms.specs.Stored.{tree_at}
use Rattle.pvs_types.specs.Forms.{is_known_nonempty}
use Rattle.pvs_instantiate.specs.InstancesView.{development}
use Rattle.pvs_elaboration.specs.Known.{Grows}
use Rattle.pvs_place.specs.Place.{IsDeclaredIn, known_in, lookups_in}
use Rattle.pvs_place.specs.code.Nonempty.{types_work}
use Rattle.pvs_place.proofs.NonemptyLaws.{Left}
use Rattle.pvs_place.proofs.place.Place.is_known_nonempty.Given as goal

abbrev pub invariant-loop-form : goal.invariant-loop-form
invariant-loop-form g l =
    let n = lookups_in (development l.fn.self) in
    record {
      kept : Grows (known_in l.fn.self.store (development l.fn.self)) (known_in l.self.store (development l.self));
      left : Left n l.self.store (IsDeclaredIn (development l.self)) (is_known_nonempty n (tree_at l.fn.self.store l.fn.ty)) l.types.items;
    }

abbrev pub decreases-loop-form : goal.decreases-loop-form
decreases-loop-form g l = types_work (lookups_in (development l.fn.self)) l.self.store l.types.items
