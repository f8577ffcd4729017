use Rattle.pvs_place.proofs.EntryLaws.{place_alone, place_entry_later, place_may_grow, next_place}
use Rattle.pvs_place.proofs.place.Place.with_entry.Goals as goal

pub grow_entry-requires-clause-theory : goal.grow_entry-requires-clause-theory
grow_entry-requires-clause-theory g c = c.add_entry.ensures.kept.store.names c.self.inside.theory c.self.invariant.latest.named

pub grow_entry-requires-clause-entry : goal.grow_entry-requires-clause-entry
grow_entry-requires-clause-entry g c =
    place_entry_later c.self.invariant c.add_entry.ensures.kept c.args.entry (rw c.self.view_is c.requires.name) (rw c.self.view_is c.requires.kind)

pub grow_entry-requires-clause-alone : goal.grow_entry-requires-clause-alone
grow_entry-requires-clause-alone g c = place_alone c.self.invariant c.add_entry.ensures.kept c.soundness.ensures.standing.over

pub grow_entry-requires-clause-over : goal.grow_entry-requires-clause-over
grow_entry-requires-clause-over g c =
    place_may_grow c.self.invariant c.add_entry.ensures.kept c.args.entry (rw c.self.view_is c.requires.name) (rw c.self.view_is c.requires.kind) c.soundness.ensures.standing.over (rw c.store.ensures at c.sorted_kind.ensures)

pub invariant_of-result : goal.invariant_of-result
invariant_of-result g c =
    next_place c.self.invariant c.add_entry.ensures.kept c.args.entry (rw c.self.view_is c.requires.name) (rw c.self.view_is c.requires.kind) c.grow_entry.new.self c.grow_entry.ensures.store c.in_ok-grow_entry.ensures.ok c.add_entry.new.self c.in_ok-add_entry.ensures.added
