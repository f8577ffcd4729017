use Rattle.std.proofs.Common.{subst}
use Rattle.pvs_terms.specs.Stored.{text_at}
use Rattle.pvs_scope.specs.code.Adding.{AddsEntry}
use Rattle.pvs_scope.proofs.AddLaws.{entry_added}
use Rattle.pvs_scope.proofs.place.PlaceNames.add_entry.Goals as goal

pub returns-clause-added : goal.returns-clause-added
returns-clause-added g c d sg h =
    let t = c.entry_reference.new.instances.store in
    let e = c.args.entry.now in
    let r = c.in_ok-reference.reference in
    entry_added c.args.instances.now.store t c.args.self.now c.note_entry.new.self d sg c.in_ok-reference.ensures.kept.store
    (record { names = c.distinct.ensures.names; references = c.distinct.ensures.references }) h e c.requires r c.in_ok-reference.ensures.ok
    (subst (λ s. AddsEntry (text_at s e.name) e.name e.kind r c.args.self.now c.note_entry.new.self) c.store.ensures c.in_ok-note_entry.ensures)
