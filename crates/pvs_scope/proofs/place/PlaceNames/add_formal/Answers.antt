use Rattle.std.proofs.Common.{subst}
use Rattle.pvs_terms.specs.Stored.{text_at}
use Rattle.pvs_scope.specs.code.Adding.{AddsFormal, formal_name_kind}
use Rattle.pvs_scope.proofs.AddLaws.{formal_added}
use Rattle.pvs_scope.proofs.place.PlaceNames.add_formal.Goals as goal

pub returns-clause-added : goal.returns-clause-added
returns-clause-added g c d sg h =
    let t = c.formal_reference.new.instances.store in
    let f = c.args.formal.now in
    let r = c.in_ok-reference.reference in
    formal_added c.args.instances.now.store t c.args.self.now c.note_formal.new.self d sg c.in_ok-reference.ensures.kept.store
    (record { names = c.distinct.ensures.names; references = c.distinct.ensures.references }) h f c.requires r c.in_ok-reference.ensures.ok
    (subst (λ s. AddsFormal (text_at s f.name) f.name (formal_name_kind f.ty) r c.args.self.now c.note_formal.new.self) c.store.ensures c.in_ok-note_formal.ensures)
