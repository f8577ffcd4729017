use Rattle.std.proofs.Common.{refl, subst, arith}
use Rattle.pvs_scope.specs.code.Adding.{AddsEntryMember}
use Rattle.pvs_scope.proofs.place.PlaceNames.note_entry.Goals as goal

pub returns : goal.returns
returns c = record {
  formals = refl;
  entries = omega arith;
  texts = c.in_ok-note_text.ensures;
  visible = subst (λ k. AddsEntryMember k c.args.entry.now.name c.args.reference c.args.self.now.visible c.add_entry.new.index) c.entry_name_kind-kind.ensures c.in_ok-add_entry.ensures;
  variables = c.in_ok-note_variable.ensures;
}
