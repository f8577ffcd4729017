use Rattle.std.proofs.Common.{refl, subst, arith}
use Rattle.pvs_scope.specs.code.Adding.{AddsFormalMember}
use Rattle.pvs_scope.proofs.place.PlaceNames.note_formal.Goals as goal

pub returns : goal.returns
returns c = record {
  formals = omega arith;
  entries = refl;
  texts = c.in_ok-note_text.ensures;
  visible = subst (λ k. AddsFormalMember k c.args.formal.now.name c.args.reference c.args.self.now.visible c.add_formal.new.index) c.formal_name_kind-kind.ensures c.in_ok-add_formal.ensures;
  variables = refl;
}
