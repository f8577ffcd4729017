use Rattle.std.proofs.Common.{◌≡◌, drop}
use Rattle.pvs_base.specs.declared.place.Pos.{Pos}
use Rattle.pvs_terms.specs.Tree.{Text}
use Rattle.pvs_elab.specs.Desugar.{type_from}
use Rattle.pvs_phrases.specs.Parts.{bounds}
use Rattle.pvs_free_variables.proofs.binders.written_type.Given as goal

abbrev pub invariant-loop-at : goal.invariant-loop-at
invariant-loop-at l = (text x : Text) (pos : Pos) → type_from x pos (bounds text (drop l.from l.bindings)) ≡ type_from x pos (bounds text (drop l.at l.bindings))
