use Rattle.std.proofs.Common.{◌≡◌, ◌-◌, length, drop}
use Rattle.pvs_elab.specs.Desugar.{type_from}
use Rattle.pvs_syntax.specs.Words.{spelling}
use Rattle.pvs_phrases.specs.Parts.{bounds}
use Rattle.pvs_phrases.proofs.bindings.next_type.Given as goal

abbrev pub invariant-loop-binding : goal.invariant-loop-binding
invariant-loop-binding l =
    type_from (spelling l.text l.fn.word) l.fn.word.pos (bounds l.text (drop l.at l.bindings))
    ≡ type_from (spelling l.text l.fn.word) l.fn.word.pos (bounds l.text (drop l.fn.from l.bindings))

abbrev pub decreases-loop-binding : goal.decreases-loop-binding
decreases-loop-binding l = length l.bindings - l.at
