use Rattle.std.proofs.Common.{◌≡◌, ◌≤◌, ◌++◌, drop, length}
use Rattle.pvs_elab.specs.Desugar.{names}
use Rattle.pvs_phrases.specs.Parts.{bounds}
use Rattle.pvs_free_variables.proofs.bound.Bound.enter_all.Given as goal

abbrev pub invariant-loop-left : goal.invariant-loop-left
invariant-loop-left l =
    (l.left ≤ length l.bindings) × (l.self ≡ names (bounds l.text (drop l.left l.bindings)) ++ l.fn.self)

abbrev pub decreases-loop-left : goal.decreases-loop-left
decreases-loop-left l = l.left
