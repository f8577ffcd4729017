use Rattle.std.proofs.Common.{◌≤◌, length}
use Rattle.pvs_printer_tests.proofs.trees.is_among.Given as goal

abbrev pub invariant-loop-left : goal.invariant-loop-left
invariant-loop-left l = l.left ≤ length l.ids

abbrev pub decreases-loop-left : goal.decreases-loop-left
decreases-loop-left l = l.left
