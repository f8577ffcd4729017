use Rattle.std.proofs.Common.{◌≡◌, length}
use Rattle.pvs_elab.specs.Desugar.{decimal}
use Rattle.pvs_phrases.proofs.words.projection_number.Given as goal

abbrev pub invariant-loop-digit : goal.invariant-loop-digit
invariant-loop-digit l = decimal l.number l.rest ≡ decimal 0 l.fn.digits

abbrev pub decreases-loop-digit : goal.decreases-loop-digit
decreases-loop-digit l = length l.rest
