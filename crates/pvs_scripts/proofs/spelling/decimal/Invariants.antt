use Rattle.std.proofs.Common.{◌≡◌, length}
use Rattle.pvs_scripts.specs.Tokens.{decimal_after}
use Rattle.pvs_scripts.proofs.spelling.decimal.Given as goal

abbrev pub invariant-loop-rest : goal.invariant-loop-rest
invariant-loop-rest l = decimal_after l.value l.rest ≡ decimal_after 0 l.bytes

abbrev pub decreases-loop-rest : goal.decreases-loop-rest
decreases-loop-rest l = length l.rest
