use Rattle.std.proofs.Common.{◌≡◌, ◌<◌, length}
use Rattle.pvs_parser.specs.Language.{language_limit}
use Rattle.pvs_parser.specs.code.UnitDescent as spec
use Rattle.pvs_parser.proofs.proofs.balanced.Given as goal

-- reading goes on from here
abbrev pub invariant-loop-rest : goal.invariant-loop-rest
invariant-loop-rest l = record {
  same : spec.closing_parenthesis language_limit 0 l.fn.tokens ≡ spec.closing_parenthesis language_limit l.open l.rest;
  below : l.open < 200;
}

abbrev pub decreases-loop-rest : goal.decreases-loop-rest
decreases-loop-rest l = length l.rest
