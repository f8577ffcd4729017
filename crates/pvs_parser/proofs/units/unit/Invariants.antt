use Rattle.std.proofs.Common.{◌≡◌, ◌-◌}
use Rattle.pvs_parser.specs.Language.{language_limit}
use Rattle.pvs_parser.specs.code.UnitDescent as spec
use Rattle.pvs_parser.proofs.UnitTurns.{unit_from}
use Rattle.pvs_parser.proofs.units.unit.Given as goal

-- reading goes on from here
abbrev pub invariant-loop : goal.invariant-loop
invariant-loop l = spec.unit language_limit l.text l.fn.tokens ≡ unit_from l.text (l.end - l.counter) l.items l.rest
