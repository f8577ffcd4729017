use Rattle.std.proofs.Common.{◌≡◌, ◌-◌}
use Rattle.pvs_parser.specs.Language.{language_limit}
use Rattle.pvs_parser.specs.code.UnitDescent as spec
use Rattle.pvs_parser.proofs.UnitTurns.{ids_from}
use Rattle.pvs_parser.proofs.importings.ids.Given as goal

-- reading goes on from here
abbrev pub invariant-loop : goal.invariant-loop
invariant-loop l = spec.ids language_limit l.fn.tokens ≡ ids_from (200 - l.counter) l.found.items l.rest
