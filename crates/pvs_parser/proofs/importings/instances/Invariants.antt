use Rattle.std.proofs.Common.{◌≡◌, ◌-◌, ◌+◌, [], length}
use Rattle.pvs_parser.specs.Language.{language_limit}
use Rattle.pvs_parser.specs.code.UnitDescent as spec
use Rattle.pvs_parser.proofs.importings.instances.Given as goal

-- reading goes on from here
abbrev pub invariant-loop : goal.invariant-loop
invariant-loop l = spec.instances_from language_limit (length l.fn.tokens + 1) [] l.fn.tokens ≡ spec.instances_from language_limit (l.end - l.counter) l.found.items l.rest
