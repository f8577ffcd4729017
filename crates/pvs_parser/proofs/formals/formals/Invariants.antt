use Rattle.std.proofs.Common.{◌≡◌, ◌-◌, []}
use Rattle.pvs_parser.specs.Language.{language_limit}
use Rattle.pvs_parser.specs.code.UnitDescent as spec
use Rattle.pvs_parser.proofs.formals.formals.Given as goal

-- reading goes on from here
abbrev pub invariant-loop : goal.invariant-loop
invariant-loop l = spec.formals_from language_limit 200 [] l.fn.tokens ≡ spec.formals_from language_limit (200 - l.counter) l.found l.rest
