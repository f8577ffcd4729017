use Rattle.std.proofs.Common.{◌≡◌, ◌-◌, [], length}
use Rattle.pvs_parser.specs.Language.{language_limit}
use Rattle.pvs_parser.specs.code.Steps.{declaration_in}
use Rattle.pvs_parser.specs.code.UnitDescent as spec
use Rattle.pvs_parser.proofs.declarations.declarations.Given as goal

-- reading goes on from here
abbrev pub invariant-loop : goal.invariant-loop
invariant-loop l = spec.many_from (declaration_in language_limit l.part) (length l.fn.tokens) [] l.fn.tokens ≡ spec.many_from (declaration_in language_limit l.part) (l.end - l.counter) l.found l.rest
