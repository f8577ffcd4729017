use Rattle.std.proofs.Common.{◌≡◌, ◌-◌}
use Rattle.pvs_parser.specs.code.Descent as spec
use Rattle.pvs_parser.specs.code.Nests.{bounded_reader}
use Rattle.pvs_parser.proofs.descent.Descent.comparison.Given as goal

-- reading goes on from here
abbrev pub invariant-loop : goal.invariant-loop
invariant-loop g l = spec.comparison_with (bounded_reader l.self.room) l.fn.nesting l.fn.tokens ≡ spec.compared_from (bounded_reader l.self.room) (l.end - l.counter) l.left l.nesting l.rest
