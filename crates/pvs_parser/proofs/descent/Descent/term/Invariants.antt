use Rattle.std.proofs.Common.{◌≡◌, ◌-◌}
use Rattle.pvs_parser.specs.code.Descent as spec
use Rattle.pvs_parser.specs.code.Nests.{bounded_reader}
use Rattle.pvs_parser.proofs.descent.Descent.term.Given as goal

-- reading goes on from here
abbrev pub invariant-loop : goal.invariant-loop
invariant-loop g l = spec.term_with (bounded_reader l.self.room) l.fn.nesting l.fn.tokens ≡ spec.term_from (bounded_reader l.self.room) (l.end - l.counter) l.is_closed l.term l.nesting l.rest
