use Rattle.std.proofs.Common.{◌≡◌, ◌+◌, length, Option, Some, None, ℕ}
use Rattle.pvs_base.specs.declared.code.Fault.{Fault}
use Rattle.pvs_script.specs.code.Reading.{read_span, read_tokens}
use Rattle.pvs_script.proofs.reading.read_span.Given as goal

abbrev faults : Option Fault → ℕ
faults None = 0
faults (Some fault) = 1

-- reading goes on from here
abbrev pub invariant-loop-answer : goal.invariant-loop-answer
invariant-loop-answer l = read_span l.pos l.span ≡ read_tokens l.pos l.span l.lexer l.state

abbrev pub decreases-loop-answer : goal.decreases-loop-answer
decreases-loop-answer l = length l.lexer.tokens + faults l.lexer.fault
