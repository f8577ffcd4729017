use Rattle.std.proofs.Common.{◌≡◌, ◌+◌, length, Option, Some, None, ℕ, All}
use Rattle.pvs_base.specs.declared.code.Fault.{Fault}
use Rattle.pvs_scripts.specs.code.Reading.{read_script, read_tokens}
use Rattle.pvs_scripts.proofs.Spans.{IsTokenIn}
use Rattle.pvs_scripts.proofs.reading.read_script.Given as goal

abbrev faults : Option Fault → ℕ
faults None = 0
faults (Some fault) = 1

-- reading goes on from here, and the tokens to come lie in the span
abbrev pub invariant-loop-answer : goal.invariant-loop-answer
invariant-loop-answer l =
    (read_script l.text l.offset l.pos l.span ≡ read_tokens l.text l.offset l.pos l.span l.after_nonempty l.lexer l.state) × All (IsTokenIn l.pos l.span) l.lexer.tokens

abbrev pub decreases-loop-answer : goal.decreases-loop-answer
decreases-loop-answer l = length l.lexer.tokens + faults l.lexer.fault
