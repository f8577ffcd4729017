use Rattle.std.proofs.Common.{◌≡◌, ◌+◌, ◌++◌, length, map, Option, Some, None, ℕ}
use Rattle.pvs_base.specs.declared.code.Fault.{Fault}
use Rattle.pvs_parser.specs.Text.{terminals, terminal}
use Rattle.pvs_parser.proofs.Spans.{AreWithin}
use Rattle.pvs_parser.proofs.text.terminals.Given as goal

abbrev faults : Option Fault → ℕ
faults None = 0
faults (Some fault) = 1

-- what is found is before what is still to come
abbrev pub invariant-loop-answer : goal.invariant-loop-answer
invariant-loop-answer l = record {
  tokens : (terminals l.quoted l.offset l.fn.pos l.span).tokens ≡ l.found.items ++ map (terminal l.quoted l.offset l.span) l.lexer.tokens;
  fault : (terminals l.quoted l.offset l.fn.pos l.span).fault ≡ l.lexer.fault;
  within : AreWithin (length l.span) l.lexer.tokens;
}

abbrev pub decreases-loop-answer : goal.decreases-loop-answer
decreases-loop-answer l = length l.lexer.tokens + faults l.lexer.fault
