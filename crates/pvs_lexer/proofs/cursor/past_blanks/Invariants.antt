use Rattle.std.proofs.Common.{◌≡◌, length}
use Rattle.pvs_lexer.specs.code.Cursor.{HasRoom, tokens_left}
use Rattle.pvs_lexer.proofs.cursor.past_blanks.Given as goal

abbrev pub invariant-loop-cursor : goal.invariant-loop-cursor
invariant-loop-cursor l = record {
  room : HasRoom l.cursor;
  same : tokens_left l.cursor 0 ≡ tokens_left l.initial.cursor 0;
}

abbrev pub decreases-loop-cursor : goal.decreases-loop-cursor
decreases-loop-cursor l = length l.cursor.rest.now
