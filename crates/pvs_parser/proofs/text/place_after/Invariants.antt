use Rattle.std.proofs.Common.{◌≡◌, ◌+◌, ◌≤◌, take}
use Rattle.pvs_base.specs.Place as place
use Rattle.pvs_parser.proofs.text.place_after.Given as goal

abbrev pub invariant-loop-byte : goal.invariant-loop-byte
invariant-loop-byte l = record {
  place : l.pos ≡ place.place_after l.fn.first (take l.byte-index l.text);
  line : l.pos.line ≤ l.fn.first.line + l.byte-index;
  col : l.pos.col ≤ l.fn.first.col + l.byte-index;
}
