use Rattle.std.proofs.Common.{◌≡◌, take}
use Rattle.pvs_base.specs.Place.{place_after}
use Rattle.pvs_lexer.proofs.cursor.past.Given as goal

abbrev pub invariant-loop-b : goal.invariant-loop-b
invariant-loop-b l = l.pos ≡ place_after l.cursor.pos (take l.b-index l.b-items)
