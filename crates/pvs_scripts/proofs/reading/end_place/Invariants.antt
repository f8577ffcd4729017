use Rattle.std.proofs.Common.{◌≡◌, take}
use Rattle.pvs_base.specs.Place.{place_after}
use Rattle.pvs_scripts.proofs.reading.end_place.Given as goal

abbrev pub invariant-loop-b : goal.invariant-loop-b
invariant-loop-b l = l.end ≡ place_after l.fn.pos (take l.b-index l.span)
