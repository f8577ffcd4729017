use Rattle.std.proofs.Common.{◌≡◌, drop}
use Rattle.pvs_elaboration.specs.Known.{Sources, local_item}
use Rattle.pvs_elaboration.specs.Listing.{Lists}
use Rattle.pvs_elaboration.proofs.names.local_named.Given as goal

abbrev pub invariant-loop-local : goal.invariant-loop-local
invariant-loop-local l = (t : Sources) → Lists l.listing t → local_item t l.name l.here.locals ≡ local_item t l.name (drop l.local-index l.here.locals)
