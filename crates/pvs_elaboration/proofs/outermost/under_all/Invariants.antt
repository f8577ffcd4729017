use Rattle.std.proofs.Common.{take}
use Rattle.pvs_elaboration.specs.Listing.{bytes_of}
use Rattle.pvs_elaboration.specs.Outermost.{IsUnderNames}
use Rattle.pvs_elaboration.proofs.outermost.under_all.Given as goal

-- the place under the variables so far
abbrev pub invariant-loop-index : goal.invariant-loop-index
invariant-loop-index g l = IsUnderNames (g.S.Scope.known l.fn.scope) l.fn.listing l.listing (bytes_of (take l.index l.names)) (take l.index l.types) l.inner
