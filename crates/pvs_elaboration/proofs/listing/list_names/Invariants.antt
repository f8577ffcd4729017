use Rattle.std.proofs.Common.{take}
use Rattle.pvs_elab.specs.Desugar.{names}
use Rattle.pvs_phrases.specs.Parts.{bounds}
use Rattle.pvs_elaboration.proofs.ListingLaws.{AreListed}
use Rattle.pvs_elaboration.proofs.listing.list_names.Given as goal

abbrev pub invariant-loop-variable : goal.invariant-loop-variable
invariant-loop-variable l = AreListed l.fn.listing l.listing (names (bounds l.fn.listing.text.now (take l.variable-index l.variables))) l.first
