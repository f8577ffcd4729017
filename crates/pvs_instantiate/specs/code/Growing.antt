-- A theory with one formal, entry or importing more, by number.
use Rattle.pvs_terms.specs.Stored.{Stored}
use Rattle.pvs_sig.specs.Signature.{Signature}
use Rattle.pvs_sig.specs.SignatureAt.{formal_sig_at, entry_at, import_at, FormalIn, EntryIn, ImportIn}
use Rattle.pvs_instantiate.specs.declared.theories.Theory.{Theory}
use Rattle.pvs_instantiate.specs.declared.growth.Growth.{Growth}
use Rattle.pvs_instantiate.specs.declared.growth.Growth.TheVariants as growth
use Rattle.pvs_instantiate.specs.Grown.{with_formal, with_entry, with_import}
use Rattle.pvs_instantiate.specs.code.Changes.{AddsFormal, AddsEntry, AddsImport}

-- its numbers are of the store
abbrev pub GrowthIn : Stored → Growth → Type 0
GrowthIn s (growth.Formal f) = FormalIn s f
GrowthIn s (growth.Entry e) = EntryIn s e
GrowthIn s (growth.Import x) = ImportIn s x

-- the signature with what it stands for at the end
abbrev pub with_growth : Stored → Growth → Signature → Signature
with_growth s (growth.Formal f) = with_formal (formal_sig_at s f)
with_growth s (growth.Entry e) = with_entry (entry_at s e)
with_growth s (growth.Import x) = with_import (import_at s x)

abbrev pub Adds : Growth → Theory → Theory → Type 0
Adds (growth.Formal f) = AddsFormal f
Adds (growth.Entry e) = AddsEntry e
Adds (growth.Import x) = AddsImport x
