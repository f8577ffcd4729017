use Rattle.std.proofs.Common.{sym}
use Rattle.pvs_sig.specs.SignatureAt.{EntryIn}
use Rattle.pvs_instantiate.proofs.ListLaws.{all_get}
use Rattle.pvs_instantiate.proofs.parts.part_of_entry.Goals as goal

pub returns-in-Some-clause-stored : goal.returns-in-Some-clause-stored
returns-in-Some-clause-stored c = λ s h.
    c.part_of_kind.ensures.stored s (all_get (EntryIn s) c.args.signature.now.entries.items c.args.number c.in-Some.entry.now h.entries (sym c.in-Some.ensures)).1
