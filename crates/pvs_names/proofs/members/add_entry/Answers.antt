use Rattle.pvs_names.proofs.SectionLaws.{entry_added}
use Rattle.pvs_names.proofs.members.add_entry.Goals as goal

pub returns : goal.returns
returns c = entry_added c.args.index.now c.note_in.new.index c.note_in-2.new.index c.args.kind c.args.name c.args.reference c.in_ok-note_in.ensures c.in_ok-note_in-2.ensures
