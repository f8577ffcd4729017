use Rattle.pvs_names.proofs.SectionLaws.{formal_added}
use Rattle.pvs_names.proofs.members.add_formal.Goals as goal

pub returns : goal.returns
returns c = formal_added c.args.index.now c.note_in.new.index c.args.kind c.args.name c.args.reference c.in_ok-note_in.ensures
