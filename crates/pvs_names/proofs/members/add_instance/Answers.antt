use Rattle.pvs_names.proofs.SectionLaws.{instance_added}
use Rattle.pvs_names.proofs.members.add_instance.Goals as goal

pub returns : goal.returns
returns c =
    instance_added c.args.index.now c.note_in.new.index c.note_in-2.new.index c.note_in-3.new.index c.args.kind c.args.name c.args.reference c.args.theory c.args.first
    c.in_ok-note_in.ensures c.in_ok-note_in-2.ensures c.in_ok-note_in-3.ensures
