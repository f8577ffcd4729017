use Rattle.pvs_names.proofs.VisibleLaws.{import_added}
use Rattle.pvs_names.proofs.visible.VisibleInstances.add.Goals as goal

pub returns-clause-listed : goal.returns-clause-listed
returns-clause-listed c = import_added c.args.self.now c.note.new.self c.args.theory c.args.first c.in_ok-note.ensures.theories c.in_ok-note.ensures.instances
