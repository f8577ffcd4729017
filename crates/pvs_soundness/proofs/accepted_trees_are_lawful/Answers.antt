use Rattle.pvs_soundness.proofs.ScopedLaws.{accepted_closed}
use Rattle.pvs_soundness.proofs.WellSortedLaws.{accepted_sorted}
use Rattle.pvs_soundness.proofs.LocalTyping.{typing_is_local}
use Rattle.pvs_soundness.proofs.accepted_trees_are_lawful.Goals as goal

pub returns : goal.returns
returns c = record { closed = accepted_closed; sorted = accepted_sorted; local = typing_is_local }
