use Rattle.pvs_replay.proofs.RunLaws.{refs_append}
use Rattle.pvs_replay.proofs.outcome.both.Goals as goal

pub returns-in_ok-extend_from_slice-in-Proved-second-2-clause-numbers :
    goal.returns-in_ok-extend_from_slice-in-Proved-second-2-clause-numbers
returns-in_ok-extend_from_slice-in-Proved-second-2-clause-numbers c s h k =
    let x = rw c.in-Proved.is at h in
    let y = rw c.in-Proved-second.is at k in (
      rw (c.in_ok-extend_from_slice-in-Proved-second.ensures.items, c.deref.ensures.value) (refs_append s _ _ x.0 y.0),
      rw (c.in_ok-extend_from_slice-in-Proved-second-2.ensures.items, c.deref-in-Proved-second.ensures.value) (refs_append s _ _ x.1 y.1),
    )
