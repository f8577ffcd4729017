use Rattle.pvs_elaboration.specs.Known.{place_in}
use Rattle.pvs_elaboration.specs.Meanings.{fault_of}
use Rattle.pvs_elaboration.proofs.ListingLaws.{failed_or_memory}
use Rattle.pvs_elaboration.proofs.EqualLaws.{iff_follows, iff_refused}
use Rattle.pvs_elaboration.proofs.equal.left_head.Goals as goal

pub returns-in-Ok : goal.returns-in-Ok
returns-in-Ok g c =
    let a = c.args in
    λ t l. rw c.give_to.ensures (iff_follows t a.here.now a.sides a.side c.in-Ok.head c.head.ensures.kept c.requires.here c.requires.side c.in-Ok.ensures.ok.0 c.in-Ok.ensures.ok.1)

pub returns-in-Err : goal.returns-in-Err
returns-in-Err g c =
    let a = c.args in
    λ t l.
    let at = place_in t a.sides.left_at in
    failed_or_memory _ (fault_of at at c.in-Err.fault) c.fault_of.result (c.fault_of.ensures t l) (iff_refused t a.here.now a.sides a.side c.in-Err.fault c.head.ensures.kept c.in-Err.ensures.refused)
