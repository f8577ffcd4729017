use Rattle.pvs_elaboration.specs.Known.{place_in}
use Rattle.pvs_elaboration.specs.Meanings.{fault_of}
use Rattle.pvs_elaboration.proofs.ListingLaws.{failed_or_memory}
use Rattle.pvs_elaboration.proofs.EqualLaws.{sides_follow, sides_refused}
use Rattle.pvs_elaboration.proofs.equal.type_sides.Goals as goal

pub returns-in-Ok : goal.returns-in-Ok
returns-in-Ok g c =
    let a = c.args in
    λ t l. rw c.give_to.ensures (sides_follow t a.here.now a.sides a.left a.right a.tree c.in-Ok.ty c.most.ensures.kept c.requires.here c.requires.sides c.in-Ok.ensures.ok.0 c.requires.other c.in-Ok.ensures.ok.1)

pub returns-in-Err : goal.returns-in-Err
returns-in-Err g c =
    let a = c.args in
    λ t l.
    let at = place_in t a.sides.left_at in
    failed_or_memory _ (fault_of at at c.in-Err.fault) c.fault_of.result (c.fault_of.ensures t l)
    (sides_refused t a.here.now a.sides a.left a.right a.tree c.in-Err.fault c.most.ensures.kept c.requires.other c.in-Err.ensures.refused)
