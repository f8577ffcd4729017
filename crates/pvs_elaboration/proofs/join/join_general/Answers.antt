use Rattle.pvs_elaboration.specs.Known.{place_in}
use Rattle.pvs_elaboration.specs.Meanings.{fault_of}
use Rattle.pvs_elaboration.proofs.ListingLaws.{failed_or_memory}
use Rattle.pvs_elaboration.proofs.JoinLaws.{general_follows, general_refused}
use Rattle.pvs_elaboration.proofs.join.join_general.Goals as goal

pub returns-in-Ok : goal.returns-in-Ok
returns-in-Ok g c =
    let a = c.args in
    λ t l. rw c.give_to.ensures (general_follows t a.here.now a.branches a.condition a.first a.negation a.second c.in-Ok.ty c.most.ensures.kept c.requires.here c.requires.row c.in-Ok.ensures.ok.0 c.in-Ok.ensures.ok.1)

pub returns-in-Err : goal.returns-in-Err
returns-in-Err g c =
    let a = c.args in
    λ t l.
    let at = place_in t a.branches.first_at in
    failed_or_memory _ (fault_of at at c.in-Err.fault) c.fault_of.result (c.fault_of.ensures t l)
    (general_refused t a.here.now a.branches a.condition a.first a.negation a.second c.in-Err.fault c.most.ensures.kept c.in-Err.ensures.refused)
