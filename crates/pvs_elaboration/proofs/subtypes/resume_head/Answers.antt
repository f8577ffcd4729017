use Rattle.pvs_elaboration.proofs.ListingLaws.{failed_or_memory}
use Rattle.pvs_elaboration.proofs.SubtypeLaws.{head_follows, head_refused}
use Rattle.pvs_elaboration.proofs.subtypes.resume_head.Goals as goal

pub returns-in-Ok : goal.returns-in-Ok
returns-in-Ok g c =
    let f = c.in-TFun in
    let r = c.in-Ok.ensures in
    λ t l. rw c.give_to.ensures (head_follows t c.args.here.now c.args.start c.args.at c.args.predicate c.args.head f.domain f.range c.in-Ok.range r.kept c.requires.here c.requires.predicate f.ensures.parts.0 r.ok.0 f.ensures.tree r.ok.1)

pub returns-in-Err : goal.returns-in-Err
returns-in-Err g c =
    let f = c.in-TFun in
    let r = c.in-Err.ensures in
    λ t l. failed_or_memory _ _ _ (c.fault_of.ensures t l) (head_refused t c.args.here.now c.args.start c.args.at c.args.predicate c.args.head f.domain f.range c.in-Err.fault r.kept f.ensures.tree r.refused)
