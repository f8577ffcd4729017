use Rattle.pvs_elaboration.specs.Known.{place_in}
use Rattle.pvs_elaboration.specs.Meanings.{fault_at}
use Rattle.pvs_elaboration.proofs.ListingLaws.{failed_or_memory}
use Rattle.pvs_elaboration.proofs.EqualLaws.{right_side_follows, code_follows}
use Rattle.pvs_elaboration.proofs.equal.resume_equal.Goals as goal

pub returns-in-IffHead : goal.returns-in-IffHead
returns-in-IffHead g c = λ t l. rw (c.in-IffHead.is, c.in-Formed.is) (c.resume_head.ensures t l)

pub returns-in-RightSide : goal.returns-in-RightSide
returns-in-RightSide g c =
    let a = c.args in
    let x = c.in-RightSide in
    let r = rw c.in-RightSide.is at c.requires.row in
    let v = rw c.in-Formed.is at c.requires.value in
    λ t l. rw (c.in-RightSide.is, c.in-Formed.is, c.coerce_side.ensures) (right_side_follows t a.here.now a.sides x.left x.right x.tree c.in-Formed.ty v.0 r)

pub returns-in-Refused : goal.returns-in-Refused
returns-in-Refused g c =
    let k = g.S.Scope.known c.args.scope.now in
    let a = c.args in
    λ t l.
    rw (c.in-Refused.is, c.in-Done.is)
    (failed_or_memory _ (fault_at (place_in t a.sides.left_at) c.in-Refused.code) c.fault_at.result (c.fault_at.ensures t l) (code_follows k t a.here.now a.sides c.in-Refused.code))
