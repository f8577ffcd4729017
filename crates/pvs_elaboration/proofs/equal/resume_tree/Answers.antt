use Rattle.pvs_elaboration.proofs.EqualLaws.{left_side_follows, equal_last_follows}
use Rattle.pvs_elaboration.proofs.equal.resume_tree.Goals as goal

pub returns-then-is_forall : goal.returns-then-is_forall
returns-then-is_forall g c = λ t l. rw c.in-Typing.is (c.type_forall.ensures t)

pub returns-in-LeftSide : goal.returns-in-LeftSide
returns-in-LeftSide g c =
    let a = c.args in
    let x = c.in-LeftSide in
    let r = rw c.in-LeftSide.is at c.requires.row in
    λ t l. rw (c.in-LeftSide.is, c.coerce_side.ensures) (left_side_follows t a.here.now a.sides x.left x.tree x.want a.term r)

pub returns-in-Last : goal.returns-in-Last
returns-in-Last g c =
    let a = c.args in
    let r = rw c.in-Last.is at c.requires.row in
    λ t l. rw (c.in-Last.is, c.give.ensures) (equal_last_follows t a.here.now a.sides c.in-Last.tree a.term c.requires.here r)
