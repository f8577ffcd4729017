use Rattle.pvs_elaboration.proofs.JoinLaws.{join_first_follows}
use Rattle.pvs_elaboration.proofs.choice.resume_choice.Goals as goal

pub returns-in-JoinFirst : goal.returns-in-JoinFirst
returns-in-JoinFirst g c =
    let a = c.args in
    let x = c.in-JoinFirst in
    let r = rw c.in-JoinFirst.is at c.requires.row in
    let v = rw c.in-Formed.is at c.requires.value in
    λ t l. rw (c.in-JoinFirst.is, c.in-Formed.is, c.join_first.ensures) (join_first_follows t a.here.now a.branches x.p x.one x.n x.two c.in-Formed.want v.0 r)

pub returns-in-General : goal.returns-in-General
returns-in-General g c = λ t l. rw (c.in-General.is, c.in-Done.is) (c.join_general.ensures t l)
