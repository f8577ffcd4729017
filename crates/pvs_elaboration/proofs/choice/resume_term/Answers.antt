use Rattle.pvs_elaboration.proofs.ChoiceLaws.{first_follows, second_follows}
use Rattle.pvs_elaboration.proofs.JoinLaws.{join_second_follows, made_row}
use Rattle.pvs_elaboration.proofs.choice.resume_term.Goals as goal

pub returns-in-First : goal.returns-in-First
returns-in-First g c = λ t l. rw (c.in-First.is, c.ask_under.ensures) (first_follows t c.args.here.now c.args.branches c.args.term c.requires.term)

pub returns-in-Second : goal.returns-in-Second
returns-in-Second g c =
    let a = c.args in
    let r = rw c.in-Second.is at c.requires.row in
    λ t l. rw (c.in-Second.is, c.ask_under-in-Second.ensures) (second_follows t a.here.now a.branches c.in-Second.p c.in-Second.one a.term c.requires.term r)

pub returns-in-Types : goal.returns-in-Types
returns-in-Types g c = λ t l. rw c.in-Types.is (c.join_types.ensures t c.args.term l c.requires.term)

pub returns-in-JoinSecond : goal.returns-in-JoinSecond
returns-in-JoinSecond g c =
    let a = c.args in
    let x = c.in-JoinSecond in
    let r = rw c.in-JoinSecond.is at c.requires.row in
    λ t l. rw (c.in-JoinSecond.is, c.join_second.ensures) (join_second_follows t a.here.now a.branches x.p x.one x.n x.two x.want a.term r)

pub returns-in-Made : goal.returns-in-Made
returns-in-Made g c =
    let k = g.S.Scope.known in
    let a = c.args in
    let x = c.in-Made in
    λ t l. rw c.in-Made.is (made_row (k a.scope.now) (k c.make_term.new.scope) t a.here.now a.branches x.p x.one x.two x.ty a.term c.make_term.result (c.make_term.ensures t l))
