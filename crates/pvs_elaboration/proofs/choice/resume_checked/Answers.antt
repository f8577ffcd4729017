use Rattle.pvs_elaboration.proofs.KnownLaws.{grows_none, memory_failed}
use Rattle.pvs_elaboration.proofs.ChoiceLaws.{check_first_follows, check_negation_row, check_second_follows, check_last_row}
use Rattle.pvs_elaboration.proofs.choice.resume_checked.Goals as goal

pub returns-in-CheckFirst : goal.returns-in-CheckFirst
returns-in-CheckFirst g c =
    let a = c.args in
    let r = rw c.in-CheckFirst.is at c.requires.row in
    λ t l. rw (c.in-CheckFirst.is, c.ask_under.ensures) (check_first_follows t a.here.now a.branches c.in-CheckFirst.want a.term c.requires.term r)

pub returns-in-CheckNegation : goal.returns-in-CheckNegation
returns-in-CheckNegation g c =
    let k = g.S.Scope.known in
    let a = c.args in
    λ t l.
    rw c.in-CheckNegation.is
    (check_negation_row (k a.scope.now) (k c.make_term.new.scope) t a.here.now a.branches c.in-CheckNegation.want c.in-CheckNegation.p a.term c.make_term.result c.requires.here (c.make_term.ensures t l))

pub returns-in-CheckSecond : goal.returns-in-CheckSecond
returns-in-CheckSecond g c =
    let a = c.args in
    let r = rw c.in-CheckSecond.is at c.requires.row in
    λ t l. rw (c.in-CheckSecond.is, c.ask_under-in-CheckSecond.ensures) (check_second_follows t a.here.now a.branches c.in-CheckSecond.want c.in-CheckSecond.p c.in-CheckSecond.one a.term c.requires.term r)

pub returns-in-CheckLast : goal.returns-in-CheckLast
returns-in-CheckLast g c =
    let k = g.S.Scope.known in
    let a = c.args in
    λ t l.
    rw c.in-CheckLast.is
    (check_last_row (k a.scope.now) (k c.make_term-in-CheckLast.new.scope) t a.here.now a.branches c.in-CheckLast.p c.in-CheckLast.one a.term c.make_term-in-CheckLast.result (c.make_term-in-CheckLast.ensures t l))

pub returns-in_default : goal.returns-in_default
returns-in_default g c = λ t l. memory_failed _ (grows_none (g.S.Scope.known c.args.scope.now))
