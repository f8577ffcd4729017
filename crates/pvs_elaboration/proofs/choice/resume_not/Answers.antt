use Rattle.pvs_elaboration.proofs.ChoiceLaws.{not_row, false_follows, not_negation_row, true_follows, last_follows}
use Rattle.pvs_elaboration.proofs.choice.resume_not.Goals as goal

pub returns-in-Tree : goal.returns-in-Tree
returns-in-Tree g c =
    let k = g.S.Scope.known in
    let a = c.args in
    λ t l. rw (c.in-Tree.is, c.in-Term.is) (not_row (k a.scope.now) (k c.make_term.new.scope) t a.here.now a.pos a.at c.in-Term.p c.make_term.result c.requires.here (c.make_term.ensures t l))

pub returns-in-False : goal.returns-in-False
returns-in-False g c =
    let a = c.args in
    let r = rw c.in-False.is at c.requires.row in
    let v = rw c.in-Term.is at c.requires.value in
    λ t l. rw (c.in-False.is, c.in-Term.is, c.coerce_under.ensures) (false_follows t a.here.now a.pos a.at c.in-False.want c.in-Term.p c.requires.here v.0 r)

pub returns-in-Negation : goal.returns-in-Negation
returns-in-Negation g c =
    let k = g.S.Scope.known in
    let a = c.args in
    λ t l.
    rw (c.in-Negation.is, c.in-Term.is)
    (not_negation_row (k a.scope.now) (k c.make_term-in-Negation.new.scope) t a.here.now a.pos a.at c.in-Negation.want c.in-Negation.p c.in-Term.p c.make_term-in-Negation.result c.requires.here (c.make_term-in-Negation.ensures t l))

pub returns-in-True : goal.returns-in-True
returns-in-True g c =
    let a = c.args in
    let r = rw c.in-True.is at c.requires.row in
    let v = rw c.in-Term.is at c.requires.value in
    λ t l. rw (c.in-True.is, c.in-Term.is, c.coerce_under-in-True.ensures) (true_follows t a.here.now a.pos a.at c.in-True.want c.in-Term.p c.requires.here v.0 r)

pub returns-in-Last : goal.returns-in-Last
returns-in-Last g c =
    let r = rw c.in-Last.is at c.requires.row in
    λ t l. rw (c.in-Last.is, c.in-Term.is, c.give.ensures) (last_follows t c.args.here.now c.args.pos c.args.at c.in-Last.n c.in-Term.p r)
