use Rattle.pvs_elaboration.proofs.KnownLaws.{grows_none, memory_failed}
use Rattle.pvs_elaboration.proofs.ChoiceLaws.{negation_row}
use Rattle.pvs_elaboration.proofs.choice.resume_branch.Goals as goal

pub returns-in-Negation : goal.returns-in-Negation
returns-in-Negation g c =
    let k = g.S.Scope.known in
    let a = c.args in
    λ t l. rw c.in-Negation.is (negation_row (k a.scope.now) (k c.make_term.new.scope) t a.here.now a.branches c.in-Negation.p a.branch c.make_term.result c.requires.here (c.make_term.ensures t l))

pub returns-in-Join : goal.returns-in-Join
returns-in-Join g c = λ t l. rw c.in-Join.is (c.join.ensures t l)

pub returns-in_default : goal.returns-in_default
returns-in_default g c = λ t l. memory_failed _ (grows_none (g.S.Scope.known c.args.scope.now))
