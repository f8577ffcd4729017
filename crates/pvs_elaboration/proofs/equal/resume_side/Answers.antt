use Rattle.pvs_elaboration.proofs.KnownLaws.{grows_none, memory_failed}
use Rattle.pvs_elaboration.proofs.EqualLaws.{right_follows, equation_row}
use Rattle.pvs_elaboration.proofs.equal.resume_side.Goals as goal

pub returns-in-Iff : goal.returns-in-Iff
returns-in-Iff g c = λ t l. rw c.in-Iff.is (c.left_head.ensures t l)

pub returns-in-Right : goal.returns-in-Right
returns-in-Right g c = λ t l. rw (c.in-Right.is, c.ask_right.ensures) (right_follows t c.args.here.now c.args.sides c.args.side c.requires.side)

pub returns-in-Equation : goal.returns-in-Equation
returns-in-Equation g c =
    let k = g.S.Scope.known in
    let a = c.args in
    λ t l. rw c.in-Equation.is (equation_row (k a.scope.now) (k c.make_term.new.scope) t a.here.now a.sides c.in-Equation.left a.side c.make_term.result (c.make_term.ensures t l))

pub returns-in_default : goal.returns-in_default
returns-in_default g c = λ t l. memory_failed _ (grows_none (g.S.Scope.known c.args.scope.now))
