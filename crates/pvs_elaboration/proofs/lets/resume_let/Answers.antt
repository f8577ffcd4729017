use Rattle.pvs_elaboration.proofs.LetLaws.{body_row}
use Rattle.pvs_elaboration.proofs.lets.resume_let.Goals as goal

pub returns-in-Body : goal.returns-in-Body
returns-in-Body g c =
    let k = g.S.Scope.known in
    λ t l. rw (c.in-Body.is, c.in-Typed.is) (body_row (k c.args.scope.now) (k c.make_term.new.scope) t c.args.here.now c.args.definition c.in-Body.ty c.in-Body.term c.in-Typed.found c.make_term.result (c.make_term.ensures t l))
