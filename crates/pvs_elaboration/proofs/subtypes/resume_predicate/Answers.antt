use Rattle.pvs_elaboration.proofs.SubtypeLaws.{lifted_row, application_row}
use Rattle.pvs_elaboration.proofs.subtypes.resume_predicate.Goals as goal

pub returns-in-Lifted : goal.returns-in-Lifted
returns-in-Lifted g c =
    let k = g.S.Scope.known in
    λ t l. rw (c.in-Lifted.is, c.in-Term.is) (lifted_row (k c.args.scope.now) (k c.make_term.new.scope) t c.args.here.now c.args.start c.args.at c.in-Lifted.domain c.in-Term.term c.make_term.result c.requires.here (c.make_term.ensures t l))

pub returns-in-Application : goal.returns-in-Application
returns-in-Application g c =
    let k = g.S.Scope.known in
    λ t l. rw (c.in-Application.is, c.in-Term.is) (application_row (k c.args.scope.now) (k c.make_type.new.scope) t c.args.here.now c.args.start c.args.at c.in-Application.domain c.in-Term.term c.make_type.result (c.make_type.ensures t l))
