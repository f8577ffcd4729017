use Rattle.pvs_elaboration.proofs.EqualLaws.{forall_follows, forall_refused}
use Rattle.pvs_elaboration.proofs.equal.type_forall.Goals as goal

pub returns-in-Ok : goal.returns-in-Ok
returns-in-Ok g c =
    let a = c.args in
    λ t. rw c.give.ensures (forall_follows t a.here.now a.sides a.left a.right a.tree c.predicate.ensures.kept c.requires.here c.requires.sides.1.1.1.1.0 c.requires.forall c.in-Ok.ensures.ok)

pub returns-in-Err-Refused : goal.returns-in-Err-Refused
returns-in-Err-Refused g c =
    let a = c.args in
    let x = c.in-Err-Refused in
    let e = rw c.in-Err-Refused.field-0-is at c.in-Err-Refused.ensures.refused in
    λ t. rw (c.ask_then.ensures, c.in-Err-Refused.field-0-is) (forall_refused t a.here.now a.sides a.left a.right a.tree x.code c.predicate.ensures.kept c.requires.here c.requires.forall e)
