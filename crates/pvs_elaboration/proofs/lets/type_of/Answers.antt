use Rattle.pvs_elaboration.proofs.LetLaws.{type_follows}
use Rattle.pvs_elaboration.proofs.lets.type_of.Goals as goal

pub returns-in-Ok : goal.returns-in-Ok
returns-in-Ok g c = λ t h.
    rw c.give_to.ensures (type_follows t c.args.here.now c.args.definition c.args.tree c.args.body c.args.term c.args.function c.in-Ok.ty c.in-Ok.ensures.kept c.requires.here c.requires.tree c.in-Ok.ensures.ok)
