use Rattle.pvs_elaboration.proofs.NameLaws.{local_follows}
use Rattle.pvs_elaboration.proofs.names.local_term.Goals as goal

pub returns-in-Ok : goal.returns-in-Ok
returns-in-Ok g c = λ t x h.
    rw c.give_to.ensures (local_follows t c.args.here.now x c.args.at (c.args.local.term, c.args.local.at) c.args.frame c.in-Ok.id c.in-Ok.ensures.kept c.requires.here c.requires.frame c.in-Ok.ensures.ok)
