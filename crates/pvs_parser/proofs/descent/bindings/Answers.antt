use Rattle.pvs_parser.proofs.Knot.{reader-below}
use Rattle.pvs_parser.proofs.descent.bindings.Goals as goal

pub returns : goal.returns
returns c = rw (reader-below c.args.room) c.bindings.ensures
