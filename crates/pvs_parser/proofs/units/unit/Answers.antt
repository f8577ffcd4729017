use Rattle.pvs_parser.proofs.UnitTurns.{unit_init}
use Rattle.pvs_parser.proofs.units.unit.Goals as goal

pub loop-init : goal.loop-init
loop-init c = unit_init c.args.text.now c.new-items.result c.args.tokens.now c.new-items.ensures
