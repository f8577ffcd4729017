use Rattle.std.proofs.Common.{eqb}
use Rattle.pvs_sequent.proofs.CountLaws.{above_none}
use Rattle.pvs_sequent.proofs.counted.CountedIds.contains.Goals as goal

pub returns : goal.returns
returns c = above_none (eqb c.args.id) c.args.self.now c.count.result c.count.ensures
