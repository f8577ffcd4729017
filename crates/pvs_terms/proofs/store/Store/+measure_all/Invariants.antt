use Rattle.std.proofs.Common.{length}
use Rattle.pvs_terms.proofs.store.Store.+measure_all.Given as goal

abbrev pub decreases-measure_all : goal.decreases-measure_all
decreases-measure_all l = length l.xs.now
