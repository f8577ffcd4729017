use Rattle.pvs_sig.proofs.RankLaws.{lookups_are_ordered, finds_kinds}
use Rattle.pvs_sig.proofs.laws.lookup_laws.Goals as goal

pub returns-clause-ordered : goal.returns-clause-ordered
returns-clause-ordered c = lookups_are_ordered

pub returns-clause-found : goal.returns-clause-found
returns-clause-found c = finds_kinds
