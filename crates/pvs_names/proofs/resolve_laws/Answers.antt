use Rattle.pvs_names.proofs.GrowthLaws.{members_grow}
use Rattle.pvs_names.proofs.FindLaws.{resolved_is, resolved_kind}
use Rattle.pvs_names.proofs.resolve_laws.Goals as goal

pub returns-clause-visible : goal.returns-clause-visible
returns-clause-visible c = λ d s i kind q name r e. (resolved_is d s i kind name r q e).0

pub returns-clause-named : goal.returns-clause-named
returns-clause-named c = λ d s i kind q name r e. (resolved_is d s i kind name r q e).1

pub returns-clause-kinds : goal.returns-clause-kinds
returns-clause-kinds c = λ d s i kind q name r e. resolved_kind d s i kind name r q e

pub returns-clause-growth : goal.returns-clause-growth
returns-clause-growth c = members_grow
