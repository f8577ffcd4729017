use Rattle.pvs_sig.proofs.AdditionLaws.{reach_is_over, whole_is_scope}
use Rattle.pvs_sig.proofs.MentionLaws.{reach_is_closed}
use Rattle.pvs_sig.proofs.DistinctLaws.{scope_is_distinct}
use Rattle.pvs_sig.proofs.InstancesLaws.{by_instances}
use Rattle.pvs_sig.proofs.laws.scope_laws.Goals as goal

pub returns-clause-over : goal.returns-clause-over
returns-clause-over c = reach_is_over

pub returns-clause-closed : goal.returns-clause-closed
returns-clause-closed c = reach_is_closed

pub returns-clause-whole : goal.returns-clause-whole
returns-clause-whole c = whole_is_scope

pub returns-clause-distinct : goal.returns-clause-distinct
returns-clause-distinct c = scope_is_distinct

pub returns-clause-by_instances : goal.returns-clause-by_instances
returns-clause-by_instances c = by_instances
