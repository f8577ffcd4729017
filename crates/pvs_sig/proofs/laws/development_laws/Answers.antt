use Rattle.pvs_sig.proofs.AdditionLaws.{is_over_all, addition_keeps, kinds_are_over}
use Rattle.pvs_sig.proofs.OrderLaws.{order_is_free}
use Rattle.pvs_sig.proofs.RemovalLaws.{removal_stands}
use Rattle.pvs_sig.proofs.laws.development_laws.Goals as goal

pub returns-clause-over_all : goal.returns-clause-over_all
returns-clause-over_all c = is_over_all

pub returns-clause-addition : goal.returns-clause-addition
returns-clause-addition c = addition_keeps

pub returns-clause-kinds : goal.returns-clause-kinds
returns-clause-kinds c = kinds_are_over

pub returns-clause-order : goal.returns-clause-order
returns-clause-order c = order_is_free

pub returns-clause-removal : goal.returns-clause-removal
returns-clause-removal c = removal_stands
