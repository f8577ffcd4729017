use Rattle.std.proofs.Common.{◌≡◌, drop}
use Rattle.pvs_free_variables.proofs.bound.Bound.leave.Given as goal

abbrev pub invariant-loop : goal.invariant-loop
invariant-loop l = l.self ≡ drop l.counter l.fn.self
