use Rattle.pvs_elaboration.proofs.RunLaws.{Runs}
use Rattle.pvs_elaboration.proofs.machine.run.Given as goal

-- what the turns so far have come to
abbrev pub invariant-loop : goal.invariant-loop
invariant-loop g l = Runs (g.S.Scope.known l.fn.scope) (g.S.Scope.known l.scope) l.fn.listing l.listing l.fn.machine l.machine l.fn.control l.next
