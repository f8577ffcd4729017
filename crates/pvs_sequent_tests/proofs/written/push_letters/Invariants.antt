use Rattle.pvs_sequent.specs.Numbers.{IsSequent}
use Rattle.pvs_sequent_tests.proofs.written.push_letters.Given as goal

abbrev pub invariant-loop-i : goal.invariant-loop-i
invariant-loop-i l = IsSequent l.store l.sequent
