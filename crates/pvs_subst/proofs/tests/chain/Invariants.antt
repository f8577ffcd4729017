use Rattle.pvs_terms.specs.Sorts.{IsTerm}
use Rattle.pvs_terms.specs.Stored.{IsNode, tree_at}
use Rattle.pvs_subst.proofs.tests.chain.Given as goal

abbrev pub invariant-loop : goal.invariant-loop
invariant-loop l = IsNode l.store l.formula × IsTerm (tree_at l.store l.formula)
