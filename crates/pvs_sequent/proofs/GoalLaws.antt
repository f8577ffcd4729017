-- A formula is TRUE if the sequent that is to be proved of it is true.
use Rattle.std.proofs.Common.{◌≡◌, ◌⊎◌, inl, inr, refl, true, false}
use Rattle.std.proofs.lemmas.Bool.{or_cases}
use Rattle.pvs_terms.specs.Tree.{Tree}
use Rattle.pvs_sem.specs.Truth.{TruthAssignment, truth}
use Rattle.pvs_sequent.specs.Sequents.{goal}
use Rattle.pvs_sequent.specs.Truth.{IsTrueSequent}

pub true_goal : (v : TruthAssignment) (t : Tree) → IsTrueSequent v (goal t) → truth v t ≡ true
true_goal v t h = go (or_cases (truth v t) false (h refl))
  where
    go : (truth v t ≡ true) ⊎ (false ≡ true) → truth v t ≡ true
    go (inl e) = e
    go (inr e) = cc
