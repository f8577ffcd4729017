-- When a sequent is true, by the truth of atoms.
use Rattle.std.specs.Prelude.{◌≡◌, true, List, [], ◌∷◌}
use Rattle.pvs_sem.specs.Truth.{TruthAssignment, all_true, some_true}
use Rattle.pvs_sequent.specs.Sequents.{Sequent}

-- some consequent is TRUE if all antecedents are
abbrev pub IsTrueSequent : TruthAssignment → Sequent → Type 0
IsTrueSequent v q = all_true v q.antecedents ≡ true → some_true v q.consequents ≡ true

abbrev pub AreTrueSequents : TruthAssignment → List Sequent → Type 0
AreTrueSequents v [] = Unit {0}
AreTrueSequents v (q ∷ qs) = IsTrueSequent v q × AreTrueSequents v qs
