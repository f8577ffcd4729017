-- What it is for steps to keep truth.
use Rattle.std.specs.Prelude.{◌≡◌, Bool, true, List, [], ◌∷◌, None, Ok}
use Rattle.pvs_terms.specs.Tree.{Ref}
use Rattle.pvs_script.specs.declared.tree.Step.{Step}
use Rattle.pvs_sem.specs.Truth.{TruthAssignment}
use Rattle.pvs_sequent.specs.Sequents.{Sequent}
use Rattle.pvs_sequent.specs.Truth.{IsTrueSequent, AreTrueSequents}
use Rattle.pvs_replay.specs.Effects.{Effect, Effects}

-- each of these formulas is TRUE, by a test of which ones are
abbrev pub AreTrueFormulas : (Ref → Bool) → List Ref → Type 0
AreTrueFormulas is_true [] = Unit {0}
AreTrueFormulas is_true (f ∷ fs) = (is_true f ≡ true) × AreTrueFormulas is_true fs

-- a sequent is true where a step leaves nothing open, cites TRUE formulas and has true premises
abbrev pub KeepsTruth : TruthAssignment → (Ref → Bool) → Effects → Type 0
KeepsTruth v is_true effect = (x : Step) (q : Sequent) (e : Effect) → effect x q ≡ Ok e → e.left_open ≡ None → AreTrueFormulas is_true e.cited → AreTrueSequents v e.premises → IsTrueSequent v q
