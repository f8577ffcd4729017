-- What a sequent of numbers stands for, in a store.
use Rattle.std.specs.Prelude.{◌≡◌, ℕ, List, [], ◌∷◌, map, Option, Some, None, Result, Ok, Err}
use Rattle.pvs_base.specs.declared.code.Code.{Code}
use Rattle.pvs_terms.specs.Tree.{Tree}
use Rattle.pvs_terms.specs.Stored.{Stored, tree_at, IsNode, AreNodes}
use Rattle.pvs_sequent.specs.declared.place.Side.{Side}
use Rattle.pvs_sequent.specs.Sequents.{Sequent, add}
use Rattle.pvs_sequent.specs.Numbered.{Numbered}
use Rattle.pvs_sequent.specs.declared.fault.RuleFault.{RuleFault}
use Rattle.pvs_sequent.specs.declared.fault.RuleFault.TheVariants as fault

abbrev pub all_at : Stored → List ℕ → List Tree
all_at s ids = map (tree_at s) ids

-- the sequent that a sequent of numbers stands for
abbrev pub sequent_at : Stored → Numbered → Sequent
sequent_at s q = record { variables = all_at s q.variables; antecedents = all_at s q.antecedents; consequents = all_at s q.consequents }

-- its numbers are of the store
pub record IsSequent (s : Stored) (q : Numbered) : Type 0 where
  pub variables : AreNodes s q.variables
  pub antecedents : AreNodes s q.antecedents
  pub consequents : AreNodes s q.consequents

-- the sequent of numbers stands for this one
pub record StandsFor (s : Stored) (r : Sequent) (q : Numbered) : Type 0 where
  pub nodes : IsSequent s q
  pub is : sequent_at s q ≡ r

-- the formula that is found, if there is one
abbrev pub IsFormula : Stored → Option Tree → Option ℕ → Type 0
IsFormula s o None = o ≡ None
IsFormula s o (Some i) = (o ≡ Some (tree_at s i)) × IsNode s i

-- sequents in order
abbrev pub sequents_at : Stored → List Numbered → List Sequent
sequents_at s qs = map (sequent_at s) qs

abbrev pub AreSequents : Stored → List Numbered → Type 0
AreSequents s [] = Unit {0}
AreSequents s (q ∷ qs) = IsSequent s q × AreSequents s qs

-- the sequents of numbers stand for these
pub record StandForAll (s : Stored) (rs : List Sequent) (qs : List Numbered) : Type 0 where
  pub nodes : AreSequents s qs
  pub are : sequents_at s qs ≡ rs

-- these are the premises of a step
pub record ArePremises (s : Stored) (o : Result (List Sequent) Code) (qs : List Numbered) : Type 0 where
  pub nodes : AreSequents s qs
  pub are : o ≡ Ok (sequents_at s qs)

-- the code is why a step has no premises; being out of memory says nothing
abbrev pub IsRefusal : Result (List Sequent) Code → RuleFault → Type 0
IsRefusal o (fault.Refused c) = o ≡ Err c
IsRefusal o fault.Memory = Unit {0}

-- a sequent whose last step was to add this formula
abbrev pub HasAdded : Stored → Side → Tree → Numbered → Type 0
HasAdded s b t q = (p : Sequent) × (sequent_at s q ≡ add b t p)

-- one sequent is the other before this formula was added to it
abbrev pub IsBefore : Stored → Side → Tree → Numbered → Numbered → Type 0
IsBefore s b t q r = (p : Sequent) → sequent_at s q ≡ add b t p → StandsFor s p r
