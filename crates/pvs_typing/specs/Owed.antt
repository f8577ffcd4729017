-- What conditions by number stand for, and when an outcome owes them.
use Rattle.std.specs.Prelude.{◌≡◌, ℕ, List, [], ◌∷◌}
use Rattle.pvs_terms.specs.Tree.{Ref}
use Rattle.pvs_terms.specs.declared.shape.Sort.{Sort}
use Rattle.pvs_terms.specs.declared.shape.Sort.TheVariants.{OfTerm}
use Rattle.pvs_terms.specs.Stored.{Stored, tree_at, ref_at, IsRef}
use Rattle.pvs_subst.specs.Contexts.{Obligation, context_at}
use Rattle.pvs_subst.specs.declared.context.Condition.{Condition}
use Rattle.pvs_types.specs.Outcome.{Conditions, Outcome, Accepted, outcome_after}
use Rattle.pvs_types.specs.Uses.{AreSameSymbols}
use Rattle.pvs_typing.specs.Growth.{IsKnown, IsKnownContext}

-- what a condition stands for
abbrev pub condition_at : Stored → Condition → Obligation
condition_at s c = record { context = context_at s c.context.items; goal = tree_at s c.goal }

abbrev pub conditions_at : Stored → List Condition → Conditions
conditions_at s [] = []
conditions_at s (c ∷ cs) = condition_at s c ∷ conditions_at s cs

-- the context and the goal of each are of the store, and their names are declared
pub record IsKnownCondition (s : Stored) (P : Sort → Ref → Type 0) (c : Condition) : Type 0 where
  pub context : IsKnownContext s P c.context.items
  pub goal : IsKnown s P OfTerm c.goal

abbrev pub AreKnownConditions : Stored → (Sort → Ref → Type 0) → List Condition → Type 0
AreKnownConditions s P [] = Unit {0}
AreKnownConditions s P (c ∷ cs) = IsKnownCondition s P c × AreKnownConditions s P cs

-- The outcome accepts `a`, and what is owed with what was owed before are these conditions, in order. Which symbols it
-- uses is not said here: they are those of the tree (`UsesAreSymbols` of pvs_types).
pub record Owes {A : Type 0} (s : Stored) (before : Conditions) (o : Outcome A) (a : A) (cs : List Condition) : Type 0 where
  pub symbols : List Ref
  pub is : outcome_after before [] o ≡ Accepted a (conditions_at s cs) symbols

-- the references that numbers stand for
abbrev pub refs_at : Stored → List ℕ → List Ref
refs_at s [] = []
refs_at s (r ∷ rs) = ref_at s r ∷ refs_at s rs

abbrev pub AreRefs : Stored → List ℕ → Type 0
AreRefs s [] = Unit {0}
AreRefs s (r ∷ rs) = IsRef s r × AreRefs s rs

-- the outcome accepts `a`, owes these conditions, in order, and uses the symbols of these references and no other
pub record Judges {A : Type 0} (s : Stored) (o : Outcome A) (a : A) (cs : List Condition) (rs : List ℕ) : Type 0 where
  pub symbols : List Ref
  pub is : o ≡ Accepted a (conditions_at s cs) symbols
  pub uses : AreSameSymbols symbols (refs_at s rs)
