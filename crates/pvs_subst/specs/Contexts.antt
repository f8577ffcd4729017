-- Contexts and conditions of trees, and those that numbers stand for.
use Rattle.std.specs.Prelude.{List, [], ◌∷◌}
use Rattle.pvs_terms.specs.Tree.{Tree}
use Rattle.pvs_terms.specs.Stored.{Stored, tree_at, IsNode}
use Rattle.pvs_subst.specs.declared.context.Assumed.{Assumed}
use Rattle.pvs_subst.specs.declared.context.Assumed.TheVariants as assumed

-- a bound variable with its type, or a formula that is assumed
pub data Assumption : Type 0 where
  Variable : Tree → Assumption
  Hypothesis : Tree → Assumption

-- the innermost first
abbrev pub Assumptions : Type 0
Assumptions = List Assumption

-- a formula that is to hold in a context
pub record Obligation : Type 0 where
  pub context : Assumptions
  pub goal : Tree

-- what these numbers stand for
abbrev pub assumption_at : Stored → Assumed → Assumption
assumption_at s (assumed.Bind i) = Variable (tree_at s i)
assumption_at s (assumed.Hyp i) = Hypothesis (tree_at s i)

abbrev pub context_at : Stored → List Assumed → Assumptions
context_at s [] = []
context_at s (x ∷ xs) = assumption_at s x ∷ context_at s xs

-- the numbers of a context are of the store
abbrev pub IsAssumed : Stored → Assumed → Type 0
IsAssumed s (assumed.Bind i) = IsNode s i
IsAssumed s (assumed.Hyp i) = IsNode s i

abbrev pub IsContext : Stored → List Assumed → Type 0
IsContext s [] = Unit {0}
IsContext s (x ∷ xs) = IsAssumed s x × IsContext s xs
