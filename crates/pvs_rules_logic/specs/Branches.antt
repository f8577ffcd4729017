-- What a branch adds to a sequent, by number.
use Rattle.std.specs.Prelude.{◌≡◌}
use Rattle.pvs_terms.specs.Stored.{Stored, tree_at, IsNode}
use Rattle.pvs_sequent.specs.Sequents.{Sequent, add}
use Rattle.pvs_sequent.specs.Numbered.{Numbered}
use Rattle.pvs_sequent.specs.Numbers.{sequent_at, StandsFor}
use Rattle.pvs_rules_logic.specs.declared.branches.Branch.{Branch}

-- its formulas are of the store
pub record IsBranch (s : Stored) (b : Branch) : Type 0 where
  pub formula : IsNode s b.formula
  pub condition : IsNode s b.condition

abbrev pub with_branch : Stored → Branch → Sequent → Sequent
with_branch s b q = add b.condition_side (tree_at s b.condition) (add b.side (tree_at s b.formula) q)

-- a sequent to which a branch was added last
abbrev pub HasBranch : Stored → Branch → Numbered → Type 0
HasBranch s b q = (p : Sequent) × (sequent_at s q ≡ with_branch s b p)

-- one sequent is the other before the branch was added to it
abbrev pub IsBefore : Stored → Branch → Numbered → Numbered → Type 0
IsBefore s b q r = (p : Sequent) → sequent_at s q ≡ with_branch s b p → StandsFor s p r
