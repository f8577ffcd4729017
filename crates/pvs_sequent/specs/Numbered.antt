-- A sequent by the numbers of its formulas.
use Rattle.std.specs.Prelude.{ℕ, List}

-- the types of the variables, the last variable first; the formulas of each side, the first one first
pub record Numbered : Type 0 where
  pub variables : List ℕ
  pub antecedents : List ℕ
  pub consequents : List ℕ
