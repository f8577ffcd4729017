-- How often numbers stand in lists, and an index of that. Only the implementation of sequents speaks of it.
use Rattle.std.specs.Prelude.{◌≡◌, ℕ, Bool, List, eqb}
use Rattle.std.specs.List.{count_by, list_any}
use Rattle.std.specs.Map.{lookup}
use Rattle.std.specs.Option.{unwrap_or}

-- how often a number stands in a list
abbrev pub times : ℕ → List ℕ → ℕ
times i ids = count_by (eqb i) ids

-- the count of a number in entries, 0 where it has none
abbrev pub counted : List (ℕ × ℕ) → ℕ → ℕ
counted es i = unwrap_or (lookup (eqb i) es) 0

-- the entries count the numbers of a list
abbrev pub IsCountOf : List (ℕ × ℕ) → List ℕ → Type 0
IsCountOf es ids = (i : ℕ) → counted es i ≡ times i ids

-- how many numbers of a list stand in another one too
abbrev pub count_among : List ℕ → List ℕ → ℕ
count_among ids others = count_by (λ i. list_any (eqb i) others) ids

-- whether some number stands in both lists
abbrev pub share_number : List ℕ → List ℕ → Bool
share_number ids others = list_any (λ i. list_any (eqb i) others) ids

-- the numbers of the formulas of both sides, the first one first
pub record BothSides : Type 0 where
  pub antecedents : List ℕ
  pub consequents : List ℕ
