-- What the program takes of its input.
use Rattle.std.specs.Prelude.{◌≡◌, ◌≤◌, ℕ, List, ◌++◌, length, Option}
use Rattle.pvs_cli.specs.Exposed.{OfExposed}

-- at most so many bytes were taken
abbrev pub TakesAtMost : ℕ → Option (List ℕ) → Option (List ℕ) → Type 0
TakesAtMost most = OfExposed (λ old new. (bytes : List ℕ) × (length bytes ≤ most) × (bytes ++ new ≡ old))
