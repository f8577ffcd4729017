-- Recursion into what is smaller: a step that is handed the function on what is smaller. Where it asks for nothing
-- else, the function is its step over itself, and the base is never asked (proofs/BySizeLaws).
use Rattle.std.specs.Prelude.{ℕ, zero, suc}

abbrev pub with_fuel : {X Y : Type 0} → ((X → Y) → X → Y) → (X → Y) → ℕ → X → Y
with_fuel step base zero x = base x
with_fuel step base (suc n) x = step (with_fuel step base n) x

unfoldable pub by_size : {X Y : Type 0} → (X → ℕ) → ((X → Y) → X → Y) → (X → Y) → X → Y
by_size size step base x = with_fuel step base (suc (size x)) x
