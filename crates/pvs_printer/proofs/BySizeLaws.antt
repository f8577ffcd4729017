-- The recursion is its step.
use Rattle.std.proofs.Common.{ℕ, zero, suc, ◌<◌, arith}
use Rattle.pvs_printer.specs.BySize.{in_steps, by_size}

module _ {X Y : Type 0} (size : X → ℕ) (step : (X → Y) → X → Y) (base : X → Y) where
  -- two recursions that agree on what is smaller agree after a step
  abbrev pub IsLocal : (X → Y → Y → Type 0) → Type 0
  IsLocal R = (x : X) (go go' : X → Y) → ((u : X) → size u < size x → R u (go u) (go' u)) → R x (step go x) (step go' x)

  enough : (R : X → Y → Y → Type 0) → IsLocal R → (m n : ℕ) (x : X) → size x < m → size x < n → R x (in_steps step base m x) (in_steps step base n x)
  enough R k zero n x h j = absurd (omega arith)
  enough R k (suc m) zero x h j = absurd (omega arith)
  enough R k (suc m) (suc n) x h j = k x (in_steps step base m) (in_steps step base n) (λ u l. enough R k m n u (omega arith) (omega arith))

  -- the recursion is its step over itself
  pub by_size_step : (R : X → Y → Y → Type 0) → IsLocal R → (x : X) → R x (by_size size step base x) (step (by_size size step base) x)
  unfolding by_size
  by_size_step R k x = k x (in_steps step base (size x)) (λ u. in_steps step base (suc (size u)) u) (λ u l. enough R k (size x) (suc (size u)) u l (omega arith))
