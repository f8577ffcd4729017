-- A recursion by size is its step over itself, and has what each step keeps.
use Rattle.std.proofs.Common.{ℕ, zero, suc, ◌<◌, arith}
use Rattle.pvs_types.specs.BySize.{with_fuel, by_size}

module _ {X Y : Type 0} (size : X → ℕ) (step : (X → Y) → X → Y) (base : X → Y) where
  has_with_fuel : (P : X → Y → Type 0) → ((x : X) → P x (base x)) → ((go : X → Y) → ((x : X) → P x (go x)) → (x : X) → P x (step go x))
      → (n : ℕ) (x : X) → P x (with_fuel step base n x)
  has_with_fuel P h k zero x = h x
  has_with_fuel P h k (suc n) x = k (with_fuel step base n) (has_with_fuel P h k n) x

  -- what the base has, and each step over what has it, the recursion has
  pub by_size_has : (P : X → Y → Type 0) → ((x : X) → P x (base x)) → ((go : X → Y) → ((x : X) → P x (go x)) → (x : X) → P x (step go x))
      → (x : X) → P x (by_size size step base x)
  unfolding by_size
  by_size_has P h k x = has_with_fuel P h k (suc (size x)) x

  -- steps over functions that agree on what is smaller agree
  abbrev pub IsLocal : (X → Y → Y → Type 0) → Type 0
  IsLocal R = (x : X) (go go' : X → Y) → ((u : X) → size u < size x → R u (go u) (go' u)) → R x (step go x) (step go' x)

  fuel_suffices : (R : X → Y → Y → Type 0) → IsLocal R → (m n : ℕ) (x : X) → size x < m → size x < n
      → R x (with_fuel step base m x) (with_fuel step base n x)
  fuel_suffices R k zero n x h j = absurd (omega arith)
  fuel_suffices R k (suc m) zero x h j = absurd (omega arith)
  fuel_suffices R k (suc m) (suc n) x h j = k x (with_fuel step base m) (with_fuel step base n)
      (λ u l. fuel_suffices R k m n u (omega arith) (omega arith))

  -- the recursion is its step over itself
  pub by_size_step : (R : X → Y → Y → Type 0) → IsLocal R → (x : X) → R x (by_size size step base x) (step (by_size size step base) x)
  unfolding by_size
  by_size_step R k x = k x (with_fuel step base (size x)) (λ u. with_fuel step base (suc (size u)) u)
      (λ u l. fuel_suffices R k (size x) (suc (size u)) u l (omega arith))
