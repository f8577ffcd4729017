-- Decimal numbers and their range.
use Rattle.std.proofs.Common.{◌≡◌, ◌<◌, ◌≤◌, ◌+◌, ◌*◌, ◌-◌, ◌∙◌, sym, ap, arith, ℕ, List, [], ◌∷◌, subst}
use Rattle.std.specs.Prelude.{None}
use Rattle.std.proofs.lemmas.Bool.Decides.{nat_tests}
use Rattle.pvs_elab.specs.Desugar.{decimal}
use Rattle.pvs_phrases.specs.Numbers.{in_range}

pub decimal_grows : (n : ℕ) (bs : List ℕ) → n ≤ decimal n bs
decimal_grows n [] = omega arith
decimal_grows n (b ∷ bs) = let h : n * 10 + (b - 48) ≤ decimal (n * 10 + (b - 48)) bs = decimal_grows (n * 10 + (b - 48)) bs in omega arith

above_range : (n : ℕ) → 4294967295 < n → in_range n ≡ None
above_range n h = grind (arith, nat_tests)

-- a number that is too large before its last digits
pub too_large : (n m : ℕ) (b : ℕ) (bs cs ds : List ℕ) → cs ≡ b ∷ bs → decimal n cs ≡ decimal 0 ds → m ≡ n * 10 + (b - 48) → 4294967295 < m → in_range (decimal 0 ds) ≡ None
too_large n m b bs cs ds e i j h =
    let above : m ≤ decimal 0 ds = subst (λ k. k ≤ decimal 0 ds) (sym j) (subst (λ k. n * 10 + (b - 48) ≤ k) (sym (ap (decimal n) e) ∙ i) (decimal_grows (n * 10 + (b - 48)) bs)) in
    above_range (decimal 0 ds) (omega arith)
