-- A number of few digits is small.
use Rattle.std.proofs.Common.{◌≡◌, ℕ, zero, suc, ◌+◌, ◌*◌, ◌-◌, ◌^◌, ◌<◌, ◌≤◌, Bool, true, false, if◌then◌else◌, List, [], ◌∷◌, length, nat_le, ◌&&◌, refl, arith}
use Rattle.std.proofs.lemmas.Bool.{leb-true}
use Rattle.pvs_scripts.specs.Tokens.{digit, decimal_after}

-- what is read so far is at most the whole
pub decimal_le : (bs : List ℕ) (n : ℕ) → n ≤ decimal_after n bs
decimal_le [] n = omega arith
decimal_le (b ∷ bs) n = omega (arith, decimal_le bs (n * 10 + digit b))

digit_cases : (b : ℕ) (p q : Bool) → nat_le 48 b ≡ p → nat_le b 57 ≡ q → (if p && q then b - 48 else 0) ≤ 9
digit_cases b true true low high = omega (arith, leb-true b 57 high)
digit_cases b true false low high = omega arith
digit_cases b false q low high = omega arith

digit_small : (b : ℕ) → digit b ≤ 9
digit_small b = digit_cases b (nat_le 48 b) (nat_le b 57) refl refl

-- below so many times ten, for each further digit
abbrev tens : ℕ → ℕ → ℕ
tens zero n = n
tens (suc k) n = tens k (10 * n)

tens_le : (k m n : ℕ) → m ≤ n → tens k m ≤ tens k n
tens_le zero m n le = le
tens_le (suc k) m n le = tens_le k (10 * m) (10 * n) (omega (arith, le))

below : (bs : List ℕ) (n : ℕ) → suc (decimal_after n bs) ≤ tens (length bs) (suc n)
below [] n = omega arith
below (b ∷ bs) n =
    let here = below bs (n * 10 + digit b) in
    let step = tens_le (length bs) (suc (n * 10 + digit b)) (10 * suc n) (omega (arith, digit_small b)) in
    omega (arith, here, step)

more_tens : (j k n : ℕ) → 1 ≤ n → j ≤ k → tens j n ≤ tens k n
more_tens zero zero n one le = omega arith
more_tens zero (suc k) n one le = omega (arith, more_tens zero k n one (omega arith), tens_le k n (10 * n) (omega arith))
more_tens (suc j) zero n one le = absurd (omega (arith, le))
more_tens (suc j) (suc k) n one le = more_tens j k (10 * n) (omega (arith, one)) (omega (arith, le))

pub decimal_small : (bs : List ℕ) → length bs ≤ 9 → decimal_after 0 bs < 10 ^ 9
decimal_small bs le = let whole = below bs 0 in let most = more_tens (length bs) 9 1 (omega arith) le in omega (arith, whole, most)

-- before a further digit
pub ten_le : (bs : List ℕ) (n : ℕ) → 1 ≤ length bs → n * 10 ≤ decimal_after n bs
ten_le [] n some = absurd (omega (arith, some))
ten_le (b ∷ bs) n some = omega (arith, decimal_le bs (n * 10 + digit b))
