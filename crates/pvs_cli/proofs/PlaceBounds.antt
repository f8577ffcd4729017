-- How far on a place of a text can be.
use Rattle.std.proofs.Common.{◌≡◌, ◌+◌, ◌≤◌, ℕ, Bool, true, false, not, List, length, take, reverse, if◌then◌else◌, refl, arith}
use Rattle.std.specs.List.{list_any, prefix_len, take_while}
use Rattle.std.proofs.lemmas.List.{length-reverse, length-take}
use Rattle.std.proofs.lemmas.List.Sums.{count_by-le-length}
use Rattle.pvs_base.specs.Place.{ends_line, place_at}

length-take_while : {X : Type 0} (p : X → Bool) (xs : List X) → length (take_while p xs) ≤ length xs
length-take_while p xs = omega (arith, length-take (prefix_len p xs) xs)

-- a line and a column are at most one more than the number of bytes
pub line_bound : (text : List ℕ) (n : ℕ) → (place_at text n).line ≤ 1 + length text
line_bound text n = omega (arith, count_by-le-length ends_line (take n text), length-take n text)

either : (b : Bool) (n : ℕ) → (if b then n else n) ≡ n
either true n = refl
either false n = refl

pub col_bound : (text : List ℕ) (n : ℕ) → (place_at text n).col ≤ 1 + length text
col_bound text n = omega (arith, either (list_any ends_line (take n text)) 1, length-take_while (λ b. not (ends_line b)) (reverse (take n text)), length-reverse (take n text), length-take n text)
