-- What callers cite.
use Rattle.std.proofs.Common.{◌≡◌, ℕ, ◌+◌, ◌≤◌, ◌^◌, Bool, true, false, not, if◌then◌else◌, List, length, take, refl, arith}
use Rattle.std.specs.Prelude.{count_by, reverse}
use Rattle.std.specs.List.{list_any, prefix_len}
use Rattle.std.proofs.lemmas.List.{length-reverse, length-take}
use Rattle.std.proofs.lemmas.List.Sums.{count_by-le-length}
use Rattle.pvs_base.specs.Place.{ends_line, last_line, place_at}

either_one : (b : Bool) (n : ℕ) → (if b then 1 else 1) + n ≡ 1 + n
either_one true n = refl
either_one false n = refl

-- a byte of a text of at most 2^20 bytes has a place that a script may begin at
pub place_small : (text : List ℕ) (at : ℕ) → length text ≤ 2 ^ 20 → ((place_at text at).line ≤ 2 ^ 30) × ((place_at text at).col ≤ 2 ^ 30)
place_small text at le =
    let bytes = take at text in
    let short : length bytes ≤ length text = omega (arith, length-take at text) in
    let lines : count_by ends_line bytes ≤ length bytes = count_by-le-length ends_line bytes in
    let line : length (last_line bytes) ≤ length bytes = omega (arith, length-take (prefix_len (λ b. not (ends_line b)) (reverse bytes)) (reverse bytes), length-reverse bytes) in
    (omega (arith, short, lines, le), omega (arith, short, line, le, either_one (list_any ends_line bytes) (length (last_line bytes))))
