-- Where a byte of a text stands.
use Rattle.std.specs.Prelude.{ℕ, ◌+◌, Bool, not, ◌==◌, if◌then◌else◌, List, length, reverse, take, count_by}
use Rattle.std.specs.List.{take_while, list_any}
use Rattle.pvs_base.specs.declared.place.Pos.{Pos}

-- a line feed ends a line
abbrev pub ends_line : ℕ → Bool
ends_line b = b == 10

-- the bytes after the last line feed, the last one first
abbrev pub last_line : List ℕ → List ℕ
last_line bytes = take_while (λ b. not (ends_line b)) (reverse bytes)

-- Where a text goes on that begins at this place with these bytes. Each line feed is one line more.
-- A column is one more than the number of bytes after the last line feed, or after the beginning.
abbrev pub place_after : Pos → List ℕ → Pos
place_after first bytes = record {
  line = first.line + count_by ends_line bytes;
  col = (if list_any ends_line bytes then 1 else first.col) + length (last_line bytes);
}

-- the place of the byte at an offset of a whole text
abbrev pub place_at : List ℕ → ℕ → Pos
place_at text at = place_after (record { line = 1; col = 1 }) (take at text)
