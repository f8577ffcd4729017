-- Spans of a text.
use Rattle.std.specs.Prelude.{ℕ, ◌-◌, List, take, drop}

-- the bytes from one offset of a text up to another
abbrev pub span_of : List ℕ → ℕ → ℕ → List ℕ
span_of text start end = take (end - start) (drop start text)
