-- What holds of bytes that contracts may see: those that are left in a source, and those that were given to a sink. Bytes that are not
-- exposed to contracts are None, and no call changes whether they are exposed.
use Rattle.std.specs.Prelude.{◌≤◌, ◌+◌, ◌^◌, ℕ, List, length, Option, Some, None, ⊤}

-- what holds of exposed bytes before and after a run
abbrev pub OfExposed : (List ℕ → List ℕ → Type 0) → Option (List ℕ) → Option (List ℕ) → Type 0
OfExposed R None None = ⊤
OfExposed R None (Some after) = ⊥
OfExposed R (Some before) None = ⊥
OfExposed R (Some before) (Some after) = R before after

-- What holds of the input, by the bytes that were left before and after the run. An input that is not exposed is some text, of at most one
-- byte more than a text may have.
abbrev pub OfInput : (List ℕ → Type 0) → Option (List ℕ) → Option (List ℕ) → Type 0
OfInput P None None = (text : List ℕ) × (length text ≤ 2 ^ 20 + 1) × P text
OfInput P None (Some left) = ⊥
OfInput P (Some input) None = ⊥
OfInput P (Some input) (Some left) = P input
