-- What the reading of a text does to the bytes that are left.
use Rattle.std.specs.Prelude.{◌≡◌, ◌≤◌, ◌<◌, ℕ, List, [], ◌++◌, length, take, drop, Option, Some, None, ⊤}
use Rattle.pvs_cli.specs.declared.input.Input.{Input}
use Rattle.pvs_cli.specs.declared.input.Input.TheVariants as input
use Rattle.pvs_cli.specs.declared.input.Chunk.{Chunk}
use Rattle.pvs_cli.specs.declared.input.Chunk.TheVariants as chunk

-- no byte is left
abbrev pub IsAtEnd : Option (List ℕ) → Type 0
IsAtEnd None = ⊤
IsAtEnd (Some left) = left ≡ []

-- What the reading of a chunk of at most so many bytes does to the bytes that are left and to the text. If memory runs out, the chunk is lost.
abbrev pub ReadsChunk : ℕ → Option (List ℕ) → Option (List ℕ) → List ℕ → List ℕ → Chunk → Type 0
ReadsChunk most None None before text answer = ⊤
ReadsChunk most None (Some new) before text answer = ⊥
ReadsChunk most (Some old) None before text answer = ⊥
ReadsChunk most (Some old) (Some new) before text chunk.Added = (bytes : List ℕ) × (text ≡ before ++ bytes) × (bytes ++ new ≡ old)
ReadsChunk most (Some old) (Some new) before text chunk.End = (text ≡ before) × (new ≡ old)
ReadsChunk most (Some old) (Some new) before text chunk.Failed = (text ≡ before) × (new ≡ old)
ReadsChunk most (Some old) (Some new) before text chunk.Memory = (bytes : List ℕ) × (length bytes ≤ most) × (bytes ++ new ≡ old)

-- What the reading of a text of at most so many bytes does to the bytes that are left: a whole text is the first of them, or all of them. If
-- the source fails, at least one byte fewer was taken.
abbrev pub ReadsText : ℕ → Option (List ℕ) → Option (List ℕ) → List ℕ → Input → Type 0
ReadsText most None None text answer = ⊤
ReadsText most None (Some new) text answer = ⊥
ReadsText most (Some old) None text answer = ⊥
ReadsText most (Some old) (Some new) text input.Whole = (text ≡ take most old) × (new ≡ drop most old)
ReadsText most (Some old) (Some new) text input.Failed = (bytes : List ℕ) × (length bytes < most) × (bytes ++ new ≡ old)
ReadsText most (Some old) (Some new) text input.Memory = (bytes : List ℕ) × (length bytes ≤ most) × (bytes ++ new ≡ old)
