-- What a cursor stands for.
use Rattle.std.specs.Prelude.{◌≡◌, ℕ, ◌+◌, ◌≤◌, ◌^◌, max, List, [], ◌∷◌, length}
use Rattle.pvs_lexer.specs.declared.cursor.Cursor.{Cursor}
use Rattle.pvs_lexer.specs.Tokens.{TokenStream, tokens_from}
use Rattle.pvs_lexer.specs.code.Scan.{blank}

-- what is left of a text is short enough for its offsets and its places
pub record HasRoom (cursor : Cursor) : Type 0 where
  pub offset : cursor.offset + length cursor.rest.now ≤ 2 ^ 20
  pub line : cursor.pos.line + length cursor.rest.now ≤ 2 ^ 30 + 2 ^ 20
  pub col : max 1 cursor.pos.col + length cursor.rest.now ≤ 2 ^ 30 + 2 ^ 20

-- the tokens of what is left after so many bytes
abbrev pub tokens_left : Cursor → ℕ → TokenStream
tokens_left cursor covered = tokens_from cursor.offset cursor.pos [] covered cursor.rest.now

-- no white space and no comment begins a text
abbrev pub BeginsNoBlank : List ℕ → Type 0
BeginsNoBlank [] = Unit {0}
BeginsNoBlank (b ∷ bs) = blank b bs ≡ 0
