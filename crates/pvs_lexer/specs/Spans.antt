-- How the tokens of a text lie in it.
use Rattle.std.specs.Prelude.{◌≡◌, ℕ, ◌<◌, ◌≤◌, List, [], ◌∷◌, take, Some}
use Rattle.pvs_base.specs.declared.place.Pos.{Pos}
use Rattle.pvs_base.specs.Place.{place_after}
use Rattle.pvs_base.specs.Spans.{span_of}
use Rattle.pvs_lexer.specs.declared.token.Token.{Token}
use Rattle.pvs_lexer.specs.Tokens.{kind_of}

-- The spans lie between two offsets, one after another, and none is empty.
abbrev pub AreSpans : ℕ → ℕ → List Token → Type 0
AreSpans from to [] = from ≤ to
AreSpans from to (token ∷ tokens) = (from ≤ token.start) × (token.start < token.end) × AreSpans token.end to tokens

-- the bytes of a span of a text
abbrev pub bytes_of : List ℕ → Token → List ℕ
bytes_of text token = span_of text token.start token.end

-- a token of a text whose first byte has a place: its bytes are one token of its kind, and its place is that of its first byte
pub record IsTokenOf (first : Pos) (text : List ℕ) (token : Token) : Type 0 where
  pub kind : kind_of (bytes_of text token) ≡ Some token.kind
  pub pos : token.pos ≡ place_after first (take token.start text)
