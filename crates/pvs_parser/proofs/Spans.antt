-- The spans of tokens lie in their text.
use Rattle.std.proofs.Common.{ℕ, ◌≤◌, List, [], ◌∷◌, arith}
use Rattle.pvs_lexer.specs.declared.token.Token.{Token}
use Rattle.pvs_lexer.specs.Spans.{AreSpans}

-- the spans lie before an offset
abbrev pub AreWithin : ℕ → List Token → Type 0
AreWithin to [] = Unit {0}
AreWithin to (t ∷ ts) = (t.start ≤ t.end) × (t.end ≤ to) × AreWithin to ts

pub from_below : (from to : ℕ) (tokens : List Token) → AreSpans from to tokens → from ≤ to
from_below from to [] h = h
from_below from to (t ∷ ts) h = let rest = from_below t.end to ts h.2 in omega arith

pub ends_within : (from to : ℕ) (tokens : List Token) → AreSpans from to tokens → AreWithin to tokens
ends_within from to [] h = tt
ends_within from to (t ∷ ts) h = let rest = from_below t.end to ts h.2 in (omega arith, rest, ends_within t.end to ts h.2)
