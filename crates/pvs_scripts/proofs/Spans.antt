-- How the tokens of a span lie in the text.
use Rattle.std.proofs.Common.{◌≡◌, ◌∙◌, ℕ, ◌+◌, ◌-◌, ◌^◌, ◌<◌, ◌≤◌, ◌==◌, not, ◌&&◌, Bool, true, false, if◌then◌else◌, List, [], ◌∷◌, length, take, drop, reverse, Option, Some, None, Ok, All, refl, sym, ap, subst, arith}
use Rattle.std.specs.List.{list_any, prefix_len}
use Rattle.std.proofs.lemmas.List.{length-reverse, length-take}
use Rattle.std.proofs.lemmas.List.Elements.{All-nil, All-cons, All-head, All-tail}
use Rattle.std.proofs.lemmas.List.Sums.{count_by-le-length}
use Rattle.pvs_base.specs.declared.code.Fault.{Fault}
use Rattle.pvs_base.specs.declared.place.Pos.{Pos}
use Rattle.pvs_base.specs.Place.{ends_line, last_line, place_after}
use Rattle.pvs_lexer.specs.declared.token.Token.{Token}
use Rattle.pvs_lexer.specs.declared.token.TokenKind.{TokenKind}
use Rattle.pvs_lexer.specs.declared.token.TokenKind.TheVariants as token
use Rattle.pvs_lexer.specs.Answers.{first_of, after_first, answer_of, after_answer}
use Rattle.pvs_lexer.specs.Spans.{AreSpans, IsTokenOf, bytes_of}
use Rattle.pvs_lexer.specs.Tokens.{TokenStream, is_word, is_bang, is_number, is_quote, is_quoted, is_symbol}
use Rattle.pvs_lexer.specs.Tokens as lexer
use Rattle.pvs_parser.proofs.Spans.{from_below}
use Rattle.pvs_scripts.specs.declared.lexeme.Lexeme.{Lexeme}
use Rattle.pvs_scripts.specs.declared.lexeme.LexemeKind.TheVariants as kind
use Rattle.pvs_scripts.specs.Tokens.{kind_of, symbol_kind, lexeme}

-- a token of a span whose first byte has a place
pub record IsTokenIn (first : Pos) (span : List ℕ) (t : Token) : Type 0 where
  pub order : t.start < t.end
  pub end : t.end ≤ length span
  pub is : IsTokenOf first span t

pub all_in : (first : Pos) (span : List ℕ) (from : ℕ) (ts : List Token) → AreSpans from (length span) ts → All (IsTokenOf first span) ts → All (IsTokenIn first span) ts
all_in first span from [] s are = All-nil (IsTokenIn first span)
all_in first span from (t ∷ ts) s are =
    All-cons (IsTokenIn first span) t ts (record { order = s.1; end = from_below t.end (length span) ts s.2; is = All-head (IsTokenOf first span) t ts are })
    (all_in first span t.end ts s.2 (All-tail (IsTokenOf first span) t ts are))

first_in : (P : Token → Type 0) (ts : List Token) (f : Option Fault) (t : Token) → All P ts → Some (Ok t) ≡ first_of ts f → P t × All P (after_first ts f).tokens
first_in P [] None t all e = cc
first_in P [] (Some f) t all e = cc
first_in P (u ∷ ts) f t all e = let same : u ≡ t = cc in (subst P same (All-head P u ts all), All-tail P u ts all)

-- the next token, and those after it
pub next_in : (first : Pos) (span : List ℕ) (stream : TokenStream) (t : Token) → All (IsTokenIn first span) stream.tokens → Some (Ok t) ≡ answer_of stream
    → IsTokenIn first span t × All (IsTokenIn first span) (after_answer stream).tokens
next_in first span stream t all e = first_in (IsTokenIn first span) stream.tokens stream.fault t all e

-- ---- quoted texts

sign_no_quote : (p q r : Bool) → (if p then kind.Open else (if q then kind.Close else (if r then kind.Minus else kind.Other))) ≡ kind.Quoted → ⊥
sign_no_quote true q r e = cc
sign_no_quote false true r e = cc
sign_no_quote false false true e = cc
sign_no_quote false false false e = cc

symbol_no_quote : (bytes : List ℕ) → symbol_kind bytes ≡ kind.Quoted → ⊥
symbol_no_quote [] e = cc
symbol_no_quote (b ∷ []) e = sign_no_quote (b == 40) (b == 41) (b == 45) e
symbol_no_quote (b ∷ c ∷ bs) e = cc

quoted_kind : (k : TokenKind) (bytes : List ℕ) → kind_of k bytes ≡ kind.Quoted → k ≡ token.Quoted
quoted_kind token.Word bytes e = cc
quoted_kind token.Bang bytes e = cc
quoted_kind token.Number bytes e = cc
quoted_kind token.Quoted bytes e = refl
quoted_kind token.Symbol bytes e = absurd (symbol_no_quote bytes e)

both : (a b : Bool) → (a && b) ≡ true → (a ≡ true) × (b ≡ true)
both true true e = (refl, refl)
both true false e = cc
both false b e = cc

quoted_long : (bytes : List ℕ) → is_quoted bytes ≡ true → 2 ≤ length bytes
quoted_long [] e = cc
quoted_long (b ∷ []) e = let f = both (is_quote b) (0 + 1 == 0) e in cc
quoted_long (b ∷ c ∷ bs) e = omega arith

quoted_is : (w b n q s : Bool) → (if w then Some token.Word else (if b then Some token.Bang else (if n then Some token.Number else (if q then Some token.Quoted else (if s then Some token.Symbol else None))))) ≡ Some token.Quoted → q ≡ true
quoted_is true b n q s e = cc
quoted_is false true n q s e = cc
quoted_is false false true q s e = cc
quoted_is false false false true s e = refl
quoted_is false false false false true e = cc
quoted_is false false false false false e = cc

bytes_short : (span : List ℕ) (t : Token) → length (bytes_of span t) ≤ t.end - t.start
bytes_short span t = omega (arith, length-take (t.end - t.start) (drop t.start span))

-- a quoted text has its two quotes
pub quote_size : (first : Pos) (span : List ℕ) (t : Token) (b : Bool) (offset : ℕ) → IsTokenIn first span t → (lexeme b offset span t).kind ≡ kind.Quoted → (offset + t.start) + 2 ≤ offset + t.end
quote_size first span t b offset i e =
    let bytes = bytes_of span t in
    let k = quoted_kind t.kind bytes e in
    let is : lexer.kind_of bytes ≡ Some token.Quoted = i.is.kind ∙ ap (λ z. Some z) k in
    let long = quoted_long bytes (quoted_is (is_word bytes) (is_bang bytes) (is_number bytes) (is_quoted bytes) (is_symbol bytes) is) in
    omega (arith, long, bytes_short span t)

-- ---- places

either_bounded : (b : Bool) (n : ℕ) → (if b then 1 else n) ≤ n + 1
either_bounded true n = omega arith
either_bounded false n = omega arith

-- the place of a byte is not far from that of the first byte
after_line : (first : Pos) (bytes : List ℕ) → (place_after first bytes).line ≤ first.line + length bytes
after_line first bytes = let lines = count_by-le-length ends_line bytes in omega (arith, lines)

after_col : (first : Pos) (bytes : List ℕ) → (place_after first bytes).col ≤ (first.col + 1) + length bytes
after_col first bytes =
    let line : length (last_line bytes) ≤ length bytes = omega (arith, length-take (prefix_len (λ b. not (ends_line b)) (reverse bytes)) (reverse bytes), length-reverse bytes) in
    let begin = either_bounded (list_any ends_line bytes) first.col in
    omega (arith, line, begin)

pub token_line : (first : Pos) (span : List ℕ) (t : Token) → IsTokenIn first span t → t.pos.line ≤ first.line + length span
token_line first span t i =
    let here : t.pos.line ≤ first.line + length (take t.start span) = subst (λ p. p.line ≤ first.line + length (take t.start span)) (sym i.is.pos) (after_line first (take t.start span)) in
    omega (arith, here, length-take t.start span)

pub token_col : (first : Pos) (span : List ℕ) (t : Token) → IsTokenIn first span t → t.pos.col ≤ (first.col + 1) + length span
token_col first span t i =
    let here : t.pos.col ≤ (first.col + 1) + length (take t.start span) = subst (λ p. p.col ≤ (first.col + 1) + length (take t.start span)) (sym i.is.pos) (after_col first (take t.start span)) in
    omega (arith, here, length-take t.start span)

-- ---- what the reader of a token asks for

pub quote_fits : (first : Pos) (span : List ℕ) (t : Token) (b : Bool) (offset : ℕ) (l : Lexeme) → IsTokenIn first span t → l ≡ lexeme b offset span t → l.kind ≡ kind.Quoted → l.word.start + 2 ≤ l.word.end
quote_fits first span t b offset l i is e =
    let size = quote_size first span t b offset i (sym (ap (λ z. z.kind) is) ∙ e) in
    subst (λ z. z.word.start + 2 ≤ z.word.end) (sym is) size

pub line_fits : (first : Pos) (span : List ℕ) (t : Token) (b : Bool) (offset : ℕ) (l : Lexeme) → IsTokenIn first span t → l ≡ lexeme b offset span t → first.line ≤ 2 ^ 29 → length span ≤ 2 ^ 20 → l.word.pos.line ≤ 2 ^ 30
line_fits first span t b offset l i is line size =
    let here : t.pos.line ≤ 2 ^ 30 = omega (arith, token_line first span t i, line, size) in
    subst (λ z. z.word.pos.line ≤ 2 ^ 30) (sym is) here

pub col_fits : (first : Pos) (span : List ℕ) (t : Token) (b : Bool) (offset : ℕ) (l : Lexeme) → IsTokenIn first span t → l ≡ lexeme b offset span t → first.col ≤ 2 ^ 29 → length span ≤ 2 ^ 20 → l.word.pos.col + 1 ≤ 2 ^ 30
col_fits first span t b offset l i is col size =
    let here : t.pos.col + 1 ≤ 2 ^ 30 = omega (arith, token_col first span t i, col, size) in
    subst (λ z. z.word.pos.col + 1 ≤ 2 ^ 30) (sym is) here
