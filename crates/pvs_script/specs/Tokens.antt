-- The tokens of a script: those of its span, as the grammar distinguishes them.
use Rattle.std.specs.Prelude.{ℕ, ◌+◌, ◌-◌, ◌*◌, nat_le, ◌==◌, if◌then◌else◌, List, [], ◌∷◌, length, map, codes}
use Rattle.std.specs.Char.{is_ascii_digit}
use Rattle.std.specs.Str.{bytes_eq}
use Rattle.pvs_base.specs.declared.place.Pos.{Pos}
use Rattle.pvs_base.specs.Place.{place_after}
use Rattle.pvs_base.specs.Spans.{span_of}
use Rattle.pvs_lexer.specs.declared.token.Token.{Token}
use Rattle.pvs_lexer.specs.declared.token.TokenKind.{TokenKind}
use Rattle.pvs_lexer.specs.declared.token.TokenKind.TheVariants as kind
use Rattle.pvs_lexer.specs.Spans.{bytes_of}
use Rattle.pvs_lexer.specs.Tokens.{TokenStream, tokens_of}
use Rattle.pvs_syntax.specs.declared.unit.Proof.{Proof}
use Rattle.pvs_script.specs.declared.lexeme.Lexeme.{Lexeme}
use Rattle.pvs_script.specs.declared.lexeme.Sort.{Sort}
use Rattle.pvs_script.specs.declared.lexeme.Sort.TheVariants as sort

-- ---- What a token is for the grammar.

-- a word: the names of rules are in lower case
abbrev pub word_sort : List ℕ → Sort
word_sort bytes =
    if bytes_eq bytes (codes "axiom") then sort.Axiom
    else (if bytes_eq bytes (codes "if") then sort.If else sort.Other)

-- a symbol of one byte
abbrev pub sign_sort : ℕ → Sort
sign_sort b =
    if b == 40 then sort.Open
    else (if b == 41 then sort.Close
    else (if b == 45 then sort.Minus else sort.Other))

abbrev pub symbol_sort : List ℕ → Sort
symbol_sort [] = sort.Other
symbol_sort (b ∷ []) = sign_sort b
symbol_sort (b ∷ c ∷ bs) = sort.Other

-- a token of this kind with these bytes
abbrev pub sort_of : TokenKind → List ℕ → Sort
sort_of kind.Word bytes = word_sort bytes
sort_of kind.Number bytes = sort.Number
sort_of kind.Symbol bytes = symbol_sort bytes
sort_of kind.Bang bytes = sort.Other
sort_of kind.Quoted bytes = sort.Other

-- the digit that a byte is, and 0 for another byte
abbrev pub digit : ℕ → ℕ
digit b = if is_ascii_digit b then b - 48 else 0

-- the number that digits write in decimal after those of n
abbrev pub decimal_after : ℕ → List ℕ → ℕ
decimal_after n [] = n
decimal_after n (b ∷ bs) = decimal_after (n * 10 + digit b) bs

-- the number that digits write in decimal, and 0 where they are more than nine
abbrev pub decimal : List ℕ → ℕ
decimal bytes = if nat_le (length bytes) 9 then decimal_after 0 bytes else 0

-- the value of a token of this kind with these bytes
abbrev pub value_of : TokenKind → List ℕ → ℕ
value_of kind.Number bytes = decimal bytes
value_of kind.Word bytes = 0
value_of kind.Symbol bytes = 0
value_of kind.Bang bytes = 0
value_of kind.Quoted bytes = 0

abbrev pub lexeme : List ℕ → Token → Lexeme
lexeme span t = record {
  sort = sort_of t.kind (bytes_of span t);
  number = value_of t.kind (bytes_of span t);
  pos = t.pos;
}

-- ---- The tokens of a span.

-- the bytes of the script
abbrev pub script_span : List ℕ → Proof → List ℕ
script_span text proof = span_of text proof.start proof.end

-- the tokens of the span, with the lexical fault after them, if there is one
abbrev pub script_tokens : List ℕ → Proof → TokenStream
script_tokens text proof = tokens_of proof.pos (script_span text proof)

abbrev pub lexemes : List ℕ → Proof → List Lexeme
lexemes text proof = map (lexeme (script_span text proof)) (script_tokens text proof).tokens

-- the place after the last byte of the span
abbrev pub end_place : List ℕ → Proof → Pos
end_place text proof = place_after proof.pos (script_span text proof)
