-- The tokens of a script: those of its span, as the grammar distinguishes them.
use Rattle.std.specs.Prelude.{ℕ, ◌+◌, ◌-◌, ◌*◌, nat_le, ◌==◌, if◌then◌else◌, Bool, true, false, List, [], ◌∷◌, length}
use Rattle.std.specs.Char.{is_ascii_digit}
use Rattle.pvs_base.specs.declared.place.Pos.{Pos}
use Rattle.pvs_base.specs.Place.{place_after}
use Rattle.pvs_base.specs.Spans.{span_of}
use Rattle.pvs_lexer.specs.declared.token.Token.{Token}
use Rattle.pvs_lexer.specs.declared.token.TokenKind.{TokenKind}
use Rattle.pvs_lexer.specs.declared.token.TokenKind.TheVariants as token
use Rattle.pvs_lexer.specs.Spans.{bytes_of}
use Rattle.pvs_lexer.specs.Tokens.{TokenStream, tokens_of}
use Rattle.pvs_syntax.specs.declared.unit.Proof.{Proof}
use Rattle.pvs_parser.specs.declared.terminal.TerminalKind.{TerminalKind}
use Rattle.pvs_parser.specs.declared.terminal.TerminalKind.TheVariants as terminal
use Rattle.pvs_parser.specs.Text as parser
use Rattle.pvs_scripts.specs.declared.lexeme.Lexeme.{Lexeme}
use Rattle.pvs_scripts.specs.declared.lexeme.LexemeKind.{LexemeKind}
use Rattle.pvs_scripts.specs.declared.lexeme.LexemeKind.TheVariants as kind

-- ---- What a token is for the grammar.

-- the digit that a byte is, and 0 for another byte
abbrev pub digit : ℕ → ℕ
digit b = if is_ascii_digit b then b - 48 else 0

-- the number that digits write in decimal after those of n
abbrev pub decimal_after : ℕ → List ℕ → ℕ
decimal_after n [] = n
decimal_after n (b ∷ bs) = decimal_after (n * 10 + digit b) bs

-- the number that digits write in decimal, and 0 where they are more than nine
abbrev pub decimal : List ℕ → ℕ
decimal bytes = if nat_le (length bytes) 9 then decimal_after 0 bytes else 0

-- a symbol of one byte
abbrev pub sign_kind : ℕ → LexemeKind
sign_kind b =
    if b == 40 then kind.Open
    else (if b == 41 then kind.Close
    else (if b == 45 then kind.Minus else kind.Other))

abbrev pub symbol_kind : List ℕ → LexemeKind
symbol_kind [] = kind.Other
symbol_kind (b ∷ []) = sign_kind b
symbol_kind (b ∷ c ∷ bs) = kind.Other

-- a token of this kind with these bytes; a word is the same for the grammar, whether it is a keyword or not
abbrev pub kind_of : TokenKind → List ℕ → LexemeKind
kind_of token.Word bytes = kind.Word
kind_of token.Bang bytes = kind.Other
kind_of token.Number bytes = kind.Number (decimal bytes)
kind_of token.Quoted bytes = kind.Quoted
kind_of token.Symbol bytes = symbol_kind bytes

-- ---- Which tokens are outside the language.

-- NONEMPTY_TYPE
abbrev pub is_nonempty_type : TerminalKind → Bool
is_nonempty_type terminal.NonemptyType = true
is_nonempty_type _ = false

-- Whether a token, of this kind in the grammar of units, is one of PVS that no form has where the grammar does not have it; first,
-- whether NONEMPTY_TYPE stands directly before it.
abbrev pub is_outside : Bool → TerminalKind → Bool
is_outside after_nonempty terminal.OutOfProfile = true
is_outside after_nonempty terminal.Plus = true
is_outside after_nonempty terminal.Number = true
is_outside after_nonempty terminal.Equal = after_nonempty
is_outside after_nonempty _ = false

-- the kind of a token of a span in the grammar of units
abbrev pub terminal_kind : List ℕ → Token → TerminalKind
terminal_kind span t = parser.kind_of false t.kind (bytes_of span t)

-- ---- The tokens of a span.

-- a token of a span that begins at an offset of the text; first, whether NONEMPTY_TYPE stands directly before it
abbrev pub lexeme : Bool → ℕ → List ℕ → Token → Lexeme
lexeme after_nonempty offset span t = record {
  kind = kind_of t.kind (bytes_of span t);
  outside = is_outside after_nonempty (terminal_kind span t);
  word = record { start = offset + t.start; end = offset + t.end; pos = t.pos };
}

-- the tokens after others, of which the last one is NONEMPTY_TYPE or is not
abbrev pub lexemes_after : Bool → ℕ → List ℕ → List Token → List Lexeme
lexemes_after after_nonempty offset span [] = []
lexemes_after after_nonempty offset span (t ∷ ts) = lexeme after_nonempty offset span t ∷ lexemes_after (is_nonempty_type (terminal_kind span t)) offset span ts

-- the bytes of the script
abbrev pub script_span : List ℕ → Proof → List ℕ
script_span text proof = span_of text proof.start proof.end

-- the tokens of the span, with the lexical fault after them, if there is one
abbrev pub script_tokens : List ℕ → Proof → TokenStream
script_tokens text proof = tokens_of proof.pos (script_span text proof)

abbrev pub lexemes : List ℕ → Proof → List Lexeme
lexemes text proof = lexemes_after false proof.start (script_span text proof) (script_tokens text proof).tokens

-- the place after the last byte of the span
abbrev pub end_place : List ℕ → Proof → Pos
end_place text proof = place_after proof.pos (script_span text proof)
