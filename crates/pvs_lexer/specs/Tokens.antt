-- The tokens of a text, by the longest match, after the lexical part of the PVS Language Reference.
use Rattle.std.specs.Prelude.{ℕ, zero, suc, ◌+◌, ◌-◌, Bool, false, not, ◌&&◌, ◌||◌, ◌==◌, nat_eq, nat_le, if◌then◌else◌, List, [], ◌∷◌, ◌++◌, length, take, codes, Option, Some, None}
use Rattle.std.specs.Char.{is_ascii_alphabetic, is_ascii_alphanumeric, is_ascii_digit}
use Rattle.std.specs.Str.{bytes_eq}
use Rattle.std.specs.List.{list_all, list_any, prefix_len}
use Rattle.pvs_base.specs.declared.code.Fault.{Fault}
use Rattle.pvs_base.specs.declared.code.Code.{Code}
use Rattle.pvs_base.specs.declared.code.Code.TheVariants.{BadByte, UnclosedQuote}
use Rattle.pvs_base.specs.declared.place.Pos.{Pos}
use Rattle.pvs_base.specs.Place.{ends_line, place_after}
use Rattle.pvs_lexer.specs.declared.token.Token.{Token}
use Rattle.pvs_lexer.specs.declared.token.TokenKind.{TokenKind}
use Rattle.pvs_lexer.specs.declared.token.TokenKind.TheVariants.{Word, Bang, Number, Quoted, Symbol}

-- ---- What bytes are one token.

-- a byte of a word after its first letter: a letter, a digit, `_` or `?`
abbrev pub is_word_byte : ℕ → Bool
is_word_byte b = is_ascii_alphanumeric b || b == 95 || b == 63

-- a letter, then letters, digits, `_` and `?`
abbrev pub is_word : List ℕ → Bool
is_word [] = false
is_word (b ∷ bs) = is_ascii_alphabetic b && list_all is_word_byte bs

-- `v` or `s`, then `!`, then a digit that is not 0, then at most eight digits
abbrev pub is_bang : List ℕ → Bool
is_bang (letter ∷ mark ∷ digit ∷ digits) =
    ((letter == 118 || letter == 115) && mark == 33 && (nat_le 49 digit && nat_le digit 57)) && (list_all is_ascii_digit digits && nat_le (length digits) 8)
is_bang _ = false

-- digits
abbrev pub is_number : List ℕ → Bool
is_number [] = false
is_number (b ∷ bs) = is_ascii_digit b && list_all is_ascii_digit bs

abbrev pub is_quote : ℕ → Bool
is_quote b = b == 34

-- a quote, then bytes of which the last one is the only quote
abbrev pub is_quoted : List ℕ → Bool
is_quoted [] = false
is_quoted (b ∷ bs) = is_quote b && (prefix_len (λ c. not (is_quote c)) bs + 1 == length bs)

-- the symbols of one byte: those of the grammar, and those of PVS that no form of the grammar has
abbrev pub grammar_one_byte : List ℕ
grammar_one_byte = codes "()[]{},;:.|=&+-`"

abbrev pub outside_one_byte : List ℕ
outside_one_byte = codes "<>*/^"

-- the symbols of two bytes, likewise
abbrev pub grammar_two_bytes : List (List ℕ)
grammar_two_bytes = codes "->" ∷ codes "=>" ∷ codes "/=" ∷ codes "/\\" ∷ codes "\\/" ∷ []

abbrev pub outside_two_bytes : List (List ℕ)
outside_two_bytes =
    codes "<=" ∷ codes ">=" ∷ codes "(#" ∷ codes "#)" ∷ codes "[#" ∷ codes "#]" ∷ codes "(:" ∷ codes ":)" ∷ codes "{{" ∷ codes "::" ∷ codes ":=" ∷ []

-- a symbol: one of these, or `<=>`
abbrev pub is_symbol : List ℕ → Bool
is_symbol [] = false
is_symbol (a ∷ []) = list_any (nat_eq a) (grammar_one_byte ++ outside_one_byte)
is_symbol (a ∷ b ∷ []) = list_any (bytes_eq (a ∷ b ∷ [])) (grammar_two_bytes ++ outside_two_bytes)
is_symbol (a ∷ b ∷ c ∷ []) = a == 60 && b == 61 && c == 62
is_symbol _ = false

-- what these bytes are as one token, if they are one
abbrev pub kind_of : List ℕ → Option TokenKind
kind_of bytes =
    if is_word bytes then Some Word
    else (if is_bang bytes then Some Bang
    else (if is_number bytes then Some Number
    else (if is_quoted bytes then Some Quoted
    else (if is_symbol bytes then Some Symbol else None))))

-- ---- The longest token.

-- a kind, and how many bytes it takes
abbrev pub Match : Type 0
Match = TokenKind × ℕ

-- the token of so many bytes, if these are one, and what else there is
abbrev pub match_or : Option TokenKind → ℕ → Option Match → Option Match
match_or (Some kind) size other = Some (kind, size)
match_or None size other = other

-- the longest token that begins a text and has at most so many bytes
abbrev pub longest_within : ℕ → List ℕ → Option Match
longest_within zero text = None
longest_within (suc n) text = match_or (kind_of (take (suc n) text)) (suc n) (longest_within n text)

-- the longest token that begins a text
unfoldable pub longest : List ℕ → Option Match
longest text = longest_within (length text) text

-- ---- The tokens of a text.

-- white space: a space, a tab, CR, LF or a form feed
abbrev pub is_space : ℕ → Bool
is_space b = b == 32 || b == 9 || b == 13 || b == 10 || b == 12

-- what begins a comment, which goes on up to the next line feed: `%`
abbrev pub begins_comment : ℕ → Bool
begins_comment b = b == 37

-- the tokens of a text, and the fault that stands after them, if there is one
pub record TokenStream : Type 0 where
  pub tokens : List Token
  pub fault : Option Fault

-- nothing comes
abbrev pub no_tokens : TokenStream
no_tokens = record { tokens = []; fault = None }

-- a token before others
abbrev pub before_others : Token → TokenStream → TokenStream
before_others token others = record { tokens = token ∷ others.tokens; fault = others.fault }

-- why no token begins with a byte: a quote has no second one, or no token begins so at all
abbrev pub fault_of : ℕ → Code
fault_of b = if is_quote b then UnclosedQuote else BadByte

-- The token that is found at an offset and a place, before what comes after its bytes; or a fault.
abbrev pub token_or_fault : ℕ → Pos → Code → Option Match → (ℕ → TokenStream) → TokenStream
token_or_fault start pos code None behind = record { tokens = []; fault = Some (record { pos = pos; code = code }) }
token_or_fault start pos code (Some found) behind =
    before_others (record { kind = found.0; start = start; end = start + found.1; pos = pos }) (behind found.1)

-- The tokens of the rest of a text that begins at an offset and a place, with the bytes before the rest.
-- So many bytes of the rest are covered: they belong to a token or a comment that begins before.
abbrev pub tokens_from : ℕ → Pos → List ℕ → ℕ → List ℕ → TokenStream
tokens_from offset first before covered [] = no_tokens
tokens_from offset first before (suc covered) (b ∷ bs) = tokens_from offset first (before ++ b ∷ []) covered bs
tokens_from offset first before zero (b ∷ bs) =
    if is_space b then tokens_from offset first (before ++ b ∷ []) 0 bs
    else (if begins_comment b then tokens_from offset first (before ++ b ∷ []) (prefix_len (λ c. not (ends_line c)) bs) bs
    else token_or_fault (offset + length before) (place_after first before) (fault_of b) (longest (b ∷ bs))
    (λ n. tokens_from offset first (before ++ b ∷ []) (n - 1) bs))

-- the tokens of a whole text, whose first byte has this place
unfoldable pub tokens_of : Pos → List ℕ → TokenStream
tokens_of first text = tokens_from 0 first [] 0 text
