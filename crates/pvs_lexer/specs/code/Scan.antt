-- How the longest token is found: by the first byte, and runs of bytes of one class.
use Rattle.std.specs.Prelude.{ℕ, ◌+◌, if◌then◌else◌, [], ◌∷◌, Bool, not, ◌&&◌, ◌||◌, ◌==◌, nat_le, List, slice_index}
use Rattle.std.specs.Char.{is_ascii_alphabetic, is_ascii_digit}
use Rattle.std.specs.List.{prefix_len}
use Rattle.pvs_base.specs.Place.{ends_line}
use Rattle.pvs_lexer.specs.declared.scan.Class.{Class}
use Rattle.pvs_lexer.specs.declared.scan.Class.TheVariants as class
use Rattle.pvs_lexer.specs.Tokens.{is_word_byte, is_quote, is_symbol, is_space, begins_comment}

-- the bytes of a class
abbrev pub is_in : Class → ℕ → Bool
is_in class.Word b = is_word_byte b
is_in class.Digit b = is_ascii_digit b
is_in class.Line b = not (ends_line b)
is_in class.Inside b = not (is_quote b)

-- whether a byte and the text after it begin with `v!` or `s!` and a digit that is not 0
unfoldable pub begins_variable : ℕ → List ℕ → Bool
begins_variable first rest =
    (first == 118 || first == 115) && slice_index rest 0 == 33 && (nat_le 49 (slice_index rest 1) && nat_le (slice_index rest 1) 57)

-- a byte that begins no word, no number and no quoted text
abbrev pub is_other : ℕ → Bool
is_other b = not (is_ascii_alphabetic b) && not (is_ascii_digit b) && not (is_quote b)

-- how many bytes the symbol has that begins with a byte and goes on with the text after it; 0: there is none
unfoldable pub symbol_size : ℕ → List ℕ → ℕ
symbol_size first rest =
    if first == 60 && slice_index rest 0 == 61 && slice_index rest 1 == 62 then 3
    else (if is_symbol (first ∷ slice_index rest 0 ∷ []) then 2
    else (if is_symbol (first ∷ []) then 1 else 0))

-- how many bytes the white space or comment has that begins so; 0: there is none
abbrev pub blank : ℕ → List ℕ → ℕ
blank first rest = if is_space first then 1 else (if begins_comment first then 1 + prefix_len (λ c. not (ends_line c)) rest else 0)
