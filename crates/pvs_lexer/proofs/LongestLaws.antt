-- The longest token that begins a text, by its first byte.
use Rattle.std.proofs.Common.{◌≡◌, ℕ, zero, suc, ◌+◌, ◌-◌, ◌<◌, ◌≤◌, Bool, true, false, not, cond, ◌&&◌, ◌||◌, ◌==◌, nat_eq, nat_le, List, [], ◌∷◌, ◌++◌, length, take, drop, slice_index, Option, Some, None, ◌≢◌, inl, inr, min, refl, sym, subst, ap, ap₂, ◌∙◌, arith, eq-eqb, leb-true, le-leb, length-take, if◌then◌else◌}
use Rattle.std.specs.Char.{is_ascii_alphabetic, is_ascii_digit}
use Rattle.std.specs.List.{list_all, list_any, prefix_len}
use Rattle.std.specs.Str.{bytes_eq}
use Rattle.std.proofs.lemmas.Bool.Decides.{nat_tests, Decides-eqb, leb_tells}
use Rattle.std.proofs.lemmas.Slice.Eq.{bytes_eq-Decides}
use Rattle.std.proofs.lemmas.List.Sums.{prefix_len-le-length}
use Rattle.pvs_lexer.specs.declared.token.TokenKind.{TokenKind}
use Rattle.pvs_lexer.specs.declared.token.TokenKind.TheVariants.{Word, Bang, Number, Quoted, Symbol}
use Rattle.pvs_lexer.specs.Tokens.{is_word_byte, is_word, is_bang, is_number, is_quote, is_quoted, is_symbol, grammar_one_byte, outside_one_byte, grammar_two_bytes, outside_two_bytes, kind_of, Match, match_or, longest_within, longest}
use Rattle.pvs_lexer.specs.code.Scan.{is_other, begins_variable, symbol_size}

-- a token at the beginning of a text, of at most n bytes
pub record IsFront (text : List ℕ) (n : ℕ) (found : Match) : Type 0 where
  pub some : 1 ≤ found.1
  pub within : found.1 ≤ n
  pub kind : kind_of (take found.1 text) ≡ Some found.0

-- ---- which prefix is the longest

within_above : (text : List ℕ) (n j k : ℕ) → k ≡ j + n → ((m : ℕ) → n < m → m ≤ k → kind_of (take m text) ≡ None) → longest_within k text ≡ longest_within n text
within_above text n zero k e none = ap (λ i. longest_within i text) (omega arith)
within_above text n (suc j) zero e none = absurd (omega arith)
within_above text n (suc j) (suc k) e none =
    ap (λ o. match_or o (suc k) (longest_within k text)) (none (suc k) (omega arith) (omega arith))
    ∙ within_above text n j k (omega arith) (λ m lo hi. none m lo (omega arith))

pub longest_is : (text : List ℕ) (n : ℕ) (kind : TokenKind) → suc n ≤ length text → kind_of (take (suc n) text) ≡ Some kind
    → ((m : ℕ) → suc n < m → m ≤ length text → kind_of (take m text) ≡ None) → longest text ≡ Some (kind, suc n)
unfolding longest
longest_is text n kind h is none =
    within_above text (suc n) (length text - suc n) (length text) (omega arith) none
    ∙ ap (λ o. match_or o (suc n) (longest_within n text)) is

pub longest_none : (text : List ℕ) → ((m : ℕ) → 0 < m → m ≤ length text → kind_of (take m text) ≡ None) → longest text ≡ None
unfolding longest
longest_none text none = within_above text 0 (length text) (length text) (omega arith) none

-- ---- tests

not_true : (b : Bool) → (b ≡ true → ⊥) → b ≡ false
not_true true h = absurd (h refl)
not_true false h = refl

left_false : (x y : Bool) → x ≡ false → (x && y) ≡ false
left_false x y h = ap (λ b. b && y) h

right_false : (x y : Bool) → y ≡ false → (x && y) ≡ false
right_false true y h = h
right_false false y h = refl

both_true : (x y : Bool) → x ≡ true → y ≡ true → (x && y) ≡ true
both_true x y h k = ap (λ b. b && y) h ∙ k

left_true : (x y : Bool) → (x && y) ≡ true → x ≡ true
left_true true y h = refl
left_true false y h = h

right_true : (x y : Bool) → (x && y) ≡ true → y ≡ true
right_true true y h = h
right_true false y h = cc

not_open : (x : Bool) → (x && false) ≡ true → ⊥
not_open true h = cc
not_open false h = cc

either_true : {P : Type 0} (x y : Bool) → (x || y) ≡ true → (x ≡ true → P) → (y ≡ true → P) → P
either_true true y h f g = f refl
either_true false y h f g = g h

any_same : (p : ℕ → Bool) (b : ℕ) (bs : List ℕ) → list_all p bs ≡ true → list_any (nat_eq b) bs ≡ true → p b ≡ true
any_same p b [] all any = cc
any_same p b (x ∷ xs) all any =
    either_true (nat_eq b x) (list_any (nat_eq b) xs) any
    (λ e. ap p ((Decides-eqb b x).0 e) ∙ left_true (p x) (list_all p xs) all)
    (λ e. any_same p b xs (right_true (p x) (list_all p xs) all) e)

any_bytes : (p : List ℕ → Bool) (s : List ℕ) (ss : List (List ℕ)) → list_all p ss ≡ true → list_any (bytes_eq s) ss ≡ true → p s ≡ true
any_bytes p s [] all any = cc
any_bytes p s (x ∷ xs) all any =
    either_true (bytes_eq s x) (list_any (bytes_eq s) xs) any
    (λ e. ap p ((bytes_eq-Decides s x).0 e) ∙ left_true (p x) (list_all p xs) all)
    (λ e. any_bytes p s xs (right_true (p x) (list_all p xs) all) e)

-- ---- runs

run_step : (here all : Bool) (m rest : ℕ) → suc m ≤ cond here (1 + rest) 0 → (m ≤ rest → all ≡ true) → (here && all) ≡ true
run_step true all m rest h next = next (omega arith)
run_step false all m rest h next = absurd (omega arith)

all_run : (p : ℕ → Bool) (m : ℕ) (bs : List ℕ) → m ≤ prefix_len p bs → list_all p (take m bs) ≡ true
all_run p zero bs h = refl
all_run p (suc m) [] h = refl
all_run p (suc m) (b ∷ bs) h = run_step (p b) (list_all p (take m bs)) m (prefix_len p bs) h (λ k. all_run p m bs k)

past_step : (here all : Bool) (m rest : ℕ) → cond here (1 + rest) 0 < suc m → (rest < m → all ≡ false) → (here && all) ≡ false
past_step true all m rest h next = next (omega arith)
past_step false all m rest h next = refl

past_run : (p : ℕ → Bool) (m : ℕ) (bs : List ℕ) → prefix_len p bs < m → m ≤ length bs → list_all p (take m bs) ≡ false
past_run p zero bs h l = absurd (omega arith)
past_run p (suc m) [] h l = absurd (omega arith)
past_run p (suc m) (b ∷ bs) h l = past_step (p b) (list_all p (take m bs)) m (prefix_len p bs) h (λ k. past_run p m bs k (omega arith))

-- ---- the kind by the forms

abbrev chosen : Bool → Bool → Bool → Bool → Bool → Option TokenKind
chosen word bang number quoted symbol =
    if word then Some Word else (if bang then Some Bang else (if number then Some Number else (if quoted then Some Quoted else (if symbol then Some Symbol else None))))

kind_by : (bytes : List ℕ) (w b n q s : Bool) → is_word bytes ≡ w → is_bang bytes ≡ b → is_number bytes ≡ n → is_quoted bytes ≡ q → is_symbol bytes ≡ s
    → kind_of bytes ≡ chosen w b n q s
kind_by bytes w b n q s e1 e2 e3 e4 e5 = rw (e1, e2, e3, e4, e5) refl

-- ---- what a first byte allows

letter_no_digit : (b : ℕ) → is_ascii_alphabetic b ≡ true → is_ascii_digit b ≡ false
letter_no_digit b h = grind (arith, nat_tests)

letter_no_quote : (b : ℕ) → is_ascii_alphabetic b ≡ true → is_quote b ≡ false
letter_no_quote b h = grind (arith, nat_tests)

letter_no_other : (b : ℕ) → is_ascii_alphabetic b ≡ true → is_other b ≡ false
letter_no_other b h = ap (λ x. not x && not (is_ascii_digit b) && not (is_quote b)) h

digit_no_letter : (b : ℕ) → is_ascii_digit b ≡ true → is_ascii_alphabetic b ≡ false
digit_no_letter b h = grind (arith, nat_tests)

digit_no_quote : (b : ℕ) → is_ascii_digit b ≡ true → is_quote b ≡ false
digit_no_quote b h = grind (arith, nat_tests)

digit_no_other : (b : ℕ) → is_ascii_digit b ≡ true → is_other b ≡ false
digit_no_other b h = left_false _ _ (right_false (not (is_ascii_alphabetic b)) _ (ap not h))

variable_letter : (b : ℕ) → is_ascii_alphabetic b ≡ false → (b == 118 || b == 115) ≡ false
variable_letter b h = grind (arith, nat_tests)

symbol_other : (b : ℕ) (bs : List ℕ) → is_symbol (b ∷ bs) ≡ true → is_other b ≡ true
symbol_other b [] h = any_same is_other b (grammar_one_byte ++ outside_one_byte) refl h
symbol_other b (c ∷ []) h = any_bytes (λ s. is_other (slice_index s 0)) (b ∷ c ∷ []) (grammar_two_bytes ++ outside_two_bytes) refl h
symbol_other b (c ∷ d ∷ []) h = let e : b ≡ 60 = grind (arith, nat_tests) in ap is_other e
symbol_other b (c ∷ d ∷ e ∷ es) h = cc

no_symbol : (b : ℕ) (bs : List ℕ) → is_other b ≡ false → is_symbol (b ∷ bs) ≡ false
no_symbol b bs h = not_true (is_symbol (b ∷ bs)) (λ e. let k = symbol_other b bs e in cc)

no_bang : (b : ℕ) (bs : List ℕ) → is_ascii_alphabetic b ≡ false → is_bang (b ∷ bs) ≡ false
no_bang b [] h = refl
no_bang b (c ∷ []) h = refl
no_bang b (c ∷ d ∷ ds) h = left_false _ _ (left_false _ _ (left_false _ _ (variable_letter b h)))

-- ---- a token that is a byte and a run

above_run : (kind : TokenKind) (p : ℕ → Bool) (b : ℕ) (bs : List ℕ)
    → ((m : ℕ) → kind_of (b ∷ take m bs) ≡ cond (list_all p (take m bs)) (Some kind) None)
    → (m : ℕ) → suc (prefix_len p bs) < m → m ≤ suc (length bs) → kind_of (take m (b ∷ bs)) ≡ None
above_run kind p b bs each zero lo hi = absurd (omega arith)
above_run kind p b bs each (suc m) lo hi = each m ∙ ap (λ c. cond c (Some kind) None) (past_run p m bs (omega arith) (omega arith))

longest_run : (kind : TokenKind) (p : ℕ → Bool) (b : ℕ) (bs : List ℕ)
    → ((m : ℕ) → kind_of (b ∷ take m bs) ≡ cond (list_all p (take m bs)) (Some kind) None)
    → longest (b ∷ bs) ≡ Some (kind, 1 + prefix_len p bs)
longest_run kind p b bs each =
    longest_is (b ∷ bs) (prefix_len p bs) kind (omega (arith, prefix_len-le-length p bs))
    (each (prefix_len p bs) ∙ ap (λ c. cond c (Some kind) None) (all_run p (prefix_len p bs) bs (omega arith)))
    (above_run kind p b bs each)
    ∙ ap (λ k. Some (kind, k)) (omega arith)

-- ---- numbers

kind_digit : (b : ℕ) (xs : List ℕ) → is_ascii_digit b ≡ true → kind_of (b ∷ xs) ≡ cond (list_all is_ascii_digit xs) (Some Number) None
kind_digit b xs h =
    kind_by (b ∷ xs) false false (list_all is_ascii_digit xs) false false
    (left_false _ _ (digit_no_letter b h)) (no_bang b xs (digit_no_letter b h)) (ap (λ d. d && list_all is_ascii_digit xs) h)
    (left_false _ _ (digit_no_quote b h)) (no_symbol b xs (digit_no_other b h))

pub number_longest : (b : ℕ) (bs : List ℕ) → is_ascii_digit b ≡ true → longest (b ∷ bs) ≡ Some (Number, 1 + prefix_len is_ascii_digit bs)
number_longest b bs h = longest_run Number is_ascii_digit b bs (λ m. kind_digit b (take m bs) h)

-- ---- words

kind_letter : (b : ℕ) (xs : List ℕ) → is_ascii_alphabetic b ≡ true → kind_of (b ∷ xs) ≡ chosen (list_all is_word_byte xs) (is_bang (b ∷ xs)) false false false
kind_letter b xs h =
    kind_by (b ∷ xs) (list_all is_word_byte xs) (is_bang (b ∷ xs)) false false false
    (ap (λ d. d && list_all is_word_byte xs) h) refl (left_false _ _ (letter_no_digit b h))
    (left_false _ _ (letter_no_quote b h)) (no_symbol b xs (letter_no_other b h))

no_variable : (b : ℕ) (bs : List ℕ) (m : ℕ) → begins_variable b bs ≡ false → is_bang (b ∷ take m bs) ≡ false
unfolding begins_variable
no_variable b bs zero h = refl
no_variable b [] (suc m) h = refl
no_variable b (c ∷ bs) (suc zero) h = refl
no_variable b (c ∷ []) (suc (suc m)) h = refl
no_variable b (c ∷ d ∷ ds) (suc (suc m)) h = left_false _ _ h

kind_word : (b : ℕ) (bs : List ℕ) (m : ℕ) → is_ascii_alphabetic b ≡ true → begins_variable b bs ≡ false
    → kind_of (b ∷ take m bs) ≡ cond (list_all is_word_byte (take m bs)) (Some Word) None
kind_word b bs m h v =
    kind_letter b (take m bs) h ∙ ap (λ x. chosen (list_all is_word_byte (take m bs)) x false false false) (no_variable b bs m v)

pub word_longest : (b : ℕ) (bs : List ℕ) → is_ascii_alphabetic b ≡ true → begins_variable b bs ≡ false
    → longest (b ∷ bs) ≡ Some (Word, 1 + prefix_len is_word_byte bs)
word_longest b bs h v = longest_run Word is_word_byte b bs (λ m. kind_word b bs m h v)

-- ---- variables

variable_is_letter : (b : ℕ) → (b == 118 || b == 115) ≡ true → is_ascii_alphabetic b ≡ true
variable_is_letter b h = grind (arith, nat_tests)

mark_no_word : (c : ℕ) → (c == 33) ≡ true → is_word_byte c ≡ false
mark_no_word c h = let e : c ≡ 33 = (Decides-eqb c 33).0 h in ap is_word_byte e

-- a variable of so many digits after the first
kind_variable : (b c d : ℕ) (ds : List ℕ) (n : ℕ) → begins_variable b (c ∷ d ∷ ds) ≡ true
    → kind_of (b ∷ c ∷ d ∷ take n ds) ≡ cond (list_all is_ascii_digit (take n ds) && nat_le (length (take n ds)) 8) (Some Bang) None
unfolding begins_variable
kind_variable b c d ds n h =
    let opens : ((b == 118 || b == 115) && c == 33) ≡ true = left_true _ _ h in
    let letter : is_ascii_alphabetic b ≡ true = variable_is_letter b (left_true _ _ opens) in
    let mark : is_word_byte c ≡ false = mark_no_word c (right_true (b == 118 || b == 115) (c == 33) opens) in
    kind_letter b (c ∷ d ∷ take n ds) letter
    ∙ ap (λ x. chosen x (is_bang (b ∷ c ∷ d ∷ take n ds)) false false false) (left_false _ _ mark)
    ∙ ap (λ x. chosen false (x && (list_all is_ascii_digit (take n ds) && nat_le (length (take n ds)) 8)) false false false) h

few_digits : (n : ℕ) (ds : List ℕ) → n ≤ prefix_len is_ascii_digit ds → n ≤ 8 → (list_all is_ascii_digit (take n ds) && nat_le (length (take n ds)) 8) ≡ true
few_digits n ds h k = both_true _ _ (all_run is_ascii_digit n ds h) (le-leb _ _ (omega (arith, length-take n ds)))

many_digits : (n : ℕ) (ds : List ℕ) → min (prefix_len is_ascii_digit ds) 8 < n → n ≤ length ds → (list_all is_ascii_digit (take n ds) && nat_le (length (take n ds)) 8) ≡ false
many_digits n ds h k =
    elim (leb_tells n (prefix_len is_ascii_digit ds)) [
      | inl w ↦ right_false (list_all is_ascii_digit (take n ds)) _ (not_true _ (λ e. omega (arith, leb-true _ _ e, length-take n ds)))
      | inr w ↦ left_false _ _ (past_run is_ascii_digit n ds w.1 k)
    ]

above_variable : (b c d : ℕ) (ds : List ℕ) → begins_variable b (c ∷ d ∷ ds) ≡ true
    → (m : ℕ) → suc (suc (suc (min (prefix_len is_ascii_digit ds) 8))) < m → m ≤ suc (suc (suc (length ds))) → kind_of (take m (b ∷ c ∷ d ∷ ds)) ≡ None
above_variable b c d ds h zero lo hi = absurd (omega arith)
above_variable b c d ds h (suc zero) lo hi = absurd (omega arith)
above_variable b c d ds h (suc (suc zero)) lo hi = absurd (omega arith)
above_variable b c d ds h (suc (suc (suc n))) lo hi =
    kind_variable b c d ds n h ∙ ap (λ x. cond x (Some Bang) None) (many_digits n ds (omega arith) (omega arith))

pub variable_longest : (b : ℕ) (bs : List ℕ) → begins_variable b bs ≡ true → longest (b ∷ bs) ≡ Some (Bang, 3 + min (prefix_len is_ascii_digit (drop 2 bs)) 8)
unfolding begins_variable
variable_longest b [] h = absurd (not_open _ h)
variable_longest b (c ∷ []) h = absurd (not_open _ h)
variable_longest b (c ∷ d ∷ ds) h =
    let n : ℕ = min (prefix_len is_ascii_digit ds) 8 in
    let within : prefix_len is_ascii_digit ds ≤ length ds = prefix_len-le-length is_ascii_digit ds in
    longest_is (b ∷ c ∷ d ∷ ds) (suc (suc n)) Bang (omega arith)
    (kind_variable b c d ds n h ∙ ap (λ x. cond x (Some Bang) None) (few_digits n ds (omega arith) (omega arith)))
    (above_variable b c d ds h)
    ∙ ap (λ k. Some (Bang, k)) (omega arith)

pub variable_room : (b : ℕ) (bs : List ℕ) → begins_variable b bs ≡ true → 2 ≤ length bs
unfolding begins_variable
variable_room b [] h = absurd (not_open _ h)
variable_room b (c ∷ []) h = absurd (not_open _ h)
variable_room b (c ∷ d ∷ ds) h = omega arith

-- ---- quoted texts

run_take_step : (here : Bool) (m run taken : ℕ) → taken ≡ min m run → cond here (1 + taken) 0 ≡ min (suc m) (cond here (1 + run) 0)
run_take_step true m run taken e = omega arith
run_take_step false m run taken e = omega arith

run_take : (p : ℕ → Bool) (m : ℕ) (bs : List ℕ) → prefix_len p (take m bs) ≡ min m (prefix_len p bs)
run_take p zero bs = omega arith
run_take p (suc m) [] = omega arith
run_take p (suc m) (b ∷ bs) = run_take_step (p b) m (prefix_len p bs) (prefix_len p (take m bs)) (run_take p m bs)

abbrev inside : ℕ → Bool
inside c = not (is_quote c)

kind_quote : (xs : List ℕ) → kind_of (34 ∷ xs) ≡ cond (prefix_len inside xs + 1 == length xs) (Some Quoted) None
kind_quote xs = kind_by (34 ∷ xs) false false false (prefix_len inside xs + 1 == length xs) false refl (no_bang 34 xs refl) refl refl (no_symbol 34 xs refl)

not_closed : (m : ℕ) (bs : List ℕ) → min m (prefix_len inside bs) + 1 ≢ m → m ≤ length bs → kind_of (34 ∷ take m bs) ≡ None
not_closed m bs h k =
    kind_quote (take m bs) ∙ ap (λ x. cond x (Some Quoted) None) (not_true _ (λ e. h (omega (arith, (Decides-eqb _ _).0 e, run_take inside m bs, length-take m bs))))

above_quote : (bs : List ℕ) (m : ℕ) → suc (suc (prefix_len inside bs)) < m → m ≤ suc (length bs) → kind_of (take m (34 ∷ bs)) ≡ None
above_quote bs zero lo hi = absurd (omega arith)
above_quote bs (suc m) lo hi = not_closed m bs (λ e. omega arith) (omega arith)

pub quoted_longest : (bs : List ℕ) → prefix_len inside bs < length bs → longest (34 ∷ bs) ≡ Some (Quoted, 2 + prefix_len inside bs)
quoted_longest bs h =
    let i : ℕ = prefix_len inside bs in
    longest_is (34 ∷ bs) (suc i) Quoted (omega arith)
    (kind_quote (take (suc i) bs) ∙ ap (λ x. cond x (Some Quoted) None) (eq-eqb _ _ (omega (arith, run_take inside (suc i) bs, length-take (suc i) bs))))
    (above_quote bs)
    ∙ ap (λ k. Some (Quoted, k)) (omega arith)

open_quote : (bs : List ℕ) → length bs ≤ prefix_len inside bs → (m : ℕ) → 0 < m → m ≤ suc (length bs) → kind_of (take m (34 ∷ bs)) ≡ None
open_quote bs h zero lo hi = absurd (omega arith)
open_quote bs h (suc m) lo hi = not_closed m bs (λ e. omega arith) (omega arith)

pub quoted_none : (bs : List ℕ) → length bs ≤ prefix_len inside bs → longest (34 ∷ bs) ≡ None
quoted_none bs h = longest_none (34 ∷ bs) (open_quote bs h)

-- ---- symbols

not_flips : (b : Bool) → not b ≡ true → b ≡ false
not_flips true h = cc
not_flips false h = refl

kind_other : (b : ℕ) (xs : List ℕ) → is_other b ≡ true → kind_of (b ∷ xs) ≡ cond (is_symbol (b ∷ xs)) (Some Symbol) None
kind_other b xs h =
    let first : (not (is_ascii_alphabetic b) && not (is_ascii_digit b)) ≡ true = left_true _ _ h in
    let letter : is_ascii_alphabetic b ≡ false = not_flips _ (left_true _ _ first) in
    let digit : is_ascii_digit b ≡ false = not_flips _ (right_true (not (is_ascii_alphabetic b)) (not (is_ascii_digit b)) first) in
    let quote : is_quote b ≡ false = not_flips _ (right_true (not (is_ascii_alphabetic b) && not (is_ascii_digit b)) (not (is_quote b)) h) in
    kind_by (b ∷ xs) false false false false (is_symbol (b ∷ xs)) (left_false _ _ letter) (no_bang b xs letter) (left_false _ _ digit) (left_false _ _ quote) refl

abbrev sized : ℕ → Option Match
sized zero = None
sized (suc n) = Some (Symbol, suc n)

abbrev kind_symbol : Bool → Option TokenKind
kind_symbol b = cond b (Some Symbol) None

by_size : (t u v : Bool) → match_or (kind_symbol t) 3 (match_or (kind_symbol u) 2 (match_or (kind_symbol v) 1 None)) ≡ sized (cond t 3 (cond u 2 (cond v 1 0)))
by_size true u v = refl
by_size false true v = refl
by_size false false true = refl
by_size false false false = refl

no_pair_at_end : (b : ℕ) → is_symbol (b ∷ 0 ∷ []) ≡ false
no_pair_at_end b = not_true _ (λ e. let k : false ≡ true = any_bytes (λ s. not (slice_index s 1 == 0)) (b ∷ 0 ∷ []) (grammar_two_bytes ++ outside_two_bytes) refl e in cc)

above_symbol : (b c d : ℕ) (ds : List ℕ) → is_other b ≡ true → (m : ℕ) → 3 < m → m ≤ suc (suc (suc (length ds))) → kind_of (take m (b ∷ c ∷ d ∷ ds)) ≡ None
above_symbol b c d ds h zero lo hi = absurd (omega arith)
above_symbol b c d ds h (suc zero) lo hi = absurd (omega arith)
above_symbol b c d ds h (suc (suc zero)) lo hi = absurd (omega arith)
above_symbol b c d ds h (suc (suc (suc zero))) lo hi = absurd (omega arith)
above_symbol b c d [] h (suc (suc (suc (suc m)))) lo hi = absurd (omega arith)
above_symbol b c d (e ∷ ds) h (suc (suc (suc (suc m)))) lo hi = kind_other b (c ∷ d ∷ e ∷ take m ds) h

symbol_sized : (b : ℕ) (bs : List ℕ) → is_other b ≡ true → longest (b ∷ bs) ≡ sized (symbol_size b bs)
unfolding longest symbol_size
symbol_sized b [] h =
    ap (λ k. match_or k 1 None) (kind_other b [] h)
    ∙ by_size false false (is_symbol (b ∷ []))
    ∙ sym (ap₂ (λ (t u : Bool). sized (cond t 3 (cond u 2 (cond (is_symbol (b ∷ [])) 1 0)))) (right_false (b == 60 && false) false refl) (no_pair_at_end b))
symbol_sized b (c ∷ []) h =
    ap₂ (λ (l k : Option TokenKind). match_or l 2 (match_or k 1 None)) (kind_other b (c ∷ []) h) (kind_other b [] h)
    ∙ by_size false (is_symbol (b ∷ c ∷ [])) (is_symbol (b ∷ []))
    ∙ sym (ap (λ (t : Bool). sized (cond t 3 (cond (is_symbol (b ∷ c ∷ [])) 2 (cond (is_symbol (b ∷ [])) 1 0)))) (right_false (b == 60 && c == 61) false refl))
symbol_sized b (c ∷ d ∷ ds) h =
    within_above (b ∷ c ∷ d ∷ ds) 3 (length ds) (suc (suc (suc (length ds)))) (omega arith) (above_symbol b c d ds h)
    ∙ ap₂ (λ (k l : Option TokenKind). match_or k 3 (match_or l 2 (match_or (kind_of (b ∷ [])) 1 None))) (kind_other b (c ∷ d ∷ []) h) (kind_other b (c ∷ []) h)
    ∙ ap (λ (k : Option TokenKind). match_or (kind_symbol (is_symbol (b ∷ c ∷ d ∷ []))) 3 (match_or (kind_symbol (is_symbol (b ∷ c ∷ []))) 2 (match_or k 1 None))) (kind_other b [] h)
    ∙ by_size (is_symbol (b ∷ c ∷ d ∷ [])) (is_symbol (b ∷ c ∷ [])) (is_symbol (b ∷ []))

pub symbol_none : (b : ℕ) (bs : List ℕ) → is_other b ≡ true → symbol_size b bs ≡ 0 → longest (b ∷ bs) ≡ None
symbol_none b bs h e = symbol_sized b bs h ∙ ap sized e

sized_some : (n : ℕ) → n ≢ 0 → sized n ≡ Some (Symbol, n)
sized_some zero h = absurd (h refl)
sized_some (suc n) h = refl

pub symbol_longest : (b : ℕ) (bs : List ℕ) (n : ℕ) → is_other b ≡ true → symbol_size b bs ≡ n → n ≢ 0 → longest (b ∷ bs) ≡ Some (Symbol, n)
symbol_longest b bs n h e k = symbol_sized b bs h ∙ ap sized e ∙ sized_some n k

-- ---- what is found is a token at the beginning

found_here : (found : Match) (text : List ℕ) (n : ℕ) (k : Option TokenKind) → k ≡ kind_of (take (suc n) text) → match_or k (suc n) (longest_within n text) ≡ Some found
    → (longest_within n text ≡ Some found → IsFront text n found) → IsFront text (suc n) found
found_here found text n (Some kind) e h before =
    let same : (kind, suc n) ≡ found = cc in
    let P : Match → Type 0 = λ f. IsFront text (suc n) f in
    subst P same (record { some = omega arith; within = omega arith; kind = sym e })
found_here found text n None e h before =
    let f = before h in record { some = f.some; within = omega arith; kind = f.kind }

found_within : (found : Match) (text : List ℕ) (n : ℕ) → longest_within n text ≡ Some found → IsFront text n found
found_within found text zero h = cc
found_within found text (suc n) h = found_here found text n (kind_of (take (suc n) text)) refl h (found_within found text n)

-- the longest token has a byte, lies in the text, and is one token
pub longest_front : (text : List ℕ) (found : Match) → longest text ≡ Some found → IsFront text (length text) found
unfolding longest
longest_front text found h = found_within found text (length text) h

pub longest_some : (text : List ℕ) (found : Match) → longest text ≡ Some found → 1 ≤ found.1
longest_some text found h = (longest_front text found h).some

pub longest_within_text : (text : List ℕ) (found : Match) → longest text ≡ Some found → found.1 ≤ length text
longest_within_text text found h = (longest_front text found h).within
