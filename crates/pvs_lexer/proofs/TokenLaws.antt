-- The tokens of a text, part by part.
use Rattle.std.proofs.Common.{◌≡◌, ◌≢◌, ℕ, zero, suc, ◌+◌, ◌-◌, ◌≤◌, Bool, true, false, cond, not, List, [], ◌∷◌, ◌++◌, length, take, drop, Option, Some, None, refl, sym, ap, ap₂, ◌∙◌, arith, append_assoc, append-nil, length-append, length-take, get_or}
use Rattle.std.proofs.lemmas.List.{take_rest}
use Rattle.pvs_lexer.specs.code.Cursor.{BeginsNoBlank}
use Rattle.std.specs.List.{prefix_len}
use Rattle.pvs_base.specs.declared.code.Code.{Code}
use Rattle.pvs_base.specs.declared.place.Pos.{Pos}
use Rattle.pvs_base.specs.Place.{ends_line, place_after}
use Rattle.pvs_lexer.specs.declared.token.TokenKind.{TokenKind}
use Rattle.pvs_lexer.specs.Tokens.{Match, longest, is_space, begins_comment, fault_of, TokenStream, no_tokens, before_others, token_or_fault, tokens_from}
use Rattle.pvs_lexer.specs.code.Scan.{blank}
use Rattle.pvs_lexer.proofs.Places.{place_here, place_append}

-- ---- covered bytes

covered : (o : ℕ) (p : Pos) (before : List ℕ) (k : ℕ) (rest : List ℕ) → tokens_from o p before k rest ≡ tokens_from o p (before ++ take k rest) 0 (drop k rest)
covered o p before zero rest = ap (λ xs. tokens_from o p xs 0 rest) (sym (append-nil before))
covered o p before (suc k) [] = refl
covered o p before (suc k) (b ∷ bs) =
    covered o p (before ++ b ∷ []) k bs ∙ ap (λ xs. tokens_from o p xs 0 (drop k bs)) (append_assoc before (b ∷ []) (take k bs))

-- ---- a text from a later byte on

begun_same : (found : Option Match) (s t : ℕ) (p q : Pos) (code : Code) (f g : ℕ → TokenStream) → s ≡ t → p ≡ q → ((n : ℕ) → f n ≡ g n)
    → token_or_fault s p code found f ≡ token_or_fault t q code found g
begun_same None s t p q code f g e h k = ap (λ (x : Pos). token_or_fault 0 x code None f) h
begun_same (Some found) s t p q code f g e h k =
    ap₂ (λ (x : ℕ) (y : Pos). before_others (record { kind = found.0; start = x; end = x + found.1; pos = y }) (f found.1)) e h
    ∙ ap (λ (l : TokenStream). before_others (record { kind = found.0; start = t; end = t + found.1; pos = q }) l) (k found.1)

pick_same : (space comment : Bool) (a b c x y z : TokenStream) → a ≡ x → b ≡ y → c ≡ z → cond space a (cond comment b c) ≡ cond space x (cond comment y z)
pick_same true comment a b c x y z e f g = e
pick_same false true a b c x y z e f g = f
pick_same false false a b c x y z e f g = g

later : (o : ℕ) (p : Pos) (xs before : List ℕ) (k : ℕ) (rest : List ℕ) → tokens_from o p (xs ++ before) k rest ≡ tokens_from (o + length xs) (place_after p xs) before k rest
later o p xs before zero [] = refl
later o p xs before (suc k) [] = refl
later o p xs before (suc k) (b ∷ bs) =
    ap (λ ys. tokens_from o p ys k bs) (append_assoc xs before (b ∷ [])) ∙ later o p xs (before ++ b ∷ []) k bs
later o p xs before zero (b ∷ bs) =
    let go : (n : ℕ) → tokens_from o p ((xs ++ before) ++ b ∷ []) n bs ≡ tokens_from (o + length xs) (place_after p xs) (before ++ b ∷ []) n bs =
    λ n. ap (λ ys. tokens_from o p ys n bs) (append_assoc xs before (b ∷ [])) ∙ later o p xs (before ++ b ∷ []) n bs in
    pick_same (is_space b) (begins_comment b) _ _ _ _ _ _ (go 0) (go (prefix_len (λ c. not (ends_line c)) bs))
    (begun_same (longest (b ∷ bs)) (o + length (xs ++ before)) (o + length xs + length before) (place_after p (xs ++ before)) (place_after (place_after p xs) before)
    (fault_of b) (λ n. tokens_from o p ((xs ++ before) ++ b ∷ []) (n - 1) bs) (λ n. tokens_from (o + length xs) (place_after p xs) (before ++ b ∷ []) (n - 1) bs)
    (omega (arith, length-append xs before)) (place_append p xs before) (λ n. go (n - 1)))

-- the tokens after so many bytes are those of what is left, from its offset and place on
pub tokens_past : (o : ℕ) (p : Pos) (k : ℕ) (rest : List ℕ) → k ≤ length rest
    → tokens_from o p [] k rest ≡ tokens_from (o + k) (place_after p (take k rest)) [] 0 (drop k rest)
tokens_past o p k rest h =
    covered o p [] k rest
    ∙ ap (λ xs. tokens_from o p xs 0 (drop k rest)) (sym (append-nil (take k rest)))
    ∙ later o p (take k rest) [] 0 (drop k rest)
    ∙ ap (λ n. tokens_from (o + n) (place_after p (take k rest)) [] 0 (drop k rest)) (omega (arith, length-take k rest))

-- ---- the first byte

by_blank : (space comment : Bool) (run n : ℕ) (f : ℕ → TokenStream) (other : TokenStream) → cond space 1 (cond comment (1 + run) 0) ≡ n → n ≢ 0
    → cond space (f 0) (cond comment (f run) other) ≡ f (n - 1)
by_blank true comment run n f other e h = ap f (omega arith)
by_blank false true run n f other e h = ap f (omega arith)
by_blank false false run n f other e h = absurd (h (sym e))

-- white space and comments have no tokens
pub blank_past : (o : ℕ) (p : Pos) (b n : ℕ) (bs : List ℕ) → blank b bs ≡ n → n ≢ 0 → tokens_from o p [] 0 (b ∷ bs) ≡ tokens_from o p [] n (b ∷ bs)
blank_past o p b zero bs e h = absurd (h refl)
blank_past o p b (suc n) bs e h =
    by_blank (is_space b) (begins_comment b) (prefix_len (λ c. not (ends_line c)) bs) (suc n) (λ k. tokens_from o p (b ∷ []) k bs) _ e h
    ∙ ap (λ k. tokens_from o p (b ∷ []) k bs) (omega arith)

by_other : (space comment : Bool) (run : ℕ) (x y other : TokenStream) → cond space 1 (cond comment (1 + run) 0) ≡ 0 → cond space x (cond comment y other) ≡ other
by_other true comment run x y other e = absurd (omega arith)
by_other false true run x y other e = absurd (omega arith)
by_other false false run x y other e = refl

no_blank : (o : ℕ) (p : Pos) (b : ℕ) (bs : List ℕ) → blank b bs ≡ 0
    → tokens_from o p [] 0 (b ∷ bs) ≡ token_or_fault o p (fault_of b) (longest (b ∷ bs)) (λ n. tokens_from o p (b ∷ []) (n - 1) bs)
no_blank o p b bs e =
    by_other (is_space b) (begins_comment b) (prefix_len (λ c. not (ends_line c)) bs) _ _ _ e
    ∙ begun_same (longest (b ∷ bs)) (o + 0) o (place_after p []) p (fault_of b) _ _ (omega arith) (place_here p) (λ n. refl)

-- where a token begins, it comes first
pub token_first : (o : ℕ) (p : Pos) (b : ℕ) (bs : List ℕ) (kind : TokenKind) (n : ℕ) → blank b bs ≡ 0 → longest (b ∷ bs) ≡ Some (kind, n) → 1 ≤ n
    → tokens_from o p [] 0 (b ∷ bs) ≡ before_others (record { kind = kind; start = o; end = o + n; pos = p }) (tokens_from o p [] n (b ∷ bs))
token_first o p b bs kind zero e found h = absurd (omega arith)
token_first o p b bs kind (suc n) e found h =
    no_blank o p b bs e
    ∙ ap (λ f. token_or_fault o p (fault_of b) f (λ m. tokens_from o p (b ∷ []) (m - 1) bs)) found
    ∙ ap (λ m. before_others (record { kind = kind; start = o; end = o + suc n; pos = p }) (tokens_from o p (b ∷ []) m bs)) (omega arith)

-- where none does, there is a fault
pub fault_first : (o : ℕ) (p : Pos) (b : ℕ) (bs : List ℕ) → blank b bs ≡ 0 → longest (b ∷ bs) ≡ None
    → tokens_from o p [] 0 (b ∷ bs) ≡ record { tokens = []; fault = Some (record { pos = p; code = fault_of b }) }
fault_first o p b bs e found = no_blank o p b bs e ∙ ap (λ f. token_or_fault o p (fault_of b) f (λ m. tokens_from o p (b ∷ []) (m - 1) bs)) found

-- ---- the same, of a text whose first byte is read by its index

pub found_step : (o : ℕ) (p : Pos) (text : List ℕ) (kind : TokenKind) (n : ℕ) → BeginsNoBlank text → 1 ≤ length text
    → longest (get_or text 0 0 ∷ take (length text - 1) (drop 1 text)) ≡ Some (kind, n) → 1 ≤ n
    → tokens_from o p [] 0 text ≡ before_others (record { kind = kind; start = o; end = o + n; pos = p }) (tokens_from o p [] n text)
found_step o p [] kind n e l found h = absurd (omega arith)
found_step o p (b ∷ bs) kind n e l found h =
    token_first o p b bs kind n e (ap (λ xs. longest (b ∷ xs)) (sym (take_rest (b ∷ bs) 1)) ∙ found) h

pub fault_step : (o : ℕ) (p : Pos) (text : List ℕ) → BeginsNoBlank text → 1 ≤ length text
    → longest (get_or text 0 0 ∷ take (length text - 1) (drop 1 text)) ≡ None
    → tokens_from o p [] 0 text ≡ record { tokens = []; fault = Some (record { pos = p; code = fault_of (get_or text 0 0) }) }
fault_step o p [] e l found = absurd (omega arith)
fault_step o p (b ∷ bs) e l found = fault_first o p b bs e (ap (λ xs. longest (b ∷ xs)) (sym (take_rest (b ∷ bs) 1)) ∙ found)

pub end_step : (o : ℕ) (p : Pos) (text : List ℕ) → length text ≤ 0 → tokens_from o p [] 0 text ≡ no_tokens
end_step o p [] h = refl
end_step o p (b ∷ bs) h = absurd (omega arith)
