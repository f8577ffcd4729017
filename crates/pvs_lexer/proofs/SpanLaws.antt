-- The tokens of a text lie in it, each with its kind and its place.
use Rattle.std.proofs.Common.{◌≡◌, ℕ, zero, suc, ◌+◌, ◌-◌, ◌≤◌, Bool, true, false, cond, not, List, [], ◌∷◌, ◌++◌, length, take, drop, Option, Some, None, All, refl, sym, subst, ap, ◌∙◌, arith, append_assoc, length-append}
use Rattle.std.specs.List.{prefix_len}
use Rattle.std.proofs.Math.Seq.{take-append_seam, drop-append_seam}
use Rattle.std.proofs.lemmas.List.Elements.{All-nil, All-cons}
use Rattle.std.proofs.lemmas.List.Sums.{prefix_len-le-length}
use Rattle.pvs_base.specs.declared.code.Code.{Code}
use Rattle.pvs_base.specs.declared.place.Pos.{Pos}
use Rattle.pvs_base.specs.Place.{ends_line, place_after}
use Rattle.pvs_lexer.specs.declared.token.Token.{Token}
use Rattle.pvs_lexer.specs.Tokens.{kind_of, Match, longest, is_space, begins_comment, fault_of, TokenStream, token_or_fault, tokens_from, tokens_of}
use Rattle.pvs_lexer.specs.Spans.{AreSpans, IsTokenOf}
use Rattle.pvs_lexer.proofs.LongestLaws.{IsFront, longest_front}

-- what is to be shown of the tokens of the part of a text that begins at one offset and ends at another
record AreIn (p : Pos) (text : List ℕ) (from to : ℕ) (lexed : TokenStream) : Type 0 where
  spans : AreSpans from to lexed.tokens
  tokens : All (IsTokenOf p text) lexed.tokens

earlier : (a b to : ℕ) (tokens : List Token) → a ≤ b → AreSpans b to tokens → AreSpans a to tokens
earlier a b to [] h s = omega arith
earlier a b to (t ∷ ts) h s = (omega (arith, s.0), s.1, s.2)

from_earlier : (p : Pos) (text : List ℕ) (a b to : ℕ) (lexed : TokenStream) → a ≤ b → AreIn p text b to lexed → AreIn p text a to lexed
from_earlier p text a b to lexed h all = record { spans = earlier a b to lexed.tokens h all.spans; tokens = all.tokens }

pick_in : (p : Pos) (text : List ℕ) (from to : ℕ) (space comment : Bool) (x y z : TokenStream) → AreIn p text from to x → AreIn p text from to y → AreIn p text from to z
    → AreIn p text from to (cond space x (cond comment y z))
pick_in p text from to true comment x y z a b c = a
pick_in p text from to false true x y z a b c = b
pick_in p text from to false false x y z a b c = c

front_is_token : (p : Pos) (text before rest : List ℕ) (found : Match) → text ≡ before ++ rest → IsFront rest (length rest) found
    → IsTokenOf p text (record { kind = found.0; start = length before; end = length before + found.1; pos = place_after p before })
front_is_token p text before rest found e front = record {
  kind =
      ap (λ xs. kind_of (take (length before + found.1 - length before) (drop (length before) xs))) e
      ∙ ap (λ xs. kind_of (take (length before + found.1 - length before) xs)) (drop-append_seam before rest)
      ∙ ap (λ n. kind_of (take n rest)) (omega arith)
      ∙ front.kind;
  pos = ap (place_after p) (sym (ap (take (length before)) e ∙ take-append_seam before rest));
}

begun_in : (p : Pos) (text before rest : List ℕ) (code : Code) (found : Option Match) (behind : ℕ → TokenStream) → text ≡ before ++ rest
    → ((f : Match) → found ≡ Some f → IsFront rest (length rest) f)
    → ((n : ℕ) → 1 ≤ n → n ≤ length rest → AreIn p text (length before + n) (length text) (behind n))
    → AreIn p text (length before) (length text) (token_or_fault (length before) (place_after p before) code found behind)
begun_in p text before rest code None behind e front next = record { spans = omega (arith, ap length e, length-append before rest); tokens = All-nil (IsTokenOf p text) }
begun_in p text before rest code (Some f) behind e front next =
    let here = front f refl in
    let more = next f.1 here.some here.within in
    record {
      spans = (omega arith, omega (arith, here.some), more.spans);
      tokens = All-cons (IsTokenOf p text) _ (behind f.1).tokens (front_is_token p text before rest f e here) more.tokens;
    }

all_in : (p : Pos) (text before : List ℕ) (k : ℕ) (rest : List ℕ) → text ≡ before ++ rest → k ≤ length rest
    → AreIn p text (length before + k) (length text) (tokens_from 0 p before k rest)
all_in p text before zero [] e h = record { spans = omega (arith, ap length e, length-append before []); tokens = All-nil (IsTokenOf p text) }
all_in p text before (suc k) [] e h = absurd (omega arith)
all_in p text before (suc k) (b ∷ bs) e h =
    from_earlier p text (length before + suc k) (length (before ++ b ∷ []) + k) (length text) (tokens_from 0 p (before ++ b ∷ []) k bs)
    (omega (arith, length-append before (b ∷ [])))
    (all_in p text (before ++ b ∷ []) k bs (e ∙ sym (append_assoc before (b ∷ []) bs)) (omega arith))
all_in p text before zero (b ∷ bs) e h =
    let go : (n : ℕ) → n ≤ length bs → AreIn p text (length before + suc n) (length text) (tokens_from 0 p (before ++ b ∷ []) n bs) =
    λ n l. from_earlier p text (length before + suc n) (length (before ++ b ∷ []) + n) (length text) (tokens_from 0 p (before ++ b ∷ []) n bs)
    (omega (arith, length-append before (b ∷ [])))
    (all_in p text (before ++ b ∷ []) n bs (e ∙ sym (append_assoc before (b ∷ []) bs)) l) in
    let run : ℕ = prefix_len (λ c. not (ends_line c)) bs in
    let short : run ≤ length bs = prefix_len-le-length (λ c. not (ends_line c)) bs in
    let behind : ℕ → TokenStream = λ n. tokens_from 0 p (before ++ b ∷ []) (n - 1) bs in
    let next : (n : ℕ) → 1 ≤ n → n ≤ length (b ∷ bs) → AreIn p text (length before + n) (length text) (behind n) =
    λ n some l. from_earlier p text (length before + n) (length before + suc (n - 1)) (length text) (behind n) (omega arith) (go (n - 1) (omega arith)) in
    let IsAt : ℕ → Type 0 = λ s. AreIn p text (length before) (length text) (token_or_fault s (place_after p before) (fault_of b) (longest (b ∷ bs)) behind) in
    let first : IsAt (length before) = begun_in p text before (b ∷ bs) (fault_of b) (longest (b ∷ bs)) behind e (longest_front (b ∷ bs)) next in
    pick_in p text (length before + 0) (length text) (is_space b) (begins_comment b) _ _ _
    (from_earlier p text (length before + 0) (length before + 1) (length text) (tokens_from 0 p (before ++ b ∷ []) 0 bs) (omega arith) (go 0 (omega arith)))
    (from_earlier p text (length before + 0) (length before + suc run) (length text) (tokens_from 0 p (before ++ b ∷ []) run bs) (omega arith) (go run short))
    (from_earlier p text (length before + 0) (length before) (length text) (token_or_fault (0 + length before) (place_after p before) (fault_of b) (longest (b ∷ bs)) behind) (omega arith)
    (subst IsAt (omega arith) first))

-- the tokens of a text
tokens_in : (p : Pos) (text : List ℕ) → AreIn p text 0 (length text) (tokens_of p text)
unfolding tokens_of
tokens_in p text = all_in p text [] 0 text refl (omega arith)

pub new_is : (p : Pos) (text : List ℕ) → tokens_from 0 p [] 0 text ≡ tokens_of p text
unfolding tokens_of
new_is p text = refl

-- the spans of the tokens of a text lie in it, ascend, and are not empty
pub tokens_spans : (p : Pos) (text : List ℕ) → AreSpans 0 (length text) (tokens_of p text).tokens
tokens_spans p text = (tokens_in p text).spans

-- each token of a text is one, by its bytes, its kind and its place
pub tokens_are : (p : Pos) (text : List ℕ) → All (IsTokenOf p text) (tokens_of p text).tokens
tokens_are p text = (tokens_in p text).tokens

spans_count : (from to : ℕ) (tokens : List Token) → AreSpans from to tokens → from + length tokens ≤ to
spans_count from to [] s = omega arith
spans_count from to (t ∷ ts) s = omega (arith, s.0, s.1, spans_count t.end to ts s.2)

-- a text has no more tokens than bytes
pub tokens_count : (p : Pos) (text : List ℕ) → length (tokens_of p text).tokens ≤ length text
tokens_count p text = omega (arith, spans_count 0 (length text) (tokens_of p text).tokens (tokens_spans p text))
