-- Entries for several names, of one type that is read for each of them.
use Rattle.std.proofs.Common.{◌≡◌, ℕ, ◌+◌, ◌<◌, ◌≤◌, List, [], ◌∷◌, ◌++◌, length, map, take, get_or, Ok, Err, ap, ◌∙◌, sym, refl}
use Rattle.std.proofs.lemmas.List.{take_more, take_all, map-append}
use Rattle.pvs_syntax.specs.declared.word.Word.{Word}
use Rattle.pvs_syntax.specs.declared.expression.TypeExpr.{TypeExpr}
use Rattle.pvs_parser.specs.Language.{Tokens}
use Rattle.pvs_parser.specs.code.Descent.{Answer}
use Rattle.pvs_base.specs.Answers.{◌>>=◌}
use Rattle.pvs_parser.specs.code.Steps.{each}

-- the tokens after the type
unfoldable pub rest_of : Answer (TypeExpr × Tokens) → Answer Tokens
rest_of read = read >>= λ p. Ok p.1

pub rest_is : (read : Answer (TypeExpr × Tokens)) (a : TypeExpr) (us : Tokens) → read ≡ Ok (a, us) → rest_of read ≡ Ok us
unfolding rest_of
rest_is read a us e = rw e refl

-- what is found are the entries for these names
pub record Are {D : Type 0} (make : TypeExpr → Word → D) (ws : List Word) (read : Answer (TypeExpr × Tokens)) (found : List D) : Type 0 where
  pub entries : (a : TypeExpr) (us : Tokens) → read ≡ Ok (a, us) → found ≡ map (make a) ws

pub are_none : {D : Type 0} (make : TypeExpr → Word → D) (ws : List Word) (read : Answer (TypeExpr × Tokens)) (found : List D) → found ≡ [] → Are make (take 0 ws) read found
are_none make ws read found e = record { entries = λ a us h. e }

pub are_more : {D : Type 0} (make : TypeExpr → Word → D) (ws : List Word) (i : ℕ) (x : Word) (read : Answer (TypeExpr × Tokens)) (found : List D) (a : TypeExpr) (us : Tokens)
    → i < length ws → Are make (take i ws) read found → read ≡ Ok (a, us) → Are make (take (i + 1) ws) read (found ++ make a (get_or ws i x) ∷ [])
are_more make ws i x read found a us below are e = record {
  entries = λ b vs h.
      let pair : (a, us) ≡ (b, vs) = cc in
      let same : a ≡ b = ap (λ (p : TypeExpr × Tokens). p.0) pair in
      rw same (ap (λ ds. ds ++ make b (get_or ws i x) ∷ []) (are.entries b vs h)) ∙ sym (ap (map (make b)) (take_more ws i x below) ∙ map-append (make b) (take i ws) (get_or ws i x ∷ []));
}

pub are_all : {D : Type 0} (make : TypeExpr → Word → D) (ws : List Word) (i : ℕ) (read : Answer (TypeExpr × Tokens)) (found : List D) (us : Tokens)
    → length ws ≤ i → Are make (take i ws) read found → rest_of read ≡ Ok us → each make ws read ≡ Ok (found, us)
unfolding rest_of
are_all make ws i (Ok p) found us above are e =
    let rest : p.1 ≡ us = cc in
    let all : found ≡ map (make p.0) ws = are.entries p.0 p.1 refl ∙ ap (map (make p.0)) (take_all i ws above) in
    rw (all, rest) refl
are_all make ws i (Err s) found us above are e = cc
