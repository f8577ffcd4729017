-- How a place moves on by one byte.
use Rattle.std.proofs.Common.{◌≡◌, ◌∙◌, ◌+◌, ◌||◌, ◌==◌, ℕ, Bool, true, false, not, cond, List, [], ◌∷◌, ◌++◌, length, refl, sym, ap, ap₂, arith}
use Rattle.std.specs.Prelude.{count_by, reverse}
use Rattle.std.specs.List.{fold, list_any, take_while}
use Rattle.std.proofs.lemmas.List.{reverse-append}
use Rattle.std.proofs.lemmas.List.Folds.{list_any-append}
use Rattle.std.proofs.lemmas.List.Sums.{take_while-cons}
use Rattle.pvs_base.specs.declared.place.Pos.{Pos}
use Rattle.pvs_base.specs.Place.{ends_line, last_line, place_after}

-- the place after one byte, from what is known of the bytes up to there
abbrev placed : Pos → ℕ → Bool → List ℕ → Pos
placed first lines some line = record { line = first.line + lines; col = cond some 1 first.col + length line }

-- the place after one byte
abbrev pub place_next : Pos → ℕ → Pos
place_next p b = cond (ends_line b) (record { line = p.line + 1; col = 1 }) (record { line = p.line; col = p.col + 1 })

fold-push : {A B : Type 0} (f : B → A → B) (a : B) (xs : List A) (y : A) → fold f a (xs ++ y ∷ []) ≡ f (fold f a xs) y
fold-push f a [] y = refl
fold-push f a (x ∷ xs) y = fold-push f (f a x) xs y

line-push : (before : List ℕ) (b : ℕ) → last_line (before ++ b ∷ []) ≡ cond (not (ends_line b)) (b ∷ last_line before) []
line-push before b =
    ap (take_while (λ x. not (ends_line x))) (reverse-append before (b ∷ []))
    ∙ take_while-cons (λ x. not (ends_line x)) b (reverse before)

-- two places on the same line and column are one
same_place : (l m c d : ℕ) → l ≡ m → c ≡ d → (let p : Pos = record { line = l; col = c } in p) ≡ (let p : Pos = record { line = m; col = d } in p)
same_place l m c d e f = ap₂ (λ (a b : ℕ). let p : Pos = record { line = a; col = b } in p) e f

joined : (first : Pos) (lines : ℕ) (some : Bool) (line : List ℕ) (b : ℕ) (ends : Bool)
    → placed first (lines + cond ends 1 0) (some || cond ends true false) (cond (not ends) (b ∷ line) [])
    ≡ cond ends (record { line = (placed first lines some line).line + 1; col = 1 }) (record { line = (placed first lines some line).line; col = (placed first lines some line).col + 1 })
joined first lines true line b true = same_place _ _ _ _ (omega arith) (omega arith)
joined first lines false line b true = same_place _ _ _ _ (omega arith) (omega arith)
joined first lines true line b false = same_place _ _ _ _ (omega arith) (omega arith)
joined first lines false line b false = same_place _ _ _ _ (omega arith) (omega arith)

any-one : (b : ℕ) → list_any ends_line (b ∷ []) ≡ cond (ends_line b) true false
any-one b = grind arith

pub place_after_push : (first : Pos) (before : List ℕ) (b : ℕ) → place_after first (before ++ b ∷ []) ≡ place_next (place_after first before) b
place_after_push first before b =
    ap (λ (n : ℕ). placed first n (list_any ends_line (before ++ b ∷ [])) (last_line (before ++ b ∷ []))) (fold-push (λ a x. a + cond (ends_line x) 1 0) 0 before b)
    ∙ ap (λ (s : Bool). placed first (count_by ends_line before + cond (ends_line b) 1 0) s (last_line (before ++ b ∷ []))) (list_any-append ends_line before (b ∷ []))
    ∙ ap (λ (l : List ℕ). placed first (count_by ends_line before + cond (ends_line b) 1 0) (list_any ends_line before || list_any ends_line (b ∷ [])) l) (line-push before b)
    ∙ ap (λ (s : Bool). placed first (count_by ends_line before + cond (ends_line b) 1 0) (list_any ends_line before || s) (cond (not (ends_line b)) (b ∷ last_line before) [])) (any-one b)
    ∙ joined first (count_by ends_line before) (list_any ends_line before) (last_line before) b (ends_line b)
