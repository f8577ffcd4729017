-- What one more entry does to the constants that names stand for.
use Rattle.std.proofs.Common.{◌≡◌, ◌∙◌, ◌+◌, ℕ, Bool, true, false, List, [], ◌∷◌, ◌++◌, length, Option, Some, None, if◌then◌else◌, refl, sym, ap, arith}
use Rattle.std.specs.Option.{option_or}
use Rattle.pvs_theory.specs.Entries.{Entry, is_constant, number_from, resolve}

-- one more item at the end has the number of all before
pub number_from-push : (p : Entry → Bool) (n : ℕ) (es : List Entry) (e : Entry) → number_from p n (es ++ e ∷ []) ≡ option_or (number_from p n es) (if p e then Some (n + length es) else None)
number_from-push p n [] e = ap (λ (m : ℕ). if p e then Some m else None) (omega arith)
number_from-push p n (x ∷ es) e = by_cases (p x) (number_from-push p (n + 1) es e ∙ ap (λ (m : ℕ). option_or (number_from p (n + 1) es) (if p e then Some m else None)) (omega arith))
  where
    by_cases : (b : Bool) → number_from p (n + 1) (es ++ e ∷ []) ≡ option_or (number_from p (n + 1) es) (if p e then Some (n + length (x ∷ es)) else None)
        → (if b then Some n else number_from p (n + 1) (es ++ e ∷ [])) ≡ option_or (if b then Some n else number_from p (n + 1) es) (if p e then Some (n + length (x ∷ es)) else None)
    by_cases true h = refl
    by_cases false h = h

-- an index of constants with one more entry
pub numbers_more : (es : List Entry) (e : Entry) (name : List ℕ) (old new : Option ℕ) (n : ℕ) → n ≡ length es → old ≡ resolve es name → new ≡ option_or old (if is_constant name e then Some n else None) → new ≡ resolve (es ++ e ∷ []) name
numbers_more es e name old new n at was is =
    let from : n ≡ 0 + length es = omega (arith, at) in
    is
    ∙ (ap (λ (o : Option ℕ). option_or o (if is_constant name e then Some n else None)) was
    ∙ (ap (λ (m : ℕ). option_or (resolve es name) (if is_constant name e then Some m else None)) from
    ∙ sym (number_from-push (is_constant name) 0 es e)))
