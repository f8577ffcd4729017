-- EachRef reference of a scope stands once.
use Rattle.std.proofs.Common.{◌≡◌, inl, inr, Bool, true, false, ◌||◌, cond, List, [], ◌∷◌, ◌++◌, refl, ap, ◌∙◌, sym}
use Rattle.pvs_terms.specs.Tree.{Ref, ref_eq}
use Rattle.pvs_terms.proofs.TreeLaws.{ref_eq-same}
use Rattle.pvs_sig.specs.Development.{theory_named, formals_seen, In}
use Rattle.pvs_sig.specs.Scope.{imported_refs, is_among, without_repeats, formals_below, entries_below, whole_scope}
use Rattle.pvs_sig.specs.Laws.{IsDistinct, ScopeIsDistinct}

false_true : false ≡ true → ⊥
false_true h = cc

or_right : (a b : Bool) → b ≡ true → (a || b) ≡ true
or_right true b h = refl
or_right false b h = h

same_among : (r x : Ref) (before : List Ref) → r ≡ x → is_among r (x ∷ before) ≡ true
same_among r x before e = ap (λ z. z || is_among r before) (ap (ref_eq r) (sym e) ∙ ref_eq-same r)

-- what stood before comes no more
not_before : (r : Ref) (before rs : List Ref) → is_among r before ≡ true → In r (without_repeats before rs) → ⊥
not_before r before [] t h = h
not_before r before (x ∷ xs) t h = go (not_before r before xs t) (not_before r (x ∷ before) xs (or_right (ref_eq r x) (is_among r before) t)) (is_among x before) refl h
  where
    go : (In r (without_repeats before xs) → ⊥) → (In r (without_repeats (x ∷ before) xs) → ⊥) → (b : Bool) → is_among x before ≡ b → In r (cond b (without_repeats before xs) (x ∷ without_repeats (x ∷ before) xs)) → ⊥
    go f g true e k = f k
    go f g false e (inl k) = false_true (sym e ∙ ap (λ z. is_among z before) (sym k) ∙ t)
    go f g false e (inr k) = g k

firsts_distinct : (before rs : List Ref) → IsDistinct (without_repeats before rs)
firsts_distinct before [] = tt
firsts_distinct before (x ∷ xs) = go (firsts_distinct before xs) (firsts_distinct (x ∷ before) xs) (is_among x before)
  where
    go : IsDistinct (without_repeats before xs) → IsDistinct (without_repeats (x ∷ before) xs) → (b : Bool) → IsDistinct (cond b (without_repeats before xs) (x ∷ without_repeats (x ∷ before) xs))
    go f g true = f
    go f g false = (not_before x (x ∷ before) xs (same_among x x before refl), g)

pub scope_is_distinct : ScopeIsDistinct
scope_is_distinct = λ d s i. firsts_distinct [] (formals_below (formals_seen s i) ++ entries_below (λ x. imported_refs (theory_named d x.theory) x.theory x.actuals (whole_scope d x.theory)) s.imports i)
