-- A scope holds what is visible.
use Rattle.std.proofs.Common.{◌≡◌, ◌⊎◌, inl, inr, ℕ, zero, suc, ◌<◌, ◌≤◌, Bool, true, false, ◌||◌, cond, Option, Some, List, [], ◌∷◌, ◌++◌, refl, ap, ◌∙◌, sym, subst, arith, eqb, eq-eqb}
use Rattle.std.proofs.lemmas.Bool.{eqb-true}
use Rattle.pvs_terms.specs.Tree.{Text, Ref, Own, Formal, Trees, ref_eq}
use Rattle.pvs_terms.proofs.TreeLaws.{ref_eq-true}
use Rattle.pvs_sig.specs.Signature.{Signature, Import}
use Rattle.pvs_sig.specs.Development.{Development, theory_named, formals_seen, In}
use Rattle.pvs_sig.specs.Scope.{ref_instance, is_exported, imported_refs, is_among, without_repeats, formals_below, imported_refs_at, entries_below, whole_scope, scope, IsVisible, of_formal, of_own, of_import}

pub in_left : {A : Type 0} (r : A) (xs ys : List A) → In r xs → In r (xs ++ ys)
in_left r [] ys h = absurd h
in_left r (x ∷ xs) ys (inl e) = inl e
in_left r (x ∷ xs) ys (inr h) = inr (in_left r xs ys h)

pub in_right : {A : Type 0} (r : A) (xs ys : List A) → In r ys → In r (xs ++ ys)
in_right r [] ys h = h
in_right r (x ∷ xs) ys h = inr (in_right r xs ys h)

pub in_split : {A : Type 0} (r : A) (xs ys : List A) → In r (xs ++ ys) → In r xs ⊎ In r ys
in_split r [] ys h = inr h
in_split r (x ∷ xs) ys (inl e) = inl (inl e)
in_split r (x ∷ xs) ys (inr h) = elim (in_split r xs ys h) [ inl a ↦ inl (inr a) | inr b ↦ inr b ]

false_true : false ≡ true → ⊥
false_true h = cc

pub differs : (n k : ℕ) → eqb n k ≡ false → n ≡ k → ⊥
differs n k e h = false_true (sym e ∙ eq-eqb n k h)

-- each reference only where it comes first
pub firsts_in : (r : Ref) (before rs : List Ref) → In r (without_repeats before rs) → In r rs
firsts_in r before [] h = h
firsts_in r before (x ∷ xs) h = go (firsts_in r before xs) (firsts_in r (x ∷ before) xs) (is_among x before) h
  where
    go : (In r (without_repeats before xs) → In r xs) → (In r (without_repeats (x ∷ before) xs) → In r xs) → (b : Bool) → In r (cond b (without_repeats before xs) (x ∷ without_repeats (x ∷ before) xs)) → In r (x ∷ xs)
    go f g true k = inr (f k)
    go f g false (inl e) = inl e
    go f g false (inr k) = inr (g k)

in_firsts : (r : Ref) (before rs : List Ref) → In r rs → is_among r before ≡ false → In r (without_repeats before rs)
in_firsts r before [] h n = h
in_firsts r before (x ∷ xs) h n = go (λ k. in_firsts r before xs k n) (λ e k. in_firsts r (x ∷ before) xs k (ap (λ b. b || is_among r before) e ∙ n)) (is_among x before) refl h
  where
    later : (ref_eq r x ≡ false → In r xs → In r (without_repeats (x ∷ before) xs)) → (b : Bool) → ref_eq r x ≡ b → In r xs → In r (x ∷ without_repeats (x ∷ before) xs)
    later g true e k = inl (ref_eq-true r x e)
    later g false e k = inr (g e k)

    go : (In r xs → In r (without_repeats before xs)) → (ref_eq r x ≡ false → In r xs → In r (without_repeats (x ∷ before) xs)) → (b : Bool) → is_among x before ≡ b → In r (x ∷ xs) → In r (cond b (without_repeats before xs) (x ∷ without_repeats (x ∷ before) xs))
    go f g true e (inl k) = absurd (false_true (sym n ∙ ap (λ z. is_among z before) k ∙ e))
    go f g true e (inr k) = f k
    go f g false e (inl k) = inl k
    go f g false e (inr k) = later g (ref_eq r x) refl k

pub below : (n k : ℕ) → n < suc k → (n ≡ k → ⊥) → n < k
below n k l h = omega (arith, l, h)

formals_in : (q : Ref) (k : ℕ) → In q (formals_below k) → (n : ℕ) × (n < k) × (q ≡ Formal n)
formals_in q zero h = absurd h
formals_in q (suc k) h = elim (in_split q (formals_below k) (Formal k ∷ []) h) [ inl a ↦ (let p = formals_in q k a in (p.0, omega (arith, p.1), p.2)) | inr b ↦ elim b [ inl e ↦ (k, omega arith, e) | inr x ↦ absurd x ] ]

in_formals : (n k : ℕ) → n < k → In (Formal n) (formals_below k)
in_formals n zero l = absurd (omega (arith, l))
in_formals n (suc k) l = go (λ h. in_formals n k h) (eqb n k) refl
  where
    go : (n < k → In (Formal n) (formals_below k)) → (b : Bool) → eqb n k ≡ b → In (Formal n) (formals_below k ++ Formal k ∷ [])
    go f true e = in_right (Formal n) (formals_below k) (Formal k ∷ []) (inl (ap Formal (eqb-true n k e)))
    go f false e = in_left (Formal n) (formals_below k) (Formal k ∷ []) (f (below n k l (differs n k e)))

pub imported_from : (s : Option Signature) (th : Text) (acts : Trees) (q : Ref) (rs : List Ref) → In q (imported_refs s th acts rs) → (r : Ref) × In r rs × (is_exported s r ≡ true) × (q ≡ ref_instance r th acts)
imported_from s th acts q [] h = absurd h
imported_from s th acts q (x ∷ xs) h = go (λ k. let p = imported_from s th acts q xs k in (p.0, inr p.1, p.2, p.3)) (is_exported s x) refl h
  where
    go : (In q (imported_refs s th acts xs) → (r : Ref) × In r (x ∷ xs) × (is_exported s r ≡ true) × (q ≡ ref_instance r th acts)) → (b : Bool) → is_exported s x ≡ b → In q (cond b (ref_instance x th acts ∷ imported_refs s th acts xs) (imported_refs s th acts xs)) → (r : Ref) × In r (x ∷ xs) × (is_exported s r ≡ true) × (q ≡ ref_instance r th acts)
    go more true e (inl k) = (x, inl refl, e, k)
    go more true e (inr k) = more k
    go more false e k = more k

pub in_imported : (s : Option Signature) (th : Text) (acts : Trees) (r : Ref) (rs : List Ref) → In r rs → is_exported s r ≡ true → In (ref_instance r th acts) (imported_refs s th acts rs)
in_imported s th acts r [] h t = absurd h
in_imported s th acts r (x ∷ xs) (inl e) t = go (is_exported s x) (ap (is_exported s) (sym e) ∙ t)
  where
    go : (b : Bool) → b ≡ true → In (ref_instance r th acts) (cond b (ref_instance x th acts ∷ imported_refs s th acts xs) (imported_refs s th acts xs))
    go true k = inl (ap (λ z. ref_instance z th acts) e)
    go false k = cc
in_imported s th acts r (x ∷ xs) (inr h) t = go (in_imported s th acts r xs h t) (is_exported s x)
  where
    go : In (ref_instance r th acts) (imported_refs s th acts xs) → (b : Bool) → In (ref_instance r th acts) (cond b (ref_instance x th acts ∷ imported_refs s th acts xs) (imported_refs s th acts xs))
    go f true = inr f
    go f false = f

at_place_in : (brings : Import → List Ref) (q : Ref) (xs : List Import) (p : ℕ) → In q (imported_refs_at brings xs p) → (x : Import) × In x xs × (x.place ≡ p) × In q (brings x)
at_place_in brings q [] p h = absurd h
at_place_in brings q (x ∷ xs) p h = go (λ k. let r = at_place_in brings q xs p k in (r.0, inr r.1, r.2, r.3)) (eqb x.place p) refl h
  where
    go : (In q (imported_refs_at brings xs p) → (y : Import) × In y (x ∷ xs) × (y.place ≡ p) × In q (brings y)) → (b : Bool) → eqb x.place p ≡ b → In q (cond b (brings x) [] ++ imported_refs_at brings xs p) → (y : Import) × In y (x ∷ xs) × (y.place ≡ p) × In q (brings y)
    go more true e k = elim (in_split q (brings x) (imported_refs_at brings xs p) k) [ inl a ↦ (x, inl refl, eqb-true x.place p e, a) | inr b ↦ more b ]
    go more false e k = more k

in_at_place : (brings : Import → List Ref) (q : Ref) (x : Import) (xs : List Import) → In x xs → In q (brings x) → In q (imported_refs_at brings xs x.place)
in_at_place brings q x [] h k = absurd h
in_at_place brings q x (y ∷ ys) (inl e) k = in_left q _ (imported_refs_at brings ys x.place) (go (eqb y.place x.place) (eq-eqb y.place x.place (ap (λ z. z.place) (sym e))))
  where
    go : (b : Bool) → b ≡ true → In q (cond b (brings y) [])
    go true t = subst (λ z. In q (brings z)) e k
    go false t = cc
in_at_place brings q x (y ∷ ys) (inr h) k = in_right q _ (imported_refs_at brings ys x.place) (in_at_place brings q x ys h k)

entries_in : (brings : Import → List Ref) (xs : List Import) (q : Ref) (i : ℕ) → In q (entries_below brings xs i) → ((n : ℕ) × (n < i) × (q ≡ Own n)) ⊎ ((x : Import) × In x xs × (x.place ≤ i) × In q (brings x))
entries_in brings xs q zero h = let r = at_place_in brings q xs zero h in inr (r.0, r.1, omega (arith, r.2), r.3)
entries_in brings xs q (suc i) h = elim (in_split q (entries_below brings xs i) (Own i ∷ imported_refs_at brings xs (suc i)) h) [
  | inl a ↦ elim (entries_in brings xs q i a) [ inl p ↦ inl (p.0, omega (arith, p.1), p.2) | inr r ↦ inr (r.0, r.1, omega (arith, r.2), r.3) ]
  | inr b ↦ elim b [ inl e ↦ inl (i, omega arith, e) | inr c ↦ (let r = at_place_in brings q xs (suc i) c in inr (r.0, r.1, omega (arith, r.2), r.3)) ]
]

own_in : (brings : Import → List Ref) (xs : List Import) (n i : ℕ) → n < i → In (Own n) (entries_below brings xs i)
own_in brings xs n zero l = absurd (omega (arith, l))
own_in brings xs n (suc i) l = go (λ h. own_in brings xs n i h) (eqb n i) refl
  where
    go : (n < i → In (Own n) (entries_below brings xs i)) → (b : Bool) → eqb n i ≡ b → In (Own n) (entries_below brings xs i ++ Own i ∷ imported_refs_at brings xs (suc i))
    go f true e = in_right (Own n) (entries_below brings xs i) (Own i ∷ imported_refs_at brings xs (suc i)) (inl (ap Own (eqb-true n i e)))
    go f false e = in_left (Own n) (entries_below brings xs i) (Own i ∷ imported_refs_at brings xs (suc i)) (f (below n i l (differs n i e)))

within : (p i : ℕ) → p ≤ suc i → (p ≡ suc i → ⊥) → p ≤ i
within p i l h = omega (arith, l, h)

import_in : (brings : Import → List Ref) (q : Ref) (x : Import) (xs : List Import) (i : ℕ) → In x xs → In q (brings x) → x.place ≤ i → In q (entries_below brings xs i)
import_in brings q x xs zero h k l = subst (λ p. In q (imported_refs_at brings xs p)) (omega (arith, l)) (in_at_place brings q x xs h k)
import_in brings q x xs (suc i) h k l = go (λ l. import_in brings q x xs i h k l) (eqb x.place (suc i)) refl
  where
    go : (x.place ≤ i → In q (entries_below brings xs i)) → (b : Bool) → eqb x.place (suc i) ≡ b → In q (entries_below brings xs i ++ Own i ∷ imported_refs_at brings xs (suc i))
    go f true e = in_right q (entries_below brings xs i) (Own i ∷ imported_refs_at brings xs (suc i)) (inr (subst (λ p. In q (imported_refs_at brings xs p)) (eqb-true x.place (suc i) e) (in_at_place brings q x xs h k)))
    go f false e = in_left q (entries_below brings xs i) (Own i ∷ imported_refs_at brings xs (suc i)) (f (within x.place i l (differs x.place (suc i) e)))

module _ (d : Development) (s : Signature) (i : ℕ) where
  brings_of : Import → List Ref
  brings_of x = imported_refs (theory_named d x.theory) x.theory x.actuals (whole_scope d x.theory)

  pub in_scope : (q : Ref) → In q (scope d s i) → IsVisible d s i q
  unfolding brings_of
  in_scope q h = elim (in_split q (formals_below (formals_seen s i)) (entries_below brings_of s.imports i) (firsts_in q [] (formals_below (formals_seen s i) ++ entries_below brings_of s.imports i) h)) [
    | inl a ↦ (let p = formals_in q (formals_seen s i) a in of_formal p.0 p.1 p.2)
    | inr b ↦ elim (entries_in brings_of s.imports q i b) [
      | inl p ↦ of_own p.0 p.1 p.2
      | inr r ↦ (let x = r.0 in let w = imported_from (theory_named d x.theory) x.theory x.actuals q (whole_scope d x.theory) r.3 in of_import x w.0 r.1 r.2 w.1 w.2 w.3)
    ]
  ]

  pub to_scope : (q : Ref) → IsVisible d s i q → In q (scope d s i)
  unfolding brings_of
  to_scope q (of_formal n l e) = in_firsts q [] (formals_below (formals_seen s i) ++ entries_below brings_of s.imports i) (in_left q (formals_below (formals_seen s i)) (entries_below brings_of s.imports i) (subst (λ z. In z (formals_below (formals_seen s i))) (sym e) (in_formals n (formals_seen s i) l))) refl
  to_scope q (of_own n l e) = in_firsts q [] (formals_below (formals_seen s i) ++ entries_below brings_of s.imports i) (in_right q (formals_below (formals_seen s i)) (entries_below brings_of s.imports i) (subst (λ z. In z (entries_below brings_of s.imports i)) (sym e) (own_in brings_of s.imports n i l))) refl
  to_scope q (of_import x r h l k b e) = in_firsts q [] (formals_below (formals_seen s i) ++ entries_below brings_of s.imports i) (in_right q (formals_below (formals_seen s i)) (entries_below brings_of s.imports i)
      (import_in brings_of q x s.imports i h (subst (λ z. In z (brings_of x)) (sym e) (in_imported (theory_named d x.theory) x.theory x.actuals r (whole_scope d x.theory) k b)) l)) refl

-- what is visible and no formal stays visible at later places
pub visible_later : (d : Development) (s : Signature) (i j : ℕ) (q : Ref) → i ≤ j → is_exported (Some s) q ≡ true → IsVisible d s i q → IsVisible d s j q
visible_later d s i j q l t (of_formal n k e) = cc
visible_later d s i j q l t (of_own n k e) = of_own n (omega (arith, k, l)) e
visible_later d s i j q l t (of_import x r h p k b e) = of_import x r h (omega (arith, p, l)) k b e
