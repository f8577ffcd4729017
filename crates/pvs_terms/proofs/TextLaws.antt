-- Lists of texts, each of which stands there once, and what one text more leaves.
use Rattle.std.proofs.Common.{◌≡◌, ℕ, ◌<◌, ◌≤◌, List, [], ◌∷◌, ◌++◌, length, map, refl, ap, sym, ◌∙◌, subst, arith, Bool, false, ◌||◌, Some, position, slice_get, true≢false, inl, inr, ◌⊎◌, length-append, bytes_eq}
use Rattle.std.specs.Prelude.{slice_index_or}
use Rattle.std.specs.List.{list_any}
use Rattle.std.proofs.lemmas.Bool.{cases_lt}
use Rattle.std.proofs.lemmas.List.{get_or_append_left, get_or_push, get_or-map, length-map, map-append}
use Rattle.std.proofs.lemmas.List.Folds.{list_any_at}
use Rattle.std.proofs.lemmas.List.Quantifiers.{position-Some}
use Rattle.std.proofs.lemmas.Option.{get_or_from_slice_get}
use Rattle.std.proofs.lemmas.Slice.Eq.{bytes_eq-Decides}
use Rattle.pvs_terms.specs.Tree.{Text}
use Rattle.pvs_terms.specs.code.Texts.{AreDistinct, IsOnly, KeepsTexts}

-- a text that no number stands for
abbrev pub IsFresh : List Text → Text → Type 0
IsFresh ts t = (m : ℕ) → m < length ts → slice_index_or ts m [] ≡ t → ⊥

fresh_is : (ts : List Text) (t : Text) → list_any (bytes_eq t) ts ≡ false → IsFresh ts t
fresh_is ts t h m lt e = true≢false (sym (list_any_at (bytes_eq t) ts m [] lt ((bytes_eq-Decides t (slice_index_or ts m [])).1 (sym e))) ∙ h)

-- where texts stand once, the number of a text is its only one
pub stored_only : (ts : List Text) (t : Text) (n : ℕ) → AreDistinct ts → n < length ts → slice_index_or ts n [] ≡ t → IsOnly ts t n
stored_only ts t n d lt e = record { within = lt; is = e; only = λ m l k. d m n l lt (k ∙ sym e) }

distinct_push : (ts : List Text) (t : Text) → AreDistinct ts → IsFresh ts t → AreDistinct (ts ++ t ∷ [])
distinct_push ts t d f m n a b k = go (cases_lt m (length ts)) (cases_lt n (length ts))
  where
    old : (i : ℕ) → i < length ts → slice_index_or (ts ++ t ∷ []) i [] ≡ slice_index_or ts i []
    old i l = get_or_append_left ts (t ∷ []) [] i l

    last : (i : ℕ) → i < length (ts ++ t ∷ []) → length ts ≤ i → slice_index_or (ts ++ t ∷ []) i [] ≡ t
    last i l g = get_or_push ts t [] i (omega (arith, l, g, length-append ts (t ∷ [])))

    go : (m < length ts) ⊎ (length ts ≤ m) → (n < length ts) ⊎ (length ts ≤ n) → m ≡ n
    go (inl x) (inl y) = d m n x y (sym (old m x) ∙ k ∙ old n y)
    go (inl x) (inr y) = absurd (f m x (sym (old m x) ∙ k ∙ last n b y))
    go (inr x) (inl y) = absurd (f n y (sym (old n y) ∙ sym k ∙ last m a x))
    go (inr x) (inr y) = omega (arith, a, b, x, y, length-append ts (t ∷ []))

keeps_push : (ts : List Text) (t : Text) → KeepsTexts ts (ts ++ t ∷ [])
keeps_push ts t = record {
  within = λ n h. omega (arith, h, length-append ts (t ∷ []));
  texts = λ n h. get_or_append_left ts (t ∷ []) [] n h;
}

pub keeps_refl : (ts : List Text) → KeepsTexts ts ts
keeps_refl ts = record { within = λ n h. h; texts = λ n h. refl }

list_any-map : {K : Type 0} (bytes : K → Text) (p : Text → Bool) (ks : List K) → list_any p (map bytes ks) ≡ list_any (λ k. p (bytes k)) ks
list_any-map bytes p [] = refl
list_any-map bytes p (k ∷ ks) = ap (λ b. p (bytes k) || b) (list_any-map bytes p ks)

module _ {K : Type 0} (bytes : K → Text) where
  -- the number that the look-up answers
  pub found_is : (ks : List K) (t : Text) (n : ℕ) → AreDistinct (map bytes ks) → position (λ k. bytes_eq t (bytes k)) ks ≡ Some n → IsOnly (map bytes ks) t n
  found_is [] t n d h = cc
  found_is (k ∷ ks) t n d h =
      let p = position-Some (λ k. bytes_eq t (bytes k)) (k ∷ ks) n k h in
      stored_only (map bytes (k ∷ ks)) t n d (omega (arith, p.0, length-map (k ∷ ks) bytes))
      (get_or-map bytes (k ∷ ks) n k [] p.0 ∙ sym ((bytes_eq-Decides t _).0 p.1))

  -- what taking in a new text leaves
  pub record IsTaken (ks js : List K) (t : Text) (n : ℕ) : Type 0 where
    pub distinct : AreDistinct (map bytes js)
    pub only : IsOnly (map bytes js) t n
    pub keeps : KeepsTexts (map bytes ks) (map bytes js)

  pub taken_is : (ks js : List K) (k j : K) (t : Text) (n : ℕ) → AreDistinct (map bytes ks)
      → list_any (λ k. bytes_eq t (bytes k)) ks ≡ false → bytes k ≡ t → js ≡ ks ++ k ∷ []
      → slice_get js n ≡ Some j → n < length js → bytes j ≡ t → IsTaken ks js t n
  taken_is ks js k j t n d h kt js_is at lt jt =
      let texts : map bytes js ≡ map bytes ks ++ t ∷ [] = ap (map bytes) js_is ∙ map-append bytes ks (k ∷ []) ∙ ap (λ x. map bytes ks ++ x ∷ []) kt in
      let fresh : IsFresh (map bytes ks) t = fresh_is (map bytes ks) t (list_any-map bytes (bytes_eq t) ks ∙ h) in
      let distinct : AreDistinct (map bytes js) = subst AreDistinct (sym texts) (distinct_push (map bytes ks) t d fresh) in
      record {
        distinct = distinct;
        only = stored_only (map bytes js) t n distinct (omega (arith, lt, length-map js bytes)) (get_or-map bytes js n j [] lt ∙ ap bytes (get_or_from_slice_get js n j j at) ∙ jt);
        keeps = subst (KeepsTexts (map bytes ks)) (sym texts) (keeps_push (map bytes ks) t);
      }
