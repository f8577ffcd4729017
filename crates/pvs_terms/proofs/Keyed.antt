-- Look-ups by a key where equal keys are one, and what a new key leaves.
use Rattle.std.proofs.Common.{◌≡◌, ℕ, zero, suc, List, [], ◌∷◌, ◌++◌, Bool, true, false, ◌||◌, Some, position, slice_get, map, option_map, refl, sym, subst, ap, ap₂, ◌∙◌, true≢false, if◌then◌else◌}
use Rattle.std.specs.Prelude.{slice_index_or}
use Rattle.std.specs.List.{list_any}
use Rattle.std.specs.Map.{keys_of, values_of}
use Rattle.std.proofs.lemmas.List.Quantifiers.{position-Some}
use Rattle.std.proofs.lemmas.List.{map-id}
use Rattle.std.proofs.lemmas.Option.{slice_get-get_or, slice_get-map}
use Rattle.indexmap.specs.IndexMap.{insert_entry}

or_true : (b : Bool) → (b || true) ≡ true
or_true true = refl
or_true false = refl

-- look-ups of what is seen of a key
module _ {K A : Type 0} (seen : K → A) (test : K → Bool) (a : A) where
  -- the number that a look-up answers
  pub found_by : ((x : K) → test x ≡ true → a ≡ seen x) → (ks : List K) (i : ℕ) → position test ks ≡ Some i → slice_get (map seen ks) i ≡ Some a
  found_by exact [] i h = cc
  found_by exact (k ∷ ks) i h =
      let p = position-Some test (k ∷ ks) i k h in
      slice_get-map seen (k ∷ ks) i ∙ ap (option_map seen) (slice_get-get_or (k ∷ ks) i k p.0) ∙ ap Some (sym (exact _ p.1))

  -- a key that stands in the list is found
  stands_there : ((x : K) → seen x ≡ a → test x ≡ true) → (ks : List K) (i : ℕ) → slice_get (map seen ks) i ≡ Some a → list_any test ks ≡ true
  stands_there same [] i e = cc
  stands_there same (x ∷ xs) zero e =
      let at : seen x ≡ a = cc in
      ap (λ b. b || list_any test xs) (same x at)
  stands_there same (x ∷ xs) (suc i) e = ap (λ b. test x || b) (stands_there same xs i e) ∙ or_true (test x)

  pub not_found_by : ((x : K) → seen x ≡ a → test x ≡ true) → (ks : List K) → list_any test ks ≡ false → (i : ℕ) → slice_get (map seen ks) i ≡ Some a → ⊥
  not_found_by same ks h i e = true≢false (sym (stands_there same ks i e) ∙ h)

-- an entry with a new key goes last
pub entered_by : {K V A : Type 0} (seen : K → A) (eq : K → K → Bool) (k : K) (v : V) → ((x : K) → eq k x ≡ true → seen k ≡ seen x) → (es : List (K × V)) → ((i : ℕ) → slice_get (map seen (keys_of es)) i ≡ Some (seen k) → ⊥) → insert_entry eq es k v ≡ es ++ (k, v) ∷ []
entered_by seen eq k v exact [] h = refl
entered_by seen eq k v exact (e ∷ es) h = step (eq k e.0) refl (λ i x. h (suc i) x) (entered_by seen eq k v exact es)
  where
    step : (b : Bool) → eq k e.0 ≡ b → ((i : ℕ) → slice_get (map seen (keys_of es)) i ≡ Some (seen k) → ⊥) → (((i : ℕ) → slice_get (map seen (keys_of es)) i ≡ Some (seen k) → ⊥) → insert_entry eq es k v ≡ es ++ (k, v) ∷ []) → insert_entry eq (e ∷ es) k v ≡ (e ∷ es) ++ (k, v) ∷ []
    step true t g f = absurd (h 0 (ap Some (sym (exact e.0 t))))
    step false t g f = ap (λ b. if b then (e.0, v) ∷ es else e ∷ insert_entry eq es k v) t ∙ ap (λ l. e ∷ l) (f g)

-- the same of the keys themselves
module _ {K : Type 0} (test : K → Bool) (k : K) where
  pub found : ((x : K) → test x ≡ true → k ≡ x) → (ks : List K) (i : ℕ) → position test ks ≡ Some i → slice_get ks i ≡ Some k
  found exact ks i h = subst (λ l. slice_get l i ≡ Some k) (map-id ks) (found_by (λ x. x) test k exact ks i h)

  pub not_found : test k ≡ true → (ks : List K) → list_any test ks ≡ false → (i : ℕ) → slice_get ks i ≡ Some k → ⊥
  not_found same ks h i e = not_found_by (λ x. x) test k (λ x at. ap test at ∙ same) ks h i (subst (λ l. slice_get l i ≡ Some k) (sym (map-id ks)) e)

pub entered : {K V : Type 0} (eq : K → K → Bool) (k : K) (v : V) → ((x : K) → eq k x ≡ true → k ≡ x) → (es : List (K × V)) → ((i : ℕ) → slice_get (keys_of es) i ≡ Some k → ⊥) → insert_entry eq es k v ≡ es ++ (k, v) ∷ []
entered eq k v exact es h = entered_by (λ x. x) eq k v exact es (subst (λ l. (i : ℕ) → slice_get l i ≡ Some k → ⊥) (sym (map-id (keys_of es))) h)

-- an entry by its key and its value
pub entry_at : {K V : Type 0} (es : List (K × V)) (i : ℕ) (k : K) (v : V) → slice_get (keys_of es) i ≡ Some k → slice_get (values_of es) i ≡ Some v → (k, v) ≡ slice_index_or es i (k, v)
entry_at [] i k v h g = cc
entry_at (e ∷ es) zero k v h g =
    let a : e.0 ≡ k = cc in
    let b : e.1 ≡ v = cc in
    ap₂ (λ x y. (x, y)) (sym a) (sym b)
entry_at (e ∷ es) (suc i) k v h g = entry_at es i k v h g
