-- What holds of each item of a list, after the list is changed.
use Rattle.std.proofs.Common.{◌≡◌, ℕ, zero, suc, ◌<◌, ◌-◌, Bool, true, false, cond, List, [], ◌∷◌, ◌++◌, Some, length, slice_get, refl, ap, ap₂, ◌∙◌, subst, map, remove, insert, arith}
use Rattle.std.specs.Prelude.{Result, Ok, Err, OnErr, filter}
use Rattle.std.specs.Map.{keys_of, values_of}
use Rattle.std.specs.Option.{option_map_or}
use Rattle.indexmap.specs.IndexMap.{move_index, set_value_at}
use Rattle.pvs_sig.specs.SignatureAt.{AllIn}

module _ {A : Type 0} (P : A → Type 0) where
  pub all_append : (xs ys : List A) → AllIn P xs → AllIn P ys → AllIn P (xs ++ ys)
  all_append [] ys h k = k
  all_append (x ∷ xs) ys h k = (h.0, all_append xs ys h.1 k)

  pub all_remove : (xs : List A) (i : ℕ) → AllIn P xs → AllIn P (remove xs i)
  all_remove [] zero h = tt
  all_remove [] (suc i) h = tt
  all_remove (x ∷ xs) zero h = h.1
  all_remove (x ∷ xs) (suc i) h = (h.0, all_remove xs i h.1)

  pub all_get : (xs : List A) (i : ℕ) (x : A) → AllIn P xs → slice_get xs i ≡ Some x → P x
  all_get [] i x h e = cc
  all_get (y ∷ ys) zero x h e =
      let at : y ≡ x = cc in
      subst P at h.0
  all_get (y ∷ ys) (suc i) x h e = all_get ys i x h.1 e

pub all_map : {A B : Type 0} (P : A → Type 0) (Q : B → Type 0) (f : A → B) → ((x : A) → P x → Q (f x)) → (xs : List A) → AllIn P xs → AllIn Q (map f xs)
all_map P Q f g [] h = tt
all_map P Q f g (x ∷ xs) h = (g x h.0, all_map P Q f g xs h.1)

-- what holds of the images by f, holds so of those by g
pub all_remap : {A B C : Type 0} (P : B → Type 0) (Q : C → Type 0) (f : A → B) (g : A → C) → ((x : A) → P (f x) → Q (g x)) → (xs : List A) → AllIn P (map f xs) → AllIn Q (map g xs)
all_remap P Q f g k [] h = tt
all_remap P Q f g k (x ∷ xs) h = (k x h.0, all_remap P Q f g k xs h.1)

-- a test that each item passes, and one that each passes but the item at one place
pub filter_all : {A : Type 0} (p : A → Bool) (xs : List A) → AllIn (λ x. p x ≡ true) xs → filter p xs ≡ xs
filter_all p [] h = refl
filter_all p (x ∷ xs) h = ap (λ b. cond b (x ∷ filter p xs) (filter p xs)) h.0 ∙ ap (λ l. x ∷ l) (filter_all p xs h.1)

pub filter_removed : {A : Type 0} (p : A → Bool) (xs : List A) (i : ℕ) (x : A) → slice_get xs i ≡ Some x → p x ≡ false → AllIn (λ y. p y ≡ true) (remove xs i) → filter p xs ≡ remove xs i
filter_removed p [] i x e f h = cc
filter_removed p (y ∷ ys) zero x e f h =
    let at : y ≡ x = cc in
    ap (λ b. cond b (y ∷ filter p ys) (filter p ys)) (ap p at ∙ f) ∙ filter_all p ys h
filter_removed p (y ∷ ys) (suc i) x e f h = ap (λ b. cond b (y ∷ filter p ys) (filter p ys)) h.0 ∙ ap (λ l. y ∷ l) (filter_removed p ys i x e f h.1)

suc_removed : {A : Type 0} (xs : List A) (i : ℕ) (x : A) → slice_get xs i ≡ Some x → suc (length (remove xs i)) ≡ length xs
suc_removed [] i x e = cc
suc_removed (y ∷ ys) zero x e = refl
suc_removed (y ∷ ys) (suc i) x e = ap suc (suc_removed ys i x e)

insert_last : {A : Type 0} (xs : List A) (x : A) → insert xs (length xs) x ≡ xs ++ x ∷ []
insert_last [] x = refl
insert_last (y ∷ ys) x = ap (λ l. y ∷ l) (insert_last ys x)

-- an item that is moved to the end
pub moved_last : {A : Type 0} (xs : List A) (i : ℕ) (x : A) → slice_get xs i ≡ Some x → move_index xs i (length xs - 1) ≡ remove xs i ++ x ∷ []
moved_last xs i x e =
    let n : length xs - 1 ≡ length (remove xs i) = omega (arith, suc_removed xs i x e) in
    ap (λ o. option_map_or (λ y. insert (remove xs i) (length xs - 1) y) o xs) e
    ∙ ap (λ k. insert (remove xs i) k x) n ∙ insert_last (remove xs i) x

-- an item by its two parts
pub pair_at : {A B : Type 0} (xs : List (A × B)) (i : ℕ) (a : A) (b : B) → slice_get (keys_of xs) i ≡ Some a → slice_get (values_of xs) i ≡ Some b → slice_get xs i ≡ Some (a, b)
pair_at [] i a b h k = cc
pair_at (x ∷ xs) zero a b h k =
    let p : x.0 ≡ a = cc in
    let q : x.1 ≡ b = cc in
    ap₂ (λ y z. Some (y, z)) p q
pair_at (x ∷ xs) (suc i) a b h k = pair_at xs i a b h k

-- there is a value at each key
pub value_at : {A B : Type 0} (xs : List (A × B)) (i : ℕ) (a : A) → slice_get (keys_of xs) i ≡ Some a → (b : B) × (slice_get xs i ≡ Some (a, b))
value_at [] i a h = cc
value_at (x ∷ xs) zero a h =
    let p : x.0 ≡ a = cc in
    (x.1, ap (λ y. Some (y, x.1)) p)
value_at (x ∷ xs) (suc i) a h = value_at xs i a h

pub key_within : {A B : Type 0} (xs : List (A × B)) (i : ℕ) (a : A) → slice_get (keys_of xs) i ≡ Some a → i < length xs
key_within [] i a h = cc
key_within (x ∷ xs) zero a h = omega arith
key_within (x ∷ xs) (suc i) a h = omega (arith, key_within xs i a h)

-- an item whose second part is set
pub set_found : {A B : Type 0} (xs : List (A × B)) (i : ℕ) (b : B) → slice_get (values_of xs) i ≡ Some b → (a : A) × (slice_get xs i ≡ Some (a, b))
set_found [] i b h = cc
set_found (x ∷ xs) zero b h =
    let p : x.1 ≡ b = cc in
    (x.0, ap (λ y. Some (x.0, y)) p)
set_found (x ∷ xs) (suc i) b h = set_found xs i b h

pub set_then : {A B : Type 0} (xs : List (A × B)) (i : ℕ) (a : A) (b c : B) → slice_get xs i ≡ Some (a, b) → slice_get (set_value_at xs i c) i ≡ Some (a, c)
set_then [] i a b c h = cc
set_then (x ∷ xs) zero a b c h =
    let p : x ≡ (a, b) = cc in
    ap (λ y. Some (y.0, c)) p
set_then (x ∷ xs) (suc i) a b c h = set_then xs i a b c h

pub set_removed : {A B : Type 0} (xs : List (A × B)) (i : ℕ) (c : B) → remove (set_value_at xs i c) i ≡ remove xs i
set_removed [] i c = refl
set_removed (x ∷ xs) zero c = refl
set_removed (x ∷ xs) (suc i) c = ap (λ l. x ∷ l) (set_removed xs i c)

pub set_length : {A B : Type 0} (xs : List (A × B)) (i : ℕ) (c : B) → length (set_value_at xs i c) ≡ length xs
set_length [] i c = refl
set_length (x ∷ xs) zero c = refl
set_length (x ∷ xs) (suc i) c = ap suc (set_length xs i c)

-- a fact serves a result of either kind
pub on_err : {A E P : Type 0} (r : Result A E) → P → OnErr r P
on_err (Ok a) h = tt
on_err (Err e) h = h
