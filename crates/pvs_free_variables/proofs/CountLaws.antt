-- How often names are there.
use Rattle.std.proofs.Common.{◌≡◌, ◌<◌, ◌≤◌, ℕ, suc, Bool, true, false, cond, ◌||◌, List, [], ◌∷◌, ◌++◌, length, refl, sym, ap, ◌∙◌, arith, rules, tests}
use Rattle.std.specs.Prelude.{bytes_eq, nat_lt, unwrap_or, Option, Some}
use Rattle.std.specs.Borrow.{Bor}
use Rattle.std.specs.HashMap.{get_by, UpdatesBy}
use Rattle.std.proofs.lemmas.Map.Text.{hash_map_updates_str}
use Rattle.std.proofs.lemmas.Bool.Decides.{same_from_decides}
use Rattle.std.proofs.lemmas.List.{length-map, length-reverse, map-append, reverse-append}
use Rattle.std.proofs.lemmas.Slice.Eq.{bytes_eq-Decides}
use Rattle.pvs_terms.specs.Tree.{Text}
use Rattle.pvs_elab.specs.Formula.{is_in}
use Rattle.pvs_free_variables.specs.code.Binders.{innermost_first}
use Rattle.pvs_free_variables.specs.code.Counts.{count_of, times}
use Rattle.pvs_free_variables.specs.declared.counts.Counts.{Counts}

pub bytes_true : (x y : Text) → bytes_eq x y ≡ true → x ≡ y
bytes_true x y e = (bytes_eq-Decides x y).0 e

pub bytes_same : (x : Text) → bytes_eq x x ≡ true
bytes_same x = (bytes_eq-Decides x x).1 refl

pub bytes_flip : (x y : Text) → bytes_eq x y ≡ bytes_eq y x
bytes_flip x y = same_from_decides {P = x ≡ y} (bytes_eq x y) (bytes_eq y x) (bytes_eq-Decides x y) ((λ e. sym ((bytes_eq-Decides y x).0 e)), (λ e. (bytes_eq-Decides y x).1 (sym e)))

-- What a name is counted to be after its number is set.

set_count : (b : Bool) (w : ℕ) (o : Option ℕ) → unwrap_or (cond b (Some w) o) 0 ≡ cond b w (unwrap_or o 0)
set_count true w o = refl
set_count false w o = refl

pub count_set : (k : Text) (m n : Counts) (w : ℕ) → UpdatesBy (λ x y. bytes_eq x.now y.now) (λ y. bytes_eq k y.now) m.counts n.counts (Some w) → (x : Text) → count_of n x ≡ cond (bytes_eq k x) w (count_of m x)
count_set k m n w u x = ap (λ o. unwrap_or o 0) (hash_map_updates_str k m.counts n.counts (Some w) u x) ∙ set_count (bytes_eq k x) w (get_by (λ y. bytes_eq x y.now) m.counts)

-- where a number is set that depends on the one before
pub at_name : (f : Text → ℕ) (r : ℕ → ℕ) (k x : Text) → cond (bytes_eq k x) (r (f k)) (f x) ≡ cond (bytes_eq k x) (r (f x)) (f x)
at_name f r k x = at (bytes_eq k x) refl where
  at : (b : Bool) → bytes_eq k x ≡ b → cond b (r (f k)) (f x) ≡ cond b (r (f x)) (f x)
  at true e = ap (λ z. r (f z)) (bytes_true k x e)
  at false e = refl

-- a name is in a list where it is there once or more
pub times_is_in : (x : Text) (ys : List Text) → nat_lt 0 (times x ys) ≡ is_in x ys
times_is_in x [] = refl
times_is_in x (y ∷ ys) = rw (bytes_flip x y) (at (bytes_eq y x) (times_is_in x ys)) where
  at : (b : Bool) → nat_lt 0 (times x ys) ≡ is_in x ys → nat_lt 0 (cond b (suc (times x ys)) (times x ys)) ≡ (b || is_in x ys)
  at true h = search (rules, tests)
  at false h = h

pub times_in : (x : Text) (ys : List Text) → 0 < times x ys → is_in x ys ≡ true
times_in x ys h = sym (times_is_in x ys) ∙ positive (times x ys) h where
  positive : (n : ℕ) → 0 < n → nat_lt 0 n ≡ true
  positive n h = search (rules, tests)

pub times_not_in : (x : Text) (ys : List Text) → times x ys ≤ 0 → is_in x ys ≡ false
times_not_in x ys h = sym (times_is_in x ys) ∙ none (times x ys) h where
  none : (n : ℕ) → n ≤ 0 → nat_lt 0 n ≡ false
  none n h = search (rules, tests)

pub times_bound : (x : Text) (ys : List Text) → times x ys ≤ length ys
times_bound x [] = omega arith
times_bound x (y ∷ ys) = at (bytes_eq y x) (times_bound x ys) where
  at : (b : Bool) → times x ys ≤ length ys → cond b (suc (times x ys)) (times x ys) ≤ suc (length ys)
  at true h = omega (arith, h)
  at false h = omega (arith, h)

pub times_push : (x : Text) (ys : List Text) (y : Text) → times x (ys ++ y ∷ []) ≡ times x (y ∷ ys)
times_push x [] y = refl
times_push x (z ∷ ys) y = ap (λ n. cond (bytes_eq z x) (suc n) n) (times_push x ys y) ∙ at (bytes_eq z x) (bytes_eq y x) where
  at : (b d : Bool) → cond b (suc (cond d (suc (times x ys)) (times x ys))) (cond d (suc (times x ys)) (times x ys)) ≡ cond d (suc (cond b (suc (times x ys)) (times x ys))) (cond b (suc (times x ys)) (times x ys))
  at true true = refl
  at true false = refl
  at false true = refl
  at false false = refl

-- The names of binders.

pub innermost_push : (xs : List (Bor Text)) (x : Bor Text) → innermost_first (xs ++ x ∷ []) ≡ x.now ∷ innermost_first xs
innermost_push xs x = simp (map-append, reverse-append)

pub innermost_length : (xs : List (Bor Text)) → length (innermost_first xs) ≡ length xs
innermost_length xs = simp (length-reverse, length-map)
