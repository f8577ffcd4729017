-- The items of a list that are not written out yet.
use Rattle.std.specs.Prelude.{◌≡◌, ◌≤◌, ◌+◌, ◌-◌, ℕ, zero, suc, List, [], ◌∷◌, drop, length, Some, None}
use Rattle.std.proofs.Common.{add-one, arith, sym}
use Rattle.std.specs.List.{slice_get}
use Rattle.std.proofs.lemmas.List.{drop_all, length-drop}

pub none_all : {X : Type 0} (xs : List X) (n : ℕ) → slice_get xs n ≡ None → length xs ≤ n
none_all [] n e = omega arith
none_all (x ∷ xs) zero e = absurd (cc)
none_all (x ∷ xs) (suc n) e = let h : length xs ≤ n = none_all xs n e in omega arith

pub none_next : {X : Type 0} (xs : List X) (n : ℕ) → slice_get xs n ≡ None → drop n xs ≡ []
none_next xs n e = drop_all n xs (none_all xs n e)

some_suc : {X : Type 0} (xs : List X) (n : ℕ) (x : X) → slice_get xs n ≡ Some x → drop n xs ≡ x ∷ drop (suc n) xs
some_suc [] n x e = absurd (cc)
some_suc (y ∷ xs) zero x e = cc
some_suc (y ∷ xs) (suc n) x e = some_suc xs n x e

pub some_next : {X : Type 0} (xs : List X) (n : ℕ) (x : X) → slice_get xs n ≡ Some x → drop n xs ≡ x ∷ drop (n + 1) xs
some_next xs n x e = rw add-one (some_suc xs n x e)

-- what is dropped leaves the others
pub drop_left : {X : Type 0} (xs : List X) (n : ℕ) → length xs - n ≡ length (drop n xs)
drop_left xs n = sym (length-drop n xs)
