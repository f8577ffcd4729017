-- The elements of a list.
use Rattle.std.proofs.Common.{◌≡◌, ◌<◌, ℕ, zero, suc, ◌⊎◌, inl, inr, List, [], ◌∷◌, ◌++◌, length, slice_index_or, Contains, flat_map, arith}

-- x is an element, by recursion
abbrev pub Has : {X : Type 0} → X → List X → Type 0
Has x [] = ⊥
Has x (y ∷ ys) = (y ≡ x) ⊎ Has x ys

pub has_contained : {X : Type 0} (xs : List X) (x : X) → Contains xs x → Has x xs
has_contained {X} xs x c = go xs c.0 c.1 c.2
  where
    go : (ys : List X) (k : ℕ) → k < length ys → slice_index_or ys k x ≡ x → Has x ys
    go [] k h e = absurd (omega arith)
    go (y ∷ ys) zero h e = inl e
    go (y ∷ ys) (suc k) h e = inr (go ys k (omega arith) e)

pub has_append : {X : Type 0} (xs ys : List X) (x : X) → Has x (xs ++ ys) → Has x xs ⊎ Has x ys
has_append [] ys x h = inr h
has_append {X} (z ∷ xs) ys x (inl e) = inl (inl e)
has_append {X} (z ∷ xs) ys x (inr h) = go (has_append xs ys x h)
  where
    go : Has x xs ⊎ Has x ys → ((z ≡ x) ⊎ Has x xs) ⊎ Has x ys
    go (inl p) = inl (inr p)
    go (inr p) = inr p

-- an element of what is made of each element
pub has_flat_map : {X Y : Type 0} (f : X → List Y) (xs : List X) (y : Y) (P : Type 0) → ((x : X) → Has y (f x) → P) → Has y (flat_map f xs) → P
has_flat_map f [] y P each h = absurd h
has_flat_map {X} {Y} f (x ∷ xs) y P each h = go (has_flat_map f xs y P each) (has_append (f x) (flat_map f xs) y h)
  where
    go : (Has y (flat_map f xs) → P) → Has y (f x) ⊎ Has y (flat_map f xs) → P
    go k (inl p) = each x p
    go k (inr p) = k p
