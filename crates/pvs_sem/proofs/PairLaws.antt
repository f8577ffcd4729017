-- Members of the set of pairs.
use Rattle.std.proofs.Common.{◌≡◌, ◌⊎◌, inl, inr, List, [], ◌∷◌, map, refl, sym, subst}
use Rattle.pvs_sem.specs.Value.{Value, Pair, pairs, IsMember}
use Rattle.pvs_sem.proofs.SetLaws.{member_append, append_left, append_right, member_map, map_member}

-- a pair of a member of the first set and a member of the second set there
pub record IsPairIn (v : Value) (xs : List Value) (f : Value → List Value) : Type 0 where
  pub first : Value
  pub second : Value
  pub is : v ≡ Pair first second
  pub first_in : IsMember first xs
  pub second_in : IsMember second (f first)

pub member_pairs : (f : Value → List Value) (v : Value) (xs : List Value) → IsMember v (pairs xs f) → IsPairIn v xs f
member_pairs f v [] h = absurd h
member_pairs f v (x ∷ xs) h = go (member_pairs f v xs) (member_append v (map (λ w. Pair x w) (f x)) (pairs xs f) h)
  where
    go : (IsMember v (pairs xs f) → IsPairIn v xs f) → IsMember v (map (λ w. Pair x w) (f x)) ⊎ IsMember v (pairs xs f)
        → IsPairIn v (x ∷ xs) f
    go ih (inl a) = let r = member_map (λ w. Pair x w) v (f x) a in record
        { first = x; second = r.0; is = r.1; first_in = inl refl; second_in = r.2 }
    go ih (inr b) = let r = ih b in record
        { first = r.first; second = r.second; is = r.is; first_in = inr r.first_in; second_in = r.second_in }

pub pairs_member : (f : Value → List Value) (x w : Value) (xs : List Value) → IsMember x xs → IsMember w (f x)
    → IsMember (Pair x w) (pairs xs f)
pairs_member f x w [] h k = h
pairs_member f x w (y ∷ xs) (inl q) k = append_left (Pair x w) (map (λ w. Pair y w) (f y)) (pairs xs f)
    (subst (λ z. IsMember (Pair x w) (map (λ w. Pair z w) (f z))) q (map_member (λ w. Pair x w) w (f x) k))
pairs_member f x w (y ∷ xs) (inr q) k = append_right (Pair x w) (map (λ w. Pair y w) (f y)) (pairs xs f) (pairs_member f x w xs q k)

-- pairs are pairs in larger sets
pub pairs_wider : (f h : Value → List Value) (v : Value) (xs ys : List Value) → IsMember v (pairs xs f)
    → ((x : Value) → IsMember x xs → IsMember x ys)
    → ((x w : Value) → IsMember x xs → IsMember w (f x) → IsMember w (h x)) → IsMember v (pairs ys h)
pairs_wider f h v xs ys p j k =
    let r = member_pairs f v xs p in
    subst (λ z. IsMember z (pairs ys h)) (sym r.is)
    (pairs_member h r.first r.second ys (j r.first r.first_in) (k r.first r.second r.first_in r.second_in))

-- a pair of members of nonempty sets
pub some_pair : (f : Value → List Value) (xs : List Value) → (x : Value) × IsMember x xs → ((v : Value) → (w : Value) × IsMember w (f v))
    → (p : Value) × IsMember p (pairs xs f)
some_pair f xs h k = let r = k h.0 in (Pair h.0 r.0, pairs_member f h.0 r.0 xs h.1 r.1)
