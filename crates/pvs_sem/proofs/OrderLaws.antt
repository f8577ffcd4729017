-- The order on values is total enough to tell sets apart by their members, and what is made of ascending sets ascends.
use Rattle.std.proofs.Common.{◌≡◌, ◌⊎◌, inl, inr, Bool, true, false, ◌||◌, cond, ltb, List, [], ◌∷◌, ◌++◌, map, refl, ap, ◌∙◌, sym, subst, arith}
use Rattle.std.proofs.lemmas.Bool.{ltb-true, lt-ltb}
use Rattle.pvs_sem.specs.Value.{Value, Truth, Atom, Pair, EmptyTable, Row, kind, lexicographic, kind_less, value_less, value_eq, rows, tables, pairs, subset, IsMember, IsAscending}
use Rattle.pvs_terms.proofs.TreeLaws.{both, all_true}
use Rattle.pvs_sem.proofs.SetLaws.{value_eq-true, value_eq-same, member_subset, member_append, member_map, member_rows}
use Rattle.pvs_sem.proofs.PairLaws.{member_pairs}

or_true : (a b : Bool) → (a || b) ≡ true → (a ≡ true) ⊎ (b ≡ true)
or_true true b h = inl refl
or_true false b h = inr h

or_left : {a : Bool} (b : Bool) → a ≡ true → (a || b) ≡ true
or_left b h = rw h refl

or_right : (a : Bool) {b : Bool} → b ≡ true → (a || b) ≡ true
or_right true h = refl
or_right false h = h

then_split : (l e r : Bool) → lexicographic l e r ≡ true → (l ≡ true) ⊎ ((e ≡ true) × (r ≡ true))
then_split true e r h = inl refl
then_split false e r h = inr (both e r h)

then_left : {l : Bool} (e r : Bool) → l ≡ true → lexicographic l e r ≡ true
then_left e r h = rw h refl

then_right : (l : Bool) {e r : Bool} → e ≡ true → r ≡ true → lexicographic l e r ≡ true
then_right l {e} {r} h k = or_right l (all_true h k)

same_kind : (v w : Value) → kind_less v w ≡ true → kind v ≡ kind w
same_kind (Truth a) (Truth b) h = refl
same_kind (Atom m) (Atom n) h = refl
same_kind (Pair a b) (Pair c d) h = refl
same_kind (Row a b c) (Row x y z) h = refl
same_kind _ _ h = cc

less_from : (u v w : Value) → (kind_less u v ≡ true → kind_less v w ≡ true → kind_less u w ≡ true) → value_less u v ≡ true
    → value_less v w ≡ true → value_less u w ≡ true
less_from u v w k h j = go (or_true (ltb (kind u) (kind v)) (kind_less u v) h) (or_true (ltb (kind v) (kind w)) (kind_less v w) j)
  where
    go : (ltb (kind u) (kind v) ≡ true) ⊎ (kind_less u v ≡ true) → (ltb (kind v) (kind w) ≡ true) ⊎ (kind_less v w ≡ true)
        → value_less u w ≡ true
    go (inl a) (inl b) = let x = ltb-true (kind u) (kind v) a in let y = ltb-true (kind v) (kind w) b in or_left (kind_less u w)
        (lt-ltb (kind u) (kind w) (omega arith))
    go (inl a) (inr b) = let x = ltb-true (kind u) (kind v) a in let y = same_kind v w b in or_left (kind_less u w)
        (lt-ltb (kind u) (kind w) (omega arith))
    go (inr a) (inl b) = let x = same_kind u v a in let y = ltb-true (kind v) (kind w) b in or_left (kind_less u w)
        (lt-ltb (kind u) (kind w) (omega arith))
    go (inr a) (inr b) = or_right (ltb (kind u) (kind w)) (k a b)

lex : (a c x : Value) (p q r : Bool) → (value_less a c ≡ true → value_less c x ≡ true → value_less a x ≡ true)
    → (p ≡ true → q ≡ true → r ≡ true) →
    lexicographic (value_less a c) (value_eq a c) p ≡ true → lexicographic (value_less c x) (value_eq c x) q ≡ true
    → lexicographic (value_less a x) (value_eq a x) r ≡ true
lex a c x p q r tr rest h j = go (then_split (value_less a c) (value_eq a c) p h) (then_split (value_less c x) (value_eq c x) q j)
  where
    go : (value_less a c ≡ true) ⊎ ((value_eq a c ≡ true) × (p ≡ true)) → (value_less c x ≡ true) ⊎ ((value_eq c x ≡ true) × (q ≡ true))
        → lexicographic (value_less a x) (value_eq a x) r ≡ true
    go (inl l) (inl k) = then_left (value_eq a x) r (tr l k)
    go (inl l) (inr k) = then_left (value_eq a x) r (subst (λ y. value_less a y ≡ true) (value_eq-true c x k.0) l)
    go (inr l) (inl k) = then_left (value_eq a x) r (subst (λ y. value_less y x ≡ true) (sym (value_eq-true a c l.0)) k)
    go (inr l) (inr k) = then_right (value_less a x)
        (ap (value_eq a) (sym (value_eq-true a c l.0 ∙ value_eq-true c x k.0)) ∙ value_eq-same a) (rest l.1 k.1)

kind_trans : (u v w : Value) → kind_less u v ≡ true → kind_less v w ≡ true → kind_less u w ≡ true
kind_trans (Truth true) (Truth b) w h k = cc
kind_trans (Truth false) (Truth true) (Truth c) h k = cc
kind_trans (Truth false) (Truth false) w h k = cc
kind_trans (Atom m) (Atom n) (Atom o) h k = let x = ltb-true m n h in let y = ltb-true n o k in lt-ltb m o (omega arith)
kind_trans (Pair a b) (Pair c d) (Pair x y) h k =
    lex a c x (value_less b d) (value_less d y) (value_less b y) (less_from a c x (kind_trans a c x)) (less_from b d y (kind_trans b d y))
    h k
kind_trans (Row a b c) (Row d e f) (Row x y z) h k =
    lex a d x (lexicographic (value_less b e) (value_eq b e) (value_less c f))
    (lexicographic (value_less e y) (value_eq e y) (value_less f z)) (lexicographic (value_less b y) (value_eq b y) (value_less c z))
    (less_from a d x (kind_trans a d x))
    (lex b e y (value_less c f) (value_less f z) (value_less c z) (less_from b e y (kind_trans b e y))
    (less_from c f z (kind_trans c f z))) h k
kind_trans _ _ _ h k = cc

pub less_trans : (u v w : Value) → value_less u v ≡ true → value_less v w ≡ true → value_less u w ≡ true
less_trans u v w = less_from u v w (kind_trans u v w)

less_self : (v : Value) → (kind_less v v ≡ true → ⊥) → value_less v v ≡ true → ⊥
less_self v k h = elim (or_true (ltb (kind v) (kind v)) (kind_less v v) h)
    [ inl a ↦ (let x = ltb-true (kind v) (kind v) a in absurd (omega arith)) | inr b ↦ k b ]

kind_self : (v : Value) → kind_less v v ≡ true → ⊥
kind_self (Truth true) h = cc
kind_self (Truth false) h = cc
kind_self (Atom n) h = let x = ltb-true n n h in absurd (omega arith)
kind_self (Pair a b) h = elim (then_split (value_less a a) (value_eq a a) (value_less b b) h)
    [ inl l ↦ less_self a (kind_self a) l | inr r ↦ less_self b (kind_self b) r.1 ]
kind_self EmptyTable h = cc
kind_self (Row a b c) h = elim (then_split (value_less a a) (value_eq a a)
    (lexicographic (value_less b b) (value_eq b b) (value_less c c)) h) [
      | inl l ↦ less_self a (kind_self a) l
      | inr r ↦ elim (then_split (value_less b b) (value_eq b b) (value_less c c) r.1)
          [ inl l ↦ less_self b (kind_self b) l | inr q ↦ less_self c (kind_self c) q.1 ]
    ]

pub less_irreflexive : (v : Value) → value_less v v ≡ true → ⊥
less_irreflexive v = less_self v (kind_self v)

-- two ascending lists with the same members are equal
pub same_sets : (xs ys : List Value) → IsAscending xs → IsAscending ys → ((v : Value) → IsMember v xs → IsMember v ys)
    → ((v : Value) → IsMember v ys → IsMember v xs) → xs ≡ ys
same_sets [] [] a b f g = refl
same_sets [] (y ∷ ys) a b f g = absurd (g y (inl refl))
same_sets (x ∷ xs) [] a b f g = absurd (f x (inl refl))
same_sets (x ∷ xs) (y ∷ ys) a b f g =
    let e : x ≡ y = heads (f x (inl refl)) (g y (inl refl)) in
    let t : xs ≡ ys = same_sets xs ys a.1 b.1 (λ v m. left e v m (f v (inr m))) (λ v m. right e v m (g v (inr m))) in
    cc
  where
    heads : (x ≡ y) ⊎ IsMember x ys → (y ≡ x) ⊎ IsMember y xs → x ≡ y
    heads (inl e) q = e
    heads (inr m) (inl e) = sym e
    heads (inr m) (inr n) = absurd (less_irreflexive x (less_trans x y x (a.0 y n) (b.0 x m)))

    left : x ≡ y → (v : Value) → IsMember v xs → (v ≡ y) ⊎ IsMember v ys → IsMember v ys
    left e v m (inl q) = absurd (less_irreflexive v (subst (λ z. value_less z v ≡ true) (e ∙ sym q) (a.0 v m)))
    left e v m (inr q) = q

    right : x ≡ y → (v : Value) → IsMember v ys → (v ≡ x) ⊎ IsMember v xs → IsMember v xs
    right e v m (inl q) = absurd (less_irreflexive v (subst (λ z. value_less z v ≡ true) (sym e ∙ sym q) (b.0 v m)))
    right e v m (inr q) = q

pub ascending_subset : (p : Value → Bool) (xs : List Value) → IsAscending xs → IsAscending (subset p xs)
ascending_subset p [] a = tt
ascending_subset p (x ∷ xs) a = go (p x) (ascending_subset p xs a.1)
  where
    go : (b : Bool) → IsAscending (subset p xs) → IsAscending (cond b (x ∷ subset p xs) (subset p xs))
    go true h = (λ v m. a.0 v (member_subset p v xs m).0, h)
    go false h = h

ascending_append : (xs ys : List Value) → IsAscending xs → IsAscending ys
    → ((v w : Value) → IsMember v xs → IsMember w ys → value_less v w ≡ true) → IsAscending (xs ++ ys)
ascending_append [] ys a b h = b
ascending_append (x ∷ xs) ys a b h = (λ v m. go v (member_append v xs ys m), ascending_append xs ys a.1 b (λ v w m n. h v w (inr m) n))
  where
    go : (v : Value) → IsMember v xs ⊎ IsMember v ys → value_less x v ≡ true
    go v (inl m) = a.0 v m
    go v (inr n) = h x v (inl refl) n

ascending_map : (f : Value → Value) (xs : List Value) → ((v w : Value) → value_less v w ≡ true → value_less (f v) (f w) ≡ true)
    → IsAscending xs → IsAscending (map f xs)
ascending_map f [] h a = tt
ascending_map f (x ∷ xs) h a = (
  λ v m. let r = member_map f v xs m in subst (λ y. value_less (f x) y ≡ true) (sym r.1)
      (h x r.0 (a.0 r.0 r.2)),
  ascending_map f xs h a.1,
)

pair_less_first : (v w a b : Value) → value_less v w ≡ true → value_less (Pair v a) (Pair w b) ≡ true
pair_less_first v w a b h = or_right (ltb 2 2) (then_left (value_eq v w) (value_less a b) h)

pair_less_second : (v a b : Value) → value_less a b ≡ true → value_less (Pair v a) (Pair v b) ≡ true
pair_less_second v a b h = or_right (ltb 2 2) (then_right (value_less v v) (value_eq-same v) h)

pub ascending_pairs : (f : Value → List Value) (xs : List Value) → IsAscending xs → ((v : Value) → IsAscending (f v))
    → IsAscending (pairs xs f)
ascending_pairs f [] a b = tt
ascending_pairs f (x ∷ xs) a b = ascending_append (map (λ w. Pair x w) (f x)) (pairs xs f)
    (ascending_map (λ w. Pair x w) (f x) (λ v w h. pair_less_second x v w h) (b x)) (ascending_pairs f xs a.1 b)
    (λ v w m n. let p = member_map (λ y. Pair x y) v (f x) m in let q = member_pairs f w xs n in rw (p.1, q.is)
    (pair_less_first x q.first p.0 q.second (a.0 q.first q.first_in)))

row_less_result : (v a b r s : Value) → value_less a b ≡ true → value_less (Row v a r) (Row v b s) ≡ true
row_less_result v a b r s h = or_right (ltb 4 4)
    (then_right (value_less v v) (value_eq-same v) (then_left (value_eq a b) (value_less r s) h))

row_less_rest : (v a r s : Value) → value_less r s ≡ true → value_less (Row v a r) (Row v a s) ≡ true
row_less_rest v a r s h = or_right (ltb 4 4)
    (then_right (value_less v v) (value_eq-same v) (then_right (value_less a a) (value_eq-same a) h))

ascending_rows : (v : Value) (ws rests : List Value) → IsAscending ws → IsAscending rests → IsAscending (rows v ws rests)
ascending_rows v [] rests a b = tt
ascending_rows v (w ∷ ws) rests a b = ascending_append (map (λ r. Row v w r) rests) (rows v ws rests)
    (ascending_map (λ r. Row v w r) rests (λ r s h. row_less_rest v w r s h) b) (ascending_rows v ws rests a.1 b)
    (λ f g m n. let p = member_map (λ y. Row v w y) f rests m in let q = member_rows g v ws rests n in rw (p.1, q.is)
    (row_less_result v w q.result p.0 q.rest (a.0 q.result q.result_in)))

pub ascending_tables : (f : Value → List Value) (xs : List Value) → ((v : Value) → IsAscending (f v)) → IsAscending (tables xs f)
ascending_tables f [] b = (λ v m. absurd m, tt)
ascending_tables f (x ∷ xs) b = ascending_rows x (f x) (tables xs f) (b x) (ascending_tables f xs b)
