-- Laws of how often numbers stand in lists, and of an index of that.
use Rattle.std.proofs.Common.{◌≡◌, ◌∙◌, ◌+◌, ◌-◌, ◌<◌, ◌||◌, inl, inr, refl, sym, ap, ap₂, subst, arith, ℕ, zero, suc, Bool, true, false, cond, if◌then◌else◌, eqb, eq-eqb, nat_lt, List, [], ◌∷◌, length, ◌≤◌, remove, slice_get, Option, Some}
use Rattle.std.specs.List.{count_by, list_any}
use Rattle.std.specs.Map.{lookup}
use Rattle.std.specs.Option.{unwrap_or}
use Rattle.std.proofs.lemmas.Bool.{eqb-true, cases_eq, cases_lt, lt-ltb, le-ltb}
use Rattle.std.proofs.lemmas.List.Sums.{sum_by-cons, count_by-le-length}
use Rattle.pvs_sequent.specs.Counts.{times, counted, IsCountOf, count_among}

-- different numbers, by the test
apart : (a b : ℕ) → (a ≡ b → ⊥) → eqb a b ≡ false
apart a b h = go (eqb a b) refl
  where
    go : (c : Bool) → eqb a b ≡ c → eqb a b ≡ false
    go true e = absurd (h (eqb-true a b e))
    go false e = e

or_swap : (a b c : Bool) → (a || (b || c)) ≡ (b || (a || c))
or_swap true true c = refl
or_swap true false c = refl
or_swap false true c = refl
or_swap false false c = refl

-- some item passes exactly if one of them or some other does
list_any_at : {X : Type 0} (p : X → Bool) (xs : List X) (i : ℕ) (x : X) → slice_get xs i ≡ Some x → list_any p xs ≡ (p x || list_any p (remove xs i))
list_any_at p [] i x h = cc
list_any_at {X} p (y ∷ ys) zero x h = let e : y ≡ x = cc in ap (λ (z : X). p z || list_any p ys) e
list_any_at p (y ∷ ys) (suc i) x h = ap (λ (b : Bool). p y || b) (list_any_at p ys i x h) ∙ or_swap (p y) (p x) (list_any p (remove ys i))

-- one item more, and one item less
pub count-cons : {X : Type 0} (p : X → Bool) (x : X) (xs : List X) → count_by p (x ∷ xs) ≡ cond (p x) 1 0 + count_by p xs
count-cons p x xs = sum_by-cons (λ y. cond (p y) 1 0) x xs

pub count-remove : {X : Type 0} (p : X → Bool) (xs : List X) (i : ℕ) (x : X) → slice_get xs i ≡ Some x → count_by p xs ≡ cond (p x) 1 0 + count_by p (remove xs i)
count-remove p [] i x h = cc
count-remove {X} p (y ∷ ys) zero x h = let e : y ≡ x = cc in count-cons p y ys ∙ ap (λ (z : X). cond (p z) 1 0 + count_by p ys) e
count-remove p (y ∷ ys) (suc i) x h = omega (arith, count-cons p y ys, count-remove p ys i x h, count-cons p y (remove ys i))

count-alike : {X : Type 0} (p q : X → Bool) → ((x : X) → p x ≡ q x) → (xs : List X) → count_by p xs ≡ count_by q xs
count-alike p q h [] = refl
count-alike p q h (x ∷ xs) = count-cons p x xs ∙ ap₂ (λ (b : Bool) (n : ℕ). cond b 1 0 + n) (h x) (count-alike p q h xs) ∙ sym (count-cons q x xs)

-- some item passes where the count of those that do is not 0
pub count-some : {X : Type 0} (p : X → Bool) (xs : List X) → 0 < count_by p xs → list_any p xs ≡ true
count-some p [] h = absurd (omega arith)
count-some {X} p (x ∷ xs) h = go (p x) refl (count-some p xs)
  where
    go : (b : Bool) → p x ≡ b → (0 < count_by p xs → list_any p xs ≡ true) → (p x || list_any p xs) ≡ true
    go true e ih = ap (λ (b : Bool). b || list_any p xs) e
    go false e ih = ap (λ (b : Bool). b || list_any p xs) e ∙ ih (let k : cond {A = ℕ} (p x) 1 0 ≡ 0 = ap (λ (b : Bool). cond b 1 0) e in omega (arith, h, count-cons p x xs, k))

pub count-none : {X : Type 0} (p : X → Bool) (xs : List X) → count_by p xs ≡ 0 → list_any p xs ≡ false
count-none p [] h = refl
count-none {X} p (x ∷ xs) h = go (p x) refl (count-none p xs)
  where
    go : (b : Bool) → p x ≡ b → (count_by p xs ≡ 0 → list_any p xs ≡ false) → (p x || list_any p xs) ≡ false
    go true e ih = let k : cond {A = ℕ} (p x) 1 0 ≡ 1 = ap (λ (b : Bool). cond b 1 0) e in absurd (omega (arith, h, count-cons p x xs, k))
    go false e ih = ap (λ (b : Bool). b || list_any p xs) e ∙ ih (let k : cond {A = ℕ} (p x) 1 0 ≡ 0 = ap (λ (b : Bool). cond b 1 0) e in omega (arith, h, count-cons p x xs, k))

-- a number more in the other list: it counts as often as it stands in the one, unless it stood in the other before
one_more : (x y : ℕ) (ys : List ℕ) → cond (eqb x y || list_any (eqb x) ys) 1 0 ≡ cond (list_any (eqb y) ys) 0 (cond (eqb y x) 1 0) + cond (list_any (eqb x) ys) 1 0
one_more x y ys = elim (cases_eq x y) [
  | inl e ↦ subst (λ (z : ℕ). cond (eqb x z || list_any (eqb x) ys) 1 0 ≡ cond (list_any (eqb z) ys) 0 (cond (eqb z x) 1 0) + cond (list_any (eqb x) ys) 1 0) e
      (rw (eq-eqb x x refl) (same (list_any (eqb x) ys)))
  | inr n ↦ rw (apart x y n, apart y x (λ e. n (sym e))) (other (list_any (eqb y) ys) (cond (list_any (eqb x) ys) 1 0))
]
  where
    same : (b : Bool) → 1 ≡ cond b 0 1 + cond b 1 0
    same true = refl
    same false = refl

    other : (b : Bool) (n : ℕ) → n ≡ cond b 0 0 + n
    other true n = omega arith
    other false n = omega arith

split : (b : Bool) (m n : ℕ) → cond b 0 (m + n) ≡ cond b 0 m + cond b 0 n
split true m n = refl
split false m n = refl

pub among-cons : (xs ys : List ℕ) (y : ℕ) → count_among xs (y ∷ ys) ≡ cond (list_any (eqb y) ys) 0 (times y xs) + count_among xs ys
among-cons [] ys y = go (list_any (eqb y) ys)
  where
    go : (b : Bool) → 0 ≡ cond b 0 0 + 0
    go true = refl
    go false = refl
among-cons (x ∷ xs) ys y =
    let b : Bool = list_any (eqb y) ys in
    let t : cond (list_any (eqb y) ys) 0 (times y (x ∷ xs)) ≡ cond (list_any (eqb y) ys) 0 (cond (eqb y x) 1 0) + cond (list_any (eqb y) ys) 0 (times y xs) =
    ap (λ (n : ℕ). cond (list_any (eqb y) ys) 0 n) (count-cons (eqb y) x xs) ∙ split (list_any (eqb y) ys) (cond (eqb y x) 1 0) (times y xs) in
    omega (arith, count-cons (λ (i : ℕ). list_any (eqb i) (y ∷ ys)) x xs, count-cons (λ (i : ℕ). list_any (eqb i) ys) x xs, t, one_more x y ys, among-cons xs ys y)

pub among-remove : (xs ys : List ℕ) (i y : ℕ) → slice_get ys i ≡ Some y → count_among xs ys ≡ cond (list_any (eqb y) (remove ys i)) 0 (times y xs) + count_among xs (remove ys i)
among-remove xs ys i y h =
    count-alike (λ (k : ℕ). list_any (eqb k) ys) (λ (k : ℕ). list_any (eqb k) (y ∷ remove ys i)) (λ (k : ℕ). list_any_at (eqb k) ys i y h) xs
    ∙ among-cons xs (remove ys i) y

-- an index where one count is raised, and where one is lowered
pub raised : (es fs : List (ℕ × ℕ)) (k w : ℕ) → ((q : ℕ) → lookup (eqb q) fs ≡ cond (eqb k q) (Some w) (lookup (eqb q) es)) → w ≡ counted es k + 1
    → (q : ℕ) → counted fs q ≡ counted es q + (if eqb q k then 1 else 0)
raised es fs k w h e q = elim (cases_eq q k) [
  | inl s ↦ ap (λ (o : Option ℕ). unwrap_or o 0) (h q)
      ∙ rw (eq-eqb k q (sym s), eq-eqb q k s) (subst (λ (j : ℕ). w ≡ counted es j + 1) (sym s) e)
  | inr n ↦ ap (λ (o : Option ℕ). unwrap_or o 0) (h q) ∙ rw (apart k q (λ s. n (sym s)), apart q k n) (omega arith)
]

pub lowered : (es fs : List (ℕ × ℕ)) (k : ℕ) (o : Option ℕ) → ((q : ℕ) → lookup (eqb q) fs ≡ cond (eqb k q) o (lookup (eqb q) es)) → unwrap_or o 0 ≡ counted es k - 1
    → (q : ℕ) → counted fs q ≡ counted es q - (if eqb q k then 1 else 0)
lowered es fs k o h e q = elim (cases_eq q k) [
  | inl s ↦ ap (λ (r : Option ℕ). unwrap_or r 0) (h q)
      ∙ rw (eq-eqb k q (sym s), eq-eqb q k s) (subst (λ (j : ℕ). unwrap_or o 0 ≡ counted es j - 1) (sym s) e)
  | inr n ↦ ap (λ (r : Option ℕ). unwrap_or r 0) (h q) ∙ rw (apart k q (λ s. n (sym s)), apart q k n) (omega arith)
]

as_cond : (b : Bool) → (if b then 1 else 0) ≡ cond {A = ℕ} b 1 0
as_cond true = refl
as_cond false = refl

pub pushed_count : (es fs : List (ℕ × ℕ)) (ids : List ℕ) (k : ℕ) → IsCountOf es ids → ((q : ℕ) → counted fs q ≡ counted es q + (if eqb q k then 1 else 0)) → IsCountOf fs (k ∷ ids)
pushed_count es fs ids k h r q = omega (arith, h q, r q, as_cond (eqb q k), count-cons (eqb q) k ids)

pub removed_count : (es fs : List (ℕ × ℕ)) (ids : List ℕ) (i k : ℕ) → slice_get ids i ≡ Some k → IsCountOf es ids → ((q : ℕ) → counted fs q ≡ counted es q - (if eqb q k then 1 else 0)) → IsCountOf fs (remove ids i)
removed_count es fs ids i k s h r q = omega (arith, h q, r q, as_cond (eqb q k), count-remove (eqb q) ids i k s)

-- a number that stands in a list is counted
pub stands_count : (es : List (ℕ × ℕ)) (ids : List ℕ) (i k : ℕ) → slice_get ids i ≡ Some k → IsCountOf es ids → 0 < counted es k
stands_count es ids i k s h =
    let one : cond {A = ℕ} (eqb k k) 1 0 ≡ 1 = ap (λ (b : Bool). cond b 1 0) (eq-eqb k k refl) in
    omega (arith, h k, count-remove (eqb k) ids i k s, one)

-- a count is above 0 where some item passes
pub above_none : {X : Type 0} (p : X → Bool) (xs : List X) (n : ℕ) → n ≡ count_by p xs → nat_lt 0 n ≡ list_any p xs
above_none p xs n e = elim (cases_lt 0 n) [
  | inl lt ↦ lt-ltb 0 n lt ∙ sym (count-some p xs (omega arith))
  | inr ge ↦ le-ltb 0 n ge ∙ sym (count-none p xs (omega arith))
]

-- how many numbers are shared, n, after a change of the other list or of the one
pub new_shared : (xs ys zs : List ℕ) (y n m : ℕ) → n ≡ count_among xs ys → m ≡ times y xs → list_any (eqb y) ys ≡ false → zs ≡ y ∷ ys → n + m ≡ count_among xs zs
new_shared xs ys zs y n m e f h g =
    let k : cond (list_any (eqb y) ys) 0 (times y xs) ≡ times y xs = ap (λ (b : Bool). cond b 0 (times y xs)) h in
    let r : n + m ≡ count_among xs (y ∷ ys) = omega (arith, among-cons xs ys y, k) in
    r ∙ ap (count_among xs) (sym g)

pub old_shared : (xs ys zs : List ℕ) (y n : ℕ) → n ≡ count_among xs ys → list_any (eqb y) ys ≡ true → zs ≡ y ∷ ys → n ≡ count_among xs zs
old_shared xs ys zs y n e h g =
    let k : cond (list_any (eqb y) ys) 0 (times y xs) ≡ 0 = ap (λ (b : Bool). cond b 0 (times y xs)) h in
    let r : n ≡ count_among xs (y ∷ ys) = omega (arith, among-cons xs ys y, k) in
    r ∙ ap (count_among xs) (sym g)

pub one_less : (xs ys zs : List ℕ) (i x n : ℕ) → n ≡ count_among xs ys → slice_get xs i ≡ Some x → list_any (eqb x) ys ≡ true → zs ≡ remove xs i → n ≡ 1 + count_among zs ys
one_less xs ys zs i x n e s h g =
    let k : cond {A = ℕ} (list_any (eqb x) ys) 1 0 ≡ 1 = ap (λ (b : Bool). cond b 1 0) h in
    let r : n ≡ 1 + count_among (remove xs i) ys = omega (arith, count-remove (λ (j : ℕ). list_any (eqb j) ys) xs i x s, k) in
    r ∙ ap (λ (l : List ℕ). 1 + count_among l ys) (sym g)

pub none_less : (xs ys zs : List ℕ) (i x n : ℕ) → n ≡ count_among xs ys → slice_get xs i ≡ Some x → list_any (eqb x) ys ≡ false → zs ≡ remove xs i → n ≡ count_among zs ys
none_less xs ys zs i x n e s h g =
    let k : cond {A = ℕ} (list_any (eqb x) ys) 1 0 ≡ 0 = ap (λ (b : Bool). cond b 1 0) h in
    let r : n ≡ count_among (remove xs i) ys = omega (arith, count-remove (λ (j : ℕ). list_any (eqb j) ys) xs i x s, k) in
    r ∙ ap (λ (l : List ℕ). count_among l ys) (sym g)

pub times_less : (xs ys zs : List ℕ) (i y n : ℕ) → n ≡ count_among xs ys → slice_get ys i ≡ Some y → zs ≡ remove ys i → list_any (eqb y) zs ≡ false → n ≡ times y xs + count_among xs zs
times_less xs ys zs i y n e s g h =
    let b : list_any (eqb y) (remove ys i) ≡ false = ap (list_any (eqb y)) (sym g) ∙ h in
    let k : cond (list_any (eqb y) (remove ys i)) 0 (times y xs) ≡ times y xs = ap (λ (c : Bool). cond c 0 (times y xs)) b in
    let r : n ≡ times y xs + count_among xs (remove ys i) = omega (arith, among-remove xs ys i y s, k) in
    r ∙ ap (λ (l : List ℕ). times y xs + count_among xs l) (sym g)

pub still_shared : (xs ys zs : List ℕ) (i y n : ℕ) → n ≡ count_among xs ys → slice_get ys i ≡ Some y → zs ≡ remove ys i → list_any (eqb y) zs ≡ true → n ≡ count_among xs zs
still_shared xs ys zs i y n e s g h =
    let b : list_any (eqb y) (remove ys i) ≡ true = ap (list_any (eqb y)) (sym g) ∙ h in
    let k : cond (list_any (eqb y) (remove ys i)) 0 (times y xs) ≡ 0 = ap (λ (c : Bool). cond c 0 (times y xs)) b in
    let r : n ≡ count_among xs (remove ys i) = omega (arith, among-remove xs ys i y s, k) in
    r ∙ ap (λ (l : List ℕ). count_among xs l) (sym g)

-- no more numbers are shared than there are
pub shared_fit : (xs ys : List ℕ) → count_among xs ys ≤ length xs
shared_fit xs ys = count_by-le-length (λ (j : ℕ). list_any (eqb j) ys) xs
