-- Laws of lifting and putting in, for all trees.
use Rattle.std.proofs.Common.{◌≡◌, ℕ, zero, suc, ◌+◌, ◌-◌, ◌<◌, ◌≤◌, refl, ap, ◌∙◌, sym, arith, inl, inr, ◌⊎◌}
use Rattle.std.proofs.lemmas.Bool.{cases_lt}
use Rattle.pvs_terms.specs.Tree.{Tree, Leaf, Var, Name, Bind, Join, Project, If, free_below}
use Rattle.pvs_subst.specs.Replace.{raised_index, lift, put_var, put_at, put_in}

-- an index by comparison
pub raised_below : (by from n : ℕ) → n < from → raised_index by from n ≡ n
raised_below by zero n h = absurd (omega arith)
raised_below by (suc from) zero h = refl
raised_below by (suc from) (suc n) h = ap suc (raised_below by from n (omega arith))

pub raised_above : (by from n : ℕ) → from ≤ n → raised_index by from n ≡ n + by
raised_above by zero n h = refl
raised_above by (suc from) zero h = absurd (omega arith)
raised_above by (suc from) (suc n) h = omega (arith, raised_above by from n (omega arith))

-- the two cases of an index
raised_cases : (by from n : ℕ) → ((n < from) × (raised_index by from n ≡ n)) ⊎ ((from ≤ n) × (raised_index by from n ≡ n + by))
raised_cases by from n = elim (cases_lt n from) [ inl h ↦ inl (h, raised_below by from n h) | inr h ↦ inr (h, raised_above by from n h) ]

raised_within : (b c f g n : ℕ) → f ≤ g → g ≤ f + b → raised_index c g (raised_index b f n) ≡ raised_index (b + c) f n
raised_within b c f g n p q = go (raised_cases b f n) (raised_cases c g (raised_index b f n)) (raised_cases (b + c) f n)
  where
    go : ((n < f) × (raised_index b f n ≡ n)) ⊎ ((f ≤ n) × (raised_index b f n ≡ n + b)) → ((raised_index b f n < g) × (raised_index c g (raised_index b f n) ≡ raised_index b f n)) ⊎ ((g ≤ raised_index b f n) × (raised_index c g (raised_index b f n) ≡ raised_index b f n + c))
        → ((n < f) × (raised_index (b + c) f n ≡ n)) ⊎ ((f ≤ n) × (raised_index (b + c) f n ≡ n + (b + c))) → raised_index c g (raised_index b f n) ≡ raised_index (b + c) f n
    go (inl x) (inl y) (inl z) = omega (arith, x.1, y.1, z.1)
    go (inl x) (inl y) (inr z) = omega (arith, x.0, z.0)
    go (inl x) (inr y) z = omega (arith, x.0, x.1, y.0, p)
    go (inr x) (inl y) z = omega (arith, x.0, x.1, y.0, q)
    go (inr x) (inr y) (inl z) = omega (arith, x.0, z.0)
    go (inr x) (inr y) (inr z) = omega (arith, x.1, y.1, z.1)

raised_past : (a b i j m n : ℕ) → i ≤ j → m ≡ j + a → raised_index b m (raised_index a i n) ≡ raised_index a i (raised_index b j n)
raised_past a b i j m n p e = go (cases_lt n i) (cases_lt n j)
  where
    go : (n < i) ⊎ (i ≤ n) → (n < j) ⊎ (j ≤ n) → raised_index b m (raised_index a i n) ≡ raised_index a i (raised_index b j n)
    go (inl x) y =
        let ra = raised_below a i n x in
        let rb = raised_below b j n (omega (arith, x, p)) in
        rw (ra, rb, ra) (raised_below b m n (omega (arith, x, p, e)))
    go (inr x) (inl y) =
        let ra = raised_above a i n x in
        let rb = raised_below b j n y in
        rw (ra, rb, ra) (raised_below b m (n + a) (omega (arith, y, e)))
    go (inr x) (inr y) =
        let ra = raised_above a i n x in
        let rb = raised_above b j n y in
        rw (ra, rb, raised_above a i (n + b) (omega (arith, x)), raised_above b m (n + a) (omega (arith, y, e))) (omega arith)

-- lifting twice is lifting once, where the second lifts from within the gap of the first
pub lift-lift_within : (t : Tree) (b c f g : ℕ) → f ≤ g → g ≤ f + b → lift (lift t b f) c g ≡ lift t (b + c) f
lift-lift_within (Leaf o) b c f g p q = refl
lift-lift_within (Var n) b c f g p q = ap Var (raised_within b c f g n p q)
lift-lift_within (Name s r) b c f g p q = refl
lift-lift_within (Bind o x y) b c f g p q = rw (lift-lift_within x b c f g p q, lift-lift_within y b c (suc f) (suc g) (omega (arith, p)) (omega (arith, q))) refl
lift-lift_within (Join o x y) b c f g p q = rw (lift-lift_within x b c f g p q, lift-lift_within y b c f g p q) refl
lift-lift_within (Project o x) b c f g p q = ap (Project o) (lift-lift_within x b c f g p q)
lift-lift_within (If x y z) b c f g p q = rw (lift-lift_within x b c f g p q, lift-lift_within y b c f g p q, lift-lift_within z b c f g p q) refl

pub lift-lift : (t : Tree) (b c f : ℕ) → lift (lift t b f) c f ≡ lift t (b + c) f
lift-lift t b c f = lift-lift_within t b c f f (omega arith) (omega arith)

-- lifting past lifting: from the greater index first or last
pub lift-lift_past : (t : Tree) (a b i j m : ℕ) → i ≤ j → m ≡ j + a → lift (lift t a i) b m ≡ lift (lift t b j) a i
lift-lift_past (Leaf o) a b i j m p e = refl
lift-lift_past (Var n) a b i j m p e = ap Var (raised_past a b i j m n p e)
lift-lift_past (Name s r) a b i j m p e = refl
lift-lift_past (Bind o x y) a b i j m p e = rw (lift-lift_past x a b i j m p e, lift-lift_past y a b (suc i) (suc j) (suc m) (omega (arith, p)) (omega (arith, e))) refl
lift-lift_past (Join o x y) a b i j m p e = rw (lift-lift_past x a b i j m p e, lift-lift_past y a b i j m p e) refl
lift-lift_past (Project o x) a b i j m p e = ap (Project o) (lift-lift_past x a b i j m p e)
lift-lift_past (If x y z) a b i j m p e = rw (lift-lift_past x a b i j m p e, lift-lift_past y a b i j m p e, lift-lift_past z a b i j m p e) refl

-- lifting by nothing, and lifting what has no index to raise
raised_index-none : (f n : ℕ) → raised_index 0 f n ≡ n
raised_index-none zero n = omega arith
raised_index-none (suc f) zero = refl
raised_index-none (suc f) (suc n) = ap suc (raised_index-none f n)

pub lift-none : (t : Tree) (f : ℕ) → lift t 0 f ≡ t
lift-none (Leaf o) f = refl
lift-none (Var n) f = ap Var (raised_index-none f n)
lift-none (Name s r) f = refl
lift-none (Bind o x y) f = rw (lift-none x f, lift-none y (suc f)) refl
lift-none (Join o x y) f = rw (lift-none x f, lift-none y f) refl
lift-none (Project o x) f = ap (Project o) (lift-none x f)
lift-none (If x y z) f = rw (lift-none x f, lift-none y f, lift-none z f) refl

pub lift-closed : (t : Tree) (by from : ℕ) → free_below t ≤ from → lift t by from ≡ t
lift-closed (Leaf o) by from h = refl
lift-closed (Var n) by from h = ap Var (raised_below by from n (omega (arith, h)))
lift-closed (Name s r) by from h = refl
lift-closed (Bind o x y) by from h = rw (lift-closed x by from (omega (arith, h)), lift-closed y by (suc from) (omega (arith, h))) refl
lift-closed (Join o x y) by from h = rw (lift-closed x by from (omega (arith, h)), lift-closed y by from (omega (arith, h))) refl
lift-closed (Project o x) by from h = ap (Project o) (lift-closed x by from h)
lift-closed (If x y z) by from h = rw (lift-closed x by from (omega (arith, h)), lift-closed y by from (omega (arith, h)), lift-closed z by from (omega (arith, h))) refl

-- what stands for an index, by comparison
pub put_var_below : (arg : Tree) (at n : ℕ) → n < at → put_var arg at n ≡ Var n
put_var_below arg zero n h = absurd (omega arith)
put_var_below arg (suc at) zero h = refl
put_var_below arg (suc at) (suc n) h = ap (λ t. lift t 1 0) (put_var_below arg at n (omega arith)) ∙ ap Var (omega arith)

pub put_var_at : (arg : Tree) (at : ℕ) → put_var arg at at ≡ lift arg at 0
put_var_at arg zero = sym (lift-none arg 0)
put_var_at arg (suc at) = ap (λ t. lift t 1 0) (put_var_at arg at) ∙ lift-lift arg at 1 0 ∙ ap (λ k. lift arg k 0) (omega arith)

pub put_var_above : (arg : Tree) (at n : ℕ) → at < n → put_var arg at n ≡ Var (n - 1)
put_var_above arg zero zero h = absurd (omega arith)
put_var_above arg zero (suc n) h = ap Var (omega arith)
put_var_above arg (suc at) zero h = absurd (omega arith)
put_var_above arg (suc at) (suc n) h = ap (λ t. lift t 1 0) (put_var_above arg at n (omega arith)) ∙ ap Var (omega arith)

-- an index is below, at or above another
three_cases : (m n : ℕ) → (m < n) ⊎ ((m ≡ n) ⊎ (n < m))
three_cases m n = elim (cases_lt m n) [ inl h ↦ inl h | inr h ↦ elim (cases_lt n m) [ inl k ↦ inr (inr k) | inr k ↦ inr (inl (omega (arith, h, k))) ] ]

-- putting in for an index that does not occur
pub put_at-closed : (t u : Tree) (at : ℕ) → free_below t ≤ at → put_at t u at ≡ t
put_at-closed (Leaf o) u at h = refl
put_at-closed (Var n) u at h = put_var_below u at n (omega (arith, h))
put_at-closed (Name s r) u at h = refl
put_at-closed (Bind o x y) u at h = rw (put_at-closed x u at (omega (arith, h)), put_at-closed y u (suc at) (omega (arith, h))) refl
put_at-closed (Join o x y) u at h = rw (put_at-closed x u at (omega (arith, h)), put_at-closed y u at (omega (arith, h))) refl
put_at-closed (Project o x) u at h = ap (Project o) (put_at-closed x u at h)
put_at-closed (If x y z) u at h = rw (put_at-closed x u at (omega (arith, h)), put_at-closed y u at (omega (arith, h)), put_at-closed z u at (omega (arith, h))) refl

-- putting in for an index that lifting left out undoes one step of the lifting
put_var-raised_index : (u : Tree) (b f at n : ℕ) → f ≤ at → at ≤ f + b → put_var u at (raised_index (suc b) f n) ≡ Var (raised_index b f n)
put_var-raised_index u b f at n p q = elim (cases_lt n f) [
  | inl h ↦ rw (raised_below (suc b) f n h, raised_below b f n h) (put_var_below u at n (omega (arith, h, p)))
  | inr h ↦ rw (raised_above (suc b) f n h, raised_above b f n h) (put_var_above u at (n + suc b) (omega (arith, h, q)) ∙ ap Var (omega arith))
]

pub put_at-lift : (t u : Tree) (b f at : ℕ) → f ≤ at → at ≤ f + b → put_at (lift t (suc b) f) u at ≡ lift t b f
put_at-lift (Leaf o) u b f at p q = refl
put_at-lift (Var n) u b f at p q = put_var-raised_index u b f at n p q
put_at-lift (Name s r) u b f at p q = refl
put_at-lift (Bind o x y) u b f at p q = rw (put_at-lift x u b f at p q, put_at-lift y u b (suc f) (suc at) (omega (arith, p)) (omega (arith, q))) refl
put_at-lift (Join o x y) u b f at p q = rw (put_at-lift x u b f at p q, put_at-lift y u b f at p q) refl
put_at-lift (Project o x) u b f at p q = ap (Project o) (put_at-lift x u b f at p q)
put_at-lift (If x y z) u b f at p q = rw (put_at-lift x u b f at p q, put_at-lift y u b f at p q, put_at-lift z u b f at p q) refl

-- a term put into a lifted tree is lost
pub put_in-lift : (t u : Tree) → put_in (lift t 1 0) u ≡ t
put_in-lift t u = put_at-lift t u 0 0 0 (omega arith) (omega arith) ∙ lift-none t 0

-- lifting past putting in, from an index that is not greater
lift-put_var_below : (u : Tree) (by from at m n : ℕ) → from ≤ at → m ≡ at + by → lift (put_var u at n) by from ≡ put_var u m (raised_index by from n)
lift-put_var_below u by from at m n p e = elim (three_cases n at) [
  | inl h ↦ rw (put_var_below u at n h) (sym (put_var_below u m (raised_index by from n) (below h)))
  | inr h ↦ elim h [
    | inl k ↦ rw (k, put_var_at u at, raised_above by from at p) (lift-lift_within u at by 0 from (omega arith) (omega (arith, p)) ∙ sym (put_var_at u (at + by)) ∙ ap (λ x. put_var u x (at + by)) (sym e))
    | inr k ↦
        rw (put_var_above u at n k, raised_above by from n (omega (arith, p, k)))
        (ap Var (raised_above by from (n - 1) (omega (arith, p, k))) ∙ ap Var (omega (arith, k)) ∙ sym (put_var_above u m (n + by) (omega (arith, k, e))))
  ]
]
  where
    below : n < at → raised_index by from n < m
    below h = elim (cases_lt n from) [ inl k ↦ omega (arith, raised_below by from n k, h, e) | inr k ↦ omega (arith, raised_above by from n k, h, e) ]

pub lift-put_at_below : (t u : Tree) (by from at m : ℕ) → from ≤ at → m ≡ at + by → lift (put_at t u at) by from ≡ put_at (lift t by from) u m
lift-put_at_below (Leaf o) u by from at m p e = refl
lift-put_at_below (Var n) u by from at m p e = lift-put_var_below u by from at m n p e
lift-put_at_below (Name s r) u by from at m p e = refl
lift-put_at_below (Bind o x y) u by from at m p e = rw (lift-put_at_below x u by from at m p e, lift-put_at_below y u by (suc from) (suc at) (suc m) (omega (arith, p)) (omega (arith, e))) refl
lift-put_at_below (Join o x y) u by from at m p e = rw (lift-put_at_below x u by from at m p e, lift-put_at_below y u by from at m p e) refl
lift-put_at_below (Project o x) u by from at m p e = ap (Project o) (lift-put_at_below x u by from at m p e)
lift-put_at_below (If x y z) u by from at m p e = rw (lift-put_at_below x u by from at m p e, lift-put_at_below y u by from at m p e, lift-put_at_below z u by from at m p e) refl

-- lifting past putting in, from an index that is not less: the term that is put in is lifted too
lift-put_var_above : (u : Tree) (by from at k n : ℕ) → from ≡ at + k → lift (put_var u at n) by from ≡ put_var (lift u by k) at (raised_index by (suc from) n)
lift-put_var_above u by from at k n e = elim (three_cases n at) [
  | inl h ↦ rw (put_var_below u at n h, raised_below by (suc from) n (omega (arith, h, e))) (ap Var (raised_below by from n (omega (arith, h, e))) ∙ sym (put_var_below (lift u by k) at n h))
  | inr h ↦ elim h [
    | inl i ↦ rw (i, put_var_at u at, raised_below by (suc from) at (omega (arith, e))) (lift-lift_past u at by 0 k from (omega arith) (omega (arith, e)) ∙ sym (put_var_at (lift u by k) at))
    | inr i ↦ rw (put_var_above u at n i) (above i (cases_lt n (suc from)))
  ]
]
  where
    above : at < n → (n < suc from) ⊎ (suc from ≤ n) → lift (Var (n - 1)) by from ≡ put_var (lift u by k) at (raised_index by (suc from) n)
    above i (inl j) = rw (raised_below by (suc from) n j) (ap Var (raised_below by from (n - 1) (omega (arith, i, j))) ∙ sym (put_var_above (lift u by k) at n i))
    above i (inr j) = rw (raised_above by (suc from) n j) (ap Var (raised_above by from (n - 1) (omega (arith, i, j))) ∙ ap Var (omega (arith, i)) ∙ sym (put_var_above (lift u by k) at (n + by) (omega (arith, i))))

pub lift-put_at_above : (t u : Tree) (by from at k : ℕ) → from ≡ at + k → lift (put_at t u at) by from ≡ put_at (lift t by (suc from)) (lift u by k) at
lift-put_at_above (Leaf o) u by from at k e = refl
lift-put_at_above (Var n) u by from at k e = lift-put_var_above u by from at k n e
lift-put_at_above (Name s r) u by from at k e = refl
lift-put_at_above (Bind o x y) u by from at k e = rw (lift-put_at_above x u by from at k e, lift-put_at_above y u by (suc from) (suc at) k (omega (arith, e))) refl
lift-put_at_above (Join o x y) u by from at k e = rw (lift-put_at_above x u by from at k e, lift-put_at_above y u by from at k e) refl
lift-put_at_above (Project o x) u by from at k e = ap (Project o) (lift-put_at_above x u by from at k e)
lift-put_at_above (If x y z) u by from at k e = rw (lift-put_at_above x u by from at k e, lift-put_at_above y u by from at k e, lift-put_at_above z u by from at k e) refl

pub lift-put_in : (t u : Tree) (by from : ℕ) → lift (put_in t u) by from ≡ put_in (lift t by (suc from)) (lift u by from)
lift-put_in t u by from = lift-put_at_above t u by from 0 from (omega arith)

-- putting in past putting in
put_at-put_var : (u v : Tree) (i j k n : ℕ) → j ≡ i + k → put_at (put_var u i n) v j ≡ put_at (put_var v (suc j) n) (put_at u v k) i
put_at-put_var u v i j k n e = elim (three_cases n i) [
  | inl h ↦ rw (put_var_below u i n h, put_var_below v (suc j) n (omega (arith, h, e))) (put_var_below v j n (omega (arith, h, e)) ∙ sym (put_var_below (put_at u v k) i n h))
  | inr h ↦ elim h [
    | inl x ↦ rw (x, put_var_at u i, put_var_below v (suc j) i (omega (arith, e))) (sym (lift-put_at_below u v i 0 k j (omega arith) (omega (arith, e))) ∙ sym (put_var_at (put_at u v k) i))
    | inr x ↦ rw (put_var_above u i n x) (above x (three_cases n (suc j)))
  ]
]
  where
    above : i < n → (n < suc j) ⊎ ((n ≡ suc j) ⊎ (suc j < n)) → put_at (Var (n - 1)) v j ≡ put_at (put_var v (suc j) n) (put_at u v k) i
    above x (inl y) = rw (put_var_below v (suc j) n y) (put_var_below v j (n - 1) (omega (arith, x, y)) ∙ sym (put_var_above (put_at u v k) i n x))
    above x (inr (inl y)) =
        ap (put_var v j) (omega (arith, y))
        ∙ put_var_at v j
        ∙ sym (put_at-lift v (put_at u v k) j 0 i (omega arith) (omega (arith, e)))
        ∙ ap (λ w. put_at w (put_at u v k) i) (sym (put_var_at v (suc j)) ∙ ap (put_var v (suc j)) (sym y))
    above x (inr (inr y)) = rw (put_var_above v (suc j) n y) (put_var_above v j (n - 1) (omega (arith, y)) ∙ sym (put_var_above (put_at u v k) i (n - 1) (omega (arith, y, e))))

pub put_at-put_at : (t u v : Tree) (i j k : ℕ) → j ≡ i + k → put_at (put_at t u i) v j ≡ put_at (put_at t v (suc j)) (put_at u v k) i
put_at-put_at (Leaf o) u v i j k e = refl
put_at-put_at (Var n) u v i j k e = put_at-put_var u v i j k n e
put_at-put_at (Name s r) u v i j k e = refl
put_at-put_at (Bind o x y) u v i j k e = rw (put_at-put_at x u v i j k e, put_at-put_at y u v (suc i) (suc j) k (omega (arith, e))) refl
put_at-put_at (Join o x y) u v i j k e = rw (put_at-put_at x u v i j k e, put_at-put_at y u v i j k e) refl
put_at-put_at (Project o x) u v i j k e = ap (Project o) (put_at-put_at x u v i j k e)
put_at-put_at (If x y z) u v i j k e = rw (put_at-put_at x u v i j k e, put_at-put_at y u v i j k e, put_at-put_at z u v i j k e) refl

pub put_in-put_at : (t u v : Tree) (k : ℕ) → put_at (put_in t u) v k ≡ put_in (put_at t v (suc k)) (put_at u v k)
put_in-put_at t u v k = put_at-put_at t u v 0 k k (omega arith)
