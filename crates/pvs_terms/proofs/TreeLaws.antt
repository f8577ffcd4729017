-- The test for equal trees decides equality.
use Rattle.std.proofs.Common.{◌≡◌, ℕ, List, refl, ap, sym, ◌∙◌, subst, ◌⊎◌, inl, inr, Bool, true, false, ◌&&◌, eqb, eq-eqb}
use Rattle.std.proofs.lemmas.Bool.{eqb-true}
use Rattle.std.proofs.lemmas.Slice.Eq.{bytes_eq-Decides}
use Rattle.std.specs.Prelude.{bytes_eq, IsTrue, ◌↔◌}
use Rattle.pvs_terms.specs.Tree.{Tree, Leaf, Var, Name, Bind, Join, Project, If, Ref, Own, Formal, Inst, Trees, none, more, plain_eq, sort_eq, binder_eq, joint_eq, projection_eq, tree_eq, ref_eq, trees_eq}
use Rattle.pvs_terms.specs.declared.shape.Plain.{Plain}
use Rattle.pvs_terms.specs.declared.shape.Plain.TheVariants.{BoolType, Yes, No}
use Rattle.pvs_terms.specs.declared.shape.Sort.{Sort}
use Rattle.pvs_terms.specs.declared.shape.Sort.TheVariants.{OfType, OfTerm}
use Rattle.pvs_terms.specs.declared.shape.Binder.{Binder}
use Rattle.pvs_terms.specs.declared.shape.Binder.TheVariants.{Subtype, Function, Product, Lambda}
use Rattle.pvs_terms.specs.declared.shape.Joint.{Joint}
use Rattle.pvs_terms.specs.declared.shape.Joint.TheVariants.{Apply, Tuple, Equal}
use Rattle.pvs_terms.specs.declared.shape.Projection.{Projection}
use Rattle.pvs_terms.specs.declared.shape.Projection.TheVariants.{First, Second}

pub both : (a b : Bool) → (a && b) ≡ true → (a ≡ true) × (b ≡ true)
both true b h = (refl, h)
both false b h = (cc, cc)

eqb-same : (n : ℕ) → eqb n n ≡ true
eqb-same n = eq-eqb n n refl

plain_eq-true : (a b : Plain) → plain_eq a b ≡ true → a ≡ b
plain_eq-true BoolType BoolType h = refl
plain_eq-true Yes Yes h = refl
plain_eq-true No No h = refl
plain_eq-true _ _ h = cc

sort_eq-true : (a b : Sort) → sort_eq a b ≡ true → a ≡ b
sort_eq-true OfType OfType h = refl
sort_eq-true OfTerm OfTerm h = refl
sort_eq-true _ _ h = cc

binder_eq-true : (a b : Binder) → binder_eq a b ≡ true → a ≡ b
binder_eq-true Subtype Subtype h = refl
binder_eq-true Function Function h = refl
binder_eq-true (Product j) (Product k) h = ap Product (eqb-true j k h)
binder_eq-true Lambda Lambda h = refl
binder_eq-true _ _ h = cc

joint_eq-true : (a b : Joint) → joint_eq a b ≡ true → a ≡ b
joint_eq-true Apply Apply h = refl
joint_eq-true (Tuple j) (Tuple k) h = ap Tuple (eqb-true j k h)
joint_eq-true Equal Equal h = refl
joint_eq-true _ _ h = cc

projection_eq-true : (a b : Projection) → projection_eq a b ≡ true → a ≡ b
projection_eq-true (First j) (First k) h = ap First (eqb-true j k h)
projection_eq-true (Second j) (Second k) h = ap Second (eqb-true j k h)
projection_eq-true _ _ h = cc

mutual
  pub tree_eq-true : (t u : Tree) → tree_eq t u ≡ true → t ≡ u
  tree_eq-true (Leaf o) (Leaf p) h = ap Leaf (plain_eq-true o p h)
  tree_eq-true (Var m) (Var n) h = ap Var (eqb-true m n h)
  tree_eq-true (Name s r) (Name t q) h =
      let b = both (sort_eq s t) (ref_eq r q) h in
      let p = sort_eq-true s t b.0 in
      let q' = ref_eq-true r q b.1 in cc
  tree_eq-true (Bind o a b) (Bind p c d) h =
      let x = both (binder_eq o p) (tree_eq a c && tree_eq b d) h in
      let y = both (tree_eq a c) (tree_eq b d) x.1 in
      let e = binder_eq-true o p x.0 in
      let f = tree_eq-true a c y.0 in
      let g = tree_eq-true b d y.1 in cc
  tree_eq-true (Join o a b) (Join p c d) h =
      let x = both (joint_eq o p) (tree_eq a c && tree_eq b d) h in
      let y = both (tree_eq a c) (tree_eq b d) x.1 in
      let e = joint_eq-true o p x.0 in
      let f = tree_eq-true a c y.0 in
      let g = tree_eq-true b d y.1 in cc
  tree_eq-true (Project o a) (Project p c) h =
      let x = both (projection_eq o p) (tree_eq a c) h in
      let e = projection_eq-true o p x.0 in
      let f = tree_eq-true a c x.1 in cc
  tree_eq-true (If a b c) (If u v w) h =
      let x = both (tree_eq a u) (tree_eq b v && tree_eq c w) h in
      let y = both (tree_eq b v) (tree_eq c w) x.1 in
      let e = tree_eq-true a u x.0 in
      let f = tree_eq-true b v y.0 in
      let g = tree_eq-true c w y.1 in cc
  tree_eq-true _ _ h = cc

  pub ref_eq-true : (r q : Ref) → ref_eq r q ≡ true → r ≡ q
  ref_eq-true (Own m) (Own n) h = ap Own (eqb-true m n h)
  ref_eq-true (Formal m) (Formal n) h = ap Formal (eqb-true m n h)
  ref_eq-true (Inst a m xs) (Inst b n ys) h =
      let x = both (bytes_eq a b) (eqb m n && trees_eq xs ys) h in
      let y = both (eqb m n) (trees_eq xs ys) x.1 in
      let e = (bytes_eq-Decides a b).0 x.0 in
      let f = eqb-true m n y.0 in
      let g = trees_eq-true xs ys y.1 in cc
  ref_eq-true _ _ h = cc

  pub trees_eq-true : (xs ys : Trees) → trees_eq xs ys ≡ true → xs ≡ ys
  trees_eq-true none none h = refl
  trees_eq-true (more x xs) (more y ys) h =
      let z = both (tree_eq x y) (trees_eq xs ys) h in
      let e = tree_eq-true x y z.0 in
      let f = trees_eq-true xs ys z.1 in cc
  trees_eq-true _ _ h = cc

pub all_true : {a b : Bool} → a ≡ true → b ≡ true → (a && b) ≡ true
all_true p q = rw (p, q) refl

binder_eq-same : (a : Binder) → binder_eq a a ≡ true
binder_eq-same Subtype = refl
binder_eq-same Function = refl
binder_eq-same (Product k) = eqb-same k
binder_eq-same Lambda = refl

joint_eq-same : (a : Joint) → joint_eq a a ≡ true
joint_eq-same Apply = refl
joint_eq-same (Tuple k) = eqb-same k
joint_eq-same Equal = refl

projection_eq-same : (a : Projection) → projection_eq a a ≡ true
projection_eq-same (First k) = eqb-same k
projection_eq-same (Second k) = eqb-same k

plain_eq-same : (a : Plain) → plain_eq a a ≡ true
plain_eq-same BoolType = refl
plain_eq-same Yes = refl
plain_eq-same No = refl

sort_eq-same : (a : Sort) → sort_eq a a ≡ true
sort_eq-same OfType = refl
sort_eq-same OfTerm = refl

mutual
  pub tree_eq-same : (t : Tree) → tree_eq t t ≡ true
  tree_eq-same (Leaf o) = plain_eq-same o
  tree_eq-same (Var n) = eqb-same n
  tree_eq-same (Name s r) = all_true (sort_eq-same s) (ref_eq-same r)
  tree_eq-same (Bind o a b) = all_true (binder_eq-same o) (all_true (tree_eq-same a) (tree_eq-same b))
  tree_eq-same (Join o a b) = all_true (joint_eq-same o) (all_true (tree_eq-same a) (tree_eq-same b))
  tree_eq-same (Project o a) = all_true (projection_eq-same o) (tree_eq-same a)
  tree_eq-same (If a b c) = all_true (tree_eq-same a) (all_true (tree_eq-same b) (tree_eq-same c))

  pub ref_eq-same : (r : Ref) → ref_eq r r ≡ true
  ref_eq-same (Own n) = eqb-same n
  ref_eq-same (Formal n) = eqb-same n
  ref_eq-same (Inst a n xs) = all_true ((bytes_eq-Decides a a).1 refl) (all_true (eqb-same n) (trees_eq-same xs))

  pub trees_eq-same : (xs : Trees) → trees_eq xs xs ≡ true
  trees_eq-same none = refl
  trees_eq-same (more x xs) = all_true (tree_eq-same x) (trees_eq-same xs)

-- the test gives `true` exactly at equal trees
pub tree_eq-decided : (b : Bool) (t u : Tree) → (b ≡ true → t ≡ u) → (t ≡ u → b ≡ true) → b ≡ tree_eq t u
tree_eq-decided b t u f g = go b (tree_eq t u) f g (tree_eq-true t u) (λ e. subst (λ x. tree_eq t x ≡ true) e (tree_eq-same t))
  where
    go : (b c : Bool) → (b ≡ true → t ≡ u) → (t ≡ u → b ≡ true) → (c ≡ true → t ≡ u) → (t ≡ u → c ≡ true) → b ≡ c
    go true c f g h k = sym (k (f refl))
    go false true f g h k = g (h refl)
    go false false f g h k = refl

-- what decides whether two references are equal is the test
pub ref_eq-decided : (b : Bool) (r q : Ref) → (b ≡ true → r ≡ q) → (r ≡ q → b ≡ true) → b ≡ ref_eq r q
ref_eq-decided b r q f g = go b (ref_eq r q) f g (ref_eq-true r q) (λ e. subst (λ x. ref_eq r x ≡ true) e (ref_eq-same r))
  where
    go : (b c : Bool) → (b ≡ true → r ≡ q) → (r ≡ q → b ≡ true) → (c ≡ true → r ≡ q) → (r ≡ q → c ≡ true) → b ≡ c
    go true c f g h k = sym (k (f refl))
    go false true f g h k = g (h refl)
    go false false f g h k = refl

-- what the test for equal references says
pub ref_eq_tells : (b : Bool) (r q : Ref) → b ≡ ref_eq r q → ((b ≡ true) × (r ≡ q)) ⊎ ((b ≡ false) × (r ≡ q → ⊥))
ref_eq_tells true r q h = inl (refl, ref_eq-true r q (sym h))
ref_eq_tells false r q h = inr (refl, λ e. cc (h, subst (λ x. ref_eq r x ≡ true) e (ref_eq-same r)))

-- the tests are true exactly at what is equal
pub tree_eq_equal : (b : Bool) (t u : Tree) → b ≡ tree_eq t u → IsTrue b ↔ (t ≡ u)
tree_eq_equal b t u h = (λ e. tree_eq-true t u (sym h ∙ e), λ e. h ∙ subst (λ x. tree_eq t x ≡ true) e (tree_eq-same t))

pub ref_eq_equal : (b : Bool) (r q : Ref) → b ≡ ref_eq r q → IsTrue b ↔ (r ≡ q)
ref_eq_equal b r q h = (λ e. ref_eq-true r q (sym h ∙ e), λ e. h ∙ subst (λ x. ref_eq r x ≡ true) e (ref_eq-same r))

pub bytes_eq_equal : (b : Bool) (s t : List ℕ) → b ≡ bytes_eq s t → IsTrue b ↔ (s ≡ t)
bytes_eq_equal b s t h = (λ e. (bytes_eq-Decides s t).0 (sym h ∙ e), λ e. h ∙ (bytes_eq-Decides s t).1 e)
