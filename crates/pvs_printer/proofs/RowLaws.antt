-- What a row stands for is the tree that it is the row of.
use Rattle.std.proofs.Common.{◌≡◌, ℕ, suc, ◌+◌, ◌-◌, ◌<◌, ◌≤◌, Bool, true, false, if◌then◌else◌, ◌==◌, nat_lt, lt-ltb, ltb-true, List, [], ◌∷◌, length, Option, Some, None, refl, sym, ap, ap₂, ◌∙◌, arith}
use Rattle.std.proofs.lemmas.Bool.Decides.{Decides-eqb}
use Rattle.pvs_terms.specs.Tree as t
use Rattle.pvs_terms.specs.Tree.{Tree, tree_eq, size}
use Rattle.pvs_terms.proofs.TreeLaws.{tree_eq-true}
use Rattle.pvs_printer.specs.Row.{Row, row, if_row, not_row, equal_row, forall_of, exists_in, not_of, unnegated, parts, components, arguments, before, pair_or, where_, tuple_row, type_row, apply_row, first_row, second_row, climb, climbed}
use Rattle.pvs_printer.specs.Row as r
use Rattle.pvs_printer.specs.RowTree.{tuple, tuple_type, negation, quantified, infix_tree, seconds, projected}

abbrev pub truth : Bool → Tree
truth true = t.True
truth false = t.False

abbrev pub IsProjection : Tree → Type 0
IsProjection (t.Project o a) = Unit {0}
IsProjection _ = ⊥

-- the row is one of the tree; of projections it says here only that their part is smaller
abbrev pub IsOf : Row → Tree → Type 0
IsOf (r.Truth b) x = x ≡ truth b
IsOf (r.Variable n) x = x ≡ t.Var n
IsOf (r.Named s q) x = x ≡ t.Name s q
IsOf (r.Quantified w a p) x = x ≡ quantified w a p
IsOf (r.Not a) x = x ≡ negation a
IsOf (r.Infix w a b) x = x ≡ infix_tree w a b
IsOf (r.Cond c a b) x = x ≡ t.If c a b
IsOf (r.Apply g y ys) x = x ≡ t.App g (tuple y ys)
IsOf (r.Tuple y z zs) x = x ≡ tuple y (z ∷ zs)
IsOf (r.Part y i) x = (size y < size x) × IsProjection x
IsOf r.Boolean x = x ≡ t.TBool
IsOf (r.SubType a p) x = x ≡ t.TSub a p
IsOf (r.FunType a b) x = x ≡ t.TFun a b
IsOf (r.TupleType y z zs) x = x ≡ tuple_type y (z ∷ zs)
IsOf (r.TaggedTuple k a b) x = x ≡ t.Tup k a b
IsOf (r.Rest a) x = (size a < size x) × IsProjection x
IsOf (r.TaggedType k a b) x = x ≡ t.TPair k a b

-- ---- Negations and quantifiers.

by_if : {A : Type 0} (b : Bool) (x y : A) → (if b then Some x else None) ≡ Some y → (b ≡ true) × (x ≡ y)
by_if true x y h = (refl, cc)
by_if false x y h = cc

forall_is : (c : Tree) (q : Tree × Tree) → forall_of c ≡ Some q → c ≡ t.Eq (t.Lam q.0 q.1) (t.Lam q.0 t.True)
forall_is (t.Eq (t.Lam a p) (t.Lam b t.True)) q h =
    let k = by_if (tree_eq a b) (a, p) q h in
    let same : a ≡ b = tree_eq-true a b k.0 in
    ap (λ z. t.Eq (t.Lam a p) (t.Lam z t.True)) (sym same) ∙ ap (λ (z : Tree × Tree). t.Eq (t.Lam z.0 z.1) (t.Lam z.0 t.True)) k.1
forall_is _ q h = cc

not_is : (x p : Tree) → not_of x ≡ Some p → x ≡ negation p
not_is (t.If c t.False t.True) p h = let e : c ≡ p = cc in ap negation e
not_is _ p h = cc

unnegated_is : (a x : Tree) (o : Option Tree) (q : Tree × Tree) → not_of x ≡ o → unnegated a o ≡ Some q → (a ≡ q.0) × (x ≡ negation q.1)
unnegated_is a x None q e h = cc
unnegated_is a x (Some p) q e h =
    let same : (a, p) ≡ q = cc in
    (ap (λ (z : Tree × Tree). z.0) same, not_is x p e ∙ ap (λ (z : Tree × Tree). negation z.1) same)

exists_is : (c : Tree) (o : Option (Tree × Tree)) (q : Tree × Tree) → forall_of c ≡ o → exists_in o ≡ Some q → c ≡ t.Eq (t.Lam q.0 (negation q.1)) (t.Lam q.0 t.True)
exists_is c None q e h = cc
exists_is c (Some u) q e h =
    let k = unnegated_is u.0 u.1 (not_of u.1) q refl h in
    forall_is c u e ∙ ap₂ (λ (a p : Tree). t.Eq (t.Lam a p) (t.Lam a t.True)) k.0 k.1

not_row_of : (c : Tree) (o : Option (Tree × Tree)) → exists_in (forall_of c) ≡ o → IsOf (not_row c o) (negation c)
not_row_of c None e = refl
not_row_of c (Some q) e = ap negation (exists_is c (forall_of c) q refl e)

equal_row_of : (a b : Tree) (o : Option (Tree × Tree)) → forall_of (t.Eq a b) ≡ o → IsOf (equal_row a b o) (t.Eq a b)
equal_row_of a b None e = refl
equal_row_of a b (Some q) e = forall_is (t.Eq a b) q e

if_row_of : (c a b : Tree) → IsOf (if_row c a b) (t.If c a b)
if_row_of c t.False t.True = not_row_of c (exists_in (forall_of c)) refl
if_row_of c a t.False = refl
if_row_of c t.True b = refl
if_row_of c a t.True = refl
if_row_of c a b = refl

-- ---- Tuples, and tuple types.

pub record PartsOf (k : ℕ) (x : Tree) (xs : List Tree) : Type 0 where
  pub y : Tree
  pub z : Tree
  pub zs : List Tree
  pub are : xs ≡ y ∷ z ∷ zs
  pub count : suc (suc (length zs)) ≡ k
  pub is : x ≡ tuple y (z ∷ zs)

abbrev some_of : {A : Type 0} → A → Option A
some_of x = Some x

some_same : {A : Type 0} (x y : A) → some_of x ≡ some_of y → x ≡ y
some_same x y h = cc

with_first : (j k : ℕ) (a b : Tree) (xs us : List Tree) → j ≡ k → some_of (a ∷ us) ≡ some_of xs → PartsOf (k - 1) b us → PartsOf k (t.Tup j a b) xs
with_first j k a b xs us same h r =
    let count : suc (suc (length r.zs)) ≡ k - 1 = r.count in
    record {
      y = a;
      z = r.y;
      zs = r.z ∷ r.zs;
      are = sym (some_same (a ∷ us) xs h) ∙ ap (λ (l : List Tree). a ∷ l) r.are;
      count = omega arith;
      is = ap₂ (λ (m : ℕ) (c : Tree). t.Tup m a c) (omega arith) r.is;
    }

parts_first : (j k : ℕ) (a b : Tree) (o : Option (List Tree)) (xs : List Tree) → j ≡ k → parts (k - 1) b ≡ o → ((us : List Tree) → parts (k - 1) b ≡ Some us → PartsOf (k - 1) b us) → before a o ≡ Some xs → PartsOf k (t.Tup j a b) xs
parts_first j k a b None xs same e go h = cc
parts_first j k a b (Some us) xs same e go h = with_first j k a b xs us same h (go us e)

parts_by : (matches pair : Bool) (j k : ℕ) (a b : Tree) (xs : List Tree) → (j == k) ≡ matches → (k == 2) ≡ pair → ((us : List Tree) → parts (k - 1) b ≡ Some us → PartsOf (k - 1) b us)
    → where_ matches (pair_or pair a b (parts (k - 1) b)) ≡ Some xs → PartsOf k (t.Tup j a b) xs
parts_by false pair j k a b xs e f go h = cc
parts_by true true j k a b xs e f go h =
    let two : k ≡ 2 = (Decides-eqb k 2).0 f in
    let same : j ≡ k = (Decides-eqb j k).0 e in
    record { y = a; z = b; zs = []; are = sym (some_same (a ∷ b ∷ []) xs h); count = sym two; is = ap (λ (m : ℕ). t.Tup m a b) (same ∙ two) }
parts_by true false j k a b xs e f go h = parts_first j k a b (parts (k - 1) b) xs ((Decides-eqb j k).0 e) refl go h

pub parts_of : (k : ℕ) (x : Tree) (xs : List Tree) → parts k x ≡ Some xs → PartsOf k x xs
parts_of k (t.Tup j a b) xs h = parts_by (j == k) (k == 2) j k a b xs refl refl (parts_of (k - 1) b) h
parts_of k _ xs h = cc

pub record ComponentsOf (k : ℕ) (x : Tree) (xs : List Tree) : Type 0 where
  pub y : Tree
  pub z : Tree
  pub zs : List Tree
  pub are : xs ≡ y ∷ z ∷ zs
  pub count : suc (suc (length zs)) ≡ k
  pub is : x ≡ tuple_type y (z ∷ zs)

with_component : (j k : ℕ) (a b : Tree) (xs us : List Tree) → j ≡ k → some_of (a ∷ us) ≡ some_of xs → ComponentsOf (k - 1) b us → ComponentsOf k (t.TPair j a b) xs
with_component j k a b xs us same h r =
    let count : suc (suc (length r.zs)) ≡ k - 1 = r.count in
    record {
      y = a;
      z = r.y;
      zs = r.z ∷ r.zs;
      are = sym (some_same (a ∷ us) xs h) ∙ ap (λ (l : List Tree). a ∷ l) r.are;
      count = omega arith;
      is = ap₂ (λ (m : ℕ) (c : Tree). t.TPair m a c) (omega arith) r.is;
    }

components_first : (j k : ℕ) (a b : Tree) (o : Option (List Tree)) (xs : List Tree) → j ≡ k → components (k - 1) b ≡ o → ((us : List Tree) → components (k - 1) b ≡ Some us → ComponentsOf (k - 1) b us) → before a o ≡ Some xs → ComponentsOf k (t.TPair j a b) xs
components_first j k a b None xs same e go h = cc
components_first j k a b (Some us) xs same e go h = with_component j k a b xs us same h (go us e)

components_by : (matches pair : Bool) (j k : ℕ) (a b : Tree) (xs : List Tree) → (j == k) ≡ matches → (k == 2) ≡ pair → ((us : List Tree) → components (k - 1) b ≡ Some us → ComponentsOf (k - 1) b us)
    → where_ matches (pair_or pair a b (components (k - 1) b)) ≡ Some xs → ComponentsOf k (t.TPair j a b) xs
components_by false pair j k a b xs e f go h = cc
components_by true true j k a b xs e f go h =
    let two : k ≡ 2 = (Decides-eqb k 2).0 f in
    let same : j ≡ k = (Decides-eqb j k).0 e in
    record { y = a; z = b; zs = []; are = sym (some_same (a ∷ b ∷ []) xs h); count = sym two; is = ap (λ (m : ℕ). t.TPair m a b) (same ∙ two) }
components_by true false j k a b xs e f go h = components_first j k a b (components (k - 1) b) xs ((Decides-eqb j k).0 e) refl go h

pub components_of : (k : ℕ) (x : Tree) (xs : List Tree) → components k x ≡ Some xs → ComponentsOf k x xs
components_of k (t.TPair j a b) xs h = components_by (j == k) (k == 2) j k a b xs refl refl (components_of (k - 1) b) h
components_of k _ xs h = cc

tuple_row_of : (k : ℕ) (a b : Tree) (o : Option (List Tree)) → parts k (t.Tup k a b) ≡ o → IsOf (tuple_row k a b o) (t.Tup k a b)
tuple_row_of k a b None e = refl
tuple_row_of k a b (Some []) e = refl
tuple_row_of k a b (Some (x ∷ [])) e = refl
tuple_row_of k a b (Some (x ∷ y ∷ ys)) e =
    let r = parts_of k (t.Tup k a b) (x ∷ y ∷ ys) e in
    r.is ∙ same_list x y ys r.y r.z r.zs r.are
  where
    same_list : (x y : Tree) (ys : List Tree) (u v : Tree) (vs : List Tree) → x ∷ y ∷ ys ≡ u ∷ v ∷ vs → tuple u (v ∷ vs) ≡ tuple x (y ∷ ys)
    same_list x y ys u v vs h = let e1 : x ≡ u = cc in let e2 : y ≡ v = cc in let e3 : ys ≡ vs = cc in sym (ap₂ (λ (m : Tree) (l : List Tree). tuple m l) e1 (ap₂ (λ (m : Tree) (l : List Tree). m ∷ l) e2 e3))

type_row_of : (k : ℕ) (a b : Tree) (o : Option (List Tree)) → components k (t.TPair k a b) ≡ o → IsOf (type_row k a b o) (t.TPair k a b)
type_row_of k a b None e = refl
type_row_of k a b (Some []) e = refl
type_row_of k a b (Some (x ∷ [])) e = refl
type_row_of k a b (Some (x ∷ y ∷ ys)) e =
    let r = components_of k (t.TPair k a b) (x ∷ y ∷ ys) e in
    r.is ∙ same_list x y ys r.y r.z r.zs r.are
  where
    same_list : (x y : Tree) (ys : List Tree) (u v : Tree) (vs : List Tree) → x ∷ y ∷ ys ≡ u ∷ v ∷ vs → tuple_type u (v ∷ vs) ≡ tuple_type x (y ∷ ys)
    same_list x y ys u v vs h = let e1 : x ≡ u = cc in let e2 : y ≡ v = cc in let e3 : ys ≡ vs = cc in sym (ap₂ (λ (m : Tree) (l : List Tree). tuple_type m l) e1 (ap₂ (λ (m : Tree) (l : List Tree). m ∷ l) e2 e3))

arguments_is : (a : Tree) (xs : List Tree) → arguments a ≡ Some xs → (y : Tree) × (ys : List Tree) × (xs ≡ y ∷ ys) × (a ≡ tuple y ys)
arguments_is (t.Tup k a b) xs h = let r = parts_of k (t.Tup k a b) xs h in (r.y, r.z ∷ r.zs, r.are, r.is)
arguments_is _ xs h = cc

apply_row_of : (f a : Tree) (o : Option (List Tree)) → arguments a ≡ o → IsOf (apply_row f a o) (t.App f a)
apply_row_of f a None e = refl
apply_row_of f a (Some []) e = refl
apply_row_of f a (Some (x ∷ xs)) e =
    let r = arguments_is a (x ∷ xs) e in
    ap (λ (z : Tree). t.App f z) (r.3 ∙ same_list x xs r.0 r.1 r.2)
  where
    same_list : (x : Tree) (xs : List Tree) (u : Tree) (us : List Tree) → x ∷ xs ≡ u ∷ us → tuple u us ≡ tuple x xs
    same_list x xs u us h = let e1 : x ≡ u = cc in let e2 : xs ≡ us = cc in sym (ap₂ (λ (m : Tree) (l : List Tree). tuple m l) e1 e2)

-- ---- Projections.

climbed_le : (b : Bool) (k : ℕ) (x : Tree) (r : Tree × ℕ) → size r.0 ≤ size x → size (climbed b (t.Snd k x) r).0 ≤ size (t.Snd k x)
climbed_le true k x r h = omega arith
climbed_le false k x r h = omega arith

pub climb_le : (k : ℕ) (x : Tree) → size (climb k x).0 ≤ size x
climb_le k (t.Snd j x) = climbed_le (j == k) j x (climb (suc k) x) (climb_le (suc k) x)
climb_le k (t.Fst j x) = omega arith
climb_le k (t.Leaf o) = omega arith
climb_le k (t.Var n) = omega arith
climb_le k (t.Name s q) = omega arith
climb_le k (t.Bind o a b) = omega arith
climb_le k (t.Join o a b) = omega arith
climb_le k (t.If a b c) = omega arith

second_row_of : (b : Bool) (k : ℕ) (x : Tree) → IsOf (second_row b x (climb (suc k) x)) (t.Snd k x)
second_row_of true k x = (omega (arith, climb_le (suc k) x), tt)
second_row_of false k x = (omega arith, tt)

-- ---- All rows.

pub row_of : (x : Tree) → IsOf (row x) x
row_of t.TBool = refl
row_of t.True = refl
row_of t.False = refl
row_of (t.Var n) = refl
row_of (t.Name s q) = refl
row_of (t.TSub a p) = refl
row_of (t.TFun a b) = refl
row_of (t.TPair k a b) = type_row_of k a b (components k (t.TPair k a b)) refl
row_of (t.Lam a b) = refl
row_of (t.App f a) = apply_row_of f a (arguments a) refl
row_of (t.Tup k a b) = tuple_row_of k a b (parts k (t.Tup k a b)) refl
row_of (t.Eq a b) = equal_row_of a b (forall_of (t.Eq a b)) refl
row_of (t.Fst k x) = (omega (arith, climb_le (suc k) x), tt)
row_of (t.Snd k x) = second_row_of (k == 2) k x
row_of (t.If c a b) = if_row_of c a b

-- ---- Chains of projections.

chain_step : (b : Bool) (j k : ℕ) (x : Tree) (q : Tree × ℕ) → (j == k) ≡ b → x ≡ seconds (suc k) q.1 q.0 → t.Snd j x ≡ seconds k (climbed b (t.Snd j x) q).1 (climbed b (t.Snd j x) q).0
chain_step true j k x q e h = ap₂ (λ (m : ℕ) (y : Tree). t.Snd m y) ((Decides-eqb j k).0 e) h
chain_step false j k x q e h = refl

-- a chain is what was climbed
pub chain_is : (k : ℕ) (x : Tree) → x ≡ seconds k (climb k x).1 (climb k x).0
chain_is k (t.Snd j x) = chain_step (j == k) j k x (climb (suc k) x) refl (chain_is (suc k) x)
chain_is k (t.Fst j x) = refl
chain_is k (t.Leaf o) = refl
chain_is k (t.Var n) = refl
chain_is k (t.Name s q) = refl
chain_is k (t.Bind o a b) = refl
chain_is k (t.Join o a b) = refl
chain_is k (t.If a b c) = refl

-- a Fst over a chain of n Snd is the part n + 1 of j + n
pub first_is : (j n : ℕ) (u : Tree) → 2 ≤ j → projected (j + n) (suc n) u ≡ t.Fst j (seconds (suc j) n u)
first_is j n u h =
    ap (λ (b : Bool). if b then t.Fst (suc ((j + n) - suc n)) (seconds (suc (suc ((j + n) - suc n))) (suc n - 1) u) else seconds 2 ((j + n) - 1) u) (lt-ltb (suc n) (j + n) (omega arith))
    ∙ ap₂ (λ (m i : ℕ). t.Fst m (seconds (suc m) i u)) (omega arith) (omega arith)

-- a chain of n + 1 Snd from the tag 2 on is the last part of n + 2
pub last_is : (n : ℕ) (u : Tree) → projected (suc (suc n)) (suc (suc n)) u ≡ t.Snd 2 (seconds 3 n u)
last_is n u =
    ap (λ (b : Bool). if b then t.Fst (suc (suc (suc n) - suc (suc n))) (seconds (suc (suc (suc (suc n) - suc (suc n)))) (suc (suc n) - 1) u) else seconds 2 (suc (suc n) - 1) u) (not_below (suc (suc n)))
    ∙ ap (λ m. seconds 2 m u) one_less
  where
    one_less : suc (suc n) - 1 ≡ suc n
    one_less = omega arith

    not_below : (m : ℕ) → nat_lt m m ≡ false
    not_below m = by (nat_lt m m) refl
      where
        by : (b : Bool) → nat_lt m m ≡ b → nat_lt m m ≡ false
        by true e = absurd (omega (arith, ltb-true _ _ e))
        by false e = e
