-- The form of a tree is that of its row, over the forms of the parts.
use Rattle.std.proofs.Common.{◌≡◌, ℕ, ◌+◌, ◌<◌, ◌≤◌, List, [], ◌∷◌, None, refl, ap, ap₂, ◌∙◌, arith}
use Rattle.pvs_terms.specs.Tree as t
use Rattle.pvs_terms.specs.Tree.{Tree, Ref, Trees, size, trees_size, ref_size}
use Rattle.pvs_printer.specs.declared.words.BinderWord.{BinderWord}
use Rattle.pvs_printer.specs.declared.words.BinderWord.TheVariants as binder_word
use Rattle.pvs_printer.specs.declared.words.InfixWord.{InfixWord}
use Rattle.pvs_printer.specs.declared.words.InfixWord.TheVariants as infix_word
use Rattle.pvs_printer.specs.Form as f
use Rattle.pvs_printer.specs.Form.{Form, Forms}
use Rattle.pvs_printer.specs.Row.{Row, row}
use Rattle.pvs_printer.specs.Row as r
use Rattle.pvs_printer.specs.RowTree.{tuple, tuple_type, quantified, infix_tree}
use Rattle.pvs_printer.specs.TreeForm.{Printing, form, form_by, no_form, row_form, exprs, actuals, components, ref_form, number_if}
use Rattle.pvs_printer.specs.Mentions.{mentioned, mentions}
use Rattle.pvs_printer.specs.Names.{Names}
use Rattle.pvs_printer.proofs.BySizeLaws.{by_size_step}
use Rattle.pvs_printer.proofs.RowLaws.{IsOf, row_of}

-- ---- The parts of a row.

abbrev pub AllOf : (Tree → Type 0) → List Tree → Type 0
AllOf P [] = Unit {0}
AllOf P (x ∷ xs) = P x × AllOf P xs

abbrev pub AllTrees : (Tree → Type 0) → Trees → Type 0
AllTrees P t.none = Unit {0}
AllTrees P (t.more x xs) = P x × AllTrees P xs

abbrev pub RefParts : (Tree → Type 0) → Ref → Type 0
RefParts P (t.Own n) = Unit {0}
RefParts P (t.Formal n) = Unit {0}
RefParts P (t.Inst th n xs) = AllTrees P xs

abbrev pub Parts : (Tree → Type 0) → Row → Type 0
Parts P (r.Truth b) = Unit {0}
Parts P (r.Variable n) = Unit {0}
Parts P (r.Named s q) = RefParts P q
Parts P (r.Quantified w a p) = P a × P p
Parts P (r.Not a) = P a
Parts P (r.Infix w a b) = P a × P b
Parts P (r.Cond c a b) = P c × P a × P b
Parts P (r.Apply g y ys) = P g × P y × AllOf P ys
Parts P (r.Tuple y z zs) = P y × P z × AllOf P zs
Parts P (r.Part y i) = P y
Parts P r.Boolean = Unit {0}
Parts P (r.SubType a p) = P a × P p
Parts P (r.FunType a b) = P a × P b
Parts P (r.TupleType y z zs) = P y × P z × AllOf P zs
Parts P (r.TaggedTuple k a b) = P a × P b
Parts P (r.Rest a) = P a
Parts P (r.TaggedType k a b) = P a × P b

-- ---- They are smaller.

trees_map : {P Q : Tree → Type 0} (xs : Trees) → ((u : Tree) → P u → Q u) → AllTrees P xs → AllTrees Q xs
trees_map t.none go h = tt
trees_map (t.more x xs) go h = (go x h.0, trees_map xs go h.1)

ref_map : {P Q : Tree → Type 0} (q : Ref) → ((u : Tree) → P u → Q u) → RefParts P q → RefParts Q q
ref_map (t.Own n) go h = tt
ref_map (t.Formal n) go h = tt
ref_map (t.Inst th n xs) go h = trees_map xs go h

all_of : {P Q : Tree → Type 0} (xs : List Tree) → ((u : Tree) → P u → Q u) → AllOf P xs → AllOf Q xs
all_of [] go h = tt
all_of (x ∷ xs) go h = (go x h.0, all_of xs go h.1)

tuple_parts : (x : Tree) (xs : List Tree) → (size x ≤ size (tuple x xs)) × AllOf (λ u. size u ≤ size (tuple x xs)) xs
tuple_parts x [] = (omega arith, tt)
tuple_parts x (y ∷ ys) =
    let h = tuple_parts y ys in
    let k : size y ≤ size (tuple y ys) = h.0 in
    (omega arith, (omega (arith, k), all_of ys (λ u l. omega (arith, l)) h.1))

type_parts : (x : Tree) (xs : List Tree) → (size x ≤ size (tuple_type x xs)) × AllOf (λ u. size u ≤ size (tuple_type x xs)) xs
type_parts x [] = (omega arith, tt)
type_parts x (y ∷ ys) =
    let h = type_parts y ys in
    let k : size y ≤ size (tuple_type y ys) = h.0 in
    (omega arith, (omega (arith, k), all_of ys (λ u l. omega (arith, l)) h.1))

pub parts_map : {P Q : Tree → Type 0} (q : Row) → ((u : Tree) → P u → Q u) → Parts P q → Parts Q q
parts_map (r.Truth b) go h = tt
parts_map (r.Variable n) go h = tt
parts_map (r.Named s q) go h = ref_map q go h
parts_map (r.Quantified w a p) go h = (go a h.0, go p h.1)
parts_map (r.Not a) go h = go a h
parts_map (r.Infix w a b) go h = (go a h.0, go b h.1)
parts_map (r.Cond c a b) go h = (go c h.0, go a h.1, go b h.2)
parts_map (r.Apply g y ys) go h = (go g h.0, go y h.1, all_of ys go h.2)
parts_map (r.Tuple y z zs) go h = (go y h.0, go z h.1, all_of zs go h.2)
parts_map (r.Part y i) go h = go y h
parts_map r.Boolean go h = tt
parts_map (r.SubType a p) go h = (go a h.0, go p h.1)
parts_map (r.FunType a b) go h = (go a h.0, go b h.1)
parts_map (r.TupleType y z zs) go h = (go y h.0, go z h.1, all_of zs go h.2)
parts_map (r.TaggedTuple k a b) go h = (go a h.0, go b h.1)
parts_map (r.Rest a) go h = go a h
parts_map (r.TaggedType k a b) go h = (go a h.0, go b h.1)

trees_small : (n : ℕ) (xs : Trees) → trees_size xs < n → AllTrees (λ u. size u < n) xs
trees_small n t.none h = tt
trees_small n (t.more x xs) h = (omega arith, trees_small n xs (omega arith))

ref_small : (n : ℕ) (q : Ref) → ref_size q < n → RefParts (λ u. size u < n) q
ref_small n (t.Own m) h = tt
ref_small n (t.Formal m) h = tt
ref_small n (t.Inst th m xs) h = trees_small n xs h

quantified_small : (w : BinderWord) (a p : Tree) → (size a < size (quantified w a p)) × (size p < size (quantified w a p))
quantified_small binder_word.Forall a p = (omega arith, omega arith)
quantified_small binder_word.Exists a p = (omega arith, omega arith)
quantified_small binder_word.Lambda a p = (omega arith, omega arith)

infix_small : (w : InfixWord) (a b : Tree) → (size a < size (infix_tree w a b)) × (size b < size (infix_tree w a b))
infix_small infix_word.And a b = (omega arith, omega arith)
infix_small infix_word.Or a b = (omega arith, omega arith)
infix_small infix_word.Implies a b = (omega arith, omega arith)
infix_small infix_word.Equal a b = (omega arith, omega arith)

pub parts_small : (q : Row) (x : Tree) → IsOf q x → Parts (λ u. size u < size x) q
parts_small (r.Truth b) x h = tt
parts_small (r.Variable n) x h = tt
parts_small (r.Named s q) x h = ref_small (size x) q (omega (arith, ap size h))
parts_small (r.Quantified w a p) x h = let k = quantified_small w a p in (omega (arith, ap size h, k.0), omega (arith, ap size h, k.1))
parts_small (r.Not a) x h = omega (arith, ap size h)
parts_small (r.Infix w a b) x h = let k = infix_small w a b in (omega (arith, ap size h, k.0), omega (arith, ap size h, k.1))
parts_small (r.Cond c a b) x h = (omega (arith, ap size h), omega (arith, ap size h), omega (arith, ap size h))
parts_small (r.Apply g y ys) x h =
    let k = tuple_parts y ys in
    let e : size x ≡ 1 + (size g + size (tuple y ys)) = ap size h in
    (omega (arith, e), omega (arith, e, k.0), all_of ys (λ u l. omega (arith, e, l)) k.1)
parts_small (r.Tuple y z zs) x h =
    let k = tuple_parts z zs in
    let e : size x ≡ 1 + (size y + size (tuple z zs)) = ap size h in
    (omega (arith, e), omega (arith, e, k.0), all_of zs (λ u l. omega (arith, e, l)) k.1)
parts_small (r.Part y i) x h = h.0
parts_small r.Boolean x h = tt
parts_small (r.SubType a p) x h = (omega (arith, ap size h), omega (arith, ap size h))
parts_small (r.FunType a b) x h = (omega (arith, ap size h), omega (arith, ap size h))
parts_small (r.TupleType y z zs) x h =
    let k = type_parts z zs in
    let e : size x ≡ 1 + (size y + size (tuple_type z zs)) = ap size h in
    (omega (arith, e), omega (arith, e, k.0), all_of zs (λ u l. omega (arith, e, l)) k.1)
parts_small (r.TaggedTuple j a b) x h = (omega (arith, ap size h), omega (arith, ap size h))
parts_small (r.Rest a) x h = h.0
parts_small (r.TaggedType j a b) x h = (omega (arith, ap size h), omega (arith, ap size h))

-- ---- A row's form depends on the forms of its parts alone.

module _ (names : Names) (vars : ℕ) where
  -- both print a tree in the same way
  abbrev Agree : Printing → Printing → Tree → Type 0
  Agree go go' u = (d : ℕ) → go d u ≡ go' d u

  exprs_same : (go go' : Printing) (d : ℕ) (xs : List Tree) → AllOf (Agree go go') xs → exprs go d xs ≡ exprs go' d xs
  exprs_same go go' d [] h = refl
  exprs_same go go' d (x ∷ xs) h = ap₂ (λ (y : Form) (ys : Forms). f.more None y ys) (h.0 d) (exprs_same go go' d xs h.1)

  actuals_same : (go go' : Printing) (xs : Trees) → AllTrees (Agree go go') xs → actuals go xs ≡ actuals go' xs
  actuals_same go go' t.none h = refl
  actuals_same go go' (t.more x xs) h = ap₂ (λ (y : Form) (ys : Forms). f.more None y ys) (h.0 0) (actuals_same go go' xs h.1)

  components_same : (go go' : Printing) (d : ℕ) (xs : List Tree) → AllOf (Agree go go') xs → components go d xs ≡ components go' d xs
  components_same go go' d [] h = refl
  components_same go go' d (x ∷ xs) h = ap₂ (λ (y : Form) (ys : Forms). f.more (number_if (mentioned 0 xs) (d + 1)) y ys) (h.0 d) (components_same go go' (d + 1) xs h.1)

  ref_same : (go go' : Printing) (q : Ref) → RefParts (Agree go go') q → ref_form names go q ≡ ref_form names go' q
  ref_same go go' (t.Own n) h = refl
  ref_same go go' (t.Formal n) h = refl
  ref_same go go' (t.Inst th n xs) h = ap (λ (ys : Forms). f.Qualified th ys (names.entry th n)) (actuals_same go go' xs h)

  pub row_same : (go go' : Printing) (d : ℕ) (q : Row) → Parts (Agree go go') q → row_form names vars go d q ≡ row_form names vars go' d q
  row_same go go' d (r.Truth b) h = refl
  row_same go go' d (r.Variable n) h = refl
  row_same go go' d (r.Named s q) h = ref_same go go' q h
  row_same go go' d (r.Quantified w a p) h = ap₂ (λ (y z : Form). f.Quantified w (d + 1) y z) (h.0 d) (h.1 (d + 1))
  row_same go go' d (r.Not a) h = ap f.Not (h d)
  row_same go go' d (r.Infix w a b) h = ap₂ (λ (y z : Form). f.Infix w y z) (h.0 d) (h.1 d)
  row_same go go' d (r.Cond c a b) h = ap₂ (λ (y z : Form). f.Cond y z (go d b)) (h.0 d) (h.1 d) ∙ ap (λ (z : Form). f.Cond (go' d c) (go' d a) z) (h.2 d)
  row_same go go' d (r.Apply g y ys) h = ap₂ (λ (u : Form) (us : Forms). f.Apply u us) (h.0 d) (exprs_same go go' d (y ∷ ys) (h.1, h.2))
  row_same go go' d (r.Tuple y z zs) h = ap₂ (λ (u : Form) (us : Forms). f.Tuple u us) (h.0 d) (exprs_same go go' d (z ∷ zs) (h.1, h.2))
  row_same go go' d (r.Part y i) h = ap (λ (z : Form). f.Part z i) (h d)
  row_same go go' d r.Boolean h = refl
  row_same go go' d (r.SubType a p) h = ap₂ (λ (y z : Form). f.SubType (d + 1) y z) (h.0 d) (h.1 (d + 1))
  row_same go go' d (r.FunType a b) h = ap₂ (λ (y z : Form). f.FunType (number_if (mentions 0 b) (d + 1)) y z) (h.0 d) (h.1 (d + 1))
  row_same go go' d (r.TupleType y z zs) h = ap₂ (λ (u : Form) (us : Forms). f.TupleType (number_if (mentioned 0 (z ∷ zs)) (d + 1)) u us) (h.0 d) (components_same go go' (d + 1) (z ∷ zs) (h.1, h.2))
  row_same go go' d (r.TaggedTuple k a b) h = ap₂ (λ (y z : Form). f.TaggedTuple k y z) (h.0 d) (h.1 d)
  row_same go go' d (r.Rest a) h = ap f.Rest (h d)
  row_same go go' d (r.TaggedType k a b) h = ap₂ (λ (y z : Form). f.TaggedType k (number_if (mentions 0 b) (d + 1)) y z) (h.0 d) (h.1 (d + 1))

  -- the form of a tree is that of its row
  pub form_rule : (x : Tree) (d : ℕ) → form names vars x d ≡ row_form names vars (λ e u. form names vars u e) d (row x)
  unfolding form
  form_rule = by_size_step size (form_by names vars) no_form (λ x y z. (d : ℕ) → y d ≡ z d)
      (λ x go go' agree d. row_same (λ e u. go u e) (λ e u. go' u e) d (row x) (parts_map (row x) agree (parts_small (row x) x (row_of x))))
