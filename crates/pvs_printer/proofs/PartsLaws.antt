-- Tuples and tuple types with all their tags, step by step.
use Rattle.std.proofs.Common.{◌≡◌, ◌≢◌, ℕ, suc, ◌-◌, ◌≤◌, length, Bool, true, false, nat_le, ◌==◌, List, [], ◌∷◌, Option, Some, None, refl, sym, ap, ap₂, ◌∙◌, eq-eqb, eqb-true, arith}
use Rattle.pvs_terms.specs.Tree as t
use Rattle.pvs_terms.specs.Tree.{Tree}
use Rattle.pvs_printer.specs.Row.{Row, parts, components, arguments, before, pair_or, where_}
use Rattle.pvs_printer.specs.Row as table
use Rattle.pvs_printer.specs.RowTree.{tuple, tuple_type}
use Rattle.pvs_printer.proofs.RowLaws.{parts_of, components_of}
use Rattle.pvs_printer.specs.code.Steps.{is_some, tag_of, part_list, component_list, listed_by}
use Rattle.pvs_printer.specs.code.RowsAt.{apply_row, tuple_row, type_row}

test_false : (m n : ℕ) → m ≢ n → (m == n) ≡ false
test_false m n h = by (m == n) refl
  where
    by : (b : Bool) → (m == n) ≡ b → (m == n) ≡ false
    by true e = absurd (h (eqb-true m n e))
    by false e = e

before_some : (a : Tree) (o : Option (List Tree)) → is_some (before a o) ≡ is_some o
before_some a None = refl
before_some a (Some xs) = refl

pub other_tag : (j k : ℕ) (a b : Tree) → j ≢ k → is_some (parts k (t.Tup j a b)) ≡ false
other_tag j k a b h = ap (λ x. is_some (where_ x (pair_or (k == 2) a b (parts (k - 1) b)))) (test_false j k h)

pub pair_tag : (j k : ℕ) (a b : Tree) → j ≡ k → k ≡ 2 → is_some (parts k (t.Tup j a b)) ≡ true
pair_tag j k a b h e = ap₂ (λ (x y : Bool). is_some (where_ x (pair_or y a b (parts (k - 1) b)))) (eq-eqb j k h) (eq-eqb k 2 e)

pub more_tag : (j k : ℕ) (a b : Tree) → j ≡ k → k ≢ 2 → is_some (parts k (t.Tup j a b)) ≡ is_some (parts (k - 1) b)
more_tag j k a b h e = ap₂ (λ (x y : Bool). is_some (where_ x (pair_or y a b (parts (k - 1) b)))) (eq-eqb j k h) (test_false k 2 e) ∙ before_some a (parts (k - 1) b)

pub other_type_tag : (j k : ℕ) (a b : Tree) → j ≢ k → is_some (components k (t.TPair j a b)) ≡ false
other_type_tag j k a b h = ap (λ x. is_some (where_ x (pair_or (k == 2) a b (components (k - 1) b)))) (test_false j k h)

pub pair_type_tag : (j k : ℕ) (a b : Tree) → j ≡ k → k ≡ 2 → is_some (components k (t.TPair j a b)) ≡ true
pair_type_tag j k a b h e = ap₂ (λ (x y : Bool). is_some (where_ x (pair_or y a b (components (k - 1) b)))) (eq-eqb j k h) (eq-eqb k 2 e)

pub more_type_tag : (j k : ℕ) (a b : Tree) → j ≡ k → k ≢ 2 → is_some (components k (t.TPair j a b)) ≡ is_some (components (k - 1) b)
more_type_tag j k a b h e = ap₂ (λ (x y : Bool). is_some (where_ x (pair_or y a b (components (k - 1) b)))) (eq-eqb j k h) (test_false k 2 e) ∙ before_some a (components (k - 1) b)

-- ---- One part alone.

listed_one : (b : Bool) (x : Tree) (xs : List Tree) → b ≡ false → listed_by b x xs ≡ x ∷ []
listed_one b x xs h = ap (λ c. listed_by c x xs) h

listed_more : (b : Bool) (x : Tree) (xs : List Tree) → b ≡ true → listed_by b x xs ≡ xs
listed_more b x xs h = ap (λ c. listed_by c x xs) h

le_two : (k : ℕ) → 2 ≤ k → nat_le 2 k ≡ true
le_two k h = grind (arith)

pub single_part : (x : Tree) → part_list 1 x ≡ x ∷ []
single_part (t.Tup j a b) = refl
single_part _ = refl

pub single_component : (x : Tree) → component_list 1 x ≡ x ∷ []
single_component (t.TPair j a b) = refl
single_component _ = refl

-- the first and the others
pub more_parts : (k j : ℕ) (a b : Tree) → 2 ≤ k → part_list k (t.Tup j a b) ≡ a ∷ part_list (k - 1) b
more_parts k j a b h = listed_more (nat_le 2 k) (t.Tup j a b) (a ∷ part_list (k - 1) b) (le_two k h)

pub more_components : (k j : ℕ) (a b : Tree) → 2 ≤ k → component_list k (t.TPair j a b) ≡ a ∷ component_list (k - 1) b
more_components k j a b h = listed_more (nat_le 2 k) (t.TPair j a b) (a ∷ component_list (k - 1) b) (le_two k h)

-- ---- The list of a whole tuple, and of a whole tuple type.

listed_tuple : (y : Tree) (zs : List Tree) → part_list (suc (length zs)) (tuple y zs) ≡ y ∷ zs
listed_tuple y [] = single_part y
listed_tuple y (z ∷ zs) =
    more_parts (suc (suc (length zs))) (suc (suc (length zs))) y (tuple z zs) (omega arith)
    ∙ ap (λ n. y ∷ part_list n (tuple z zs)) (omega arith) ∙ ap (λ l. y ∷ l) (listed_tuple z zs)

listed_type : (y : Tree) (zs : List Tree) → component_list (suc (length zs)) (tuple_type y zs) ≡ y ∷ zs
listed_type y [] = single_component y
listed_type y (z ∷ zs) =
    more_components (suc (suc (length zs))) (suc (suc (length zs))) y (tuple_type z zs) (omega arith)
    ∙ ap (λ n. y ∷ component_list n (tuple_type z zs)) (omega arith) ∙ ap (λ l. y ∷ l) (listed_type z zs)

whole_list : (k : ℕ) (x : Tree) (xs : List Tree) → parts k x ≡ Some xs → part_list k x ≡ xs
whole_list k x xs h =
    let r = parts_of k x xs h in
    ap₂ (λ (n : ℕ) (u : Tree). part_list n u) (sym r.count) r.is ∙ listed_tuple r.y (r.z ∷ r.zs) ∙ sym r.are

whole_type_list : (k : ℕ) (x : Tree) (xs : List Tree) → components k x ≡ Some xs → component_list k x ≡ xs
whole_type_list k x xs h =
    let r = components_of k x xs h in
    ap₂ (λ (n : ℕ) (u : Tree). component_list n u) (sym r.count) r.is ∙ listed_type r.y (r.z ∷ r.zs) ∙ sym r.are

-- ---- The rows of tuples and tuple types.

same_tuple : (a : Tree) (us : List Tree) (y z : Tree) (zs : List Tree) → a ∷ us ≡ y ∷ z ∷ zs → tuple_row a us ≡ table.Tuple y z zs
same_tuple a us y z zs h = let e : a ≡ y = cc in let g : us ≡ z ∷ zs = cc in ap₂ (λ (m : Tree) (l : List Tree). tuple_row m l) e g

same_type : (a : Tree) (us : List Tree) (y z : Tree) (zs : List Tree) → a ∷ us ≡ y ∷ z ∷ zs → type_row a us ≡ table.TupleType y z zs
same_type a us y z zs h = let e : a ≡ y = cc in let g : us ≡ z ∷ zs = cc in ap₂ (λ (m : Tree) (l : List Tree). type_row m l) e g

whole_tuple : (k : ℕ) (a b : Tree) (o : Option (List Tree)) → parts k (t.Tup k a b) ≡ o → is_some o ≡ true → tuple_row a (part_list (k - 1) b) ≡ table.tuple_row k a b o
whole_tuple k a b None e h = cc
whole_tuple k a b (Some xs) e h =
    let r = parts_of k (t.Tup k a b) xs e in
    let count : suc (suc (length r.zs)) ≡ k = r.count in
    same_tuple a (part_list (k - 1) b) r.y r.z r.zs (sym (more_parts k k a b (omega (arith, count))) ∙ whole_list k (t.Tup k a b) xs e ∙ r.are)
    ∙ ap (λ (l : List Tree). table.tuple_row k a b (Some l)) (sym r.are)

whole_type : (k : ℕ) (a b : Tree) (o : Option (List Tree)) → components k (t.TPair k a b) ≡ o → is_some o ≡ true → type_row a (component_list (k - 1) b) ≡ table.type_row k a b o
whole_type k a b None e h = cc
whole_type k a b (Some xs) e h =
    let r = components_of k (t.TPair k a b) xs e in
    let count : suc (suc (length r.zs)) ≡ k = r.count in
    same_type a (component_list (k - 1) b) r.y r.z r.zs (sym (more_components k k a b (omega (arith, count))) ∙ whole_type_list k (t.TPair k a b) xs e ∙ r.are)
    ∙ ap (λ (l : List Tree). table.type_row k a b (Some l)) (sym r.are)

pub tuple_row_is : (k n : ℕ) (x a b : Tree) → x ≡ t.Tup k a b → is_some (parts k x) ≡ true → n ≡ k - 1 → tuple_row a (part_list n b) ≡ table.tuple_row k a b (parts k x)
tuple_row_is k n x a b e h g =
    ap (λ m. tuple_row a (part_list m b)) g ∙ whole_tuple k a b (parts k (t.Tup k a b)) refl (ap (λ u. is_some (parts k u)) (sym e) ∙ h)
    ∙ ap (λ u. table.tuple_row k a b (parts k u)) (sym e)

pub type_row_is : (k n : ℕ) (x a b : Tree) → x ≡ t.TPair k a b → is_some (components k x) ≡ true → n ≡ k - 1 → type_row a (component_list n b) ≡ table.type_row k a b (components k x)
type_row_is k n x a b e h g =
    ap (λ m. type_row a (component_list m b)) g ∙ whole_type k a b (components k (t.TPair k a b)) refl (ap (λ u. is_some (components k u)) (sym e) ∙ h)
    ∙ ap (λ u. table.type_row k a b (components k u)) (sym e)

-- ---- Arguments.

some_parts : (f x : Tree) (o : Option (List Tree)) (xs : List Tree) → o ≡ Some xs → (y : Tree) (ys : List Tree) → xs ≡ y ∷ ys → apply_row f xs ≡ table.apply_row f x o
some_parts f x o xs e y ys g = ap (λ l. apply_row f l) g ∙ ap (λ l. table.apply_row f x (Some l)) (sym g) ∙ ap (λ u. table.apply_row f x u) (sym e)

many : (f x : Tree) (k : ℕ) (o : Option (List Tree)) → parts k x ≡ o → is_some o ≡ true → apply_row f (part_list k x) ≡ table.apply_row f x (parts k x)
many f x k None e h = cc
many f x k (Some xs) e h =
    let r = parts_of k x xs e in
    ap (λ l. apply_row f l) (whole_list k x xs e) ∙ some_parts f x (parts k x) xs e r.y (r.z ∷ r.zs) r.are

no_parts : (f x : Tree) (o : Option (List Tree)) → is_some o ≡ false → apply_row f (part_list 1 x) ≡ table.apply_row f x o
no_parts f x None h = ap (λ l. apply_row f l) (single_part x)
no_parts f x (Some xs) h = cc

pub many_arguments : (k : ℕ) (x f : Tree) → tag_of x ≡ Some k → is_some (parts k x) ≡ true → apply_row f (part_list k x) ≡ table.apply_row f x (arguments x)
many_arguments k (t.Tup j a b) f e h = let same : j ≡ k = cc in many f (t.Tup j a b) k (parts k (t.Tup j a b)) refl h ∙ ap (λ m. table.apply_row f (t.Tup j a b) (parts m (t.Tup j a b))) (sym same)
many_arguments k _ f e h = cc

pub one_argument : (k : ℕ) (x f : Tree) → tag_of x ≡ Some k → is_some (parts k x) ≡ false → apply_row f (part_list 1 x) ≡ table.apply_row f x (arguments x)
one_argument k (t.Tup j a b) f e h = let same : j ≡ k = cc in no_parts f (t.Tup j a b) (parts j (t.Tup j a b)) (ap (λ m. is_some (parts m (t.Tup j a b))) same ∙ h)
one_argument k _ f e h = cc

pub no_tuple : (x f : Tree) → tag_of x ≡ None → apply_row f (part_list 1 x) ≡ table.apply_row f x (arguments x)
no_tuple (t.Tup j a b) f e = cc
no_tuple _ f e = refl
