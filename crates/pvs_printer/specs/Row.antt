-- What the top of a tree is printed as, with the parts that it shows. Each tree has one row: the first one that fits, where
-- EXISTS is tried before NOT and FORALL before an equality, AND before OR and OR before IMPLIES (LR, expressions and types;
-- CSL-97-2, where the connectives and quantifiers are abbreviations of equality and IF).
use Rattle.std.specs.Prelude.{ℕ, suc, ◌-◌, ◌==◌, Bool, true, false, if◌then◌else◌, List, [], ◌∷◌, Option, Some, None}
use Rattle.pvs_terms.specs.declared.shape.Sort.{Sort}
use Rattle.pvs_terms.specs.Tree as t
use Rattle.pvs_terms.specs.Tree.{Tree, Ref, tree_eq}
use Rattle.pvs_printer.specs.declared.words.BinderWord.{BinderWord}
use Rattle.pvs_printer.specs.declared.words.BinderWord.TheVariants as binder_word
use Rattle.pvs_printer.specs.declared.words.InfixWord.{InfixWord}
use Rattle.pvs_printer.specs.declared.words.InfixWord.TheVariants as infix_word

pub data Row : Type 0 where
  Truth : Bool → Row
  Variable : ℕ → Row
  Named : Sort → Ref → Row
  -- the word, the type of the variable, and the body, which stands under it
  Quantified : BinderWord → Tree → Tree → Row
  Not : Tree → Row
  Infix : InfixWord → Tree → Tree → Row
  Cond : Tree → Tree → Tree → Row
  -- the function, the first argument and the others
  Apply : Tree → Tree → List Tree → Row
  -- the first part, the second and the others
  Tuple : Tree → Tree → List Tree → Row
  Part : Tree → ℕ → Row
  Boolean : Row
  SubType : Tree → Tree → Row
  FunType : Tree → Tree → Row
  -- the first component, the second and the others, each of which stands under those before it
  TupleType : Tree → Tree → List Tree → Row
  TaggedTuple : ℕ → Tree → Tree → Row
  Rest : Tree → Row
  TaggedType : ℕ → Tree → Tree → Row

-- ---- Tuples.

abbrev pub before : Tree → Option (List Tree) → Option (List Tree)
before a None = None
before a (Some xs) = Some (a ∷ xs)

abbrev pub pair_or : Bool → Tree → Tree → Option (List Tree) → Option (List Tree)
pair_or true a b other = Some (a ∷ b ∷ [])
pair_or false a b other = before a other

abbrev pub where_ : Bool → Option (List Tree) → Option (List Tree)
where_ true o = o
where_ false o = None

-- the parts of a tuple of k parts, where the tags are k, k - 1, .., 2
abbrev pub parts : ℕ → Tree → Option (List Tree)
parts k (t.Tup j a b) = where_ (j == k) (pair_or (k == 2) a b (parts (k - 1) b))
parts k _ = None

-- the components of a tuple type, likewise
abbrev pub components : ℕ → Tree → Option (List Tree)
components k (t.TPair j a b) = where_ (j == k) (pair_or (k == 2) a b (components (k - 1) b))
components k _ = None

abbrev pub tuple_row : ℕ → Tree → Tree → Option (List Tree) → Row
tuple_row k a b (Some (x ∷ y ∷ ys)) = Tuple x y ys
tuple_row k a b _ = TaggedTuple k a b

abbrev pub type_row : ℕ → Tree → Tree → Option (List Tree) → Row
type_row k a b (Some (x ∷ y ∷ ys)) = TupleType x y ys
type_row k a b _ = TaggedType k a b

abbrev pub apply_row : Tree → Tree → Option (List Tree) → Row
apply_row f a (Some (x ∷ xs)) = Apply f x xs
apply_row f a _ = Apply f a []

abbrev pub arguments : Tree → Option (List Tree)
arguments (t.Tup k a b) = parts k (t.Tup k a b)
arguments _ = None

-- ---- Projections.

-- what a chain of Snd with the tags k, k + 1, .. is of, and how long it is
abbrev pub climbed : Bool → Tree → Tree × ℕ → Tree × ℕ
climbed true x r = (r.0, suc r.1)
climbed false x r = (x, 0)

abbrev pub climb : ℕ → Tree → Tree × ℕ
climb k (t.Snd j x) = climbed (j == k) (t.Snd j x) (climb (suc k) x)
climb k x = (x, 0)

abbrev pub first_row : ℕ → Tree × ℕ → Row
first_row k r = Part r.0 (suc r.1)

abbrev pub second_row : Bool → Tree → Tree × ℕ → Row
second_row true x r = Part r.0 (suc (suc r.1))
second_row false x r = Rest x

-- ---- Negations and quantifiers.

-- the type and the predicate of a FORALL
abbrev pub forall_of : Tree → Option (Tree × Tree)
forall_of (t.Eq (t.Lam a p) (t.Lam b t.True)) = if tree_eq a b then Some (a, p) else None
forall_of _ = None

-- what a NOT is of
abbrev pub not_of : Tree → Option Tree
not_of (t.If c t.False t.True) = Some c
not_of _ = None

-- the type and the predicate of an EXISTS, of which this is what the outer NOT is of
abbrev pub unnegated : Tree → Option Tree → Option (Tree × Tree)
unnegated a None = None
unnegated a (Some p) = Some (a, p)

abbrev pub exists_in : Option (Tree × Tree) → Option (Tree × Tree)
exists_in None = None
exists_in (Some q) = unnegated q.0 (not_of q.1)

abbrev pub not_row : Tree → Option (Tree × Tree) → Row
not_row c None = Not c
not_row c (Some q) = Quantified binder_word.Exists q.0 q.1

abbrev pub equal_row : Tree → Tree → Option (Tree × Tree) → Row
equal_row a b None = Infix infix_word.Equal a b
equal_row a b (Some q) = Quantified binder_word.Forall q.0 q.1

-- the rows of If: NOT and EXISTS, AND, OR, IMPLIES, IF
abbrev pub if_row : Tree → Tree → Tree → Row
if_row c t.False t.True = not_row c (exists_in (forall_of c))
if_row c a t.False = Infix infix_word.And c a
if_row c t.True b = Infix infix_word.Or c b
if_row c a t.True = Infix infix_word.Implies c a
if_row c a b = Cond c a b

-- ---- The row of a tree.

abbrev pub row : Tree → Row
row t.TBool = Boolean
row t.True = Truth true
row t.False = Truth false
row (t.Var n) = Variable n
row (t.Name s r) = Named s r
row (t.TSub a p) = SubType a p
row (t.TFun a b) = FunType a b
row (t.TPair k a b) = type_row k a b (components k (t.TPair k a b))
row (t.Lam a b) = Quantified binder_word.Lambda a b
row (t.App f a) = apply_row f a (arguments a)
row (t.Tup k a b) = tuple_row k a b (parts k (t.Tup k a b))
row (t.Eq a b) = equal_row a b (forall_of (t.Eq a b))
row (t.Fst k x) = first_row k (climb (suc k) x)
row (t.Snd k x) = second_row (k == 2) x (climb (suc k) x)
row (t.If c a b) = if_row c a b
