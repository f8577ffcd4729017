-- Core trees: types and terms in one data type, with binder indices, 0 the innermost.
-- Nodes of one shape share a constructor, and a pattern names each of the sixteen nodes.
use Rattle.std.specs.Prelude.{ℕ, suc, ◌+◌, ◌-◌, ◌≤◌, ◌≡◌, max, Bool, true, false, ◌&&◌, ◌||◌, nat_eq, bytes_eq, List}
use Rattle.pvs_terms.specs.declared.shape.Plain.{Plain}
use Rattle.pvs_terms.specs.declared.shape.Plain.TheVariants.{BoolType, Yes, No}
use Rattle.pvs_terms.specs.declared.shape.Sort.{Sort}
use Rattle.pvs_terms.specs.declared.shape.Sort.TheVariants.{OfType, OfTerm}
use Rattle.pvs_terms.specs.declared.shape.Binder.{Binder}
use Rattle.pvs_terms.specs.declared.shape.Binder.TheVariants.{Subtype, Function, Product, Lambda}
use Rattle.pvs_terms.specs.declared.shape.Joint.{Joint}
use Rattle.pvs_terms.specs.declared.shape.Joint.TheVariants.{Apply, Tuple, Equal}
use Rattle.pvs_terms.specs.declared.shape.Projection.{Projection}
use Rattle.pvs_terms.specs.declared.shape.Projection.TheVariants.{First, Second}

-- the bytes of a name
abbrev pub Text : Type 0
Text = List ℕ

mutual
  -- a type or a term; `Bind` binds one variable in its second part
  pub data Tree : Type 0 where
    Leaf : Plain → Tree
    Var : ℕ → Tree
    Name : Sort → Ref → Tree
    Bind : Binder → Tree → Tree → Tree
    Join : Joint → Tree → Tree → Tree
    Project : Projection → Tree → Tree
    If : Tree → Tree → Tree → Tree

  -- an entry of the theory itself, a formal of it, or an entry of an instance of a named theory
  pub data Ref : Type 0 where
    Own : ℕ → Ref
    Formal : ℕ → Ref
    Inst : Text → ℕ → Trees → Ref

  -- the actuals of an instance, in order
  pub data Trees : Type 0 where
    none : Trees
    more : Tree → Trees → Trees

-- the sixteen nodes
pattern abbrev pub TBool : Tree
TBool = Leaf BoolType

pattern abbrev pub True : Tree
True = Leaf Yes

pattern abbrev pub False : Tree
False = Leaf No

pattern abbrev pub TName : Ref → Tree
TName r = Name OfType r

pattern abbrev pub Const : Ref → Tree
Const r = Name OfTerm r

pattern abbrev pub TSub : Tree → Tree → Tree
TSub a p = Bind Subtype a p

pattern abbrev pub TFun : Tree → Tree → Tree
TFun a b = Bind Function a b

pattern abbrev pub TPair : ℕ → Tree → Tree → Tree
TPair k a b = Bind (Product k) a b

pattern abbrev pub Lam : Tree → Tree → Tree
Lam a b = Bind Lambda a b

pattern abbrev pub App : Tree → Tree → Tree
App f a = Join Apply f a

pattern abbrev pub Tup : ℕ → Tree → Tree → Tree
Tup k a b = Join (Tuple k) a b

pattern abbrev pub Eq : Tree → Tree → Tree
Eq a b = Join Equal a b

pattern abbrev pub Fst : ℕ → Tree → Tree
Fst k t = Project (First k) t

pattern abbrev pub Snd : ℕ → Tree → Tree
Snd k t = Project (Second k) t

-- equal kinds of nodes
abbrev pub plain_eq : Plain → Plain → Bool
plain_eq BoolType BoolType = true
plain_eq Yes Yes = true
plain_eq No No = true
plain_eq _ _ = false

abbrev pub sort_eq : Sort → Sort → Bool
sort_eq OfType OfType = true
sort_eq OfTerm OfTerm = true
sort_eq _ _ = false

abbrev pub binder_eq : Binder → Binder → Bool
binder_eq Subtype Subtype = true
binder_eq Function Function = true
binder_eq (Product j) (Product k) = nat_eq j k
binder_eq Lambda Lambda = true
binder_eq _ _ = false

abbrev pub joint_eq : Joint → Joint → Bool
joint_eq Apply Apply = true
joint_eq (Tuple j) (Tuple k) = nat_eq j k
joint_eq Equal Equal = true
joint_eq _ _ = false

abbrev pub projection_eq : Projection → Projection → Bool
projection_eq (First j) (First k) = nat_eq j k
projection_eq (Second j) (Second k) = nat_eq j k
projection_eq _ _ = false

-- the test for equal trees
abbrev mutual
  pub tree_eq : Tree → Tree → Bool
  tree_eq (Leaf o) (Leaf p) = plain_eq o p
  tree_eq (Var m) (Var n) = nat_eq m n
  tree_eq (Name s r) (Name t q) = sort_eq s t && ref_eq r q
  tree_eq (Bind o a b) (Bind p c d) = binder_eq o p && (tree_eq a c && tree_eq b d)
  tree_eq (Join o a b) (Join p c d) = joint_eq o p && (tree_eq a c && tree_eq b d)
  tree_eq (Project o a) (Project p c) = projection_eq o p && tree_eq a c
  tree_eq (If a b c) (If x y z) = tree_eq a x && (tree_eq b y && tree_eq c z)
  tree_eq _ _ = false

  pub ref_eq : Ref → Ref → Bool
  ref_eq (Own m) (Own n) = nat_eq m n
  ref_eq (Formal m) (Formal n) = nat_eq m n
  ref_eq (Inst a m xs) (Inst b n ys) = bytes_eq a b && (nat_eq m n && trees_eq xs ys)
  ref_eq _ _ = false

  pub trees_eq : Trees → Trees → Bool
  trees_eq none none = true
  trees_eq (more x xs) (more y ys) = tree_eq x y && trees_eq xs ys
  trees_eq _ _ = false

-- how many nodes: each counts once for each place where it stands, with types and actuals
abbrev mutual
  pub size : Tree → ℕ
  size (Leaf o) = 1
  size (Var n) = 1
  size (Name s r) = 1 + ref_size r
  size (Bind o a b) = 1 + (size a + size b)
  size (Join o a b) = 1 + (size a + size b)
  size (Project o a) = 1 + size a
  size (If a b c) = 1 + (size a + (size b + size c))

  pub ref_size : Ref → ℕ
  ref_size (Own n) = 0
  ref_size (Formal n) = 0
  ref_size (Inst a n xs) = trees_size xs

  pub trees_size : Trees → ℕ
  trees_size none = 0
  trees_size (more x xs) = size x + trees_size xs

-- the longest chain of nodes from the root, through actuals too; a leaf has depth 1
abbrev mutual
  pub depth : Tree → ℕ
  depth (Leaf o) = 1
  depth (Var n) = 1
  depth (Name s r) = 1 + ref_depth r
  depth (Bind o a b) = 1 + max (depth a) (depth b)
  depth (Join o a b) = 1 + max (depth a) (depth b)
  depth (Project o a) = 1 + depth a
  depth (If a b c) = 1 + max (depth a) (max (depth b) (depth c))

  pub ref_depth : Ref → ℕ
  ref_depth (Own n) = 0
  ref_depth (Formal n) = 0
  ref_depth (Inst a n xs) = trees_depth xs

  pub trees_depth : Trees → ℕ
  trees_depth none = 0
  trees_depth (more x xs) = max (depth x) (trees_depth xs)

-- the greatest index of a variable, free or bound, within actuals too; 0 where there is none
abbrev mutual
  pub top_index : Tree → ℕ
  top_index (Leaf o) = 0
  top_index (Var n) = n
  top_index (Name s r) = ref_top r
  top_index (Bind o a b) = max (top_index a) (top_index b)
  top_index (Join o a b) = max (top_index a) (top_index b)
  top_index (Project o a) = top_index a
  top_index (If a b c) = max (top_index a) (max (top_index b) (top_index c))

  pub ref_top : Ref → ℕ
  ref_top (Own n) = 0
  ref_top (Formal n) = 0
  ref_top (Inst a n xs) = trees_top xs

  pub trees_top : Trees → ℕ
  trees_top none = 0
  trees_top (more x xs) = max (top_index x) (trees_top xs)

-- whether an own entry or a formal of the theory occurs, within actuals too
abbrev mutual
  pub is_local : Tree → Bool
  is_local (Leaf o) = false
  is_local (Var n) = false
  is_local (Name s r) = ref_local r
  is_local (Bind o a b) = is_local a || is_local b
  is_local (Join o a b) = is_local a || is_local b
  is_local (Project o a) = is_local a
  is_local (If a b c) = is_local a || (is_local b || is_local c)

  pub ref_local : Ref → Bool
  ref_local (Own n) = true
  ref_local (Formal n) = true
  ref_local (Inst a n xs) = trees_local xs

  pub trees_local : Trees → Bool
  trees_local none = false
  trees_local (more x xs) = is_local x || trees_local xs

-- the least number that every free index is below, 0 where there is none; a reference has none
abbrev pub free_below : Tree → ℕ
free_below (Leaf o) = 0
free_below (Var n) = suc n
free_below (Name s r) = 0
free_below (Bind o a b) = max (free_below a) (free_below b - 1)
free_below (Join o a b) = max (free_below a) (free_below b)
free_below (Project o a) = free_below a
free_below (If a b c) = max (free_below a) (max (free_below b) (free_below c))

abbrev pub trees_free : Trees → ℕ
trees_free none = 0
trees_free (more x xs) = max (free_below x) (trees_free xs)

-- no index is free
abbrev pub IsClosed : Tree → Type 0
IsClosed t = free_below t ≡ 0

-- no index is free in any of the actuals
abbrev pub AreClosed : Trees → Type 0
AreClosed none = Unit {0}
AreClosed (more x xs) = IsClosed x × AreClosed xs

-- how many actuals
abbrev pub trees_length : Trees → ℕ
trees_length none = 0
trees_length (more x xs) = suc (trees_length xs)

-- the actuals of a reference
abbrev pub ref_actuals : Ref → Trees
ref_actuals (Own n) = none
ref_actuals (Formal n) = none
ref_actuals (Inst a n xs) = xs

-- a tree within the limits of depth, size and index
pub record IsWithinLimits (t : Tree) : Type 0 where
  pub deep : depth t ≤ 1000
  pub large : size t ≤ 1000000
  pub index : top_index t ≤ 1000000
