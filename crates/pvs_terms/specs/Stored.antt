-- What the numbers of a store stand for. Contracts of the store and of the crates above speak
-- of `tree_at`, `ref_at` and `text_at` alone, and never of its lists.
use Rattle.std.specs.Prelude.{◌≡◌, ℕ, ◌<◌, List, [], ◌∷◌, ◌++◌, length, slice_index_or}
use Rattle.pvs_terms.specs.Tree as tree
use Rattle.pvs_terms.specs.Tree.{Text, Tree, Ref, Trees, IsWithinLimits, AreClosed, ref_actuals}
use Rattle.pvs_terms.specs.declared.node.Node.{Node}
use Rattle.pvs_terms.specs.declared.shape.Shape.{Shape}
use Rattle.pvs_terms.specs.declared.shape.Shape.TheVariants as shape
use Rattle.pvs_terms.specs.code.Shapes.{shape_of}
use Rattle.pvs_terms.specs.declared.node.RefKind.{RefKind}
use Rattle.pvs_terms.specs.declared.node.RefKind.TheVariants as kind

-- a reference that is kept: its kind, the text of its theory where it is an instance, its actuals
pub record Reference : Type 0 where
  pub kind : RefKind
  pub theory : Text
  pub actuals : List ℕ

-- the texts of names, the nodes and the references of a store, the oldest first
pub record Stored : Type 0 where
  pub names : List Text
  pub nodes : List Node
  pub refs : List Reference

-- the tree, the trees and the reference among those that stand so far
abbrev pub tree_among : List Tree → ℕ → Tree
tree_among ts i = slice_index_or ts i tree.False

abbrev pub trees_among : List Tree → List ℕ → Trees
trees_among ts [] = tree.none
trees_among ts (i ∷ is) = tree.more (tree_among ts i) (trees_among ts is)

abbrev pub ref_from : RefKind → Text → Trees → Ref
ref_from (kind.Own n) th acts = tree.Own n
ref_from (kind.Formal n) th acts = tree.Formal n
ref_from (kind.Inst a n) th acts = tree.Inst th n acts

-- the text of an instance's theory
abbrev pub theory_in : List Text → RefKind → Text
theory_in ts (kind.Own n) = []
theory_in ts (kind.Formal n) = []
theory_in ts (kind.Inst a n) = slice_index_or ts a []

abbrev pub no_reference : Reference
no_reference = record { kind = kind.Own 0; theory = []; actuals = [] }

abbrev pub ref_among : List Reference → List Tree → ℕ → Ref
ref_among rs ts r = let x = slice_index_or rs r no_reference in ref_from x.kind x.theory (trees_among ts x.actuals)

-- the tree of a node whose parts are among these
abbrev pub shape_among : List Reference → List Tree → Shape → Tree
shape_among rs ts (shape.Leaf o) = tree.Leaf o
shape_among rs ts (shape.Index n) = tree.Var n
shape_among rs ts (shape.Name s r) = tree.Name s (ref_among rs ts r)
shape_among rs ts (shape.Bind o a b) = tree.Bind o (tree_among ts a) (tree_among ts b)
shape_among rs ts (shape.Join o a b) = tree.Join o (tree_among ts a) (tree_among ts b)
shape_among rs ts (shape.Project o a) = tree.Project o (tree_among ts a)
shape_among rs ts (shape.Choose a b c) = tree.If (tree_among ts a) (tree_among ts b) (tree_among ts c)

-- the trees of these nodes, after the trees before them
abbrev pub trees_after : List Reference → List Tree → List Node → List Tree
trees_after rs ts [] = ts
trees_after rs ts (n ∷ ns) = trees_after rs (ts ++ shape_among rs ts (shape_of n) ∷ []) ns

unfoldable pub trees : Stored → List Tree
trees s = trees_after s.refs [] s.nodes

-- the tree that a number stands for
unfoldable pub tree_at : Stored → ℕ → Tree
unfolding trees
tree_at s i = tree_among (trees s) i

-- the reference that a number stands for
unfoldable pub ref_at : Stored → ℕ → Ref
unfolding trees
ref_at s r = ref_among s.refs (trees s) r

-- the text that a name stands for
unfoldable pub text_at : Stored → ℕ → Text
text_at s n = slice_index_or s.names n []

-- the numbers of a store
abbrev pub IsNode : Stored → ℕ → Type 0
IsNode s i = i < length s.nodes

abbrev pub IsRef : Stored → ℕ → Type 0
IsRef s r = r < length s.refs

abbrev pub IsName : Stored → ℕ → Type 0
IsName s n = n < length s.names

abbrev pub AllBelow : ℕ → List ℕ → Type 0
AllBelow n [] = Unit {0}
AllBelow n (i ∷ is) = (i < n) × AllBelow n is

abbrev pub AreNodes : Stored → List ℕ → Type 0
AreNodes s is = AllBelow (length s.nodes) is

-- the parts of a node are below these numbers of nodes and of references
abbrev pub HasParts : ℕ → ℕ → Shape → Type 0
HasParts n r (shape.Leaf o) = Unit {0}
HasParts n r (shape.Index i) = Unit {0}
HasParts n r (shape.Name s x) = x < r
HasParts n r (shape.Bind o a b) = (a < n) × (b < n)
HasParts n r (shape.Join o a b) = (a < n) × (b < n)
HasParts n r (shape.Project o a) = a < n
HasParts n r (shape.Choose a b c) = (a < n) × (b < n) × (c < n)

abbrev pub ShapeIn : Stored → Shape → Type 0
ShapeIn s x = HasParts (length s.nodes) (length s.refs) x

-- the parts of a node are of the store
abbrev pub PartsIn : Stored → Node → Type 0
PartsIn s n = ShapeIn s (shape_of n)

-- the name of an instance's theory is of the store
abbrev pub KindIn : Stored → RefKind → Type 0
KindIn s (kind.Own n) = Unit {0}
KindIn s (kind.Formal n) = Unit {0}
KindIn s (kind.Inst a n) = IsName s a

-- only an instance has actuals
abbrev pub MayHave : RefKind → List ℕ → Type 0
MayHave (kind.Own n) acts = acts ≡ []
MayHave (kind.Formal n) acts = acts ≡ []
MayHave (kind.Inst a n) acts = Unit {0}

-- the tree of a node by its parts
abbrev pub shape_tree : Stored → Shape → Tree
shape_tree s (shape.Leaf o) = tree.Leaf o
shape_tree s (shape.Index n) = tree.Var n
shape_tree s (shape.Name t r) = tree.Name t (ref_at s r)
shape_tree s (shape.Bind o a b) = tree.Bind o (tree_at s a) (tree_at s b)
shape_tree s (shape.Join o a b) = tree.Join o (tree_at s a) (tree_at s b)
shape_tree s (shape.Project o a) = tree.Project o (tree_at s a)
shape_tree s (shape.Choose a b c) = tree.If (tree_at s a) (tree_at s b) (tree_at s c)

abbrev pub node_tree : Stored → Node → Tree
node_tree s n = shape_tree s (shape_of n)

abbrev pub trees_at : Stored → List ℕ → Trees
trees_at s [] = tree.none
trees_at s (i ∷ is) = tree.more (tree_at s i) (trees_at s is)

-- the reference of this kind, with these trees for its actuals
abbrev pub ref_of : Stored → RefKind → Trees → Ref
ref_of s (kind.Own n) ts = tree.Own n
ref_of s (kind.Formal n) ts = tree.Formal n
ref_of s (kind.Inst a n) ts = tree.Inst (text_at s a) n ts

-- the reference of this kind, with the trees of these numbers for its actuals
abbrev pub given_ref : Stored → RefKind → List ℕ → Ref
given_ref s k acts = ref_of s k (trees_at s acts)

-- every number of the old store stands in the new one for what it stood for
pub record Extends (old new : Stored) : Type 0 where
  pub nodes : (i : ℕ) → IsNode old i → IsNode new i
  pub refs : (r : ℕ) → IsRef old r → IsRef new r
  pub names : (n : ℕ) → IsName old n → IsName new n
  pub trees : (i : ℕ) → IsNode old i → tree_at new i ≡ tree_at old i
  pub references : (r : ℕ) → IsRef old r → ref_at new r ≡ ref_at old r
  pub texts : (n : ℕ) → IsName old n → text_at new n ≡ text_at old n

-- the number stands for the tree, which is within the limits
pub record Stands (s : Stored) (t : Tree) (i : ℕ) : Type 0 where
  pub node : IsNode s i
  pub tree : tree_at s i ≡ t
  pub fits : IsWithinLimits t

-- the shape has its parts in the store and is that of the tree
pub record StandsAs (s : Stored) (t : Tree) (x : Shape) : Type 0 where
  pub parts : ShapeIn s x
  pub tree : shape_tree s x ≡ t

-- the number stands for the reference, a node of which is within the limits
pub record StandsRef (s : Stored) (t : Ref) (r : ℕ) : Type 0 where
  pub ref : IsRef s r
  pub is : ref_at s r ≡ t
  pub fits : IsWithinLimits (tree.Const t)

-- the number stands for the text
pub record StandsName (s : Stored) (t : Text) (n : ℕ) : Type 0 where
  pub name : IsName s n
  pub is : text_at s n ≡ t
