-- Where equal trees and references have equal numbers, equal nodes have equal parts.
use Rattle.std.proofs.Common.{◌≡◌, ℕ, zero, suc, ◌<◌, List, [], ◌∷◌, length, refl, ap, ap₂, sym, ◌∙◌, arith, Some, slice_get}
use Rattle.std.specs.Prelude.{slice_index_or}
use Rattle.std.specs.Map.{keys_of}
use Rattle.pvs_terms.specs.declared.shape.Plain.TheVariants.{BoolType, Yes, No}
use Rattle.pvs_terms.specs.declared.shape.Sort.TheVariants.{OfType, OfTerm}
use Rattle.pvs_terms.specs.declared.shape.Binder.TheVariants.{Subtype, Function, Product, Lambda}
use Rattle.pvs_terms.specs.declared.shape.Joint.TheVariants.{Apply, Tuple, Equal}
use Rattle.pvs_terms.specs.declared.shape.Projection.TheVariants.{First, Second}
use Rattle.pvs_terms.specs.declared.shape.Shape.{Shape}
use Rattle.pvs_terms.specs.declared.shape.Shape.TheVariants.{Leaf, Index, Name, Bind, Join, Project, Choose}
use Rattle.pvs_terms.specs.declared.node.Node.{Node}
use Rattle.pvs_terms.specs.declared.node.Node.TheVariants as node
use Rattle.pvs_terms.specs.code.Shapes.{shape_of}
use Rattle.pvs_terms.specs.declared.node.RefKind.{RefKind}
use Rattle.pvs_terms.specs.declared.node.RefKind.TheVariants as kind
use Rattle.pvs_terms.specs.code.Texts.{AreDistinct}
use Rattle.pvs_terms.specs.Stored.{Stored, tree_at, ref_at, text_at, trees_at, given_ref, shape_tree, IsNode, IsRef, ShapeIn, KindIn, MayHave, AllBelow}

-- the node of a shape
node_of : Shape → Node
node_of (Leaf BoolType) = node.TBool
node_of (Leaf Yes) = node.True
node_of (Leaf No) = node.False
node_of (Index n) = node.Var n
node_of (Name OfType r) = node.TName r
node_of (Name OfTerm r) = node.Const r
node_of (Bind Subtype a b) = node.TSub a b
node_of (Bind Function a b) = node.TFun a b
node_of (Bind (Product k) a b) = node.TPair k a b
node_of (Bind Lambda a b) = node.Lam a b
node_of (Join Apply a b) = node.App a b
node_of (Join (Tuple k) a b) = node.Tup k a b
node_of (Join Equal a b) = node.Eq a b
node_of (Project (First k) a) = node.Fst k a
node_of (Project (Second k) a) = node.Snd k a
node_of (Choose a b c) = node.If a b c

node_of-shape_of : (n : Node) → node_of (shape_of n) ≡ n
unfolding node_of
node_of-shape_of node.TBool = refl
node_of-shape_of (node.TName r) = refl
node_of-shape_of (node.TSub a b) = refl
node_of-shape_of (node.TFun a b) = refl
node_of-shape_of (node.TPair k a b) = refl
node_of-shape_of (node.Var n) = refl
node_of-shape_of (node.Const r) = refl
node_of-shape_of node.True = refl
node_of-shape_of node.False = refl
node_of-shape_of (node.Lam a b) = refl
node_of-shape_of (node.App a b) = refl
node_of-shape_of (node.Tup k a b) = refl
node_of-shape_of (node.Fst k a) = refl
node_of-shape_of (node.Snd k a) = refl
node_of-shape_of (node.If a b c) = refl
node_of-shape_of (node.Eq a b) = refl

pub shape_of-injective : (m n : Node) → shape_of m ≡ shape_of n → m ≡ n
shape_of-injective m n e = sym (node_of-shape_of m) ∙ ap node_of e ∙ node_of-shape_of n

-- equal trees have equal numbers, and so do equal references
abbrev pub NodesDistinct : Stored → Type 0
NodesDistinct s = (i j : ℕ) → IsNode s i → IsNode s j → tree_at s i ≡ tree_at s j → i ≡ j

abbrev pub RefsDistinct : Stored → Type 0
RefsDistinct s = (r q : ℕ) → IsRef s r → IsRef s q → ref_at s r ≡ ref_at s q → r ≡ q

pub shape_tree-injective : (s : Stored) (x y : Shape) → NodesDistinct s → RefsDistinct s → ShapeIn s x → ShapeIn s y → shape_tree s x ≡ shape_tree s y → x ≡ y
shape_tree-injective s (Leaf o) (Leaf p) d f h k e = cc
shape_tree-injective s (Index m) (Index n) d f h k e = cc
shape_tree-injective s (Name t r) (Name u q) d f h k e =
    let same : ref_at s r ≡ ref_at s q = cc in
    let at : r ≡ q = f r q h k same in cc
shape_tree-injective s (Bind o a b) (Bind p x y) d f h k e =
    let ax : tree_at s a ≡ tree_at s x = cc in
    let b_y : tree_at s b ≡ tree_at s y = cc in
    let first : a ≡ x = d a x h.0 k.0 ax in
    let second : b ≡ y = d b y h.1 k.1 b_y in cc
shape_tree-injective s (Join o a b) (Join p x y) d f h k e =
    let ax : tree_at s a ≡ tree_at s x = cc in
    let b_y : tree_at s b ≡ tree_at s y = cc in
    let first : a ≡ x = d a x h.0 k.0 ax in
    let second : b ≡ y = d b y h.1 k.1 b_y in cc
shape_tree-injective s (Project o a) (Project p x) d f h k e =
    let ax : tree_at s a ≡ tree_at s x = cc in
    let first : a ≡ x = d a x h k ax in cc
shape_tree-injective s (Choose a b c) (Choose x y z) d f h k e =
    let ax : tree_at s a ≡ tree_at s x = cc in
    let b_y : tree_at s b ≡ tree_at s y = cc in
    let cz : tree_at s c ≡ tree_at s z = cc in
    let first : a ≡ x = d a x h.0 k.0 ax in
    let second : b ≡ y = d b y h.1 k.1 b_y in
    let third : c ≡ z = d c z h.2 k.2 cz in cc
shape_tree-injective s _ _ d f h k e = absurd (cc)

-- a reference by its kind and its actuals, which are of the store
pub record IsGiven (s : Stored) (k : RefKind) (acts : List ℕ) : Type 0 where
  pub kind : KindIn s k
  pub may_have : MayHave k acts
  pub actuals : AllBelow (length s.nodes) acts

trees_at-injective : (s : Stored) (xs ys : List ℕ) → NodesDistinct s → AllBelow (length s.nodes) xs → AllBelow (length s.nodes) ys → trees_at s xs ≡ trees_at s ys → xs ≡ ys
trees_at-injective s [] [] d h k e = refl
trees_at-injective s [] (y ∷ ys) d h k e = cc
trees_at-injective s (x ∷ xs) [] d h k e = cc
trees_at-injective s (x ∷ xs) (y ∷ ys) d h k e =
    let first : tree_at s x ≡ tree_at s y = cc in
    let rest : trees_at s xs ≡ trees_at s ys = cc in
    ap₂ ◌∷◌ (d x y h.0 k.0 first) (trees_at-injective s xs ys d h.1 k.1 rest)

-- where equal texts have equal names too, a reference has one kind and one list of actuals
pub given_ref-injective : (s : Stored) (k l : RefKind) (xs ys : List ℕ) → NodesDistinct s → AreDistinct s.names → IsGiven s k xs → IsGiven s l ys → given_ref s k xs ≡ given_ref s l ys → (k ≡ l) × (xs ≡ ys)
unfolding text_at
given_ref-injective s (kind.Own m) (kind.Own n) xs ys d u g h e = (cc, g.may_have ∙ sym h.may_have)
given_ref-injective s (kind.Formal m) (kind.Formal n) xs ys d u g h e = (cc, g.may_have ∙ sym h.may_have)
given_ref-injective s (kind.Inst a m) (kind.Inst b n) xs ys d u g h e =
    let texts : slice_index_or s.names a [] ≡ slice_index_or s.names b [] = cc in
    let names : a ≡ b = u a b g.kind h.kind texts in
    let numbers : m ≡ n = cc in
    let trees : trees_at s xs ≡ trees_at s ys = cc in
    (ap₂ kind.Inst names numbers, trees_at-injective s xs ys d g.actuals h.actuals trees)
given_ref-injective s _ _ xs ys d u g h e = absurd (cc)

-- the key of an entry, and an entry under another default
pub key_at : {K V : Type 0} (es : List (K × V)) (i : ℕ) (d : K × V) → i < length es → slice_get (keys_of es) i ≡ Some (slice_index_or es i d).0
key_at [] i d h = absurd (omega (arith, h))
key_at (e ∷ es) zero d h = refl
key_at (e ∷ es) (suc i) d h = key_at es i d (omega (arith, h))

pub key_within : {K V : Type 0} (es : List (K × V)) (i : ℕ) (k : K) → slice_get (keys_of es) i ≡ Some k → i < length es
key_within [] i k h = cc
key_within (e ∷ es) zero k h = omega arith
key_within (e ∷ es) (suc i) k h = omega (arith, key_within es i k h)

pub same_default : {A : Type 0} (xs : List A) (i : ℕ) (d e : A) → i < length xs → slice_index_or xs i d ≡ slice_index_or xs i e
same_default [] i d e h = absurd (omega (arith, h))
same_default (x ∷ xs) zero d e h = refl
same_default (x ∷ xs) (suc i) d e h = same_default xs i d e (omega (arith, h))
