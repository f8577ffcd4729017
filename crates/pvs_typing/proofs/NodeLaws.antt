-- The parts of a known node are known, and equal numbers stand for equal trees.
use Rattle.std.proofs.Common.{◌≡◌, ℕ, ◌<◌, Bool, true, length, ap, subst, arith}
use Rattle.pvs_terms.specs.Tree.{Ref, tree_eq}
use Rattle.pvs_terms.specs.declared.node.Node.{Node}
use Rattle.pvs_terms.specs.declared.node.Node.TheVariants as node
use Rattle.pvs_terms.specs.declared.shape.Sort.{Sort}
use Rattle.pvs_terms.specs.Stored.{Stored, IsNode, tree_at, node_tree, HasParts}
use Rattle.pvs_terms.specs.code.Shapes.{shape_of}
use Rattle.pvs_terms.specs.Sorts.{sort_of, IsSorted}
use Rattle.pvs_terms.proofs.TreeLaws.{tree_eq-decided}
use Rattle.pvs_typing.specs.Growth.{EachName, IsKnown}
use Rattle.pvs_typing.specs.Nodes.{HasKnownParts}

-- equal numbers stand for equal trees, and equal trees have equal numbers
pub same_decided : (s : Stored) (b : Bool) (i j : ℕ) → (b ≡ true → i ≡ j) → (i ≡ j → b ≡ true) → (tree_at s i ≡ tree_at s j → i ≡ j) → b ≡ tree_eq (tree_at s i) (tree_at s j)
same_decided s b i j h k l = tree_eq-decided b (tree_at s i) (tree_at s j) (λ e. ap (tree_at s) (h e)) (λ e. k (l e))

module _ (s : Stored) (P : Sort → Ref → Type 0) where
  part_known : (o : Sort) (i a : ℕ) → IsNode s i → a < i → sort_of (tree_at s a) ≡ o → EachName P (tree_at s a) → IsKnown s P o a
  part_known o i a h l e n = record { node = omega (arith, h, l); sort = e; names = n }

  known_parts : (i : ℕ) (n : Node) → IsNode s i → HasParts i (length s.refs) (shape_of n) → EachName P (node_tree s n) → IsSorted (node_tree s n) → HasKnownParts s P n
  known_parts i node.TBool h p e o = tt
  known_parts i (node.TName r) h p e o = (p, e)
  known_parts i (node.TSub a b) h p e o = (part_known _ i a h p.0 o.0.1 e.0, part_known _ i b h p.1 o.0.2 e.1)
  known_parts i (node.TFun a b) h p e o = (part_known _ i a h p.0 o.0.1 e.0, part_known _ i b h p.1 o.0.2 e.1)
  known_parts i (node.TPair k a b) h p e o = (o.0.0, part_known _ i a h p.0 o.0.1 e.0, part_known _ i b h p.1 o.0.2 e.1)
  known_parts i (node.Var n) h p e o = tt
  known_parts i (node.Const r) h p e o = (p, e)
  known_parts i node.True h p e o = tt
  known_parts i node.False h p e o = tt
  known_parts i (node.Lam a b) h p e o = (part_known _ i a h p.0 o.0.1 e.0, part_known _ i b h p.1 o.0.2 e.1)
  known_parts i (node.App a b) h p e o = (part_known _ i a h p.0 o.0.1 e.0, part_known _ i b h p.1 o.0.2 e.1)
  known_parts i (node.Tup k a b) h p e o = (o.0.0, part_known _ i a h p.0 o.0.1 e.0, part_known _ i b h p.1 o.0.2 e.1)
  known_parts i (node.Fst k a) h p e o = (o.0.0, part_known _ i a h p o.0.1 e)
  known_parts i (node.Snd k a) h p e o = (o.0.0, part_known _ i a h p o.0.1 e)
  known_parts i (node.If a b c) h p e o = (part_known _ i a h p.0 o.0.0 e.0, part_known _ i b h p.1 o.0.1 e.1, part_known _ i c h p.2 o.0.2 e.2)
  known_parts i (node.Eq a b) h p e o = (part_known _ i a h p.0 o.0.1 e.0, part_known _ i b h p.1 o.0.2 e.1)

  pub known_parts_at : (i : ℕ) (n : Node) → IsNode s i → tree_at s i ≡ node_tree s n → HasParts i (length s.refs) (shape_of n) → EachName P (tree_at s i) → IsSorted (tree_at s i) → HasKnownParts s P n
  known_parts_at i n h t p e o = known_parts i n h p (subst (EachName P) t e) (subst IsSorted t o)
