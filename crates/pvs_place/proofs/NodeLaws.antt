-- Trees that are made of known ones.
use Rattle.std.proofs.Common.{ℕ, refl, ◌∙◌}
use Rattle.std.specs.Prelude.{Result, Ok, Err, IfOk}
use Rattle.pvs_terms.specs.Tree.{Ref}
use Rattle.pvs_terms.specs.declared.node.Node.{Node}
use Rattle.pvs_terms.specs.declared.node.Node.TheVariants as node
use Rattle.pvs_terms.specs.declared.shape.Sort.{Sort}
use Rattle.pvs_terms.specs.declared.shape.Sort.TheVariants.{OfTerm}
use Rattle.pvs_terms.specs.Sorts.{sort_of, HasSorts}
use Rattle.pvs_terms.specs.Stored.{Stored, PartsIn, Stands, node_tree, tree_at}
use Rattle.pvs_subst.specs.Replace.{lift, put_in}
use Rattle.pvs_subst.proofs.SortLaws.{sort_of-lift}
use Rattle.pvs_sig.specs.Development.{Development}
use Rattle.pvs_sig.specs.Lookups.{Lookups}
use Rattle.pvs_typing.specs.Growth.{EachName, IsKnown, Keeps}
use Rattle.pvs_typing.specs.Answers.{Gives}
use Rattle.pvs_typing.specs.Nodes.{HasKnownParts}
use Rattle.pvs_typing.proofs.GrowthLaws.{each_weaker, each-lift}
use Rattle.pvs_typing.proofs.PartLaws.{stands_gives, put_gives}

module _ (s : Stored) (P : Sort → Ref → Type 0) where
  pub parts_in : (n : Node) → HasKnownParts s P n → PartsIn s n
  parts_in node.TBool h = tt
  parts_in (node.TName r) h = h.0
  parts_in (node.TSub a b) h = (h.0.node, h.1.node)
  parts_in (node.TFun a b) h = (h.0.node, h.1.node)
  parts_in (node.TPair k a b) h = (h.1.node, h.2.node)
  parts_in (node.Var n) h = tt
  parts_in (node.Const r) h = h.0
  parts_in node.True h = tt
  parts_in node.False h = tt
  parts_in (node.Lam a b) h = (h.0.node, h.1.node)
  parts_in (node.App a b) h = (h.0.node, h.1.node)
  parts_in (node.Tup k a b) h = (h.1.node, h.2.node)
  parts_in (node.Fst k a) h = h.1.node
  parts_in (node.Snd k a) h = h.1.node
  parts_in (node.If a b c) h = (h.0.node, h.1.node, h.2.node)
  parts_in (node.Eq a b) h = (h.0.node, h.1.node)

  pub parts_sorted : (n : Node) → HasKnownParts s P n → HasSorts (node_tree s n)
  parts_sorted node.TBool h = tt
  parts_sorted (node.TName r) h = tt
  parts_sorted (node.TSub a b) h = (tt, h.0.sort, h.1.sort)
  parts_sorted (node.TFun a b) h = (tt, h.0.sort, h.1.sort)
  parts_sorted (node.TPair k a b) h = (h.0, h.1.sort, h.2.sort)
  parts_sorted (node.Var n) h = tt
  parts_sorted (node.Const r) h = tt
  parts_sorted node.True h = tt
  parts_sorted node.False h = tt
  parts_sorted (node.Lam a b) h = (tt, h.0.sort, h.1.sort)
  parts_sorted (node.App a b) h = (tt, h.0.sort, h.1.sort)
  parts_sorted (node.Tup k a b) h = (h.0, h.1.sort, h.2.sort)
  parts_sorted (node.Fst k a) h = (h.0, h.1.sort)
  parts_sorted (node.Snd k a) h = (h.0, h.1.sort)
  parts_sorted (node.If a b c) h = (h.0.sort, h.1.sort, h.2.sort)
  parts_sorted (node.Eq a b) h = (tt, h.0.sort, h.1.sort)

  parts_named : (n : Node) → HasKnownParts s P n → EachName P (node_tree s n)
  parts_named node.TBool h = tt
  parts_named (node.TName r) h = h.1
  parts_named (node.TSub a b) h = (h.0.names, h.1.names)
  parts_named (node.TFun a b) h = (h.0.names, h.1.names)
  parts_named (node.TPair k a b) h = (h.1.names, h.2.names)
  parts_named (node.Var n) h = tt
  parts_named (node.Const r) h = h.1
  parts_named node.True h = tt
  parts_named node.False h = tt
  parts_named (node.Lam a b) h = (h.0.names, h.1.names)
  parts_named (node.App a b) h = (h.0.names, h.1.names)
  parts_named (node.Tup k a b) h = (h.1.names, h.2.names)
  parts_named (node.Fst k a) h = h.1.names
  parts_named (node.Snd k a) h = h.1.names
  parts_named (node.If a b c) h = (h.0.names, h.1.names, h.2.names)
  parts_named (node.Eq a b) h = (h.0.names, h.1.names)

pub node_gives : {s t : Stored} {P Q : Sort → Ref → Type 0} {l m : Lookups} {D E : Development} (n : Node) (i : ℕ) → Keeps s P l t Q m D E → HasKnownParts s P n → Stands t (node_tree s n) i → Gives t Q (sort_of (node_tree s n)) (node_tree s n) i
node_gives {s} {t} {P} {Q} n i k h x = stands_gives t Q (sort_of (node_tree s n)) (node_tree s n) i refl (each_weaker P Q (node_tree s n) k.declared (parts_named s P n h)) x

pub lift_gives : {s t : Stored} {P Q : Sort → Ref → Type 0} {l m : Lookups} {D E : Development} (o : Sort) (by i j : ℕ) → Keeps s P l t Q m D E → IsKnown s P o i → Stands t (lift (tree_at s i) by 0) j → Gives t Q o (lift (tree_at s i) by 0) j
lift_gives {s} {t} {P} {Q} o by i j k h x = stands_gives t Q o (lift (tree_at s i) by 0) j (sort_of-lift (tree_at s i) by 0 ∙ h.sort)
    (each-lift Q (tree_at s i) by 0 (each_weaker P Q (tree_at s i) k.declared h.names)) x

-- the answers of the calls that make them
module _ {A : Type 0} {s t : Stored} {P Q : Sort → Ref → Type 0} {l m : Lookups} {D E : Development} (k : Keeps s P l t Q m D E) where
  pub node_answer : (n : Node) (r : Result ℕ A) → HasKnownParts s P n → IfOk r (Stands t (node_tree s n)) → IfOk r (Gives t Q (sort_of (node_tree s n)) (node_tree s n))
  node_answer n (Ok i) h x = node_gives n i k h x
  node_answer n (Err e) h x = tt

  pub lift_answer : (o : Sort) (by i : ℕ) (r : Result ℕ A) → IsKnown s P o i → IfOk r (Stands t (lift (tree_at s i) by 0)) → IfOk r (Gives t Q o (lift (tree_at s i) by 0))
  lift_answer o by i (Ok j) h x = lift_gives o by i j k h x
  lift_answer o by i (Err e) h x = tt

  pub put_answer : (o : Sort) (i a : ℕ) (r : Result ℕ A) → IsKnown s P o i → IsKnown s P OfTerm a → IfOk r (Stands t (put_in (tree_at s i) (tree_at s a))) → IfOk r (Gives t Q o (put_in (tree_at s i) (tree_at s a)))
  put_answer o i a (Ok j) h u x = put_gives o i a j k h u x
  put_answer o i a (Err e) h u x = tt
