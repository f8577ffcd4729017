-- What is known of the parts of a known tree.
use Rattle.std.specs.Prelude.{◌≤◌}
use Rattle.pvs_terms.specs.Tree.{Ref}
use Rattle.pvs_terms.specs.declared.node.Node.{Node}
use Rattle.pvs_terms.specs.declared.node.Node.TheVariants as node
use Rattle.pvs_terms.specs.declared.shape.Sort.{Sort}
use Rattle.pvs_terms.specs.declared.shape.Sort.TheVariants.{OfType, OfTerm}
use Rattle.pvs_terms.specs.Stored.{Stored, IsRef, ref_at}
use Rattle.pvs_typing.specs.Growth.{IsKnown}

-- the parts of the node are known, each of the sort that its place needs; a name is declared
abbrev pub HasKnownParts : Stored → (Sort → Ref → Type 0) → Node → Type 0
HasKnownParts s P node.TBool = Unit {0}
HasKnownParts s P (node.TName r) = IsRef s r × P OfType (ref_at s r)
HasKnownParts s P (node.TSub a p) = IsKnown s P OfType a × IsKnown s P OfTerm p
HasKnownParts s P (node.TFun a b) = IsKnown s P OfType a × IsKnown s P OfType b
HasKnownParts s P (node.TPair k a b) = (2 ≤ k) × IsKnown s P OfType a × IsKnown s P OfType b
HasKnownParts s P (node.Var n) = Unit {0}
HasKnownParts s P (node.Const r) = IsRef s r × P OfTerm (ref_at s r)
HasKnownParts s P node.True = Unit {0}
HasKnownParts s P node.False = Unit {0}
HasKnownParts s P (node.Lam a b) = IsKnown s P OfType a × IsKnown s P OfTerm b
HasKnownParts s P (node.App a b) = IsKnown s P OfTerm a × IsKnown s P OfTerm b
HasKnownParts s P (node.Tup k a b) = (2 ≤ k) × IsKnown s P OfTerm a × IsKnown s P OfTerm b
HasKnownParts s P (node.Fst k a) = (2 ≤ k) × IsKnown s P OfTerm a
HasKnownParts s P (node.Snd k a) = (2 ≤ k) × IsKnown s P OfTerm a
HasKnownParts s P (node.If a b c) = IsKnown s P OfTerm a × IsKnown s P OfTerm b × IsKnown s P OfTerm c
HasKnownParts s P (node.Eq a b) = IsKnown s P OfTerm a × IsKnown s P OfTerm b
