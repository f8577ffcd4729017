-- What is known of the trees that tests made, and of the names of the theory that they are printed in.
use Rattle.std.specs.Prelude.{◌≡◌, false, ℕ, ◌<◌, length, slice_index, List, [], ◌∷◌, Some, None}
use Rattle.pvs_terms.specs.Tree.{TBool, True}
use Rattle.pvs_terms.specs.Sorts.{HasSorts, sort_of}
use Rattle.pvs_terms.specs.declared.node.Node.{Node}
use Rattle.pvs_terms.specs.declared.shape.Sort.{Sort}
use Rattle.pvs_terms.specs.Stored.{Stored, IsName, IsNode, PartsIn, node_tree, tree_at}
use Rattle.pvs_sequent.specs.Numbered.{Numbered}
use Rattle.pvs_sequent.specs.Numbers.{IsSequent}
use Rattle.pvs_sig.specs.declared.signature.EntryKind.TheVariants as kinds
use Rattle.pvs_sig.specs.declared.signature.Signature as numbers

-- a number of a tree of this sort
pub record IsOf (s : Stored) (o : Sort) (i : ℕ) : Type 0 where
  pub node : IsNode s i
  pub sort : sort_of (tree_at s i) ≡ o

abbrev pub AllOf : Stored → Sort → List ℕ → Type 0
AllOf s o is = (k : ℕ) → k < length is → IsOf s o (slice_index is k)

-- a node that can be made, of this sort
pub record IsMakeable (s : Stored) (o : Sort) (n : Node) : Type 0 where
  pub parts : PartsIn s n
  pub sorted : HasSorts (node_tree s n)
  pub sort : sort_of (node_tree s n) ≡ o

-- the names of a theory, of its type formal and of its constant, and the trees of that
pub record AreNames (s : Stored) (theory formal constant : ℕ) : Type 0 where
  pub theory_in : IsName s theory
  pub formal_in : IsName s formal
  pub constant_in : IsName s constant

pub record AreTrees (s : Stored) (boolean truth : ℕ) : Type 0 where
  pub boolean_in : IsNode s boolean
  pub truth_in : IsNode s truth
  pub boolean_is : tree_at s boolean ≡ TBool
  pub truth_is : tree_at s truth ≡ True

-- a theory with a type formal and a constant that is defined as TRUE
pub record IsTheoryOf (g : numbers.Signature) (theory formal constant boolean truth : ℕ) : Type 0 where
  pub name : g.name ≡ theory
  pub formals : g.formals.items ≡ record { name = formal; nonempty = false; ty = None } ∷ []
  pub entries : g.entries.items ≡ record { name = constant; kind = kinds.ConstSig boolean (Some truth) } ∷ []
  pub imports : g.imports.items ≡ []

-- a sequent without variables, of an antecedent and a consequent
pub record IsSequentOf (s : Stored) (a b : ℕ) (q : Numbered) : Type 0 where
  pub nodes : IsSequent s q
  pub variables : length q.variables ≡ 0
