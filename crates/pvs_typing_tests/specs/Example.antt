-- Theories for tests: each constant has one type, one type's name has a body that is a subtype, each of the theory's
-- own types after the first is defined as the one before it, and all names are declared.
use Rattle.std.specs.Prelude.{◌≡◌, ℕ, zero, suc, ◌+◌, Option, true, false, if◌then◌else◌, Some, None, List, [], ◌<◌, length, slice_index}
use Rattle.pvs_terms.specs.Tree.{Tree, Ref, Own, Formal, Inst, TName, ref_eq}
use Rattle.pvs_terms.specs.Sorts.{IsType, HasSorts, sort_of}
use Rattle.pvs_terms.specs.declared.node.Node.{Node}
use Rattle.pvs_terms.specs.declared.shape.Sort.{Sort}
use Rattle.pvs_terms.specs.Stored.{Stored, IsNode, IsRef, PartsIn, node_tree, tree_at, ref_at}
use Rattle.pvs_sig.specs.Lookups.{Lookups, type_size}
use Rattle.pvs_typing.specs.State.{State}

-- the body of a type that is defined as the one before it
abbrev pub previous : Ref → Option Tree
previous (Own zero) = None
previous (Own (suc n)) = Some (TName (Own n))
previous (Formal n) = None
previous (Inst a n xs) = None

abbrev pub example_rank : Ref → ℕ
example_rank (Own n) = 2 + n
example_rank (Formal n) = 2
example_rank (Inst a n xs) = 2

abbrev pub example_lookups : Stored → ℕ → ℕ → ℕ → Lookups
example_lookups s a d b = record {
  type_of = λ r. Some (tree_at s a);
  body_of = λ r. if ref_eq r (ref_at s d) then Some (tree_at s b) else previous r;
  is_type = λ r. true;
  is_nonempty = λ r. false;
  rank = example_rank;
}

abbrev pub IsDeclared : Sort → Ref → Type 0
IsDeclared o r = Unit {0}

abbrev pub example_state : Stored → ℕ → ℕ → ℕ → State
example_state s a d b = record {
  stored = s;
  declares = λ n. IsDeclared;
  lookups = λ n. example_lookups s a d b;
  theories = [];
}

-- the type of constants, and a defined name whose body is a subtype of the truth values
pub record IsExample (s : Stored) (a d b : ℕ) : Type 0 where
  pub node : IsNode s a
  pub sort : IsType (tree_at s a)
  pub defined : IsRef s d
  pub body : IsNode s b
  pub body_sort : IsType (tree_at s b)
  pub small : type_size example_rank (tree_at s b) ≡ 2

-- a number of a tree of this sort
pub record IsOf (s : Stored) (o : Sort) (i : ℕ) : Type 0 where
  pub node : IsNode s i
  pub sort : sort_of (tree_at s i) ≡ o

abbrev pub AllOf : Stored → Sort → List ℕ → Type 0
AllOf s o is = (k : ℕ) → k < length is → IsOf s o (slice_index is k)

-- a node that can be made, of this sort
pub record IsMakeable (s : Stored) (o : Sort) (n : Node) : Type 0 where
  pub parts : PartsIn s n
  pub sorted : HasSorts (node_tree s n)
  pub sort : sort_of (node_tree s n) ≡ o
