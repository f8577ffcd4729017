-- What is seen of a store, and what holds of it.
use Rattle.std.specs.Prelude.{◌≡◌, ℕ, ◌<◌, List, [], ◌∷◌, map, length, slice_index_or}
use Rattle.pvs_terms.specs.Tree.{Text, IsWithinLimits, Const, AreClosed, ref_actuals}
use Rattle.std.specs.Map.{keys_of}
use Rattle.pvs_terms.specs.code.Refs.{RefEntry}
use Rattle.pvs_terms.specs.Stored.{Stored, Reference, theory_in, tree_at, ref_at, HasParts, KindIn, MayHave, IsNode, IsRef, node_tree, given_ref, AllBelow}
use Rattle.pvs_terms.specs.declared.measure.Measure.{Measure}
use Rattle.pvs_terms.specs.declared.node.RefKind.{RefKind}
use Rattle.pvs_terms.specs.declared.node.Node.{Node}
use Rattle.pvs_terms.specs.declared.shape.Shape.{Shape}
use Rattle.pvs_terms.specs.declared.shape.Shape.TheVariants as shape
use Rattle.pvs_terms.specs.code.Shapes.{shape_of}
use Rattle.pvs_terms.specs.code.Measures.{measure_of, ref_measure}
use Rattle.pvs_terms.specs.Sorts.{IsSorted, IsSortedRef}

abbrev pub reference_of : List Text → RefEntry → Reference
reference_of ts r = record { kind = r.0.kind; theory = theory_in ts r.0.kind; actuals = r.0.actuals }

abbrev pub stored : List Text → List (Node × Measure) → List RefEntry → Stored
stored ts es rs = record { names = ts; nodes = keys_of es; refs = map (reference_of ts) rs }

-- an entry is right about the tree that it stands for, and its parts are older
pub record IsRight (s : Stored) (i : ℕ) (e : Node × Measure) : Type 0 where
  pub tree : tree_at s i ≡ node_tree s e.0
  pub parts : HasParts i (length s.refs) (shape_of e.0)
  pub measure : e.1 ≡ measure_of (tree_at s i)
  pub fits : IsWithinLimits (tree_at s i)

-- the actuals of references are nodes
abbrev pub ActualsBelow : ℕ → List Reference → Type 0
ActualsBelow n [] = Unit {0}
ActualsBelow n (r ∷ rs) = AllBelow n r.actuals × ActualsBelow n rs

-- the references in these nodes are of the store
abbrev pub NameBelow : ℕ → Shape → Type 0
NameBelow r (shape.Leaf o) = Unit {0}
NameBelow r (shape.Index n) = Unit {0}
NameBelow r (shape.Name s x) = x < r
NameBelow r (shape.Bind o a b) = Unit {0}
NameBelow r (shape.Join o a b) = Unit {0}
NameBelow r (shape.Project o a) = Unit {0}
NameBelow r (shape.Choose a b c) = Unit {0}

abbrev pub NamesBelow : ℕ → List Node → Type 0
NamesBelow r [] = Unit {0}
NamesBelow r (n ∷ ns) = NameBelow r (shape_of n) × NamesBelow r ns

-- an entry is right about the reference that it stands for
pub record IsRightRef (s : Stored) (r : ℕ) (e : RefEntry) : Type 0 where
  pub measure : e.1 ≡ ref_measure (ref_at s r)
  pub kind : KindIn s e.0.kind
  pub may_have : MayHave e.0.kind e.0.actuals
  pub closed : AreClosed (ref_actuals (ref_at s r))
  pub fits : IsWithinLimits (Const (ref_at s r))

-- what holds of the lists of a store; equal trees and equal references have equal numbers
pub record IsSound (ts : List Text) (es : List (Node × Measure)) (rs : List RefEntry) : Type 0 where
  pub actuals : ActualsBelow (length (stored ts es rs).nodes) (stored ts es rs).refs
  pub names : NamesBelow (length (stored ts es rs).refs) (stored ts es rs).nodes
  pub sorted : (i : ℕ) → i < length (stored ts es rs).nodes → IsSorted (tree_at (stored ts es rs) i)
  pub sorted_refs : (r : ℕ) → r < length (stored ts es rs).refs → IsSortedRef (ref_at (stored ts es rs) r)
  pub distinct_nodes : (i j : ℕ) → IsNode (stored ts es rs) i → IsNode (stored ts es rs) j → tree_at (stored ts es rs) i ≡ tree_at (stored ts es rs) j → i ≡ j
  pub distinct : (r q : ℕ) → r < length rs → q < length rs → ref_at (stored ts es rs) r ≡ ref_at (stored ts es rs) q → r ≡ q
  pub nodes : (i : ℕ) (e : Node × Measure) → i < length es → e ≡ slice_index_or es i e → IsRight (stored ts es rs) i e
  pub refs : (r : ℕ) (e : RefEntry) → r < length rs → e ≡ slice_index_or rs r e → IsRightRef (stored ts es rs) r e

-- a reference that may be added
pub record IsNew (s : Stored) (k : RefKind) (acts : List ℕ) (m : Measure) : Type 0 where
  pub kind : KindIn s k
  pub may_have : MayHave k acts
  pub actuals : AllBelow (length s.nodes) acts
  pub closed : AreClosed (ref_actuals (given_ref s k acts))
  pub measure : m ≡ ref_measure (given_ref s k acts)
  pub fits : IsWithinLimits (Const (given_ref s k acts))
  pub fresh : (r : ℕ) → IsRef s r → ref_at s r ≡ given_ref s k acts → ⊥
