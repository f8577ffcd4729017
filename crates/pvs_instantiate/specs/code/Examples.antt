-- The theory of the tests: a type formal, a constant of that type with a body, and a lemma.
use Rattle.std.specs.Prelude.{◌≡◌, ◌⊎◌, ℕ, false, Some, None, [], ◌∷◌}
use Rattle.pvs_terms.specs.Tree.{Text, Tree, Leaf, Formal, Inst, TBool, TName, True, False, none, more}
use Rattle.pvs_terms.specs.Sorts.{plain_sort}
use Rattle.pvs_terms.specs.declared.shape.Plain.{Plain}
use Rattle.pvs_terms.specs.declared.shape.Sort.{Sort}
use Rattle.pvs_terms.specs.declared.shape.Sort.TheVariants.{OfType, OfTerm}
use Rattle.pvs_terms.specs.Stored.{Stored, IsName, IsNode, IsRef, text_at, tree_at, ref_at}
use Rattle.pvs_sig.specs.declared.signature.Class.TheVariants.{Lemma}
use Rattle.pvs_sig.specs.declared.signature.EntryKind.TheVariants as kinds
use Rattle.pvs_sig.specs.declared.signature.Signature as numbers
use Rattle.pvs_sig.specs.Signature.{Signature, Kind, TypeSig, ConstSig, VarSig, FormulaSig, kind_at}
use Rattle.pvs_sig.specs.SignatureAt.{AllIn}
use Rattle.pvs_instantiate.specs.InstancesView.{InstancesView, development}

-- the type formal, BOOLEAN, TRUE or FALSE
abbrev pub IsSimple : Sort → Tree → Type 0
IsSimple o t = ((x : Plain) × (t ≡ Leaf x) × (plain_sort x ≡ o)) ⊎ ((t ≡ TName (Formal 0)) × (o ≡ OfType))

-- a constant with a body, or a lemma
abbrev pub IsSimpleKind : Kind → Type 0
IsSimpleKind (TypeSig b body) = ⊥
IsSimpleKind (ConstSig t None) = ⊥
IsSimpleKind (ConstSig t (Some b)) = IsSimple OfType t × IsSimple OfTerm b
IsSimpleKind (VarSig t) = ⊥
IsSimpleKind (FormulaSig c t o) = (c ≡ Lemma) × IsSimple OfTerm t

-- the numbers of the trees of the example
pub record AreExampleTrees (s : Stored) (boolean truth falsity formal : ℕ) : Type 0 where
  pub boolean_in : IsNode s boolean
  pub truth_in : IsNode s truth
  pub falsity_in : IsNode s falsity
  pub formal_in : IsNode s formal
  pub boolean_is : tree_at s boolean ≡ TBool
  pub truth_is : tree_at s truth ≡ True
  pub falsity_is : tree_at s falsity ≡ False
  pub formal_is : tree_at s formal ≡ TName (Formal 0)

-- references to its constant and to its lemma in the instance with BOOLEAN
pub record AreExampleRefs (s : Stored) (theory constant lemma : ℕ) : Type 0 where
  pub theory_in : IsName s theory
  pub constant_in : IsRef s constant
  pub lemma_in : IsRef s lemma
  pub constant_is : ref_at s constant ≡ Inst (text_at s theory) 0 (more TBool none)
  pub lemma_is : ref_at s lemma ≡ Inst (text_at s theory) 1 (more TBool none)

-- the signature by number
pub record IsExampleOf (g : numbers.Signature) (theory formal body formula : ℕ) : Type 0 where
  pub name : g.name ≡ theory
  pub formals : g.formals.items ≡ record { name = theory; nonempty = false; ty = None } ∷ []
  pub entries : g.entries.items ≡ record { name = theory; kind = kinds.ConstSig formal (Some body) } ∷ record { name = theory; kind = kinds.FormulaSig Lemma formula 0 } ∷ []
  pub imports : g.imports.items ≡ []

-- the signature, maybe with further entries
pub record IsExample (s : Signature) (theory : Text) : Type 0 where
  pub name : s.name ≡ theory
  pub formals : s.formals ≡ record { name = theory; nonempty = false; ty = None } ∷ []
  pub imports : s.imports ≡ []
  pub simple : AllIn (λ e. IsSimpleKind e.kind) s.entries
  pub ty : Tree
  pub body : Tree
  pub formula : Tree
  pub constant : kind_at s 0 ≡ Some (ConstSig ty (Some body))
  pub lemma : kind_at s 1 ≡ Some (FormulaSig Lemma formula 0)

-- the example is the one theory that stands
pub record HasExample (v : InstancesView) (theory : ℕ) : Type 0 where
  pub signature : Signature
  pub alone : development v ≡ signature ∷ []
  pub is : IsExample signature (text_at v.store theory)
