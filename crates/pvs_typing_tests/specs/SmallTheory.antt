-- A theory for tests: a type that is defined as BOOLEAN, and a constant of that type.
use Rattle.std.specs.Prelude.{◌≡◌, ℕ, false, Some, None, [], ◌∷◌}
use Rattle.pvs_terms.specs.Tree.{Text, Own, TBool, TName, Const}
use Rattle.pvs_terms.specs.Stored.{Stored, IsNode, tree_at}
use Rattle.pvs_sig.specs.declared.signature.EntryKind.TheVariants as kinds
use Rattle.pvs_sig.specs.declared.signature.Signature as numbers
use Rattle.pvs_sig.specs.Signature.{Signature, TypeSig, ConstSig}

-- the numbers of its trees
pub record AreTrees (s : Stored) (boolean ty constant : ℕ) : Type 0 where
  pub boolean_in : IsNode s boolean
  pub type_in : IsNode s ty
  pub constant_in : IsNode s constant
  pub boolean_is : tree_at s boolean ≡ TBool
  pub type_is : tree_at s ty ≡ TName (Own 0)
  pub constant_is : tree_at s constant ≡ Const (Own 1)

-- the signature by number
pub record IsTheoryOf (g : numbers.Signature) (theory boolean ty : ℕ) : Type 0 where
  pub name : g.name ≡ theory
  pub formals : g.formals.items ≡ []
  pub entries : g.entries.items ≡ record { name = theory; kind = kinds.TypeSig false (Some boolean) } ∷ record { name = theory; kind = kinds.ConstSig ty None } ∷ []
  pub imports : g.imports.items ≡ []

abbrev pub theory_of : Text → Signature
theory_of th = record {
  name = th;
  formals = [];
  entries = record { name = th; kind = TypeSig false (Some TBool) } ∷ record { name = th; kind = ConstSig (TName (Own 0)) None } ∷ [];
  imports = [];
}
