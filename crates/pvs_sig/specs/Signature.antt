-- The signature of a theory as a mathematical object: trees and texts, apart from any store.
use Rattle.std.specs.Prelude.{ℕ, Bool, Option, Some, None, List, [], slice_get, option_map}
use Rattle.pvs_terms.specs.Tree.{Text, Tree, Trees}
use Rattle.pvs_terms.specs.declared.shape.Sort.{Sort}
use Rattle.pvs_terms.specs.declared.shape.Sort.TheVariants.{OfType, OfTerm}
use Rattle.pvs_subst.specs.Instance.{instantiate}
use Rattle.pvs_sig.specs.declared.signature.Class.{Class}

-- what an entry or a formal is: a type, declared nonempty or not, with its body; a constant with its type and
-- its body; a variable with its type; a formula with its class and its owner
pub data Kind : Type 0 where
  TypeSig : Bool → Option Tree → Kind
  ConstSig : Tree → Option Tree → Kind
  VarSig : Tree → Kind
  FormulaSig : Class → Tree → ℕ → Kind

-- a formal type has no `ty`
pub record FormalSig : Type 0 where
  pub name : Text
  pub nonempty : Bool
  pub ty : Option Tree

pub record Entry : Type 0 where
  pub name : Text
  pub kind : Kind

-- an importing of an instance; `place` is the number of entries before it
pub record Import : Type 0 where
  pub theory : Text
  pub actuals : Trees
  pub place : ℕ

pub record Signature : Type 0 where
  pub name : Text
  pub formals : List FormalSig
  pub entries : List Entry
  pub imports : List Import

abbrev pub entry_kind : Entry → Kind
entry_kind e = e.kind

-- a formal is a type or a constant without a body
abbrev pub unbound_kind : Bool → Option Tree → Kind
unbound_kind b None = TypeSig b None
unbound_kind b (Some t) = ConstSig t None

abbrev pub formal_kind : FormalSig → Kind
formal_kind f = unbound_kind f.nonempty f.ty

abbrev pub sort_by_type : Option Tree → Sort
sort_by_type None = OfType
sort_by_type (Some t) = OfTerm

abbrev pub formal_sort : FormalSig → Sort
formal_sort f = sort_by_type f.ty

-- what the entry of this number is, and what the formal of this number is
abbrev pub kind_at : Signature → ℕ → Option Kind
kind_at s n = option_map entry_kind (slice_get s.entries n)

abbrev pub formal_at : Signature → ℕ → Option Kind
formal_at s n = option_map formal_kind (slice_get s.formals n)

-- of a theory that may be absent
abbrev pub kind_in : Option Signature → ℕ → Option Kind
kind_in None n = None
kind_in (Some s) n = kind_at s n

abbrev pub formals_in : Option Signature → List FormalSig
formals_in None = []
formals_in (Some s) = s.formals

-- a kind in the instance of the theory `th` with these actuals
abbrev pub instantiate_option : Option Tree → Text → Trees → Option Tree
instantiate_option None th acts = None
instantiate_option (Some t) th acts = Some (instantiate t th acts)

abbrev pub instantiate_kind : Kind → Text → Trees → Kind
instantiate_kind (TypeSig b body) th acts = TypeSig b (instantiate_option body th acts)
instantiate_kind (ConstSig t body) th acts = ConstSig (instantiate t th acts) (instantiate_option body th acts)
instantiate_kind (VarSig t) th acts = VarSig (instantiate t th acts)
instantiate_kind (FormulaSig c t o) th acts = FormulaSig c (instantiate t th acts) o

abbrev pub instantiate_found : Option Kind → Text → Trees → Option Kind
instantiate_found None th acts = None
instantiate_found (Some k) th acts = Some (instantiate_kind k th acts)
