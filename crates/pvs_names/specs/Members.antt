-- What names are looked up in: the references of a scope, each with the name and the kind of what it stands for.
use Rattle.std.specs.Prelude.{ℕ, Bool, true, false, ◌&&◌, Option, Some, None, List, [], ◌∷◌, ◌++◌, bytes_eq, slice_get, Result, Ok, Err}
use Rattle.std.specs.List.{filter}
use Rattle.pvs_base.specs.declared.code.Code.{Code}
use Rattle.pvs_base.specs.declared.code.Code.TheVariants.{Unknown, Ambiguous}
use Rattle.pvs_terms.specs.Tree.{Text, Ref, Own, Formal, Inst}
use Rattle.pvs_sig.specs.Signature.{Signature, FormalSig, Entry, Kind, TypeSig, ConstSig, VarSig, FormulaSig, formal_kind}
use Rattle.pvs_sig.specs.Development.{Development, theory_named}
use Rattle.pvs_names.specs.declared.kind.NameKind.{NameKind}
use Rattle.pvs_names.specs.declared.kind.NameKind.TheVariants.{TypeName, Constant, FormulaName}

pub record Member : Type 0 where
  pub name : Text
  pub kind : NameKind
  pub reference : Ref

-- constants and VARs are of one kind
abbrev pub name_kind : Kind → NameKind
name_kind (TypeSig b body) = TypeName
name_kind (ConstSig t body) = Constant
name_kind (VarSig t) = Constant
name_kind (FormulaSig c t o) = FormulaName

-- the entry of this number, of a theory that may be absent
abbrev pub entry_in : Option Signature → ℕ → Option Entry
entry_in None n = None
entry_in (Some s) n = slice_get s.entries n

abbrev pub of_entry : Ref → Option Entry → List Member
of_entry r None = []
of_entry r (Some e) = record { name = e.name; kind = name_kind e.kind; reference = r } ∷ []

abbrev pub of_formal : Ref → Option FormalSig → List Member
of_formal r None = []
of_formal r (Some f) = record { name = f.name; kind = name_kind (formal_kind f); reference = r } ∷ []

-- a reference in the terms of s, where the theories of d stand: one member, and none where nothing is declared
abbrev pub member_of : Development → Signature → Ref → List Member
member_of d s (Own n) = of_entry (Own n) (slice_get s.entries n)
member_of d s (Formal n) = of_formal (Formal n) (slice_get s.formals n)
member_of d s (Inst th n xs) = of_entry (Inst th n xs) (entry_in (theory_named d th) n)

abbrev pub members : Development → Signature → List Ref → List Member
members d s [] = []
members d s (r ∷ rs) = member_of d s r ++ members d s rs

abbrev pub kind_eq : NameKind → NameKind → Bool
kind_eq TypeName TypeName = true
kind_eq Constant Constant = true
kind_eq FormulaName FormulaName = true
kind_eq _ _ = false

-- whether a member has this kind and this name, and a reference that passes the test
abbrev pub is_called : (Ref → Bool) → NameKind → Text → Member → Bool
is_called is kind name m = is m.reference && (kind_eq kind m.kind && bytes_eq name m.name)

-- the only one, or none, or too many
abbrev pub the_one : List Member → Result Ref Code
the_one [] = Err Unknown
the_one (m ∷ []) = Ok m.reference
the_one (m ∷ n ∷ ms) = Err Ambiguous

-- the one member of this kind and name whose reference passes the test
abbrev pub find : (Ref → Bool) → NameKind → Text → List Member → Result Ref Code
find is kind name ms = the_one (filter (is_called is kind name) ms)
