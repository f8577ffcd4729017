-- What an index of names becomes where an entry or a formal is added.
use Rattle.std.specs.Prelude.{◌≡◌, ℕ, suc, Option, Some, None, cond, eqb, bytes_eq, List, [], ◌∷◌, ◌++◌}
use Rattle.pvs_terms.specs.Tree.{Text}
use Rattle.pvs_terms.specs.Stored.{Stored}
use Rattle.pvs_sig.specs.declared.signature.EntryKind.{EntryKind}
use Rattle.pvs_sig.specs.declared.signature.EntryKind.TheVariants as numbers
use Rattle.pvs_names.specs.declared.kind.NameKind.{NameKind}
use Rattle.pvs_names.specs.declared.kind.NameKind.TheVariants.{TypeName, Constant, FormulaName}
use Rattle.pvs_names.specs.declared.key.Key.{Key}
use Rattle.pvs_names.specs.declared.index.Found.{Found}
use Rattle.pvs_names.specs.Members.{Member}
use Rattle.pvs_names.specs.code.Index.{Indexes, IsMemberOf, IsFormal, IsOwnEntry}
use Rattle.pvs_scope.specs.declared.place.PlaceNames.{PlaceNames}
use Rattle.pvs_scope.specs.code.Tables.{name_of, type_of}

abbrev pub entry_name_kind : EntryKind → NameKind
entry_name_kind (numbers.TypeSig b body) = TypeName
entry_name_kind (numbers.ConstSig t body) = Constant
entry_name_kind (numbers.VarSig t) = Constant
entry_name_kind (numbers.FormulaSig c t o) = FormulaName

abbrev pub formal_name_kind : Option ℕ → NameKind
formal_name_kind None = TypeName
formal_name_kind (Some t) = Constant

abbrev pub variable_type : EntryKind → Option ℕ
variable_type (numbers.TypeSig b body) = None
variable_type (numbers.ConstSig t body) = None
variable_type (numbers.VarSig t) = Some t
variable_type (numbers.FormulaSig c t o) = None

-- the types of VARs with one more, where it is one
abbrev pub with_variable : Option ℕ → ℕ → (ℕ → Option ℕ) → ℕ → Option ℕ
with_variable None r f q = f q
with_variable (Some t) r f q = cond (eqb r q) (Some t) (f q)

-- the names of texts with one more
abbrev pub AddsText : Text → ℕ → (Text → Option ℕ) → (Text → Option ℕ) → Type 0
AddsText text name old new = (x : Text) → new x ≡ cond (bytes_eq text x) (Some name) (old x)

abbrev pub AddsEntryMember : NameKind → ℕ → ℕ → List (Key × Found) → List (Key × Found) → Type 0
AddsEntryMember kind name r old new = (s : Stored) (ms : List Member) (m : Member) → IsMemberOf s kind name r m → IsOwnEntry m.reference → Indexes s old ms → Indexes s new (ms ++ m ∷ [])

abbrev pub AddsFormalMember : NameKind → ℕ → ℕ → List (Key × Found) → List (Key × Found) → Type 0
AddsFormalMember kind name r old new = (s : Stored) (ms : List Member) (m : Member) → IsMemberOf s kind name r m → IsFormal m.reference → Indexes s old ms → Indexes s new (ms ++ m ∷ [])

-- one more entry, of this name, kind and reference
pub record AddsEntry (text : Text) (name : ℕ) (kind : EntryKind) (r : ℕ) (old new : PlaceNames) : Type 0 where
  pub formals : new.formals ≡ old.formals
  pub entries : new.entries ≡ suc old.entries
  pub texts : AddsText text name (name_of old.texts) (name_of new.texts)
  pub visible : AddsEntryMember (entry_name_kind kind) name r old.visible new.visible
  pub variables : (q : ℕ) → type_of new.variables q ≡ with_variable (variable_type kind) r (type_of old.variables) q

-- one more formal, of this name, kind and reference
pub record AddsFormal (text : Text) (name : ℕ) (kind : NameKind) (r : ℕ) (old new : PlaceNames) : Type 0 where
  pub formals : new.formals ≡ suc old.formals
  pub entries : new.entries ≡ old.entries
  pub texts : AddsText text name (name_of old.texts) (name_of new.texts)
  pub visible : AddsFormalMember kind name r old.visible new.visible
  pub variables : new.variables ≡ old.variables
