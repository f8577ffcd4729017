-- The signature that the numbers of a store stand for.
use Rattle.std.specs.Prelude.{◌≡◌, ℕ, Option, Some, None, List, [], ◌∷◌, map}
use Rattle.pvs_terms.specs.Tree.{Tree}
use Rattle.pvs_terms.specs.Stored.{Stored, tree_at, trees_at, text_at, IsNode, IsName, AreNodes, Extends}
use Rattle.pvs_sig.specs.declared.signature.EntryKind.{EntryKind}
use Rattle.pvs_sig.specs.declared.signature.EntryKind.TheVariants as numbers
use Rattle.pvs_sig.specs.declared.signature.Entry as entry
use Rattle.pvs_sig.specs.declared.signature.FormalSig as formal
use Rattle.pvs_sig.specs.declared.signature.Import as import
use Rattle.pvs_sig.specs.declared.signature.Signature as signature
use Rattle.pvs_sig.specs.Signature.{Kind, TypeSig, ConstSig, VarSig, FormulaSig, FormalSig, Entry, Import, Signature}

abbrev pub option_at : Stored → Option ℕ → Option Tree
option_at s None = None
option_at s (Some i) = Some (tree_at s i)

abbrev pub entry_kind_at : Stored → EntryKind → Kind
entry_kind_at s (numbers.TypeSig b body) = TypeSig b (option_at s body)
entry_kind_at s (numbers.ConstSig t body) = ConstSig (tree_at s t) (option_at s body)
entry_kind_at s (numbers.VarSig t) = VarSig (tree_at s t)
entry_kind_at s (numbers.FormulaSig c t o) = FormulaSig c (tree_at s t) o

abbrev pub entry_at : Stored → entry.Entry → Entry
entry_at s e = record { name = text_at s e.name; kind = entry_kind_at s e.kind }

abbrev pub formal_sig_at : Stored → formal.FormalSig → FormalSig
formal_sig_at s f = record { name = text_at s f.name; nonempty = f.nonempty; ty = option_at s f.ty }

abbrev pub import_at : Stored → import.Import → Import
import_at s x = record { theory = text_at s x.theory; actuals = trees_at s x.actuals.items; place = x.place }

abbrev pub signature_at : Stored → signature.Signature → Signature
signature_at s g = record { name = text_at s g.name; formals = map (formal_sig_at s) g.formals.items; entries = map (entry_at s) g.entries.items; imports = map (import_at s) g.imports.items }

-- the numbers of a signature are of the store
abbrev pub OptionIn : Stored → Option ℕ → Type 0
OptionIn s None = Unit {0}
OptionIn s (Some i) = IsNode s i

abbrev pub EntryKindIn : Stored → EntryKind → Type 0
EntryKindIn s (numbers.TypeSig b body) = OptionIn s body
EntryKindIn s (numbers.ConstSig t body) = IsNode s t × OptionIn s body
EntryKindIn s (numbers.VarSig t) = IsNode s t
EntryKindIn s (numbers.FormulaSig c t o) = IsNode s t

abbrev pub EntryIn : Stored → entry.Entry → Type 0
EntryIn s e = IsName s e.name × EntryKindIn s e.kind

abbrev pub FormalIn : Stored → formal.FormalSig → Type 0
FormalIn s f = IsName s f.name × OptionIn s f.ty

abbrev pub ImportIn : Stored → import.Import → Type 0
ImportIn s x = IsName s x.theory × AreNodes s x.actuals.items

abbrev pub AllIn : {A : Type 0} → (A → Type 0) → List A → Type 0
AllIn P [] = Unit {0}
AllIn P (x ∷ xs) = P x × AllIn P xs

pub record SignatureIn (s : Stored) (g : signature.Signature) : Type 0 where
  pub name : IsName s g.name
  pub formals : AllIn (FormalIn s) g.formals.items
  pub entries : AllIn (EntryIn s) g.entries.items
  pub imports : AllIn (ImportIn s) g.imports.items

-- a later store leaves a signature as it was
abbrev pub LaterStoresKeep : Type 0
LaterStoresKeep = (old new : Stored) (g : signature.Signature) → Extends old new → SignatureIn old g → SignatureIn new g × (signature_at new g ≡ signature_at old g)
