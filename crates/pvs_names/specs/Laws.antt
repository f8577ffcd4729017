-- Laws of names.
use Rattle.std.specs.Prelude.{◌≡◌, ◌⊎◌, ℕ, Bool, if◌then◌else◌, Option, Some, List, [], ◌∷◌, ◌++◌, Result, Ok, Err, suc, ◌≤◌, length}
use Rattle.pvs_base.specs.declared.code.Code.{Code}
use Rattle.pvs_base.specs.declared.code.Code.TheVariants.{Unknown, Ambiguous}
use Rattle.pvs_terms.specs.Tree.{Text, Ref, Own}
use Rattle.pvs_sig.specs.Signature.{Signature, Entry, Import, Kind}
use Rattle.pvs_sig.specs.Development.{Development, In, kind_of}
use Rattle.pvs_sig.specs.Scope.{scope}
use Rattle.pvs_names.specs.declared.kind.NameKind.{NameKind}
use Rattle.pvs_names.specs.declared.kind.NameKind.TheVariants.{FormulaName}
use Rattle.pvs_names.specs.Members.{Member, is_called, find, member_of, name_kind}
use Rattle.pvs_names.specs.Resolve.{Qualifier, find_plain, is_own, is_imported, or_else, resolve, visible_members}

-- what an index keeps for a kind and a name, after one more member of them: nothing, then one, then several
abbrev pub one_more : Result Ref Code → Ref → Result Ref Code
one_more (Err Unknown) r = Ok r
one_more q r = Err Ambiguous

-- An index from kinds and names to what `find` gives is right after one more member: only at that kind and name has it
-- another value.
abbrev pub IndexesKeepNames : Type 0
IndexesKeepNames = (is : Ref → Bool) (kind : NameKind) (name : Text) (ms : List Member) (m : Member)
    → find is kind name (ms ++ m ∷ []) ≡ (if is_called is kind name m then one_more (find is kind name ms) m.reference else find is kind name ms)

-- a plain name over one more own member, or one more that an importing brings, is answered from the two indexes
abbrev pub PlainNamesAreIndexed : Type 0
PlainNamesAreIndexed = (kind : NameKind) (name : Text) (ms : List Member) (m : Member)
    → find_plain kind name (ms ++ m ∷ []) ≡ or_else
    (if is_called is_own kind name m then one_more (find is_own kind name ms) m.reference else find is_own kind name ms)
    (if is_called is_imported kind name m then one_more (find is_imported kind name ms) m.reference else find is_imported kind name ms)

-- a name of a type or of a constant stands for a reference of the scope
abbrev pub ResolvedAreVisible : Type 0
ResolvedAreVisible = (d : Development) (s : Signature) (i : ℕ) (kind : NameKind) (q : Option Qualifier) (name : Text) (r : Ref)
    → resolve d s i kind q name ≡ Ok r → In r (scope d s i) ⊎ (kind ≡ FormulaName)

-- a member that stands for r
abbrev pub IsOf : Ref → Member → Type 0
IsOf r m = m.reference ≡ r

-- what a name stands for is declared, with this kind and this name
abbrev pub ResolvedAreNamed : Type 0
ResolvedAreNamed = (d : Development) (s : Signature) (i : ℕ) (kind : NameKind) (q : Option Qualifier) (name : Text) (r : Ref)
    → resolve d s i kind q name ≡ Ok r → (m : Member) × (member_of d s r ≡ m ∷ []) × (m.kind ≡ kind) × (m.name ≡ name)

-- and it is a thing of that kind
abbrev pub ResolvedHaveKinds : Type 0
ResolvedHaveKinds = (d : Development) (s : Signature) (i : ℕ) (kind : NameKind) (q : Option Qualifier) (name : Text) (r : Ref)
    → resolve d s i kind q name ≡ Ok r → (k : Kind) × (kind_of d s r ≡ Some k) × (name_kind k ≡ kind)

-- the signature with one more entry
abbrev pub with_entry : Signature → Entry → Signature
with_entry s e = record { name = s.name; formals = s.formals; entries = s.entries ++ e ∷ []; imports = s.imports }

-- the place after a new entry sees one more member, that of the entry
abbrev pub MembersGrow : Type 0
MembersGrow = (d : Development) (s : Signature) (e : Entry) → ((x : Import) → In x s.imports → x.place ≤ length s.entries)
    → visible_members d (with_entry s e) (suc (length s.entries)) ≡ visible_members d s (length s.entries) ++ record { name = e.name; kind = name_kind e.kind; reference = Own (length s.entries) } ∷ []
