-- What an index of names keeps, and how it stands for the members of a scope.
use Rattle.std.specs.Prelude.{◌≡◌, ℕ, Bool, true, false, ◌&&◌, cond, nat_eq, Option, Some, None, List, [], ◌++◌, length, Result, Ok, Err}
use Rattle.std.specs.Map.{lookup}
use Rattle.pvs_base.specs.declared.code.Code.{Code}
use Rattle.pvs_base.specs.declared.code.Code.TheVariants.{Unknown, Ambiguous}
use Rattle.pvs_terms.specs.Tree.{Text, Ref, Own, Formal, Inst, Trees}
use Rattle.pvs_terms.specs.Stored.{Stored, ref_at, text_at, IsName, IsRef, Extends}
use Rattle.pvs_sig.specs.Signature.{Signature}
use Rattle.pvs_sig.specs.Development.{Development}
use Rattle.pvs_names.specs.declared.kind.NameKind.{NameKind}
use Rattle.pvs_names.specs.declared.key.Section.{Section}
use Rattle.pvs_names.specs.declared.key.Section.TheVariants as section
use Rattle.pvs_names.specs.declared.key.Key.{Key}
use Rattle.pvs_names.specs.declared.index.Found.{Found}
use Rattle.pvs_names.specs.declared.index.Found.TheVariants.{One, Several}
use Rattle.pvs_names.specs.Members.{Member, kind_eq, find, members}
use Rattle.pvs_names.specs.Resolve.{is_own, is_own_entry, is_imported, is_entry_of, is_entry_at, visible_members, own_refs_below}

abbrev pub section_eq : Section → Section → Bool
section_eq section.Own section.Own = true
section_eq section.OwnEntries section.OwnEntries = true
section_eq section.Imported section.Imported = true
section_eq (section.OfTheory a) (section.OfTheory b) = nat_eq a b
section_eq (section.OfInstance a) (section.OfInstance b) = nat_eq a b
section_eq _ _ = false

abbrev pub key_eq : Key → Key → Bool
key_eq a b = section_eq a.section b.section && (kind_eq a.kind b.kind && nat_eq a.name b.name)

-- what has the name of a key
abbrev pub found_of : List (Key × Found) → Key → Option Found
found_of m k = lookup (key_eq k) m

-- what has a name, once a further reference has it
abbrev pub one_or_several : Option Found → ℕ → Found
one_or_several None r = One r
one_or_several (Some x) r = Several

-- the same, where it has the name
abbrev pub with_reference : Bool → Option Found → ℕ → Option Found
with_reference b o r = cond b (Some (one_or_several o r)) o

-- a reference more has the name of this key, and nothing else has changed
abbrev pub Notes : List (Key × Found) → List (Key × Found) → Key → ℕ → Type 0
Notes old new key r = (k : Key) → found_of new k ≡ with_reference (key_eq key k) (found_of old k) r

-- entries of the instance of a reference
abbrev pub is_beside : Ref → Ref → Bool
is_beside (Inst th n acts) r = is_entry_at th acts r
is_beside _ r = false

-- the references of a section
abbrev pub is_in : Stored → Section → Ref → Bool
is_in s section.Own = is_own
is_in s section.OwnEntries = is_own_entry
is_in s section.Imported = is_imported
is_in s (section.OfTheory th) = is_entry_of (text_at s th)
is_in s (section.OfInstance r) = is_beside (ref_at s r)

-- the first entry of an instance
pub record IsFirst (s : Stored) (r : ℕ) : Type 0 where
  pub reference : IsRef s r
  pub theory : Text
  pub actuals : Trees
  pub is : ref_at s r ≡ Inst theory 0 actuals

-- the numbers of a key are of the store
abbrev pub IsSectionIn : Stored → Section → Type 0
IsSectionIn s (section.OfTheory th) = IsName s th
IsSectionIn s (section.OfInstance r) = IsFirst s r
IsSectionIn s _ = Unit {0}

abbrev pub IsKeyIn : Stored → Key → Type 0
IsKeyIn s k = IsSectionIn s k.section × IsName s k.name

-- what was found stands for what the definition finds: a reference, Unknown or Ambiguous
abbrev pub answer : Stored → Option Found → Result Ref Code
answer s None = Err Unknown
answer s (Some (One r)) = Ok (ref_at s r)
answer s (Some Several) = Err Ambiguous

-- a reference that was found is of the store
abbrev pub IsFoundIn : Stored → Option Found → Type 0
IsFoundIn s (Some (One r)) = IsRef s r
IsFoundIn s _ = Unit {0}

-- the index finds for this key what the definition finds among these members
pub record Finds (s : Stored) (m : List (Key × Found)) (ms : List Member) (k : Key) : Type 0 where
  pub found : answer s (found_of m k) ≡ find (is_in s k.section) k.kind (text_at s k.name) ms
  pub stored : IsFoundIn s (found_of m k)

-- equal texts have equal names, and equal references equal numbers
pub record IsDistinct (s : Stored) : Type 0 where
  pub names : (m n : ℕ) → IsName s m → IsName s n → text_at s m ≡ text_at s n → m ≡ n
  pub references : (r q : ℕ) → IsRef s r → IsRef s q → ref_at s r ≡ ref_at s q → r ≡ q

-- for each name of the store, and each that a later store has, the index finds what the definition finds
abbrev pub Indexes : Stored → List (Key × Found) → List Member → Type 0
Indexes s m ms = (t : Stored) → Extends s t → IsDistinct t → (k : Key) → IsKeyIn t k → Finds t m ms k

-- a member by number: its name, its kind and its reference
pub record IsMemberOf (s : Stored) (kind : NameKind) (name r : ℕ) (m : Member) : Type 0 where
  pub name_in : IsName s name
  pub name_is : m.name ≡ text_at s name
  pub kind_is : m.kind ≡ kind
  pub reference_in : IsRef s r
  pub reference_is : m.reference ≡ ref_at s r

abbrev pub IsFormal : Ref → Type 0
IsFormal (Formal n) = Unit {0}
IsFormal _ = ⊥

abbrev pub IsOwnEntry : Ref → Type 0
IsOwnEntry (Own n) = Unit {0}
IsOwnEntry _ = ⊥

-- an entry of the instance whose theory has this name and whose first entry has this reference
pub record IsEntryOf (s : Stored) (theory first r : ℕ) : Type 0 where
  pub theory_in : IsName s theory
  pub first_in : IsRef s first
  pub actuals : Trees
  pub number : ℕ
  pub first_is : ref_at s first ≡ Inst (text_at s theory) 0 actuals
  pub reference_is : ref_at s r ≡ Inst (text_at s theory) number actuals

-- the indexes of a place of a theory: of what it sees, and of all own entries
abbrev pub IndexesVisible : Stored → List (Key × Found) → Development → Signature → ℕ → Type 0
IndexesVisible s m d g i = Indexes s m (visible_members d g i)

abbrev pub IndexesOwn : Stored → List (Key × Found) → Development → Signature → Type 0
IndexesOwn s m d g = Indexes s m (members d g (own_refs_below (length g.entries)))
