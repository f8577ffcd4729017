-- A theory that stands with one formal, entry or importing more, and what no other theory mentions.
use Rattle.std.specs.Prelude.{◌≡◌, ◌⊎◌, ◌<◌, ℕ, Option, Some, None, List, [], ◌∷◌, ◌++◌, false, not, bytes_eq, filter, Contains}
use Rattle.pvs_terms.specs.Tree.{Text}
use Rattle.pvs_cache.specs.declared.key.JudgeKey.{JudgeKey}
use Rattle.pvs_sig.specs.Signature.{Signature, FormalSig, Entry, Import}
use Rattle.pvs_sig.specs.Development.{Development, theory_named, IsSignatureOver, In}
use Rattle.pvs_sig.specs.Laws.{without, Avoids}
use Rattle.pvs_instantiate.specs.InstancesView.{InstancesView, stamps}

abbrev pub with_formal : FormalSig → Signature → Signature
with_formal f s = record { name = s.name; formals = s.formals ++ f ∷ []; entries = s.entries; imports = s.imports }

abbrev pub with_entry : Entry → Signature → Signature
with_entry e s = record { name = s.name; formals = s.formals; entries = s.entries ++ e ∷ []; imports = s.imports }

abbrev pub with_import : Import → Signature → Signature
with_import x s = record { name = s.name; formals = s.formals; entries = s.entries; imports = s.imports ++ x ∷ [] }

-- no other theory that stands imports this one or mentions an entry of it
abbrev pub IsAlone : Text → Development → Type 0
IsAlone th d = (s : Signature) → In s d → bytes_eq s.name th ≡ false → Avoids th s

-- the theory stands, and what it becomes may stand after the others
abbrev pub MayBecome : Development → Option Signature → (Signature → Signature) → Type 0
MayBecome d None f = ⊥
MayBecome d (Some s) f = IsSignatureOver d (f s)

abbrev pub MayGrow : Development → Text → (Signature → Signature) → Type 0
MayGrow d th f = MayBecome (without th d) (theory_named d th) f

-- the theory that has grown is the latest
abbrev pub become : Development → Option Signature → (Signature → Signature) → Development
become d None f = d
become d (Some s) f = f s ∷ d

abbrev pub grown : Development → Text → (Signature → Signature) → Development
grown d th f = become (without th d) (theory_named d th) f

-- a stamp above those of all other theories that stand and of all pairs that are kept
pub record IsNewStamp (v : InstancesView) (th : Text) (n : ℕ) : Type 0 where
  pub given : In (th, n) (stamps v)
  pub above : (x : Text × ℕ) → In x (stamps v) → (x ≡ (th, n)) ⊎ (x.1 < n)
  pub above_kept : (p : JudgeKey × ℕ) → Contains v.kept p → p.0.stamp < n

-- the same stamps, in any order
pub record SameStamps (old new : InstancesView) : Type 0 where
  pub stay : (x : Text × ℕ) → In x (stamps old) → In x (stamps new)
  pub stood : (x : Text × ℕ) → In x (stamps new) → In x (stamps old)

-- the stamps of the theories of other names
abbrev pub other_stamps : Text → InstancesView → List (Text × ℕ)
other_stamps th v = filter (λ x. not (bytes_eq x.0 th)) (stamps v)
