-- Laws of developments, scopes and visible instances.
use Rattle.std.specs.Prelude.{◌≡◌, ℕ, ◌≤◌, false, Some, None, List, [], ◌∷◌, bytes_eq, length, if◌then◌else◌}
use Rattle.pvs_terms.specs.Tree.{Text, Ref, Own, Formal, Inst, Trees}
use Rattle.pvs_sig.specs.Signature.{Signature, Import, Kind, kind_at, formal_at}
use Rattle.pvs_sig.specs.References.{EachOf, KindEach}
use Rattle.pvs_sig.specs.Development.{Development, IsDevelopment, IsSignatureOver, IsKindOver, IsRefOver, theory_named, kind_of, In}
use Rattle.pvs_sig.specs.Scope.{scope, whole_scope}
use Rattle.pvs_sig.specs.Reach.{reach}
use Rattle.pvs_sig.specs.Mentions.{StaysInScope, StayInScope}
use Rattle.pvs_sig.specs.Instances.{instances, Lists, Exports}

-- a theory that stands may stand after all others
abbrev pub IsOverAll : Type 0
IsOverAll = (d : Development) (th : Text) (s : Signature) → IsDevelopment d → theory_named d th ≡ Some s → IsSignatureOver d s

-- a theory of a new name leaves each signature, reference and scope over the others as it was
abbrev pub AdditionKeeps : Type 0
AdditionKeeps = (d : Development) (x s : Signature) → theory_named d x.name ≡ None → IsSignatureOver d s
    → IsSignatureOver (x ∷ d) s × ((r : Ref) → IsRefOver d s r → IsRefOver (x ∷ d) s r × (kind_of (x ∷ d) s r ≡ kind_of d s r)) × ((i : ℕ) → scope (x ∷ d) s i ≡ scope d s i)

-- what a reference is, mentions declared things alone
abbrev pub KindsAreOver : Type 0
KindsAreOver = (d : Development) (s : Signature) (r : Ref) (k : Kind) → IsDevelopment d → IsSignatureOver d s → IsRefOver d s r → kind_of d s r ≡ Some k → IsKindOver d s k

-- a reference that is reached is an entry of a theory that stands, with actuals that match its formals
abbrev pub ReachIsOver : Type 0
ReachIsOver = (d : Development) (s : Signature) (i : ℕ) (r : Ref) → IsDevelopment d → IsSignatureOver d s → In r (reach d s i) → IsRefOver d s r

-- the type, body and formula of what is reached mention only what is reached
abbrev pub ReachIsClosed : Type 0
ReachIsClosed = (d : Development) (s : Signature) (i : ℕ) (q : Ref) (k : Kind) → IsDevelopment d → StayInScope d → IsSignatureOver d s → StaysInScope d s → i ≤ length s.entries → In q (reach d s i) → kind_of d s q ≡ Some k
    → KindEach (λ r. In r (reach d s i)) k

-- the whole scope of a theory that stands is its scope at its end
abbrev pub WholeIsScope : Type 0
WholeIsScope = (d : Development) (th : Text) (s : Signature) → IsDevelopment d → theory_named d th ≡ Some s → whole_scope d th ≡ scope d s (length s.entries)

-- the order in which theories stand does not count
abbrev pub OrderIsFree : Type 0
OrderIsFree = (d e : Development) → IsDevelopment d → IsDevelopment e → ((th : Text) → theory_named d th ≡ theory_named e th)
    → ((th : Text) → whole_scope d th ≡ whole_scope e th) × ((s : Signature) (i : ℕ) → IsSignatureOver d s → scope d s i ≡ scope e s i)

abbrev pub RefAvoids : Text → Ref → Type 0
RefAvoids th (Own n) = Unit {0}
RefAvoids th (Formal n) = Unit {0}
RefAvoids th (Inst a n xs) = bytes_eq a th ≡ false

-- no tree of the signature mentions an entry of th, and no importing is of th
pub record Avoids (th : Text) (s : Signature) : Type 0 where
  pub entries : (n : ℕ) (k : Kind) → kind_at s n ≡ Some k → KindEach (RefAvoids th) k
  pub formals : (n : ℕ) (k : Kind) → formal_at s n ≡ Some k → KindEach (RefAvoids th) k
  pub imports : (x : Import) → In x s.imports → (bytes_eq x.theory th ≡ false) × EachOf (RefAvoids th) x.actuals

-- the theories without the one of this name
abbrev pub without : Text → Development → Development
without th [] = []
without th (s ∷ d) = if bytes_eq s.name th then d else s ∷ without th d

-- a theory that no other mentions is taken out
abbrev pub RemovalStands : Type 0
RemovalStands = (th : Text) (d : Development) → IsDevelopment d → ((s : Signature) → In s d → bytes_eq s.name th ≡ false → Avoids th s)
    → IsDevelopment (without th d) × ((u : Text) → bytes_eq u th ≡ false → theory_named (without th d) u ≡ theory_named d u)

-- no reference stands twice
abbrev pub IsDistinct : List Ref → Type 0
IsDistinct [] = Unit {0}
IsDistinct (r ∷ rs) = (In r rs → ⊥) × IsDistinct rs

abbrev pub ScopeIsDistinct : Type 0
ScopeIsDistinct = (d : Development) (s : Signature) (i : ℕ) → IsDistinct (scope d s i)

-- what importings bring is, of each visible instance, each entry of its theory that is no VAR
abbrev pub ByInstances : Type 0
ByInstances = (d : Development) (s : Signature) (i : ℕ) → IsDevelopment d → IsSignatureOver d s → (th : Text) (n : ℕ) (xs : Trees)
    → (In (Inst th n xs) (scope d s i) → Lists th xs (instances d s i) × Exports (theory_named d th) n) × (Lists th xs (instances d s i) → Exports (theory_named d th) n → In (Inst th n xs) (scope d s i))
