-- Developments: the signatures of theories, in an order in which each mentions only what stands before it (CSL-97-2,
-- contexts of theories).
use Rattle.std.specs.Prelude.{◌≡◌, ◌⊎◌, ℕ, ◌<◌, ◌≤◌, length, IsSome, Option, Some, None, List, [], ◌∷◌, bytes_eq, if◌then◌else◌}
use Rattle.pvs_terms.specs.Tree.{Text, Tree, Leaf, Var, Name, Bind, Join, Project, If, Ref, Own, Formal, Inst, Trees, none, more, IsClosed}
use Rattle.pvs_terms.specs.Sorts.{sort_of, IsSorted}
use Rattle.pvs_terms.specs.declared.shape.Sort.{Sort}
use Rattle.pvs_terms.specs.declared.shape.Sort.TheVariants.{OfType, OfTerm}
use Rattle.pvs_sig.specs.declared.signature.Class.TheVariants.{FormalCondition}
use Rattle.pvs_sig.specs.Signature.{Signature, FormalSig, Import, Kind, TypeSig, ConstSig, VarSig, FormulaSig, kind_at, kind_in, formal_at, formals_in, formal_sort, instantiate_found}
use Rattle.pvs_sig.specs.References.{EachOf, KindEach}

-- the theories, the latest first
abbrev pub Development : Type 0
Development = List Signature

-- the theory of this name
abbrev pub theory_named : Development → Text → Option Signature
theory_named [] th = None
theory_named (s ∷ d) th = if bytes_eq s.name th then Some s else theory_named d th

-- what a reference of the theory s is, in the terms of s
abbrev pub kind_of : Development → Signature → Ref → Option Kind
kind_of d s (Own n) = kind_at s n
kind_of d s (Formal n) = formal_at s n
kind_of d s (Inst th n xs) = instantiate_found (kind_in (theory_named d th) n) th xs

-- what a node of this sort may name: a type or a constant
abbrev pub HasSort : Sort → Option Kind → Type 0
HasSort OfType (Some (TypeSig b body)) = Unit {0}
HasSort OfTerm (Some (ConstSig t body)) = Unit {0}
HasSort _ _ = ⊥

-- in the terms of s, where the theories of d stand: each reference of the tree, within actuals too, is declared with
-- the sort of its node
abbrev mutual
  pub AreDeclared : Development → Signature → Tree → Type 0
  AreDeclared d s (Leaf o) = Unit {0}
  AreDeclared d s (Var n) = Unit {0}
  AreDeclared d s (Name o r) = IsDeclared d s o r
  AreDeclared d s (Bind o a b) = AreDeclared d s a × AreDeclared d s b
  AreDeclared d s (Join o a b) = AreDeclared d s a × AreDeclared d s b
  AreDeclared d s (Project o a) = AreDeclared d s a
  AreDeclared d s (If a b c) = AreDeclared d s a × AreDeclared d s b × AreDeclared d s c

  pub IsDeclared : Development → Signature → Sort → Ref → Type 0
  IsDeclared d s o (Own n) = HasSort o (kind_at s n)
  IsDeclared d s o (Formal n) = HasSort o (formal_at s n)
  IsDeclared d s o (Inst th n xs) = HasSort o (kind_in (theory_named d th) n) × MatchFormals d s (formals_in (theory_named d th)) xs

  -- one actual per formal, of its sort and without free indices
  pub MatchFormals : Development → Signature → List FormalSig → Trees → Type 0
  MatchFormals d s [] none = Unit {0}
  MatchFormals d s (f ∷ fs) (more x xs) = (sort_of x ≡ formal_sort f) × IsClosed x × IsSorted x × AreDeclared d s x × MatchFormals d s fs xs
  MatchFormals d s _ _ = ⊥

-- a tree of a signature: of this sort, without free indices, and each reference is declared
pub record IsTreeOver (d : Development) (s : Signature) (o : Sort) (t : Tree) : Type 0 where
  pub sort : sort_of t ≡ o
  pub closed : IsClosed t
  pub sorted : IsSorted t
  pub declared : AreDeclared d s t

abbrev pub IsOptionOver : Development → Signature → Sort → Option Tree → Type 0
IsOptionOver d s o None = Unit {0}
IsOptionOver d s o (Some t) = IsTreeOver d s o t

-- the trees of a kind: types and bodies of types are types, bodies of constants and formulas are terms
abbrev pub IsKindOver : Development → Signature → Kind → Type 0
IsKindOver d s (TypeSig b body) = IsOptionOver d s OfType body
IsKindOver d s (ConstSig t body) = IsTreeOver d s OfType t × IsOptionOver d s OfTerm body
IsKindOver d s (VarSig t) = IsTreeOver d s OfType t
IsKindOver d s (FormulaSig c t o) = IsTreeOver d s OfTerm t

-- the theory stands, and the actuals match its formals
abbrev pub IsInstanceOver : Development → Signature → Text → Trees → Type 0
IsInstanceOver d s th xs = IsSome (theory_named d th) × MatchFormals d s (formals_in (theory_named d th)) xs

abbrev pub IsRefOver : Development → Signature → Ref → Type 0
IsRefOver d s (Own n) = Unit {0}
IsRefOver d s (Formal n) = Unit {0}
IsRefOver d s (Inst th n xs) = IsInstanceOver d s th xs

-- how many formals entry i sees: those before its own formal, where it is a condition of one
abbrev pub seen_by : ℕ → Option Kind → ℕ
seen_by all (Some (FormulaSig (FormalCondition f) t o)) = f
seen_by all _ = all

abbrev pub formals_seen : Signature → ℕ → ℕ
formals_seen s i = seen_by (length s.formals) (kind_at s i)

-- formals below f, own entries below n, and entries of instances
abbrev pub IsBefore : ℕ → ℕ → Ref → Type 0
IsBefore f n (Own k) = k < n
IsBefore f n (Formal k) = k < f
IsBefore f n (Inst th k xs) = Unit {0}

abbrev pub In : {A : Type 0} → A → List A → Type 0
In r [] = ⊥
In r (x ∷ xs) = (r ≡ x) ⊎ In r xs

-- s may stand after the theories of d: its trees and importings mention declared things alone, and in s only what
-- stands before
pub record IsSignatureOver (d : Development) (s : Signature) : Type 0 where
  pub entries : (n : ℕ) (k : Kind) → kind_at s n ≡ Some k → IsKindOver d s k
  pub formals : (n : ℕ) (k : Kind) → formal_at s n ≡ Some k → IsKindOver d s k
  pub imports : (x : Import) → In x s.imports → IsInstanceOver d s x.theory x.actuals
  pub places : (x : Import) → In x s.imports → x.place ≤ length s.entries
  pub earlier_entries : (n : ℕ) (k : Kind) → kind_at s n ≡ Some k → KindEach (IsBefore (formals_seen s n) n) k
  pub earlier_formals : (n : ℕ) (k : Kind) → formal_at s n ≡ Some k → KindEach (IsBefore n 0) k
  pub earlier_actuals : (x : Import) → In x s.imports → EachOf (IsBefore (length s.formals) x.place) x.actuals

-- each theory has a name of its own, and mentions only what stands before it
abbrev pub IsDevelopment : Development → Type 0
IsDevelopment [] = Unit {0}
IsDevelopment (s ∷ d) = (theory_named d s.name ≡ None) × IsSignatureOver d s × IsDevelopment d
