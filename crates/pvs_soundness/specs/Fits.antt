-- When a model fits the entries of a theory, and what a theory promises of one that does (CSL-97-2, models of theories).
use Rattle.std.specs.Prelude.{◌≡◌, ℕ, suc, Bool, true, List, [], ◌∷◌, Some, None}
use Rattle.pvs_terms.specs.Tree.{Tree, Ref, Own}
use Rattle.pvs_sig.specs.declared.signature.Class.{Class}
use Rattle.pvs_sig.specs.declared.signature.Class.TheVariants.{Axiom, Assumption}
use Rattle.pvs_sig.specs.Signature.{Entry, Kind, TypeSig, ConstSig, VarSig, FormulaSig}
use Rattle.pvs_sem.specs.Value.{Value, Truth, IsMember}
use Rattle.pvs_sem.specs.Meaning.{Model, Env, mean, inside}

-- the trees of entries are closed, so that the environment does not count
abbrev pub nowhere : Env
nowhere n = Truth true

-- what is demanded of a formula: axioms and assumptions are TRUE
abbrev pub FitsFormula : Model → Class → Tree → Type 0
FitsFormula m Axiom t = (mean m t nowhere).value ≡ Truth true
FitsFormula m Assumption t = (mean m t nowhere).value ≡ Truth true
FitsFormula m c t = Unit {0}

abbrev pub HasMemberIf : Bool → List Value → Type 0
HasMemberIf b xs = b ≡ true → (v : Value) × IsMember v xs

-- What is demanded of an own entry: an undefined type has a set, with a member where it was declared nonempty, and an
-- undefined constant has a value in its type; what is defined means what its body means.
abbrev pub FitsKind : Model → Ref → Kind → Type 0
FitsKind m r (TypeSig b None) = (m.has r ≡ true) × HasMemberIf b (m.meaning r).set
FitsKind m r (TypeSig b (Some a)) = (m.has r ≡ true) × ((m.meaning r).set ≡ (mean m a nowhere).set)
FitsKind m r (ConstSig a None) = (m.has r ≡ true) × IsMember (m.meaning r).value (mean m a nowhere).set
FitsKind m r (ConstSig a (Some t)) = (m.has r ≡ true) × ((m.meaning r).value ≡ (mean m t nowhere).value)
FitsKind m r (VarSig a) = Unit {0}
FitsKind m r (FormulaSig c t o) = FitsFormula m c t

-- of these entries, which are numbered from n on
abbrev pub FitsEntries : Model → ℕ → List Entry → Type 0
FitsEntries m n [] = Unit {0}
FitsEntries m n (e ∷ es) = FitsKind m (Own n) e.kind × FitsEntries m (suc n) es

-- Each formula of these entries, and each body of a definition, has its flag on.
abbrev pub IsInsideKind : Model → Kind → Type 0
IsInsideKind m (TypeSig b None) = Unit {0}
IsInsideKind m (TypeSig b (Some a)) = inside m a nowhere ≡ true
IsInsideKind m (ConstSig a None) = inside m a nowhere ≡ true
IsInsideKind m (ConstSig a (Some t)) = (inside m a nowhere ≡ true) × (inside m t nowhere ≡ true)
IsInsideKind m (VarSig a) = inside m a nowhere ≡ true
IsInsideKind m (FormulaSig c t o) = inside m t nowhere ≡ true
