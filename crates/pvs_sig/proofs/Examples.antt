-- Two theories: their scopes, computed; that they may stand, and stay in scope.
use Rattle.std.proofs.Common.{◌≡◌, inl, inr, ℕ, zero, suc, ◌<◌, ◌≤◌, true, false, Some, None, List, [], ◌∷◌, refl, subst, sym, arith}
use Rattle.pvs_terms.specs.Tree.{Tree, TBool, True, TName, Const, TFun, App, Own, Formal, Inst, Trees, none, more}
use Rattle.pvs_terms.specs.declared.shape.Sort.TheVariants.{OfType, OfTerm}
use Rattle.pvs_sig.specs.declared.signature.Class.TheVariants.{Assumption, Lemma, ImportCondition}
use Rattle.pvs_sig.specs.Signature.{Signature, Entry, Import, Kind, TypeSig, ConstSig, VarSig, FormulaSig, kind_at, formal_at}
use Rattle.pvs_sig.specs.References.{EachOf, KindEach}
use Rattle.pvs_sig.specs.Development.{Development, IsTreeOver, IsKindOver, IsInstanceOver, IsSignatureOver, IsDevelopment, IsBefore, formals_seen, In}
use Rattle.pvs_sig.specs.Scope.{scope}
use Rattle.pvs_sig.specs.Reach.{reach}
use Rattle.pvs_sig.specs.Mentions.{StaysInScope}
use Rattle.pvs_sig.specs.Instances.{instances}
use Rattle.pvs_sig.specs.LookupsOf.{lookups_of}

-- B [T: TYPE+, c: T]: ASSUMING a: ASSUMPTION p(c) .. p: [T -> bool]; x: VAR T; l: LEMMA p(c); U: TYPE = [T -> T]
abbrev b_entries : List Entry
b_entries = record { name = 20 ∷ []; kind = ConstSig (TFun (TName (Formal 0)) TBool) None }
    ∷ record { name = 21 ∷ []; kind = VarSig (TName (Formal 0)) }
    ∷ record { name = 22 ∷ []; kind = FormulaSig Assumption (App (Const (Own 0)) (Const (Formal 1))) 0 }
    ∷ record { name = 23 ∷ []; kind = FormulaSig Lemma (App (Const (Own 0)) (Const (Formal 1))) 0 }
    ∷ record { name = 24 ∷ []; kind = TypeSig false (Some (TFun (TName (Formal 0)) (TName (Formal 0)))) } ∷ []

abbrev b : Signature
b = record {
  name = 2 ∷ [];
  formals = record { name = 10 ∷ []; nonempty = true; ty = None } ∷ record { name = 11 ∷ []; nonempty = false; ty = Some (TName (Formal 0)) } ∷ [];
  entries = b_entries;
  imports = [];
}

abbrev acts : Trees
acts = more TBool (more True none)

-- A: IMPORTING B[bool, TRUE], which owes the assumption; q: bool
abbrev a : Signature
a = record {
  name = 1 ∷ [];
  formals = [];
  entries = record { name = 30 ∷ []; kind = FormulaSig ImportCondition (App (Const (Inst (2 ∷ []) 0 acts)) True) 1 } ∷ record { name = 20 ∷ []; kind = ConstSig TBool None } ∷ [];
  imports = record { theory = 2 ∷ []; actuals = acts; place = 1 } ∷ [];
}

abbrev d : Development
d = b ∷ []

-- at its end A sees its entries, and B's but for the VAR
ends : scope d a 2 ≡ Own 0 ∷ Inst (2 ∷ []) 0 acts ∷ Inst (2 ∷ []) 2 acts ∷ Inst (2 ∷ []) 3 acts ∷ Inst (2 ∷ []) 4 acts ∷ Own 1 ∷ []
ends = refl

visible : instances d a 2 ≡ record { theory = 2 ∷ []; actuals = acts; place = 1 } ∷ []
visible = refl

-- the condition sees nothing of B, and reaches what the assumption sees
begins : scope d a 0 ≡ []
begins = refl

owed : reach d a 0 ≡ Inst (2 ∷ []) 0 acts ∷ []
owed = refl

-- the body of an entry of the instance, and what the name counts for
body : (lookups_of d a).body_of (Inst (2 ∷ []) 4 acts) ≡ Some (TFun TBool TBool)
body = refl

rank : (lookups_of d a).rank (Inst (2 ∷ []) 4 acts) ≡ 3
rank = refl

-- a reference with too few actuals is none
too_few : (lookups_of d a).body_of (Inst (2 ∷ []) 4 none) ≡ None
too_few = refl

at_kind : (P : Kind → Type 0) (j k : Kind) → Some j ≡ Some k → P j → P k
at_kind P j k e h = let same : j ≡ k = cc in subst P same h

-- their trees
b_type : IsTreeOver [] b OfType (TName (Formal 0))
b_type = record { sort = refl; closed = refl; sorted = tt; declared = tt }

b_predicate : IsTreeOver [] b OfType (TFun (TName (Formal 0)) TBool)
b_predicate = record { sort = refl; closed = refl; sorted = ((tt, refl, refl), tt, tt); declared = (tt, tt) }

b_formula : IsTreeOver [] b OfTerm (App (Const (Own 0)) (Const (Formal 1)))
b_formula = record { sort = refl; closed = refl; sorted = ((tt, refl, refl), tt, tt); declared = (tt, tt) }

b_function : IsTreeOver [] b OfType (TFun (TName (Formal 0)) (TName (Formal 0)))
b_function = record { sort = refl; closed = refl; sorted = ((tt, refl, refl), tt, tt); declared = (tt, tt) }

b_kinds : (n : ℕ) (k : Kind) → kind_at b n ≡ Some k → IsKindOver [] b k
b_kinds zero k e = at_kind (IsKindOver [] b) _ k e (b_predicate, tt)
b_kinds (suc zero) k e = at_kind (IsKindOver [] b) _ k e b_type
b_kinds (suc (suc zero)) k e = at_kind (IsKindOver [] b) _ k e b_formula
b_kinds (suc (suc (suc zero))) k e = at_kind (IsKindOver [] b) _ k e b_formula
b_kinds (suc (suc (suc (suc zero)))) k e = at_kind (IsKindOver [] b) _ k e b_function
b_kinds (suc (suc (suc (suc (suc n))))) k e = cc

b_formals : (n : ℕ) (k : Kind) → formal_at b n ≡ Some k → IsKindOver [] b k
b_formals zero k e = at_kind (IsKindOver [] b) _ k e tt
b_formals (suc zero) k e = at_kind (IsKindOver [] b) _ k e (b_type, tt)
b_formals (suc (suc n)) k e = cc

abbrev b_before : ℕ → Kind → Type 0
b_before n k = KindEach (IsBefore (formals_seen b n) n) k

b_earlier : (n : ℕ) (k : Kind) → kind_at b n ≡ Some k → b_before n k
b_earlier zero k e = at_kind (b_before 0) _ k e (((omega arith, tt), tt), tt)
b_earlier (suc zero) k e = at_kind (b_before 1) _ k e (omega arith, tt)
b_earlier (suc (suc zero)) k e = at_kind (b_before 2) _ k e ((omega arith, tt), (omega arith, tt))
b_earlier (suc (suc (suc zero))) k e = at_kind (b_before 3) _ k e ((omega arith, tt), (omega arith, tt))
b_earlier (suc (suc (suc (suc zero)))) k e = at_kind (b_before 4) _ k e ((omega arith, tt), (omega arith, tt))
b_earlier (suc (suc (suc (suc (suc n))))) k e = cc

b_earlier_formals : (n : ℕ) (k : Kind) → formal_at b n ≡ Some k → KindEach (IsBefore n 0) k
b_earlier_formals zero k e = at_kind (KindEach (IsBefore 0 0)) _ k e tt
b_earlier_formals (suc zero) k e = at_kind (KindEach (IsBefore 1 0)) _ k e ((omega arith, tt), tt)
b_earlier_formals (suc (suc n)) k e = cc

b_over : IsSignatureOver [] b
b_over = record {
  entries = b_kinds;
  formals = b_formals;
  imports = λ x h. absurd h;
  places = λ x h. absurd h;
  earlier_entries = b_earlier;
  earlier_formals = b_earlier_formals;
  earlier_actuals = λ x h. absurd h;
}

a_formula : IsTreeOver d a OfTerm (App (Const (Inst (2 ∷ []) 0 acts)) True)
a_formula = record { sort = refl; closed = refl; sorted = ((tt, refl, refl), (tt, (tt, tt)), tt); declared = ((tt, (refl, refl, tt, tt, (refl, refl, tt, tt, tt))), tt) }

a_type : IsTreeOver d a OfType TBool
a_type = record { sort = refl; closed = refl; sorted = tt; declared = tt }

a_kinds : (n : ℕ) (k : Kind) → kind_at a n ≡ Some k → IsKindOver d a k
a_kinds zero k e = at_kind (IsKindOver d a) _ k e a_formula
a_kinds (suc zero) k e = at_kind (IsKindOver d a) _ k e (a_type, tt)
a_kinds (suc (suc n)) k e = cc

abbrev a_before : ℕ → Kind → Type 0
a_before n k = KindEach (IsBefore (formals_seen a n) n) k

a_earlier : (n : ℕ) (k : Kind) → kind_at a n ≡ Some k → a_before n k
a_earlier zero k e = at_kind (a_before 0) _ k e ((tt, (tt, (tt, tt))), tt)
a_earlier (suc zero) k e = at_kind (a_before 1) _ k e (tt, tt)
a_earlier (suc (suc n)) k e = cc

a_import : Import
a_import = record { theory = 2 ∷ []; actuals = acts; place = 1 }

only : (P : Import → Type 0) (x : Import) → In x a.imports → P a_import → P x
unfolding a_import
only P x (inl e) h = subst P (sym e) h
only P x (inr e) h = absurd e

a_over : IsSignatureOver d a
unfolding a_import
a_over = record {
  entries = a_kinds;
  formals = λ n k e. cc;
  imports = λ x h. only (λ y. IsInstanceOver d a y.theory y.actuals) x h (refl, (refl, refl, tt, tt, (refl, refl, tt, tt, tt)));
  places = λ x h. only (λ y. y.place ≤ 2) x h (omega arith);
  earlier_entries = a_earlier;
  earlier_formals = λ n k e. cc;
  earlier_actuals = λ x h. only (λ y. EachOf (IsBefore 0 y.place) y.actuals) x h (tt, (tt, tt));
}

stand : IsDevelopment (a ∷ d)
stand = (refl, a_over, (refl, b_over, tt))

a_owners : (i j : ℕ) (t : Tree) (o : ℕ) → kind_at a i ≡ Some (FormulaSig ImportCondition t o) → i ≤ j → j < o → (u : Tree) × (kind_at a j ≡ Some (FormulaSig ImportCondition u o))
a_owners zero zero t o e l m = (t, e)
a_owners zero (suc j) t o e l m = let same : o ≡ 1 = cc in absurd (omega (arith, m, same))
a_owners (suc zero) j t o e l m = cc
a_owners (suc (suc n)) j t o e l m = cc

a_each : (n i : ℕ) (k : Kind) → n ≤ i → i ≤ 2 → kind_at a n ≡ Some k → KindEach (λ r. In r (reach d a i)) k
a_each zero zero k l m e = at_kind (KindEach (λ r. In r (reach d a 0))) _ k e ((inl refl, (tt, (tt, tt))), tt)
a_each zero (suc zero) k l m e = at_kind (KindEach (λ r. In r (reach d a 1))) _ k e ((inr (inl refl), (tt, (tt, tt))), tt)
a_each zero (suc (suc zero)) k l m e = at_kind (KindEach (λ r. In r (reach d a 2))) _ k e ((inr (inl refl), (tt, (tt, tt))), tt)
a_each zero (suc (suc (suc i))) k l m e = absurd (omega (arith, m))
a_each (suc zero) i k l m e = at_kind (KindEach (λ r. In r (reach d a i))) _ k e (tt, tt)
a_each (suc (suc n)) i k l m e = cc

a_stays : StaysInScope d a
unfolding a_import
a_stays = record {
  entries = a_each;
  formals = λ n i k l e. cc;
  imports = λ x i h l. only (λ y. EachOf (λ r. In r (reach d a i)) y.actuals) x h (tt, (tt, tt));
  owed = λ x c n i w. only (λ y. EachOf (λ r. In r (reach d a i)) y.actuals) x w.listed (tt, (tt, tt));
  owners = a_owners;
}
