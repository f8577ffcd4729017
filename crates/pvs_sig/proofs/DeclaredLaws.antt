-- Actuals in the place of formals leave each reference declared, and a theory of a new name leaves it so too.
use Rattle.std.proofs.Common.{◌≡◌, ℕ, zero, suc, Option, Some, None, List, [], ◌∷◌, refl, ap, ◌∙◌, sym, subst, Bool, true, false, cond}
use Rattle.std.specs.Prelude.{option_map, bytes_eq, slice_get, IsSome}
use Rattle.std.proofs.lemmas.Slice.Eq.{bytes_eq-Decides}
use Rattle.pvs_terms.specs.Tree.{Text, Tree, Leaf, Var, Name, Bind, Join, Project, If, Ref, Own, Formal, Inst, Trees, none, more, IsClosed, AreClosed}
use Rattle.pvs_terms.specs.Sorts.{sort_of, IsSorted, AreSorted}
use Rattle.pvs_terms.specs.declared.shape.Sort.{Sort}
use Rattle.pvs_terms.specs.declared.shape.Sort.TheVariants.{OfType, OfTerm}
use Rattle.pvs_subst.specs.Instance.{actual, instantiate, instantiate_all, HasActual, HasActuals, AllHaveActuals}
use Rattle.pvs_subst.proofs.InstanceLaws.{free-instantiate}
use Rattle.pvs_subst.proofs.SortLaws.{sort_of-instantiate, IsSorted-instantiate}
use Rattle.pvs_sig.specs.Signature.{Signature, FormalSig, Kind, TypeSig, ConstSig, VarSig, FormulaSig, kind_in, formals_in, formal_kind, unbound_kind, sort_by_type, instantiate_option, instantiate_kind}
use Rattle.pvs_sig.specs.Development.{Development, theory_named, HasSort, AreDeclared, MatchFormals, IsTreeOver, IsOptionOver, IsKindOver, IsInstanceOver, IsRefOver, IsSignatureOver}

pub none_stands : (z : Option Signature) → z ≡ None → IsSome z → ⊥
none_stands None e k = cc
none_stands (Some s) e k = cc

-- a theory of a new name changes no look-up of one that stands
pub same_look_up : (x : Signature) (d : Development) (th : Text) → theory_named d x.name ≡ None → IsSome (theory_named d th) → theory_named (x ∷ d) th ≡ theory_named d th
same_look_up x d th new h = go (bytes_eq x.name th) refl
  where
    go : (b : Bool) → bytes_eq x.name th ≡ b → cond b (Some x) (theory_named d th) ≡ theory_named d th
    go true e = absurd (none_stands (theory_named d th) (ap (theory_named d) (sym ((bytes_eq-Decides x.name th).0 e)) ∙ new) h)
    go false e = refl

pub sort_stands : (o : Sort) (z : Option Signature) (n : ℕ) → HasSort o (kind_in z n) → IsSome z
sort_stands OfType None n h = absurd h
sort_stands OfTerm None n h = absurd h
sort_stands o (Some s) n h = refl

module _ (x : Signature) (d : Development) (s : Signature) (new : theory_named d x.name ≡ None) where
  mutual
    pub later_declared : (t : Tree) → AreDeclared d s t → AreDeclared (x ∷ d) s t
    later_declared (Leaf o) h = tt
    later_declared (Var n) h = tt
    later_declared (Name o (Own n)) h = h
    later_declared (Name o (Formal n)) h = h
    later_declared (Name o (Inst th n xs)) h =
        subst (λ z. HasSort o (kind_in z n) × MatchFormals (x ∷ d) s (formals_in z) xs) (sym (same_look_up x d th new (sort_stands o (theory_named d th) n h.0)))
        (h.0, later_actuals (formals_in (theory_named d th)) xs h.1)
    later_declared (Bind o a b) h = (later_declared a h.0, later_declared b h.1)
    later_declared (Join o a b) h = (later_declared a h.0, later_declared b h.1)
    later_declared (Project o a) h = later_declared a h
    later_declared (If a b c) h = (later_declared a h.0, later_declared b h.1, later_declared c h.2)

    pub later_actuals : (fs : List FormalSig) (xs : Trees) → MatchFormals d s fs xs → MatchFormals (x ∷ d) s fs xs
    later_actuals [] none h = tt
    later_actuals (f ∷ fs) (more y ys) h = (h.0, h.1, h.2, later_declared y h.3, later_actuals fs ys h.4)
    later_actuals [] (more y ys) h = absurd h
    later_actuals (f ∷ fs) none h = absurd h

  later_tree : (o : Sort) (t : Tree) → IsTreeOver d s o t → IsTreeOver (x ∷ d) s o t
  later_tree o t h = record { sort = h.sort; closed = h.closed; sorted = h.sorted; declared = later_declared t h.declared }

  later_option : (o : Sort) (t : Option Tree) → IsOptionOver d s o t → IsOptionOver (x ∷ d) s o t
  later_option o None h = tt
  later_option o (Some t) h = later_tree o t h

  pub later_kind : (k : Kind) → IsKindOver d s k → IsKindOver (x ∷ d) s k
  later_kind (TypeSig b body) h = later_option OfType body h
  later_kind (ConstSig t body) h = (later_tree OfType t h.0, later_option OfTerm body h.1)
  later_kind (VarSig t) h = later_tree OfType t h
  later_kind (FormulaSig c t o) h = later_tree OfTerm t h

  pub later_instance : (th : Text) (xs : Trees) → IsInstanceOver d s th xs → IsInstanceOver (x ∷ d) s th xs
  later_instance th xs h = subst (λ z. IsSome z × MatchFormals (x ∷ d) s (formals_in z) xs) (sym (same_look_up x d th new h.0)) (h.0, later_actuals (formals_in (theory_named d th)) xs h.1)

  pub later_ref : (r : Ref) → IsRefOver d s r → IsRefOver (x ∷ d) s r
  later_ref (Own n) h = tt
  later_ref (Formal n) h = tt
  later_ref (Inst th n xs) h = later_instance th xs h

  pub later_signature : IsSignatureOver d s → IsSignatureOver (x ∷ d) s
  later_signature g = record {
    entries = λ n k e. later_kind k (g.entries n k e);
    formals = λ n k e. later_kind k (g.formals n k e);
    imports = λ y i. later_instance y.theory y.actuals (g.imports y i);
    places = g.places;
    earlier_entries = g.earlier_entries;
    earlier_formals = g.earlier_formals;
    earlier_actuals = g.earlier_actuals;
  }

-- the sort of a formal
formal_sorts : (o : Sort) (b : Bool) (t : Option Tree) → HasSort o (Some (unbound_kind b t)) → o ≡ sort_by_type t
formal_sorts OfType b None h = refl
formal_sorts OfTerm b None h = absurd h
formal_sorts OfType b (Some t) h = absurd h
formal_sorts OfTerm b (Some t) h = refl

nothing : (o : Sort) → HasSort o None → ⊥
nothing OfType h = h
nothing OfTerm h = h

-- what each formal's actual has, as the actual of its number
module _ (d : Development) (s : Signature) (P : Sort → Tree → Type 0) (has : (o : Sort) (x : Tree) → sort_of x ≡ o → IsClosed x → IsSorted x → AreDeclared d s x → P o x) where
  pub actual_has : (fs : List FormalSig) (xs : Trees) (n : ℕ) (o : Sort) (other : Tree) → MatchFormals d s fs xs → HasSort o (option_map formal_kind (slice_get fs n)) → P o (actual xs n other)
  actual_has [] none n o other h k = absurd (nothing o k)
  actual_has (f ∷ fs) (more y ys) zero o other h k = has o y (h.0 ∙ sym (formal_sorts o f.nonempty f.ty k)) h.1 h.2 h.3
  actual_has (f ∷ fs) (more y ys) (suc n) o other h k = actual_has fs ys n o other h.4 k
  actual_has [] (more y ys) n o other h k = absurd h
  actual_has (f ∷ fs) none n o other h k = absurd h

has_actual : (d : Development) (s : Signature) (fs : List FormalSig) (xs : Trees) (n : ℕ) (o : Sort) → MatchFormals d s fs xs → HasSort o (option_map formal_kind (slice_get fs n)) → HasActual xs n o
has_actual d s [] none n o h k = absurd (nothing o k)
has_actual d s (f ∷ fs) (more y ys) zero o h k = h.0 ∙ sym (formal_sorts o f.nonempty f.ty k)
has_actual d s (f ∷ fs) (more y ys) (suc n) o h k = has_actual d s fs ys n o h.4 k
has_actual d s [] (more y ys) n o h k = absurd h
has_actual d s (f ∷ fs) none n o h k = absurd h

pub are_closed : (d : Development) (s : Signature) (fs : List FormalSig) (xs : Trees) → MatchFormals d s fs xs → AreClosed xs
are_closed d s [] none h = tt
are_closed d s (f ∷ fs) (more y ys) h = (h.1, are_closed d s fs ys h.4)
are_closed d s [] (more y ys) h = absurd h
are_closed d s (f ∷ fs) none h = absurd h

pub are_sorted : (d : Development) (s : Signature) (fs : List FormalSig) (xs : Trees) → MatchFormals d s fs xs → AreSorted xs
are_sorted d s [] none h = tt
are_sorted d s (f ∷ fs) (more y ys) h = (h.2, are_sorted d s fs ys h.4)
are_sorted d s [] (more y ys) h = absurd h
are_sorted d s (f ∷ fs) none h = absurd h

-- the theory c of d, and an instance of it in the terms of s
module _ (d : Development) (s c : Signature) (th : Text) (acts : Trees) (stands : theory_named d th ≡ Some c) (given : MatchFormals d s c.formals acts) where
  pub instantiate_closed : (t : Tree) → IsClosed t → IsClosed (instantiate t th acts)
  instantiate_closed t h = free-instantiate t th acts (are_closed d s c.formals acts given) ∙ h

  -- each formal of a tree of c, within the actuals of references too, has an actual
  mutual
    pub has_actuals : (t : Tree) → AreDeclared d c t → HasActuals acts t
    has_actuals (Leaf o) h = tt
    has_actuals (Var n) h = tt
    has_actuals (Name o (Own n)) h = tt
    has_actuals (Name o (Formal n)) h = has_actual d s c.formals acts n o given h
    has_actuals (Name o (Inst a n xs)) h = all_have_actuals (formals_in (theory_named d a)) xs h.1
    has_actuals (Bind o a b) h = (has_actuals a h.0, has_actuals b h.1)
    has_actuals (Join o a b) h = (has_actuals a h.0, has_actuals b h.1)
    has_actuals (Project o a) h = has_actuals a h
    has_actuals (If x y z) h = (has_actuals x h.0, has_actuals y h.1, has_actuals z h.2)

    pub all_have_actuals : (fs : List FormalSig) (xs : Trees) → MatchFormals d c fs xs → AllHaveActuals acts xs
    all_have_actuals [] none h = tt
    all_have_actuals (f ∷ fs) (more y ys) h = (has_actuals y h.3, all_have_actuals fs ys h.4)
    all_have_actuals [] (more y ys) h = absurd h
    all_have_actuals (f ∷ fs) none h = absurd h

  pub instantiate_sort : (t : Tree) → AreDeclared d c t → sort_of (instantiate t th acts) ≡ sort_of t
  instantiate_sort t h = sort_of-instantiate t th acts (has_actuals t h)

  pub instantiate_sorted : (t : Tree) → IsSorted t → AreDeclared d c t → IsSorted (instantiate t th acts)
  instantiate_sorted t w h = IsSorted-instantiate t th acts (has_actuals t h) (are_sorted d s c.formals acts given) w

  mutual
    pub instantiate_declared : (t : Tree) → AreDeclared d c t → AreDeclared d s (instantiate t th acts)
    instantiate_declared (Leaf o) h = tt
    instantiate_declared (Var n) h = tt
    instantiate_declared (Name o (Own n)) h = subst (λ z. HasSort o (kind_in z n) × MatchFormals d s (formals_in z) acts) (sym stands) (h, given)
    instantiate_declared (Name o (Formal n)) h = actual_has d s (λ o x. AreDeclared d s x) (λ o x e f g k. k) c.formals acts n o (Name o (Formal n)) given h
    instantiate_declared (Name o (Inst a n xs)) h = (h.0, instantiate_actuals (formals_in (theory_named d a)) xs h.1)
    instantiate_declared (Bind o a b) h = (instantiate_declared a h.0, instantiate_declared b h.1)
    instantiate_declared (Join o a b) h = (instantiate_declared a h.0, instantiate_declared b h.1)
    instantiate_declared (Project o a) h = instantiate_declared a h
    instantiate_declared (If x y z) h = (instantiate_declared x h.0, instantiate_declared y h.1, instantiate_declared z h.2)

    pub instantiate_actuals : (fs : List FormalSig) (xs : Trees) → MatchFormals d c fs xs → MatchFormals d s fs (instantiate_all xs th acts)
    instantiate_actuals [] none h = tt
    instantiate_actuals (f ∷ fs) (more y ys) h = (instantiate_sort y h.3 ∙ h.0, instantiate_closed y h.1, instantiate_sorted y h.2 h.3, instantiate_declared y h.3, instantiate_actuals fs ys h.4)
    instantiate_actuals [] (more y ys) h = absurd h
    instantiate_actuals (f ∷ fs) none h = absurd h

  pub instantiate_tree : (o : Sort) (t : Tree) → IsTreeOver d c o t → IsTreeOver d s o (instantiate t th acts)
  instantiate_tree o t h = record {
    sort = instantiate_sort t h.declared ∙ h.sort;
    closed = instantiate_closed t h.closed;
    sorted = instantiate_sorted t h.sorted h.declared;
    declared = instantiate_declared t h.declared;
  }

  instantiate_option_over : (o : Sort) (t : Option Tree) → IsOptionOver d c o t → IsOptionOver d s o (instantiate_option t th acts)
  instantiate_option_over o None h = tt
  instantiate_option_over o (Some t) h = instantiate_tree o t h

  pub instantiate_kind_over : (k : Kind) → IsKindOver d c k → IsKindOver d s (instantiate_kind k th acts)
  instantiate_kind_over (TypeSig b body) h = instantiate_option_over OfType body h
  instantiate_kind_over (ConstSig t body) h = (instantiate_tree OfType t h.0, instantiate_option_over OfTerm body h.1)
  instantiate_kind_over (VarSig t) h = instantiate_tree OfType t h
  instantiate_kind_over (FormulaSig c t o) h = instantiate_tree OfTerm t h
