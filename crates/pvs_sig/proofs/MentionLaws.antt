-- What is reached speaks of what is reached.
use Rattle.std.proofs.Common.{◌≡◌, inl, inr, ℕ, zero, suc, ◌≤◌, Bool, true, false, not, cond, Option, Some, None, List, [], ◌∷◌, ◌++◌, length, refl, ap, ap₂, ◌∙◌, sym, subst, arith}
use Rattle.std.specs.Prelude.{bytes_eq, option_map, slice_get, IsSome}
use Rattle.pvs_terms.specs.Tree.{Text, Tree, Leaf, Var, Name, Bind, Join, Project, If, Ref, Own, Formal, Inst, Trees, none, more}
use Rattle.pvs_terms.specs.declared.shape.Sort.{Sort}
use Rattle.pvs_terms.specs.declared.shape.Sort.TheVariants.{OfType, OfTerm}
use Rattle.pvs_subst.specs.Instance.{actual, instantiate, instantiate_all}
use Rattle.pvs_sig.specs.declared.signature.Class.TheVariants.{Axiom, Assumption, Lemma, Condition, ImportCondition, FormalCondition}
use Rattle.pvs_sig.specs.Signature.{Signature, FormalSig, Import, Kind, TypeSig, ConstSig, VarSig, FormulaSig, kind_at, kind_in, formals_in, formal_kind, instantiate_option, instantiate_kind, instantiate_found}
use Rattle.pvs_sig.specs.References.{EachRef, EachOf, OptionEach, KindEach}
use Rattle.pvs_sig.specs.Development.{Development, theory_named, kind_of, In, HasSort, AreDeclared, MatchFormals, IsOptionOver, IsKindOver, IsRefOver, IsSignatureOver, IsDevelopment}
use Rattle.pvs_sig.specs.Scope.{ref_instance, is_exported, is_var, imported_refs, scope, IsVisible, of_formal, of_own, of_import}
use Rattle.pvs_sig.specs.Reach.{owed_assumption, first_import_at, seen_by_assumption, assumption_refs_in, assumption_refs, reach_beyond, reach}
use Rattle.pvs_sig.specs.Mentions.{StaysInScope, StayInScope}
use Rattle.pvs_sig.specs.Laws.{ReachIsClosed}
use Rattle.pvs_sig.proofs.ScopeLaws.{in_left, in_scope}
use Rattle.pvs_sig.proofs.DevelopmentLaws.{Stands, theory_stands, same_scope, kind_over, kind_composed}
use Rattle.pvs_sig.proofs.ReachLaws.{Beyond, of_owed, in_reach, import_found, reach_over, kind_below}
use Rattle.pvs_sig.proofs.ImportLaws.{stay_together, visible_brings, owed_brings}
use Rattle.pvs_sig.proofs.DeclaredLaws as declared

no_var : (o : Sort) (z : Option Kind) → HasSort o z → not (is_var z) ≡ true
no_var o (Some (TypeSig b body)) h = refl
no_var o (Some (ConstSig t body)) h = refl
no_var OfType (Some (VarSig t)) h = absurd h
no_var OfTerm (Some (VarSig t)) h = absurd h
no_var o (Some (FormulaSig c t p)) h = refl
no_var o None h = refl

none_sort : (o : Sort) → HasSort o None → ⊥
none_sort OfType h = h
none_sort OfTerm h = h

each_actual : (Q : Ref → Type 0) (d : Development) (s : Signature) (fs : List FormalSig) (xs : Trees) (n : ℕ) (o : Sort) (other : Tree) → MatchFormals d s fs xs → EachOf Q xs → HasSort o (option_map formal_kind (slice_get fs n)) → EachRef Q (actual xs n other)
each_actual Q d s [] none n o other h e k = absurd (none_sort o k)
each_actual Q d s (f ∷ fs) (more y ys) zero o other h e k = e.0
each_actual Q d s (f ∷ fs) (more y ys) (suc n) o other h e k = each_actual Q d s fs ys n o other h.4 e.1 k
each_actual Q d s [] (more y ys) n o other h e k = absurd h
each_actual Q d s (f ∷ fs) none n o other h e k = absurd h

-- the references of an instance
module _ (d : Development) (a b : Signature) (th : Text) (acts : Trees) (P Q : Ref → Type 0)
    (given : MatchFormals d a b.formals acts) (step : (r : Ref) → is_exported (Some b) r ≡ true → P r → Q (ref_instance r th acts)) (each : EachOf Q acts)
  where
    mutual
      each_instance : (t : Tree) → AreDeclared d b t → EachRef P t → EachRef Q (instantiate t th acts)
      each_instance (Leaf o) h p = tt
      each_instance (Var n) h p = tt
      each_instance (Name o (Own n)) h p = (step (Own n) (no_var o (kind_at b n) h) p.0, each)
      each_instance (Name o (Formal n)) h p = each_actual Q d a b.formals acts n o (Name o (Formal n)) given each h
      each_instance (Name o (Inst c n xs)) h p = (step (Inst c n xs) refl p.0, each_instances (formals_in (theory_named d c)) xs h.1 p.1)
      each_instance (Bind o x y) h p = (each_instance x h.0 p.0, each_instance y h.1 p.1)
      each_instance (Join o x y) h p = (each_instance x h.0 p.0, each_instance y h.1 p.1)
      each_instance (Project o x) h p = each_instance x h p
      each_instance (If x y z) h p = (each_instance x h.0 p.0, each_instance y h.1 p.1, each_instance z h.2 p.2)

      each_instances : (fs : List FormalSig) (xs : Trees) → MatchFormals d b fs xs → EachOf P xs → EachOf Q (instantiate_all xs th acts)
      each_instances [] none h p = tt
      each_instances (f ∷ fs) (more y ys) h p = (each_instance y h.3 p.0, each_instances fs ys h.4 p.1)
      each_instances [] (more y ys) h p = absurd h
      each_instances (f ∷ fs) none h p = absurd h

    option_instance : (r : Sort) (o : Option Tree) → IsOptionOver d b r o → OptionEach P o → OptionEach Q (instantiate_option o th acts)
    option_instance r None h p = tt
    option_instance r (Some t) h p = each_instance t h.declared p

    kind_instance : (k : Kind) → IsKindOver d b k → KindEach P k → KindEach Q (instantiate_kind k th acts)
    kind_instance (TypeSig f body) h p = option_instance OfType body h p
    kind_instance (ConstSig t body) h p = (each_instance t h.0.declared p.0, option_instance OfTerm body h.1 p.1)
    kind_instance (VarSig t) h p = each_instance t h.declared p
    kind_instance (FormulaSig c t o) h p = each_instance t h.declared p

-- a reference that is nothing there is nothing here
none_found : (z : Option Kind) (th : Text) (xs ys : Trees) → instantiate_found z th xs ≡ None → instantiate_found z th ys ≡ None
none_found None th xs ys h = refl
none_found (Some k) th xs ys h = cc

kind_none : (d : Development) (a b : Signature) (th : Text) (acts : Trees) (r : Ref) → theory_named d th ≡ Some b → is_exported (Some b) r ≡ true → kind_of d b r ≡ None → kind_of d a (ref_instance r th acts) ≡ None
kind_none d a b th acts (Own n) e v h = ap (λ z. instantiate_found (kind_in z n) th acts) e ∙ ap (λ z. instantiate_found z th acts) h
kind_none d a b th acts (Formal n) e v h = cc
kind_none d a b th acts (Inst c n xs) e v h = none_found (kind_in (theory_named d c) n) c xs (instantiate_all xs th acts) h

AllClosed : Development → Type 0
AllClosed d = (th : Text) (b : Signature) (i : ℕ) (q : Ref) (k : Kind) → theory_named d th ≡ Some b → i ≤ length b.entries → In q (reach d b i) → kind_of d b q ≡ Some k → KindEach (λ r. In r (reach d b i)) k

some_is : {A : Type 0} (x y : A) → Some x ≡ Some y → x ≡ y
some_is x y h = cc

named : (z : Option Signature) → IsSome z → (b : Signature) × (z ≡ Some b)
named None h = cc
named (Some b) h = (b, refl)

module _ (d : Development) (s : Signature) (i : ℕ) (standing : IsDevelopment d) (good : IsSignatureOver d s) (others : StayInScope d) (scoped : StaysInScope d s) (below : i ≤ length s.entries) (all : AllClosed d) where
  -- of an importing's instance of what B reaches at y
  brought_closed : (x : Import) (b : Signature) (y : ℕ) (r : Ref) (k : Kind) → In x s.imports → theory_named d x.theory ≡ Some b → y ≤ length b.entries → In r (reach d b y) → is_exported (Some b) r ≡ true
      → ((q : Ref) → is_exported (Some b) q ≡ true → In q (reach d b y) → In (ref_instance q x.theory x.actuals) (reach d s i)) → EachOf (λ q. In q (reach d s i)) x.actuals
      → kind_of d s (ref_instance r x.theory x.actuals) ≡ Some k → KindEach (λ q. In q (reach d s i)) k
  unfolding AllClosed
  brought_closed x b y r k listed e l h v step each is = go (kind_of d b r) refl
    where
      of_b : Stands d x.theory b
      of_b = theory_stands d standing x.theory b e

      given : MatchFormals d s b.formals x.actuals
      given = subst (λ z. MatchFormals d s (formals_in z) x.actuals) e (good.imports x listed).1

      over_r : IsRefOver d b r
      over_r = reach_over d b standing of_b.over y r h

      go : (z : Option Kind) → kind_of d b r ≡ z → KindEach (λ q. In q (reach d s i)) k
      go None w = let n = kind_none d s b x.theory x.actuals r e v w in let f = sym n ∙ is in cc
      go (Some j) w =
          let same = sym (kind_composed d s b x.theory x.actuals r j standing e over_r v w) ∙ is in
          subst (KindEach (λ q. In q (reach d s i))) (some_is (instantiate_kind j x.theory x.actuals) k same)
          (kind_instance d s b x.theory x.actuals (λ q. In q (reach d b y)) (λ q. In q (reach d s i)) given step each j (kind_over d b r j standing of_b.over over_r w) (all x.theory b y r j e l h w))

  visible_closed : (q : Ref) (k : Kind) → IsVisible d s i q → kind_of d s q ≡ Some k → KindEach (λ r. In r (reach d s i)) k
  visible_closed q k (of_formal n l e) is = scoped.formals n i k l (ap (kind_of d s) (sym e) ∙ is)
  visible_closed q k (of_own n l e) is = scoped.entries n i k (omega (arith, l)) below (ap (kind_of d s) (sym e) ∙ is)
  visible_closed q k (of_import x r a l m v e) is =
      let b = named (theory_named d x.theory) (good.imports x a).0 in
      let st = theory_stands d standing x.theory b.0 b.1 in
      let len = length b.0.entries in
      brought_closed x b.0 len r k a b.1 (omega arith) (in_left r (scope d b.0 len) (reach_beyond d b.0 (kind_at b.0 len)) (subst (In r) st.at_end m)) (ap (λ z. is_exported z r) (sym b.1) ∙ v)
      (λ p w h. visible_brings d s b.0 x i standing good b.1 a l len (omega arith) p h w) (scoped.imports x i a l) (ap (kind_of d s) (sym e) ∙ is)

  beyond_closed : (q : Ref) (k : Kind) → Beyond d s i q → kind_of d s q ≡ Some k → KindEach (λ r. In r (reach d s i)) k
  beyond_closed q k (of_owed x b n r w m v e) is =
      let l = kind_below b n (FormulaSig Assumption w.tree w.owner) w.assumption in
      brought_closed x b n r k w.listed w.named (omega (arith, l)) (in_left r (scope d b n) (reach_beyond d b (kind_at b n)) m) v
      (λ p u h. owed_brings d s b x i standing good w.named w.listed (stay_together d others x.theory b w.named) n w n (omega arith) p h u) (scoped.owed x b n i w) (ap (kind_of d s) (sym e) ∙ is)

  reach_closed : (q : Ref) (k : Kind) → In q (reach d s i) → kind_of d s q ≡ Some k → KindEach (λ r. In r (reach d s i)) k
  reach_closed q k h is = elim (in_reach d s i q h) [ inl v ↦ visible_closed q k (in_scope d s i q v) is | inr w ↦ beyond_closed q k w is ]

-- a new theory changes no reach and no kind
module _ (x : Signature) (d : Development) (s : Signature) (new : theory_named d x.name ≡ None) (standing : IsDevelopment d) (good : IsSignatureOver d s) where
  same_seen : (y : Import) (b : Signature) (z : Option ℕ) → IsSignatureOver d b → seen_by_assumption (x ∷ d) y b z ≡ seen_by_assumption d y b z
  same_seen y b None g = refl
  same_seen y b (Some n) g = ap (imported_refs (Some b) y.theory y.actuals) (same_scope x d b n new g)

  same_owed : (t : Tree) (z : Option Import) (o : ℕ) → first_import_at s.imports o ≡ z → assumption_refs (x ∷ d) t z ≡ assumption_refs d t z
  same_owed t None o e = refl
  same_owed t (Some y) o e =
      let st = (good.imports y (import_found s.imports o y e).0).0 in
      let b = named (theory_named d y.theory) st in
      let g = (theory_stands d standing y.theory b.0 b.1).over in
      ap (assumption_refs_in (x ∷ d) y t) (declared.same_look_up x d y.theory new st ∙ b.1) ∙ same_seen y b.0 (owed_assumption b.0.entries y.theory y.actuals t) g ∙ ap (assumption_refs_in d y t) (sym b.1)

  same_beyond : (z : Option Kind) → reach_beyond (x ∷ d) s z ≡ reach_beyond d s z
  same_beyond (Some (FormulaSig ImportCondition t o)) = same_owed t (first_import_at s.imports o) o refl
  same_beyond None = refl
  same_beyond (Some (TypeSig b body)) = refl
  same_beyond (Some (ConstSig a body)) = refl
  same_beyond (Some (VarSig a)) = refl
  same_beyond (Some (FormulaSig Axiom t o)) = refl
  same_beyond (Some (FormulaSig Assumption t o)) = refl
  same_beyond (Some (FormulaSig Lemma t o)) = refl
  same_beyond (Some (FormulaSig Condition t o)) = refl
  same_beyond (Some (FormulaSig (FormalCondition f) t o)) = refl

  same_reach : (i : ℕ) → reach (x ∷ d) s i ≡ reach d s i
  same_reach i = ap₂ (λ y z. y ++ z) (same_scope x d s i new good) (same_beyond (kind_at s i))

  same_kind : (q : Ref) → IsRefOver d s q → kind_of (x ∷ d) s q ≡ kind_of d s q
  same_kind (Own n) h = refl
  same_kind (Formal n) h = refl
  same_kind (Inst c n xs) h = ap (λ z. instantiate_found (kind_in z n) c xs) (declared.same_look_up x d c new h.0)

  -- so what is closed stays so
  later_closed : (i : ℕ) (q : Ref) (k : Kind) → ((p : Ref) (j : Kind) → In p (reach d s i) → kind_of d s p ≡ Some j → KindEach (λ r. In r (reach d s i)) j)
      → In q (reach (x ∷ d) s i) → kind_of (x ∷ d) s q ≡ Some k → KindEach (λ r. In r (reach (x ∷ d) s i)) k
  later_closed i q k f h is =
      let m = subst (In q) (same_reach i) h in
      subst (λ z. KindEach (λ r. In r z) k) (sym (same_reach i)) (f q k m (sym (same_kind q (reach_over d s standing good i q m)) ∙ is))

all_closed : (d : Development) → IsDevelopment d → StayInScope d → AllClosed d
unfolding AllClosed
all_closed [] h c th b i q k e l m is = cc
all_closed (s ∷ d) h c th b i q k e l m is = go (all_closed d h.2 c.1) (bytes_eq s.name th) e
  where
    here : AllClosed d → i ≤ length s.entries → In q (reach (s ∷ d) s i) → kind_of (s ∷ d) s q ≡ Some k → KindEach (λ r. In r (reach (s ∷ d) s i)) k
    here f l m is = later_closed s d s h.0 h.2 h.1 i q k (λ p j. reach_closed d s i h.2 h.1 c.1 c.0 l f p j) m is

    go : AllClosed d → (z : Bool) → cond z (Some s) (theory_named d th) ≡ Some b → KindEach (λ r. In r (reach (s ∷ d) b i)) k
    go f true w =
        let same = some_is s b w in
        subst (λ z. KindEach (λ r. In r (reach (s ∷ d) z i)) k) same (here f (subst (λ z. i ≤ length z.entries) (sym same) l) (subst (λ z. In q (reach (s ∷ d) z i)) (sym same) m) (subst (λ z. kind_of (s ∷ d) z q ≡ Some k) (sym same) is))
    go f false w = later_closed s d b h.0 h.2 (theory_stands d h.2 th b w).over i q k (λ p j. f th b i p j w l) m is

pub reach_is_closed : ReachIsClosed
reach_is_closed = λ d s i q k standing scoped good one below h is. reach_closed d s i standing good scoped one below (all_closed d standing scoped) q k h is
