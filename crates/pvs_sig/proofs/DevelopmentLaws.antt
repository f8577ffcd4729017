-- Laws of developments: a theory of a new name changes nothing that stands, each reference in a scope is one of a
-- theory that stands, and what an imported one is, is what it was with the actuals put in.
use Rattle.std.proofs.Common.{◌≡◌, inl, inr, ℕ, zero, suc, Bool, true, false, cond, Option, Some, None, List, [], ◌∷◌, ◌++◌, length, refl, ap, ap₂, ◌∙◌, sym, subst, eqb}
use Rattle.std.specs.Prelude.{bytes_eq, IsSome}
use Rattle.std.proofs.lemmas.Slice.Eq.{bytes_eq-Decides}
use Rattle.pvs_terms.specs.Tree.{Text, Tree, Ref, Own, Formal, Inst, Trees}
use Rattle.pvs_terms.specs.declared.shape.Sort.{Sort}
use Rattle.pvs_terms.specs.declared.shape.Sort.TheVariants.{OfType, OfTerm}
use Rattle.pvs_subst.specs.Instance.{instantiate, instantiate_all}
use Rattle.pvs_subst.proofs.InstanceLaws.{instantiate-instantiate}
use Rattle.pvs_sig.specs.Signature.{Signature, Import, Kind, TypeSig, ConstSig, VarSig, FormulaSig, kind_at, kind_in, formals_in, instantiate_option, instantiate_kind, instantiate_found}
use Rattle.pvs_sig.specs.Development.{Development, theory_named, kind_of, formals_seen, In, MatchFormals, IsTreeOver, IsOptionOver, IsKindOver, IsRefOver, IsSignatureOver, IsDevelopment}
use Rattle.pvs_sig.specs.Scope.{ref_instance, is_exported, imported_refs, without_repeats, formals_below, imported_refs_at, entries_below, scope_over, whole_scope, scope, IsVisible, of_formal, of_own, of_import}
use Rattle.pvs_sig.proofs.ScopeLaws.{in_scope}
use Rattle.pvs_sig.proofs.DeclaredLaws as declared

none_stands : (z : Option Signature) → z ≡ None → IsSome z → ⊥
none_stands None e k = cc
none_stands (Some s) e k = cc

same_whole : (x : Signature) (d : Development) (th : Text) → theory_named d x.name ≡ None → IsSome (theory_named d th) → whole_scope (x ∷ d) th ≡ whole_scope d th
same_whole x d th new h = go (bytes_eq x.name th) refl
  where
    go : (b : Bool) → bytes_eq x.name th ≡ b → cond b (scope_over (whole_scope d) d x (length x.entries)) (whole_scope d th) ≡ whole_scope d th
    go true e = absurd (none_stands (theory_named d th) (ap (theory_named d) (sym ((bytes_eq-Decides x.name th).0 e)) ∙ new) h)
    go false e = refl

brought_at_same : (f g : Import → List Ref) (xs : List Import) (p : ℕ) → ((x : Import) → In x xs → f x ≡ g x) → imported_refs_at f xs p ≡ imported_refs_at g xs p
brought_at_same f g [] p h = refl
brought_at_same f g (x ∷ xs) p h = ap₂ (λ y z. cond (eqb x.place p) y [] ++ z) (h x (inl refl)) (brought_at_same f g xs p (λ y i. h y (inr i)))

pub entries_same : (f g : Import → List Ref) (xs : List Import) (n : ℕ) → ((x : Import) → In x xs → f x ≡ g x) → entries_below f xs n ≡ entries_below g xs n
entries_same f g xs zero h = brought_at_same f g xs zero h
entries_same f g xs (suc n) h = ap₂ (λ y z. y ++ Own n ∷ z) (entries_same f g xs n h) (brought_at_same f g xs (suc n) h)

pub same_scope : (x : Signature) (d : Development) (s : Signature) (i : ℕ) → theory_named d x.name ≡ None → IsSignatureOver d s → scope (x ∷ d) s i ≡ scope d s i
same_scope x d s i new g = ap (λ z. without_repeats [] (formals_below (formals_seen s i) ++ z))
    (entries_same (λ y. imported_refs (theory_named (x ∷ d) y.theory) y.theory y.actuals (whole_scope (x ∷ d) y.theory)) (λ y. imported_refs (theory_named d y.theory) y.theory y.actuals (whole_scope d y.theory)) s.imports i
    (λ y h. let st = (g.imports y h).0 in ap₂ (λ z w. imported_refs z y.theory y.actuals w) (declared.same_look_up x d y.theory new st) (same_whole x d y.theory new st)))

-- of a theory that stands
pub record Stands (d : Development) (th : Text) (b : Signature) : Type 0 where
  pub over : IsSignatureOver d b
  pub at_end : whole_scope d th ≡ scope d b (length b.entries)

some_is : {A : Type 0} (x y : A) → Some x ≡ Some y → x ≡ y
some_is x y h = cc

pub theory_stands : (d : Development) → IsDevelopment d → (th : Text) (b : Signature) → theory_named d th ≡ Some b → Stands d th b
theory_stands [] h th b e = cc
theory_stands (s ∷ d) h th b e = go (λ k. theory_stands d h.2 th b k) (bytes_eq s.name th) refl e
  where
    here : s ≡ b → cond true (scope d s (length s.entries)) (whole_scope d th) ≡ whole_scope (s ∷ d) th → Stands (s ∷ d) th b
    here e k = subst (Stands (s ∷ d) th) e record {
      over = declared.later_signature s d s h.0 h.1;
      at_end = sym k ∙ sym (same_scope s d s (length s.entries) h.0 h.1);
    }

    later : Stands d th b → whole_scope d th ≡ whole_scope (s ∷ d) th → Stands (s ∷ d) th b
    later k w = record {
      over = declared.later_signature s d b h.0 k.over;
      at_end = sym w ∙ k.at_end ∙ sym (same_scope s d b (length b.entries) h.0 k.over);
    }

    go : (theory_named d th ≡ Some b → Stands d th b) → (z : Bool) → bytes_eq s.name th ≡ z → cond z (Some s) (theory_named d th) ≡ Some b → Stands (s ∷ d) th b
    go f true q k = here (some_is s b k) (ap (λ z. cond z (scope d s (length s.entries)) (whole_scope d th)) (sym q))
    go f false q k = later (f k) (ap (λ z. cond z (scope d s (length s.entries)) (whole_scope d th)) (sym q))

found : (z : Option Signature) → IsSome z → (b : Signature) × (z ≡ Some b)
found None h = cc
found (Some b) h = (b, refl)

-- an importing's instance of a reference over its theory
pub ref_instance_over : (d : Development) (s b : Signature) (th : Text) (acts : Trees) (r : Ref) → theory_named d th ≡ Some b → MatchFormals d s b.formals acts → IsRefOver d b r → IsRefOver d s (ref_instance r th acts)
ref_instance_over d s b th acts (Own n) e g h = subst (λ z. IsSome z × MatchFormals d s (formals_in z) acts) (sym e) (refl, g)
ref_instance_over d s b th acts (Formal n) e g h = tt
ref_instance_over d s b th acts (Inst a n xs) e g h = (h.0, declared.instantiate_actuals d s b th acts e g (formals_in (theory_named d a)) xs h.1)

AllOver : Development → Type 0
AllOver d = (th : Text) (b : Signature) (r : Ref) → theory_named d th ≡ Some b → In r (whole_scope d th) → IsRefOver d b r

visible_over : (d : Development) (s : Signature) (i : ℕ) (q : Ref) → IsSignatureOver d s → AllOver d → IsVisible d s i q → IsRefOver d s q
unfolding AllOver
visible_over d s i q g all (of_formal n l e) = subst (IsRefOver d s) (sym e) tt
visible_over d s i q g all (of_own n l e) = subst (IsRefOver d s) (sym e) tt
visible_over d s i q g all (of_import x r h l k b e) =
    let st = g.imports x h in
    let f = found (theory_named d x.theory) st.0 in
    subst (IsRefOver d s) (sym e) (ref_instance_over d s f.0 x.theory x.actuals r f.1 (subst (λ z. MatchFormals d s (formals_in z) x.actuals) f.1 st.1) (all x.theory f.0 r f.1 k))

all_over : (d : Development) → IsDevelopment d → AllOver d
unfolding AllOver
all_over [] h th b r e k = absurd k
all_over (s ∷ d) h th b r e k = go (all_over d h.2) (bytes_eq s.name th) e k
  where
    go : AllOver d → (z : Bool) → cond z (Some s) (theory_named d th) ≡ Some b → In r (cond z (scope d s (length s.entries)) (whole_scope d th)) → IsRefOver (s ∷ d) b r
    go f true q m = subst (λ c. IsRefOver (s ∷ d) c r) (some_is s b q) (declared.later_ref s d s h.0 r (visible_over d s (length s.entries) r h.1 f (in_scope d s (length s.entries) r m)))
    go f false q m = declared.later_ref s d b h.0 r (f th b r q m)

-- each reference of a scope names an entry of a theory that stands, with its actuals
pub scope_over_signature : (d : Development) (s : Signature) (i : ℕ) (q : Ref) → IsDevelopment d → IsSignatureOver d s → In q (scope d s i) → IsRefOver d s q
scope_over_signature d s i q st g h = visible_over d s i q g (all_over d st) (in_scope d s i q h)

-- so its type and body mention declared things alone
pub kind_over : (d : Development) (s : Signature) (q : Ref) (k : Kind) → IsDevelopment d → IsSignatureOver d s → IsRefOver d s q → kind_of d s q ≡ Some k → IsKindOver d s k
kind_over d s (Own n) k st g h e = g.entries n k e
kind_over d s (Formal n) k st g h e = g.formals n k e
kind_over d s (Inst th n xs) k st g h e =
    let f = found (theory_named d th) h.0 in
    let given = subst (λ z. MatchFormals d s (formals_in z) xs) f.1 h.1 in
    let good = (theory_stands d st th f.0 f.1).over in
    go f.0 f.1 given good (kind_at f.0 n) refl (ap (λ z. instantiate_found (kind_in z n) th xs) (sym f.1) ∙ e)
  where
    go : (c : Signature) → theory_named d th ≡ Some c → MatchFormals d s c.formals xs → IsSignatureOver d c → (z : Option Kind) → kind_at c n ≡ z → instantiate_found z th xs ≡ Some k → IsKindOver d s k
    go c e given good None q w = cc
    go c e given good (Some j) q w = subst (IsKindOver d s) (some_is (instantiate_kind j th xs) k w) (declared.instantiate_kind_over d s c th xs e given j (good.entries n j q))

-- putting in twice
module _ (d : Development) (s c : Signature) (th : Text) (xs : Trees) (stands : theory_named d th ≡ Some c) (given : MatchFormals d s c.formals xs) (uh : Text) (acts : Trees) where
  twice : (o : Sort) (t : Tree) → IsTreeOver d c o t → instantiate (instantiate t th xs) uh acts ≡ instantiate t th (instantiate_all xs uh acts)
  twice o t h = instantiate-instantiate t th xs uh acts (declared.has_actuals d s c th xs stands given t h.declared)

  option_twice : (r : Sort) (o : Option Tree) → IsOptionOver d c r o → instantiate_option (instantiate_option o th xs) uh acts ≡ instantiate_option o th (instantiate_all xs uh acts)
  option_twice r None h = refl
  option_twice r (Some t) h = ap Some (twice r t h)

  pub kind_twice : (k : Kind) → IsKindOver d c k → instantiate_kind (instantiate_kind k th xs) uh acts ≡ instantiate_kind k th (instantiate_all xs uh acts)
  kind_twice (TypeSig b body) h = ap (TypeSig b) (option_twice OfType body h)
  kind_twice (ConstSig t body) h = ap₂ ConstSig (twice OfType t h.0) (option_twice OfTerm body h.1)
  kind_twice (VarSig t) h = ap VarSig (twice OfType t h)
  kind_twice (FormulaSig c t o) h = ap (λ z. FormulaSig c z o) (twice OfTerm t h)

-- what a imported_refs reference is, is what it was with the actuals put in
pub kind_composed : (d : Development) (a b : Signature) (th : Text) (acts : Trees) (r : Ref) (k : Kind) → IsDevelopment d → theory_named d th ≡ Some b → IsRefOver d b r → is_exported (Some b) r ≡ true → kind_of d b r ≡ Some k
    → kind_of d a (ref_instance r th acts) ≡ Some (instantiate_kind k th acts)
kind_composed d a b th acts (Own n) k st e h v q = ap (λ z. instantiate_found (kind_in z n) th acts) e ∙ ap (λ z. instantiate_found z th acts) q
kind_composed d a b th acts (Formal n) k st e h v q = cc
kind_composed d a b th acts (Inst c n xs) k st e h v q =
    let f = found (theory_named d c) h.0 in
    let given = subst (λ z. MatchFormals d b (formals_in z) xs) f.1 h.1 in
    let good = (theory_stands d st c f.0 f.1).over in
    ap (λ z. instantiate_found (kind_in z n) c (instantiate_all xs th acts)) f.1 ∙ go f.0 f.1 given good (kind_at f.0 n) refl (ap (λ z. instantiate_found (kind_in z n) c xs) (sym f.1) ∙ q)
  where
    go : (cs : Signature) → theory_named d c ≡ Some cs → MatchFormals d b cs.formals xs → IsSignatureOver d cs → (z : Option Kind) → kind_at cs n ≡ z → instantiate_found z c xs ≡ Some k → instantiate_found z c (instantiate_all xs th acts) ≡ Some (instantiate_kind k th acts)
    go cs f given good None w y = cc
    go cs f given good (Some j) w y = ap Some (sym (kind_twice d b cs c xs f given th acts j (good.entries n j w)) ∙ ap (λ z. instantiate_kind z th acts) (some_is (instantiate_kind j c xs) k y))
