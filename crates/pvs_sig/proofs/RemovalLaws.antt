-- The rest still stands where a theory that no other mentions is taken out.
use Rattle.std.proofs.Common.{◌≡◌, inl, inr, Bool, true, false, cond, Option, Some, None, List, [], ◌∷◌, refl, ap, ◌∙◌, sym, subst}
use Rattle.std.specs.Prelude.{bytes_eq, IsSome}
use Rattle.std.proofs.lemmas.Slice.Eq.{bytes_eq-Decides}
use Rattle.pvs_terms.specs.Tree.{Text, Tree, Leaf, Var, Name, Bind, Join, Project, If, Own, Formal, Inst, Trees, none, more}
use Rattle.pvs_terms.specs.declared.shape.Sort.{Sort}
use Rattle.pvs_terms.specs.declared.shape.Sort.TheVariants.{OfType, OfTerm}
use Rattle.pvs_sig.specs.Signature.{Signature, FormalSig, Kind, TypeSig, ConstSig, VarSig, FormulaSig, kind_in, formals_in}
use Rattle.pvs_sig.specs.References.{EachRef, EachOf, OptionEach, KindEach}
use Rattle.pvs_sig.specs.Development.{Development, theory_named, In, HasSort, AreDeclared, MatchFormals, IsTreeOver, IsOptionOver, IsKindOver, IsSignatureOver, IsDevelopment}
use Rattle.pvs_sig.specs.Laws.{RefAvoids, Avoids, without, RemovalStands}

-- d and e have the same theories but th
module _ (th : Text) (d e : Development) (s : Signature) (same : (u : Text) → bytes_eq u th ≡ false → theory_named d u ≡ theory_named e u) where
  mutual
    declared_but : (t : Tree) → AreDeclared d s t → EachRef (RefAvoids th) t → AreDeclared e s t
    declared_but (Leaf o) h v = tt
    declared_but (Var n) h v = tt
    declared_but (Name o (Own n)) h v = h
    declared_but (Name o (Formal n)) h v = h
    declared_but (Name o (Inst a n xs)) h v = subst (λ z. HasSort o (kind_in z n) × MatchFormals e s (formals_in z) xs) (same a v.0) (h.0, actuals_but (formals_in (theory_named d a)) xs h.1 v.1)
    declared_but (Bind o x y) h v = (declared_but x h.0 v.0, declared_but y h.1 v.1)
    declared_but (Join o x y) h v = (declared_but x h.0 v.0, declared_but y h.1 v.1)
    declared_but (Project o x) h v = declared_but x h v
    declared_but (If x y z) h v = (declared_but x h.0 v.0, declared_but y h.1 v.1, declared_but z h.2 v.2)

    actuals_but : (fs : List FormalSig) (xs : Trees) → MatchFormals d s fs xs → EachOf (RefAvoids th) xs → MatchFormals e s fs xs
    actuals_but [] none h v = tt
    actuals_but (f ∷ fs) (more y ys) h v = (h.0, h.1, h.2, declared_but y h.3 v.0, actuals_but fs ys h.4 v.1)
    actuals_but [] (more y ys) h v = absurd h
    actuals_but (f ∷ fs) none h v = absurd h

  tree_but : (o : Sort) (t : Tree) → IsTreeOver d s o t → EachRef (RefAvoids th) t → IsTreeOver e s o t
  tree_but o t h v = record { sort = h.sort; closed = h.closed; sorted = h.sorted; declared = declared_but t h.declared v }

  option_but : (o : Sort) (t : Option Tree) → IsOptionOver d s o t → OptionEach (RefAvoids th) t → IsOptionOver e s o t
  option_but o None h v = tt
  option_but o (Some t) h v = tree_but o t h v

  kind_but : (k : Kind) → IsKindOver d s k → KindEach (RefAvoids th) k → IsKindOver e s k
  kind_but (TypeSig b body) h v = option_but OfType body h v
  kind_but (ConstSig t body) h v = (tree_but OfType t h.0 v.0, option_but OfTerm body h.1 v.1)
  kind_but (VarSig t) h v = tree_but OfType t h v
  kind_but (FormulaSig c t o) h v = tree_but OfTerm t h v

  signature_but : IsSignatureOver d s → Avoids th s → IsSignatureOver e s
  signature_but g v = record {
    entries = λ n k q. kind_but k (g.entries n k q) (v.entries n k q);
    formals = λ n k q. kind_but k (g.formals n k q) (v.formals n k q);
    imports = λ x i.
        let p = g.imports x i in
        let w = v.imports x i in
        subst (λ z. IsSome z × MatchFormals e s (formals_in z) x.actuals) (same x.theory w.0) (p.0, actuals_but (formals_in (theory_named d x.theory)) x.actuals p.1 w.1);
    places = g.places;
    earlier_entries = g.earlier_entries;
    earlier_formals = g.earlier_formals;
    earlier_actuals = g.earlier_actuals;
  }

false_true : false ≡ true → ⊥
false_true h = cc

without_same : (th : Text) (d : Development) (u : Text) → bytes_eq u th ≡ false → theory_named (without th d) u ≡ theory_named d u
without_same th [] u h = refl
without_same th (s ∷ d) u h = go (without_same th d u h) (bytes_eq s.name th) refl
  where
    other : bytes_eq s.name th ≡ true → (b : Bool) → bytes_eq s.name u ≡ b → theory_named d u ≡ cond b (Some s) (theory_named d u)
    other e true k = absurd (false_true (sym h ∙ ap (λ z. bytes_eq z th) (sym ((bytes_eq-Decides s.name u).0 k)) ∙ e))
    other e false k = refl

    go : theory_named (without th d) u ≡ theory_named d u → (b : Bool) → bytes_eq s.name th ≡ b → theory_named (cond b d (s ∷ without th d)) u ≡ theory_named (s ∷ d) u
    go f true e = other e (bytes_eq s.name u) refl
    go f false e = ap (cond (bytes_eq s.name u) (Some s)) f

without_stands : (th : Text) (d : Development) → IsDevelopment d → ((s : Signature) → In s d → bytes_eq s.name th ≡ false → Avoids th s) → IsDevelopment (without th d)
without_stands th [] h v = tt
without_stands th (s ∷ d) h v = go (without_stands th d h.2 (λ t i. v t (inr i))) (bytes_eq s.name th) refl
  where
    go : IsDevelopment (without th d) → (b : Bool) → bytes_eq s.name th ≡ b → IsDevelopment (cond b d (s ∷ without th d))
    go f true e = h.2
    go f false e = (without_same th d s.name e ∙ h.0, signature_but th d (without th d) s (λ u k. sym (without_same th d u k)) h.1 (v s (inl refl) e), f)

pub removal_stands : RemovalStands
removal_stands = λ th d standing avoids. (without_stands th d standing avoids, without_same th d)
