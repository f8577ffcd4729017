-- Entries that typing accepted without a condition, in a model that fits them and all before them.
use Rattle.std.proofs.Common.{◌≡◌, true, ◌&&◌, List, [], ◌∷◌, Option, Some, None, refl, ◌∙◌, sym, subst}
use Rattle.std.specs.List.{list_all}
use Rattle.pvs_terms.specs.Tree.{Tree, Ref, TBool, True, TFun}
use Rattle.pvs_terms.proofs.TreeLaws.{all_true}
use Rattle.pvs_subst.specs.Contexts.{Assumptions, Variable}
use Rattle.pvs_sig.specs.Lookups.{Lookups, IsOrdered}
use Rattle.pvs_sig.specs.Signature.{Kind, TypeSig, ConstSig, VarSig, FormulaSig}
use Rattle.pvs_sem.specs.Value.{Value, IsMember}
use Rattle.pvs_sem.specs.Meaning.{Model, Env, env_with, mean, inside}
use Rattle.pvs_sem.specs.Satisfies.{Satisfies}
use Rattle.pvs_sem.proofs.SetLaws.{list_all_from, table_in}
use Rattle.pvs_types.specs.Outcome.{Outcome, Accepted}
use Rattle.pvs_types.specs.Typing.{check, well_formed}
use Rattle.pvs_types.specs.Soundness.{AllHold, Provides, IsModelOf, IsValued, IsTrueCondition, IsOfType, HasType, IsDefined}
use Rattle.pvs_types.proofs.Satisfaction.{satisfies_is}
use Rattle.pvs_types.proofs.TypingSound.{typing_sound}
use Rattle.pvs_elab.specs.Elab.{universal}
use Rattle.pvs_elab.specs.Formula.{FreeVariable, binders_of, closure}
use Rattle.pvs_soundness.specs.Vocabulary.{Vocabulary}
use Rattle.pvs_soundness.specs.Scoped.{IsScoped}
use Rattle.pvs_soundness.specs.Local.{IsClosedSet, EachAssumed}
use Rattle.pvs_soundness.specs.Laws.{WhereAccepted}
use Rattle.pvs_soundness.specs.Within.{lookups_within}
use Rattle.pvs_soundness.specs.Fits.{nowhere, FitsKind, IsInsideKind}
use Rattle.pvs_soundness.specs.Checked.{IsFormedBy, IsCheckedBy, IsDefinedBy, plainly, under_parameter, AreFormedBy, IsFormulaBy, IsKindBy}
use Rattle.pvs_soundness.proofs.AcceptedLaws.{typing_kept}
use Rattle.pvs_soundness.proofs.ScopedLaws.{InScope, scope_kept}
use Rattle.pvs_soundness.proofs.WellSortedLaws.{accepted_sorted}
use Rattle.pvs_soundness.proofs.LocalTyping.{answered_alike}
use Rattle.pvs_soundness.proofs.WithinLaws.{within_agrees, within_ordered}
use Rattle.pvs_soundness.proofs.ClosedLaws.{mean_closed}

pub was_accepted : {A : Type 0} (P : Type 0) (o : Outcome A) (a : A) (us : List Ref) → o ≡ Accepted a [] us → WhereAccepted P o → P
was_accepted P o a us e h = subst (WhereAccepted P) e h

pub formed_scoped : (V : Vocabulary) (s : Lookups) (a : Tree) → IsFormedBy V s [] a → IsScoped 0 a
formed_scoped V s a h = was_accepted (IsScoped 0 a) (well_formed s [] a) tt h.used h.accepted ((typing_kept s InScope InScope (scope_kept s) a).well_formed [])

module _ (V : Vocabulary) (s : Lookups) (ordered : IsOrdered s) (closed : IsClosedSet V s)
    (m : Model) (fits : IsModelOf m (lookups_within V.has_reference s)) (valued : (r : Ref) → IsValued m (lookups_within V.has_reference s) r) where
  all_valued : (rs : List Ref) → AllHold (IsValued m (lookups_within V.has_reference s)) rs
  all_valued [] = tt
  all_valued (r ∷ rs) = (valued r, all_valued rs)

  provided : {A : Type 0} (Q : A → Type 0) (o : Outcome A) (a : A) (us : List Ref) → o ≡ Accepted a [] us
      → Provides (IsTrueCondition m (Satisfies m)) (IsValued m (lookups_within V.has_reference s)) Q o → Q a
  provided Q o a us e h = (subst (Provides (IsTrueCondition m (Satisfies m)) (IsValued m (lookups_within V.has_reference s)) Q) e h) tt (all_valued us)

  -- what typing accepts by these look-ups, it accepts by those within the set
  pub formed_defined : (g : Assumptions) (a : Tree) → EachAssumed V g → IsFormedBy V s g a → (e : Env) → Satisfies m g e → inside m a e ≡ true
  formed_defined g a q h =
      let sorted = (was_accepted _ (well_formed s g a) tt h.used h.accepted (accepted_sorted s g a a).2).1 in
      let same = (answered_alike V s (lookups_within V.has_reference s) ordered (within_ordered V.has_reference s ordered) (within_agrees V s) closed g q a a sorted h.each h.each).well_formed in
      provided (λ _. IsDefined m (Satisfies m) g a) (well_formed (lookups_within V.has_reference s) g a) tt h.used (sym same ∙ h.accepted)
      ((typing_sound m (lookups_within V.has_reference s) fits (Satisfies m) (satisfies_is m) a).well_formed g)

  pub checked_typed : (g : Assumptions) (t a : Tree) → EachAssumed V g → IsCheckedBy V s g t a → (e : Env) → Satisfies m g e → IsOfType m t a e
  checked_typed g t a q h =
      let sorted = (was_accepted _ (check s g t a) tt h.used h.accepted (accepted_sorted s g t a).1).1 in
      let same = (answered_alike V s (lookups_within V.has_reference s) ordered (within_ordered V.has_reference s ordered) (within_agrees V s) closed g q t a sorted h.each h.type_each).check in
      (provided (λ _. HasType m (Satisfies m) g t a) (check (lookups_within V.has_reference s) g t a) tt h.used (sym same ∙ h.accepted)
      ((typing_sound m (lookups_within V.has_reference s) fits (Satisfies m) (satisfies_is m) t).check g a)).in_each

  -- under no binder each environment counts, and means the same
  closed_inside : (a : Tree) → IsFormedBy V s [] a → (e : Env) → inside m a e ≡ true
  closed_inside a h e = formed_defined [] a tt h e tt

  binder_inside : (a b : Tree) (e : Env) → inside m a e ≡ true → ((v : Value) → IsMember v (mean m a e).set → inside m b (env_with v e) ≡ true)
      → (inside m a e && list_all (λ v. inside m b (env_with v e)) (mean m a e).set) ≡ true
  binder_inside a b e h k = all_true h (list_all_from (λ v. inside m b (env_with v e)) (mean m a e).set k)

  -- a definition has its value in its type, and its flag is on
  defined_typed : (t a : Tree) → IsDefinedBy V s t a → (e : Env) → IsOfType m t a e
  defined_typed t a (plainly h) e = checked_typed [] t a tt h e tt
  defined_typed t a (under_parameter c b r ea et hc h) e =
      let typed : (f : Env) → Satisfies m (Variable c ∷ []) f → IsOfType m b r f = checked_typed (Variable c ∷ []) b r (hc.each, tt) h in
      subst (λ x. IsOfType m t x e) (sym ea) (subst (λ x. IsOfType m x (TFun c r) e) (sym et) (record {
        member = table_in (λ v. (mean m b (env_with v e)).value) (λ v. (mean m r (env_with v e)).set) (mean m c e).set (λ v q. (typed (env_with v e) (q, tt)).member);
        inside = binder_inside c b e (closed_inside c hc e) (λ v q. (typed (env_with v e) (q, tt)).inside);
      }))

  -- FORALL is inside where its type is, and its predicate at each member
  universal_inside : (a q : Tree) (e : Env) → inside m a e ≡ true → ((v : Value) → IsMember v (mean m a e).set → inside m q (env_with v e) ≡ true)
      → inside m (universal a q) e ≡ true
  universal_inside a q e h k = all_true (all_true (binder_inside a q e h k) (binder_inside a True e h (λ v l. refl))) refl

  closure_inside : (bs : List FreeVariable) (u : Tree) → AreFormedBy V s bs → ((e : Env) → Satisfies m (binders_of bs) e → inside m u e ≡ true) → (e : Env) → inside m (closure bs u) e ≡ true
  closure_inside [] u f h e = h e tt
  closure_inside (b ∷ bs) u f h e = closure_inside bs (universal b.ty u) f.1 (λ i sat. universal_inside b.ty u i (closed_inside b.ty f.0 i) (λ v l. h (env_with v i) (l, sat))) e

  each_binder : (bs : List FreeVariable) → AreFormedBy V s bs → EachAssumed V (binders_of bs)
  each_binder [] f = tt
  each_binder (b ∷ bs) f = (f.0.each, each_binder bs f.1)

  formula_inside : (t : Tree) → IsFormulaBy V s t → (e : Env) → inside m t e ≡ true
  formula_inside t h e = subst (λ x. inside m x e ≡ true) (sym h.closed) (closure_inside h.variables h.open_tree h.formed
      (λ f sat. (checked_typed (binders_of h.variables) h.open_tree TBool (each_binder h.variables h.formed) h.checked f sat).inside) e)

  pub kind_inside : (k : Kind) → IsKindBy V s k → IsInsideKind m k
  kind_inside (TypeSig b None) h = tt
  kind_inside (TypeSig b (Some a)) h = closed_inside a h nowhere
  kind_inside (ConstSig a None) h = closed_inside a h nowhere
  kind_inside (ConstSig a (Some t)) h = (closed_inside a h.0 nowhere, (defined_typed t a h.1 nowhere).inside)
  kind_inside (VarSig a) h = closed_inside a h nowhere
  kind_inside (FormulaSig c t o) h = formula_inside t h nowhere

  -- a constant of an entry that fits has a value in its type
  pub constant_valued : (r : Ref) (a : Tree) (body : Option Tree) → IsKindBy V s (ConstSig a body) → FitsKind m r (ConstSig a body) → (e : Env) → IsMember (m.meaning r).value (mean m a e).set
  constant_valued r a None h f e = subst (λ x. IsMember (m.meaning r).value x.set) (mean_closed m a nowhere e (formed_scoped V s a h)) f.1
  constant_valued r a (Some t) h f e =
      subst (λ x. IsMember (m.meaning r).value x.set) (mean_closed m a nowhere e (formed_scoped V s a h.0))
      (subst (λ v. IsMember v (mean m a nowhere).set) (sym f.1) (defined_typed t a h.1 nowhere).member)
