-- What names stand for at the next place of the latest theory is declared there.
use Rattle.std.proofs.Common.{◌≡◌, ◌⊎◌, inl, inr, ℕ, Bool, true, false, Option, Some, None, Result, Ok, Err, ◌∷◌, length, refl, sym, ap, ◌∙◌, subst}
use Rattle.std.specs.Prelude.{if◌then◌else◌, IfOk, IfErr}
use Rattle.pvs_base.specs.Answers.{◌>>=◌}
use Rattle.pvs_base.specs.declared.code.Code.{Code}
use Rattle.pvs_base.specs.declared.code.Code.TheVariants.{Unknown, OutOfProfile}
use Rattle.pvs_terms.specs.Tree.{Text, Tree, Ref, Own, Formal, Inst, Trees, IsWithinLimits}
use Rattle.pvs_terms.specs.Sorts.{sort_of}
use Rattle.pvs_terms.specs.declared.shape.Sort.{Sort}
use Rattle.pvs_terms.specs.declared.shape.Sort.TheVariants.{OfType, OfTerm}
use Rattle.pvs_terms.specs.Stored.{Stored, tree_at, ref_at}
use Rattle.pvs_sig.specs.Signature.{Signature, Kind, TypeSig, ConstSig, VarSig, FormulaSig, kind_in, instantiate_found}
use Rattle.pvs_sig.specs.Development.{Development, IsDevelopment, IsDeclared, HasSort, IsRefOver, theory_named, kind_of}
use Rattle.pvs_sig.specs.Scope.{scope}
use Rattle.pvs_sig.proofs.DevelopmentLaws.{scope_over_signature, kind_over}
use Rattle.pvs_names.specs.declared.kind.NameKind.{NameKind}
use Rattle.pvs_names.specs.declared.kind.NameKind.TheVariants.{TypeName, Constant, FormulaName}
use Rattle.pvs_names.specs.Members.{find, name_kind}
use Rattle.pvs_names.specs.Resolve.{is_own, is_outside, in_profile, resolve, resolve_plain, visible_members}
use Rattle.pvs_names.proofs.FindLaws.{resolved_is, resolved_kind, found_named}
use Rattle.pvs_instantiate.specs.InstancesView.{InstancesView, development}
use Rattle.pvs_typing.specs.Growth.{EachName}
use Rattle.pvs_typing.proofs.DevelopmentLaws.{each_name}
use Rattle.pvs_elab.specs.Names.{TypedVariable, names_at, constant_kind, variable_kind}
use Rattle.pvs_elaboration.specs.Known as known
use Rattle.pvs_elaboration.specs.Names.{IsVariable}
use Rattle.pvs_scope.specs.declared.place.PlaceNames.{PlaceNames}
use Rattle.pvs_scope.specs.NamesAt.{NamesAt}
use Rattle.pvs_scope.specs.Refers.{Refers, RefersTyped}
use Rattle.pvs_place.specs.Place.{IsDeclaredIn, names_in, known_in, IsPlace, IsTypedVariable}

sort_of_instance : (o : Sort) (k : Option Kind) (th : Text) (xs : Trees) → HasSort o (instantiate_found k th xs) → HasSort o k
sort_of_instance OfType None th xs h = h
sort_of_instance OfType (Some (TypeSig b body)) th xs h = tt
sort_of_instance OfType (Some (ConstSig t body)) th xs h = h
sort_of_instance OfType (Some (VarSig t)) th xs h = h
sort_of_instance OfType (Some (FormulaSig c t o)) th xs h = h
sort_of_instance OfTerm None th xs h = h
sort_of_instance OfTerm (Some (TypeSig b body)) th xs h = h
sort_of_instance OfTerm (Some (ConstSig t body)) th xs h = tt
sort_of_instance OfTerm (Some (VarSig t)) th xs h = h
sort_of_instance OfTerm (Some (FormulaSig c t o)) th xs h = h

declared_as : (d : Development) (g : Signature) (o : Sort) (r : Ref) → IsRefOver d g r → HasSort o (kind_of d g r) → IsDeclared d g o r
declared_as d g o (Own n) f h = h
declared_as d g o (Formal n) f h = h
declared_as d g o (Inst th n xs) f h = (sort_of_instance o (kind_in (theory_named d th) n) th xs h, f.1)

outside_never : (b : Bool) (r : Ref) → ◌≡◌ {A = Result Ref Code} (if b then Err OutOfProfile else Err Unknown) (Ok r) → ⊥
outside_never true r e = cc
outside_never false r e = cc

found_in_profile : (x : Text) (q : Result Ref Code) (r : Ref) → in_profile x q ≡ Ok r → q ≡ Ok r
found_in_profile x (Ok p) r e = e
found_in_profile x (Err Unknown) r e = absurd (outside_never (is_outside x) r e)
found_in_profile x (Err c) r e = e

seen_of : (kind : NameKind) → (kind ≡ FormulaName → ⊥) → {P : Type 0} → P ⊎ (kind ≡ FormulaName) → P
seen_of kind h (inl p) = p
seen_of kind h (inr e) = absurd (h e)

type_sort : (k : Kind) → name_kind k ≡ TypeName → HasSort OfType (Some k)
type_sort (TypeSig b body) e = tt
type_sort (ConstSig t body) e = absurd (cc)
type_sort (VarSig t) e = absurd (cc)
type_sort (FormulaSig c t o) e = absurd (cc)

-- a closed type whose names are declared
pub record IsTypeTree (d : Development) (t : Tree) : Type 0 where
  pub sort : sort_of t ≡ OfType
  pub names : EachName (IsDeclaredIn d) t

pub record Sees (d : Development) : Type 0 where
  pub types : (x : Text) (r : Ref) → (names_in d).type_named x ≡ Ok r → IsDeclaredIn d OfType r
  pub constants : (x : Text) (r : Ref) → (names_in d).constant_named x ≡ Ok r → IsDeclaredIn d OfTerm r
  pub variables : (x : Text) (q : TypedVariable) → (names_in d).variable_named x ≡ Ok q → IsTypeTree d q.ty

module _ (d : Development) (g : Signature) (standing : IsDevelopment (g ∷ d)) where
  abbrev i : ℕ
  i = length g.entries

  in_scope : (kind : NameKind) (x : Text) (r : Ref) → (kind ≡ FormulaName → ⊥) → resolve_plain d g i kind x ≡ Ok r → IsRefOver d g r
  in_scope kind x r h e =
      scope_over_signature d g i r standing.2 standing.1 (seen_of kind h (resolved_is d g i kind x r None (found_in_profile x (resolve d g i kind None x) r e)).0)

  kind_is : (kind : NameKind) (x : Text) (r : Ref) → resolve_plain d g i kind x ≡ Ok r → (k : Kind) × (kind_of d g r ≡ Some k) × (name_kind k ≡ kind)
  kind_is kind x r e = resolved_kind d g i kind x r None (found_in_profile x (resolve d g i kind None x) r e)

  type_seen : (x : Text) (r : Ref) → resolve_plain d g i TypeName x ≡ Ok r → IsDeclared d g OfType r
  type_seen x r e =
      let k = kind_is TypeName x r e in
      declared_as d g OfType r (in_scope TypeName x r (λ h. cc) e) (subst (HasSort OfType) (sym k.1) (type_sort k.0 k.2))

  constant_of : (x : Text) (p r : Ref) (k : Kind) → IsRefOver d g p → kind_of d g p ≡ Some k → name_kind k ≡ Constant → constant_kind x p (Some k) ≡ Ok r → IsDeclared d g OfTerm r
  constant_of x p r (TypeSig b body) f e n h = absurd (cc)
  constant_of x p r (ConstSig t body) f e n h =
      let same : p ≡ r = cc in
      subst (IsDeclared d g OfTerm) same (declared_as d g OfTerm p f (subst (HasSort OfTerm) (sym e) tt))
  constant_of x p r (VarSig t) f e n h = absurd (outside_never (is_outside x) r h)
  constant_of x p r (FormulaSig c t o) f e n h = absurd (cc)

  constant_seen : (x : Text) (r : Ref) (q : Result Ref Code) → resolve_plain d g i Constant x ≡ q → (q >>= (λ p. constant_kind x p (kind_of d g p))) ≡ Ok r → IsDeclared d g OfTerm r
  constant_seen x r (Err c) e h = cc
  constant_seen x r (Ok p) e h =
      let k = kind_is Constant x p e in
      constant_of x p r k.0 (in_scope Constant x p (λ h. cc) e) k.1 k.2 (ap (constant_kind x p) (sym k.1) ∙ h)

  variable_of : (p : Ref) (q : TypedVariable) (k : Option Kind) → IsRefOver d g p → kind_of d g p ≡ k → variable_kind p k ≡ Ok q → IsTypeTree (g ∷ d) q.ty
  variable_of p q None f e h = cc
  variable_of p q (Some (TypeSig b body)) f e h = cc
  variable_of p q (Some (ConstSig t body)) f e h = cc
  variable_of p q (Some (VarSig t)) f e h =
      let same : record { reference = p; ty = t } ≡ q = cc in
      let over = kind_over d g p (VarSig t) standing.2 standing.1 f e in
      subst (IsTypeTree (g ∷ d)) (ap (λ (z : TypedVariable). z.ty) same) (record { sort = over.sort; names = each_name d g t over.declared })
  variable_of p q (Some (FormulaSig c t o)) f e h = cc

  variable_seen : (x : Text) (q : TypedVariable) (z : Result Ref Code) → find is_own Constant x (visible_members d g i) ≡ z → (z >>= (λ p. variable_kind p (kind_of d g p))) ≡ Ok q → IsTypeTree (g ∷ d) q.ty
  variable_seen x q (Err c) e h = cc
  variable_seen x q (Ok p) e h =
      variable_of p q (kind_of d g p) (scope_over_signature d g i p standing.2 standing.1 (found_named d g (scope d g i) is_own Constant x p e).0) refl h

  sees_latest : Sees (g ∷ d)
  sees_latest = record {
    types = type_seen;
    constants = λ x r h. constant_seen x r (resolve_plain d g i Constant x) refl h;
    variables = λ x q h. variable_seen x q (find is_own Constant x (visible_members d g i)) refl h;
  }

-- at a place
module _ (v : InstancesView) (n : ℕ) (j : PlaceNames) (place : IsPlace v n j) (standing : IsDevelopment (development v)) where
  sees_at : Sees (development v)
  sees_at = subst Sees (sym place.latest.reads) (sees_latest place.latest.others place.latest.signature (subst IsDevelopment place.latest.reads standing))

  -- by what is said of an index wherever it stands
  module _ (x : Text) (r : Result ℕ Code) where
    type_refers : ((s : Stored) (d : Development) (g : Signature) → NamesAt s j d g → Refers s r ((names_at d g (length g.entries)).type_named x)) → Refers v.store r ((names_in (development v)).type_named x)
    type_refers f = subst (λ d. Refers v.store r ((names_in d).type_named x)) (sym place.latest.reads) (f v.store place.latest.others place.latest.signature place.names)

    constant_refers : ((s : Stored) (d : Development) (g : Signature) → NamesAt s j d g → Refers s r ((names_at d g (length g.entries)).constant_named x)) → Refers v.store r ((names_in (development v)).constant_named x)
    constant_refers f = subst (λ d. Refers v.store r ((names_in d).constant_named x)) (sym place.latest.reads) (f v.store place.latest.others place.latest.signature place.names)

  pub type_found : (x : Text) (r : Result ℕ Code) → ((s : Stored) (d : Development) (g : Signature) → NamesAt s j d g → Refers s r ((names_at d g (length g.entries)).type_named x))
      → IfOk r (λ q. known.IsDeclared (known_in v.store (development v)) OfType q × ((names_in (development v)).type_named x ≡ Ok (ref_at v.store q)))
  type_found x (Ok q) f = let h = type_refers x (Ok q) f in ((h.0, sees_at.types x (ref_at v.store q) h.1), h.1)
  type_found x (Err c) f = tt

  pub type_refused : (x : Text) (r : Result ℕ Code) → ((s : Stored) (d : Development) (g : Signature) → NamesAt s j d g → Refers s r ((names_at d g (length g.entries)).type_named x))
      → IfErr r (λ c. (names_in (development v)).type_named x ≡ Err c)
  type_refused x (Ok q) f = tt
  type_refused x (Err c) f = type_refers x (Err c) f

  pub constant_found : (x : Text) (r : Result ℕ Code) → ((s : Stored) (d : Development) (g : Signature) → NamesAt s j d g → Refers s r ((names_at d g (length g.entries)).constant_named x))
      → IfOk r (λ q. known.IsDeclared (known_in v.store (development v)) OfTerm q × ((names_in (development v)).constant_named x ≡ Ok (ref_at v.store q)))
  constant_found x (Ok q) f = let h = constant_refers x (Ok q) f in ((h.0, sees_at.constants x (ref_at v.store q) h.1), h.1)
  constant_found x (Err c) f = tt

  pub constant_refused : (x : Text) (r : Result ℕ Code) → ((s : Stored) (d : Development) (g : Signature) → NamesAt s j d g → Refers s r ((names_at d g (length g.entries)).constant_named x))
      → IfErr r (λ c. (names_in (development v)).constant_named x ≡ Err c)
  constant_refused x (Ok q) f = tt
  constant_refused x (Err c) f = constant_refers x (Err c) f

  variable_refers : (x : Text) (r : Result (ℕ × ℕ) Code) → ((s : Stored) (d : Development) (g : Signature) → NamesAt s j d g → RefersTyped s r ((names_at d g (length g.entries)).variable_named x))
      → RefersTyped v.store r ((names_in (development v)).variable_named x)
  variable_refers x r f = subst (λ d. RefersTyped v.store r ((names_in d).variable_named x)) (sym place.latest.reads) (f v.store place.latest.others place.latest.signature place.names)

  pub variable_found : (x : Text) (r : Result (ℕ × ℕ) Code) → ((s : Stored) (d : Development) (g : Signature) → NamesAt s j d g → RefersTyped s r ((names_at d g (length g.entries)).variable_named x))
      → IfOk r (IsTypedVariable v x)
  variable_found x (Ok p) f =
      let h = variable_refers x (Ok p) f in
      let t = sees_at.variables x (record { reference = ref_at v.store p.0; ty = tree_at v.store p.1 }) h.2 in
      record { known = record { node = h.1; sort = t.sort; names = t.names }; is = h.2 }
  variable_found x (Err c) f = tt

  pub variable_refused : (x : Text) (r : Result (ℕ × ℕ) Code) → ((s : Stored) (d : Development) (g : Signature) → NamesAt s j d g → RefersTyped s r ((names_at d g (length g.entries)).variable_named x))
      → IfErr r (λ c. (names_in (development v)).variable_named x ≡ Err c)
  variable_refused x (Ok p) f = tt
  variable_refused x (Err c) f = variable_refers x (Err c) f

-- the type of a VAR, within the limits
pub variable_is : (v : InstancesView) (x : Text) (p : ℕ × ℕ) → IsTypedVariable v x p → IsWithinLimits (tree_at v.store p.1) → IsVariable v.store (names_in (development v)) x p.1
variable_is v x p h k = record { reference = ref_at v.store p.0; is = h.is; fits = k }
