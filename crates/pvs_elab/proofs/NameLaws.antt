-- What names stand for, typing knows.
use Rattle.std.proofs.Common.{◌≡◌, ◌⊎◌, inl, inr, ℕ, Bool, true, false, refl, sym, ap, subst, ◌∙◌}
use Rattle.std.specs.Prelude.{Option, Some, None, IsSome, if◌then◌else◌, Result, Ok, Err}
use Rattle.pvs_base.specs.Answers.{◌>>=◌}
use Rattle.pvs_base.specs.declared.code.Code.{Code}
use Rattle.pvs_base.specs.declared.code.Code.TheVariants.{Unknown, OutOfProfile}
use Rattle.pvs_terms.specs.Tree.{Text, Ref}
use Rattle.pvs_sig.specs.Signature.{Signature, Kind, TypeSig, ConstSig, VarSig, FormulaSig}
use Rattle.pvs_sig.specs.Development.{Development, IsDevelopment, IsSignatureOver, kind_of, In}
use Rattle.pvs_sig.specs.Scope.{scope}
use Rattle.pvs_sig.specs.Reach.{reach_beyond}
use Rattle.pvs_sig.specs.Signature.{kind_at}
use Rattle.pvs_sig.specs.LookupsOf.{lookups_of, kind_lookup, constant_type, is_type_kind}
use Rattle.pvs_sig.proofs.ScopeLaws.{in_left}
use Rattle.pvs_sig.proofs.AdditionLaws.{reach_is_over}
use Rattle.pvs_sig.proofs.RankLaws.{finds_kinds}
use Rattle.pvs_names.specs.declared.kind.NameKind.{NameKind}
use Rattle.pvs_names.specs.declared.kind.NameKind.TheVariants.{TypeName, Constant, FormulaName}
use Rattle.pvs_names.specs.Members.{name_kind}
use Rattle.pvs_names.specs.Resolve.{resolve, is_outside, in_profile, resolve_plain}
use Rattle.pvs_names.proofs.FindLaws.{resolved_is, resolved_kind}
use Rattle.pvs_elab.specs.Names.{names_at, constant_kind}

outside_never : (b : Bool) (r : Ref) → ◌≡◌ {A = Result Ref Code} (if b then Err OutOfProfile else Err Unknown) (Ok r) → ⊥
outside_never true r e = cc
outside_never false r e = cc

-- a name of the profile is found as it is
found_in_profile : (x : Text) (q : Result Ref Code) (r : Ref) → in_profile x q ≡ Ok r → q ≡ Ok r
found_in_profile x (Ok p) r e = e
found_in_profile x (Err Unknown) r e = absurd (outside_never (is_outside x) r e)
found_in_profile x (Err c) r e = e

no_formula : (kind : NameKind) → (kind ≡ FormulaName → ⊥) → {P : Type 0} → P ⊎ (kind ≡ FormulaName) → P
no_formula kind n (inl p) = p
no_formula kind n (inr e) = absurd (n e)

type_kind : (o : Option Kind) (k : Kind) → o ≡ Some k → name_kind k ≡ TypeName → is_type_kind o ≡ true
type_kind o (TypeSig b body) e h = ap is_type_kind e
type_kind o (ConstSig t body) e h = absurd (cc)
type_kind o (VarSig t) e h = absurd (cc)
type_kind o (FormulaSig c t n) e h = absurd (cc)

-- a constant that is no VAR
constant_has : (x : Text) (q r : Ref) (o : Option Kind) (k : Kind) → o ≡ Some k → name_kind k ≡ Constant → constant_kind x q o ≡ Ok r → (q ≡ r) × IsSome (constant_type o)
constant_has x q r o (TypeSig b body) e h c = absurd (cc)
constant_has x q r o (ConstSig t body) e h c = (let d : constant_kind x q (Some (ConstSig t body)) ≡ Ok r = ap (constant_kind x q) (sym e) ∙ c in cc, subst (λ z. IsSome (constant_type z)) (sym e) refl)
constant_has x q r o (VarSig t) e h c = absurd (outside_never (is_outside x) r (ap (constant_kind x q) (sym e) ∙ c))
constant_has x q r o (FormulaSig f t n) e h c = absurd (cc)

module _ (d : Development) (s : Signature) (i : ℕ) (development : IsDevelopment d) (over : IsSignatureOver d s) (x : Text) where
  -- what is in the scope is looked up as what it is
  looked_up : (r : Ref) → In r (scope d s i) → kind_lookup d s r ≡ kind_of d s r
  looked_up r h = finds_kinds d s r (reach_is_over d s i r development over (in_left r (scope d s i) (reach_beyond d s (kind_at s i)) h))

  plain_kind : (kind : NameKind) → (kind ≡ FormulaName → ⊥) → (r : Ref) → resolve_plain d s i kind x ≡ Ok r → (k : Kind) × (kind_lookup d s r ≡ Some k) × (kind_of d s r ≡ Some k) × (name_kind k ≡ kind)
  plain_kind kind n r e =
      let found = found_in_profile x (resolve d s i kind None x) r e in
      let k = resolved_kind d s i kind x r None found in
      let seen = no_formula kind n (resolved_is d s i kind x r None found).0 in
      (k.0, looked_up r seen ∙ k.1, k.1, k.2)

  pub type_found : (r : Ref) → (names_at d s i).type_named x ≡ Ok r → (lookups_of d s).is_type r ≡ true
  type_found r e = let k = plain_kind TypeName (λ h. cc) r e in type_kind (kind_lookup d s r) k.0 k.1 k.3

  constant_of : (q : Result Ref Code) → resolve_plain d s i Constant x ≡ q → (r : Ref) → (q >>= (λ p. constant_kind x p (kind_of d s p))) ≡ Ok r → IsSome ((lookups_of d s).type_of r)
  constant_of (Err c) k r e = absurd (cc)
  constant_of (Ok p) k r e =
      let h = plain_kind Constant (λ h. cc) p k in
      let c = constant_has x p r (kind_of d s p) h.0 h.2 h.3 e in
      subst (λ z. IsSome (constant_type (kind_lookup d s z))) c.0 (subst (λ o. IsSome (constant_type o)) (h.2 ∙ sym h.1) c.1)

  pub constant_found : (r : Ref) → (names_at d s i).constant_named x ≡ Ok r → IsSome ((lookups_of d s).type_of r)
  constant_found r e = constant_of (resolve_plain d s i Constant x) refl r e
