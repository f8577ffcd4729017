-- What is looked up by number is what the definition finds.
use Rattle.std.proofs.Common.{◌≡◌, ◌⊎◌, inl, inr, ℕ, Bool, true, false, Option, Some, None, Result, Ok, Err, refl, sym, ap, subst, ◌∙◌}
use Rattle.std.specs.Prelude.{length, if◌then◌else◌}
use Rattle.pvs_base.specs.Answers.{◌>>=◌}
use Rattle.pvs_base.specs.declared.code.Code.{Code}
use Rattle.pvs_base.specs.declared.code.Code.TheVariants.{Unknown, OutOfProfile}
use Rattle.pvs_terms.specs.Tree.{Text, Ref}
use Rattle.pvs_terms.specs.Stored.{Stored, Extends, IsRef, ref_at, tree_at}
use Rattle.pvs_terms.proofs.StoredLaws.{extends_refl}
use Rattle.pvs_sig.specs.Signature.{Signature, Kind, TypeSig, ConstSig, VarSig, FormulaSig}
use Rattle.pvs_sig.specs.Development.{Development, In, kind_of}
use Rattle.pvs_sig.specs.Scope.{scope, is_var}
use Rattle.pvs_names.specs.declared.kind.NameKind.{NameKind}
use Rattle.pvs_names.specs.declared.kind.NameKind.TheVariants.{TypeName, Constant, FormulaName}
use Rattle.pvs_names.specs.declared.key.Section.{Section}
use Rattle.pvs_names.specs.declared.key.Section.TheVariants as section
use Rattle.pvs_names.specs.declared.index.Found.{Found}
use Rattle.pvs_names.specs.declared.index.Found.TheVariants.{One, Several}
use Rattle.pvs_names.specs.Members.{find}
use Rattle.pvs_names.specs.Resolve.{is_own, is_imported, is_outside, or_else, find_plain, any_formula, visible_members, resolve, resolve_plain, in_profile}
use Rattle.pvs_names.specs.code.Index.{IsSectionIn, IsFoundIn, answer, found_of, is_in}
use Rattle.pvs_names.proofs.FindLaws.{resolved_is, found_named}
use Rattle.pvs_elab.specs.Names.{TypedVariable, names_at, constant_kind, variable_kind}
use Rattle.pvs_scope.specs.declared.place.PlaceNames.{PlaceNames}
use Rattle.pvs_scope.specs.Refers.{Refers, RefersTyped}
use Rattle.pvs_scope.specs.NamesAt.{NamesAt, IsVariableOf}
use Rattle.pvs_scope.specs.code.Tables.{name_of, type_of}
use Rattle.pvs_scope.specs.code.Search.{code_of, found_by_name, found_by_text, first_of, absent, plain_answer, constant_or_absent, constant_answer, with_type, variable_answer}

-- what stands for a reference does so in later stores
pub refers_later : {s t : Stored} → Extends s t → (r : Result ℕ Code) (x : Result Ref Code) → Refers s r x → Refers t r x
refers_later e (Ok r) x h = (e.refs r h.0, h.1 ∙ ap Ok (sym (e.references r h.0)))
refers_later e (Err c) x h = h

pub typed_later : {s t : Stored} → Extends s t → (r : Result (ℕ × ℕ) Code) (x : Result TypedVariable Code) → RefersTyped s r x → RefersTyped t r x
typed_later {s} {t} e (Ok v) x h =
    (e.refs v.0 h.0, e.nodes v.1 h.1, h.2 ∙ ap (λ q. Ok (record { reference = q; ty = tree_at s v.1 })) (sym (e.references v.0 h.0)) ∙ ap (λ u. Ok (record { reference = ref_at t v.0; ty = u })) (sym (e.trees v.1 h.1)))
typed_later e (Err c) x h = h

module _ (s : Stored) where
  found_refers : (o : Option Found) (x : Result Ref Code) → answer s o ≡ x → IsFoundIn s o → Refers s (code_of o) x
  found_refers None x e h = sym e
  found_refers (Some (One r)) x e h = (h, sym e)
  found_refers (Some Several) x e h = sym e

  -- the second answer is asked where there is none
  first_or : (q r : Result ℕ Code) (x y : Result Ref Code) → Refers s q x → Refers s r y → Refers s (first_of q r) (or_else x y)
  first_or (Ok n) r x y h k = (h.0, ap (λ z. or_else z y) h.1)
  first_or (Err Unknown) r x y h k = subst (Refers s r) (ap (λ z. or_else z y) (sym h)) k
  first_or (Err c) r x y h k = ap (λ z. or_else z y) h

  absent_refers : (x : Text) → Refers s (absent x) (if is_outside x then Err OutOfProfile else Err Unknown)
  absent_refers x = go (is_outside x) where
    go : (b : Bool) → Refers s (if b then Err OutOfProfile else Err Unknown) (if b then Err OutOfProfile else Err Unknown)
    go true = refl
    go false = refl

-- a kind of which there are no formulas that stand later
abbrev IsPlainKind : NameKind → Type 0
IsPlainKind TypeName = Unit {0}
IsPlainKind Constant = Unit {0}
IsPlainKind FormulaName = ⊥

no_formula : (d : Development) (g : Signature) (kind : NameKind) (x : Text) → IsPlainKind kind → any_formula d g kind x ≡ Err Unknown
no_formula d g TypeName x h = refl
no_formula d g Constant x h = refl
no_formula d g FormulaName x h = absurd h

or_unknown : (q : Result Ref Code) → or_else q (Err Unknown) ≡ q
or_unknown (Ok r) = refl
or_unknown (Err Unknown) = refl
or_unknown (Err c) = refl

outside_never : (b : Bool) (r : Ref) → ◌≡◌ {A = Result Ref Code} (if b then Err OutOfProfile else Err Unknown) (Ok r) → ⊥
outside_never true r e = cc
outside_never false r e = cc

-- a name of the profile is found as it is
found_in_profile : (x : Text) (q : Result Ref Code) (r : Ref) → in_profile x q ≡ Ok r → q ≡ Ok r
found_in_profile x (Ok p) r e = e
found_in_profile x (Err Unknown) r e = absurd (outside_never (is_outside x) r e)
found_in_profile x (Err c) r e = e

in_scope_or : (kind : NameKind) → IsPlainKind kind → {P : Type 0} → P ⊎ (kind ≡ FormulaName) → P
in_scope_or kind h (inl p) = p
in_scope_or kind h (inr e) = absurd (subst IsPlainKind e h)

no_variable : (s : Stored) (x : Text) (r : ℕ) → IsRef s r → (k : Option Kind) → is_var k ≡ false → Refers s (Ok r) (constant_kind x (ref_at s r) k)
no_variable s x r h None e = (h, refl)
no_variable s x r h (Some (TypeSig b body)) e = (h, refl)
no_variable s x r h (Some (ConstSig t body)) e = (h, refl)
no_variable s x r h (Some (VarSig t)) e = absurd (cc)
no_variable s x r h (Some (FormulaSig c t n)) e = (h, refl)

constant_is : (s : Stored) (x : Text) (r : ℕ) → IsRef s r → (o : Option ℕ) (k : Option Kind) → IsVariableOf s o k → Refers s (constant_or_absent x r o) (constant_kind x (ref_at s r) k)
constant_is s x r h None k v = no_variable s x r h k v
constant_is s x r h (Some t) k v = subst (λ z. Refers s (absent x) (constant_kind x (ref_at s r) z)) (sym v.1) (absent_refers s x)

no_type : (s : Stored) (r : ℕ) → IsRef s r → (k : Option Kind) → is_var k ≡ false → variable_kind (ref_at s r) k ≡ Err Unknown
no_type s r h None e = refl
no_type s r h (Some (TypeSig b body)) e = refl
no_type s r h (Some (ConstSig t body)) e = refl
no_type s r h (Some (VarSig t)) e = absurd (cc)
no_type s r h (Some (FormulaSig c t n)) e = refl

variable_is : (s : Stored) (r : ℕ) → IsRef s r → (o : Option ℕ) (k : Option Kind) → IsVariableOf s o k → RefersTyped s (with_type r o) (variable_kind (ref_at s r) k)
variable_is s r h None k v = no_type s r h k v
variable_is s r h (Some t) k v = (h, v.0, ap (variable_kind (ref_at s r)) v.1)

module _ (s : Stored) (n : PlaceNames) (d : Development) (g : Signature) (h : NamesAt s n d g) where
  abbrev i : ℕ
  i = length g.entries

  found_by : (part : Section) (kind : NameKind) (x : Text) → IsSectionIn h.base part → (o : Option ℕ) → name_of n.texts x ≡ o
      → Refers h.base (code_of (found_by_name n.visible part kind o)) (find (is_in h.base part) kind x (visible_members d g i))
  found_by part kind x p None e = h.unknown x e (is_in h.base part) kind
  found_by part kind x p (Some k) e =
      let q = h.known x k e in
      let f = h.visible h.base (extends_refl h.base) h.distinct (record { section = part; kind = kind; name = k }) (p, q.0) in
      found_refers h.base (found_of n.visible (record { section = part; kind = kind; name = k })) _ (f.found ∙ ap (λ z. find (is_in h.base part) kind z (visible_members d g i)) q.1) f.stored

  own_found : (kind : NameKind) (x : Text) → Refers h.base (code_of (found_by_text n section.Own kind x)) (find is_own kind x (visible_members d g i))
  own_found kind x = found_by section.Own kind x tt (name_of n.texts x) refl

  imported_found : (kind : NameKind) (x : Text) → Refers h.base (code_of (found_by_text n section.Imported kind x)) (find is_imported kind x (visible_members d g i))
  imported_found kind x = found_by section.Imported kind x tt (name_of n.texts x) refl

  resolved : (kind : NameKind) (x : Text) → IsPlainKind kind → Refers h.base (plain_answer n kind x) (resolve_plain d g i kind x)
  resolved kind x p =
      let found = first_or h.base _ _ _ _ (own_found kind x) (imported_found kind x) in
      let same : resolve d g i kind None x ≡ find_plain kind x (visible_members d g i) = ap (or_else (find_plain kind x (visible_members d g i))) (no_formula d g kind x p) ∙ or_unknown (find_plain kind x (visible_members d g i)) in
      first_or h.base _ _ _ _ (subst (Refers h.base (first_of (code_of (found_by_text n section.Own kind x)) (code_of (found_by_text n section.Imported kind x)))) (sym same) found) (absent_refers h.base x)

  variable_at : (r : ℕ) → IsRef h.base r → In (ref_at h.base r) (scope d g i) → IsVariableOf h.base (type_of n.variables r) (kind_of d g (ref_at h.base r))
  variable_at r p q = h.variables h.base (extends_refl h.base) h.distinct r p q

  constant_from : (x : Text) (q : Result ℕ Code) (p : Result Ref Code) → Refers h.base q p → ((r : Ref) → p ≡ Ok r → In r (scope d g i))
      → Refers h.base (q >>= (λ r. constant_or_absent x r (type_of n.variables r))) (p >>= (λ r. constant_kind x r (kind_of d g r)))
  constant_from x (Ok r) p k f =
      subst (λ z. Refers h.base (constant_or_absent x r (type_of n.variables r)) (z >>= (λ y. constant_kind x y (kind_of d g y)))) (sym k.1)
      (constant_is h.base x r k.0 (type_of n.variables r) (kind_of d g (ref_at h.base r)) (variable_at r k.0 (f (ref_at h.base r) k.1)))
  constant_from x (Err c) p k f = ap (λ z. z >>= (λ y. constant_kind x y (kind_of d g y))) k

  variable_from : (q : Result ℕ Code) (p : Result Ref Code) → Refers h.base q p → ((r : Ref) → p ≡ Ok r → In r (scope d g i))
      → RefersTyped h.base (q >>= (λ r. with_type r (type_of n.variables r))) (p >>= (λ r. variable_kind r (kind_of d g r)))
  variable_from (Ok r) p k f =
      subst (λ z. RefersTyped h.base (with_type r (type_of n.variables r)) (z >>= (λ y. variable_kind y (kind_of d g y)))) (sym k.1)
      (variable_is h.base r k.0 (type_of n.variables r) (kind_of d g (ref_at h.base r)) (variable_at r k.0 (f (ref_at h.base r) k.1)))
  variable_from (Err c) p k f = ap (λ z. z >>= (λ y. variable_kind y (kind_of d g y))) k

  constant_seen : (x : Text) (r : Ref) → resolve_plain d g i Constant x ≡ Ok r → In r (scope d g i)
  constant_seen x r e = in_scope_or Constant tt (resolved_is d g i Constant x r None (found_in_profile x (resolve d g i Constant None x) r e)).0

  variable_seen : (x : Text) (r : Ref) → find is_own Constant x (visible_members d g i) ≡ Ok r → In r (scope d g i)
  variable_seen x r e = (found_named d g (scope d g i) is_own Constant x r e).0

  pub type_refers : (x : Text) → Refers s (plain_answer n TypeName x) ((names_at d g i).type_named x)
  type_refers x = refers_later h.extends _ _ (resolved TypeName x tt)

  pub constant_refers : (x : Text) → Refers s (constant_answer n x) ((names_at d g i).constant_named x)
  constant_refers x = refers_later h.extends _ _ (constant_from x (plain_answer n Constant x) (resolve_plain d g i Constant x) (resolved Constant x tt) (constant_seen x))

  pub variable_refers : (x : Text) → RefersTyped s (variable_answer n x) ((names_at d g i).variable_named x)
  variable_refers x = typed_later h.extends _ _ (variable_from (code_of (found_by_text n section.Own Constant x)) (find is_own Constant x (visible_members d g i)) (own_found Constant x) (variable_seen x))
