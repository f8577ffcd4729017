-- What is found is a member of the list, of that name and kind, and declared.
use Rattle.std.proofs.Common.{◌≡◌, ◌⊎◌, inl, inr, ℕ, Bool, true, false, cond, List, [], ◌∷◌, Option, Some, None, Result, Ok, Err, length, refl, ap, sym, subst, ◌∙◌}
use Rattle.std.specs.Prelude.{bytes_eq, slice_get, option_map, if◌then◌else◌}
use Rattle.std.specs.List.{filter}
use Rattle.pvs_base.specs.declared.code.Code.{Code}
use Rattle.pvs_base.specs.declared.code.Code.TheVariants.{Unknown}
use Rattle.pvs_terms.specs.Tree.{Text, Ref, Own, Formal, Inst, Trees}
use Rattle.pvs_terms.proofs.TreeLaws.{both, bytes_eq_equal}
use Rattle.pvs_sig.specs.Signature.{Signature, Entry, FormalSig, Kind, TypeSig, ConstSig, VarSig, FormulaSig, entry_kind, formal_kind, kind_in, instantiate_kind, instantiate_found}
use Rattle.pvs_sig.specs.Development.{Development, theory_named, In, kind_of}
use Rattle.pvs_sig.specs.Scope.{scope}
use Rattle.pvs_sig.proofs.ScopeLaws.{in_split}
use Rattle.pvs_sig.specs.Instances.{instances, lists_instance}
use Rattle.pvs_names.specs.declared.kind.NameKind.{NameKind}
use Rattle.pvs_names.specs.declared.kind.NameKind.TheVariants.{TypeName, Constant, FormulaName}
use Rattle.pvs_names.specs.Members.{Member, name_kind, of_entry, of_formal, entry_in, member_of, members, kind_eq, is_called, the_one, find}
use Rattle.pvs_names.specs.Resolve.{Qualifier, is_own, is_imported, is_own_entry, is_entry_of, is_entry_at, lists_theory, or_else, visible_members, own_refs_below, any_formula, find_plain, if_visible, resolve_qualified, resolve}

pub record IsFound (kind : NameKind) (name : Text) (ms : List Member) (r : Ref) : Type 0 where
  pub member : Member
  pub listed : In member ms
  pub reference : member.reference ≡ r
  pub kind_is : member.kind ≡ kind
  pub name_is : member.name ≡ name

kind_eq-true : (j k : NameKind) → kind_eq j k ≡ true → k ≡ j
kind_eq-true TypeName TypeName h = refl
kind_eq-true TypeName Constant h = cc
kind_eq-true TypeName FormulaName h = cc
kind_eq-true Constant TypeName h = cc
kind_eq-true Constant Constant h = refl
kind_eq-true Constant FormulaName h = cc
kind_eq-true FormulaName TypeName h = cc
kind_eq-true FormulaName Constant h = cc
kind_eq-true FormulaName FormulaName h = refl

-- what passes a filter
kept_in : {A : Type 0} (b : Bool) (p : A → Bool) (y : A) (ys zs : List A) → p y ≡ b → ((x : A) → In x zs → In x ys × (p x ≡ true)) → (x : A) → In x (cond b (y ∷ zs) zs) → In x (y ∷ ys) × (p x ≡ true)
kept_in true p y ys zs e k x (inl h) = (inl h, subst (λ z. p z ≡ true) (sym h) e)
kept_in true p y ys zs e k x (inr h) = let r = k x h in (inr r.0, r.1)
kept_in false p y ys zs e k x h = let r = k x h in (inr r.0, r.1)

filter_in : {A : Type 0} (p : A → Bool) (ys : List A) (x : A) → In x (filter p ys) → In x ys × (p x ≡ true)
filter_in p [] x h = absurd h
filter_in p (y ∷ ys) x h = kept_in (p y) p y ys (filter p ys) refl (λ z k. filter_in p ys z k) x h

one_is : (ms : List Member) (r : Ref) → the_one ms ≡ Ok r → (m : Member) × In m ms × (m.reference ≡ r)
one_is [] r e = absurd (cc)
one_is (m ∷ []) r e = (m, inl refl, cc)
one_is (m ∷ n ∷ ms) r e = absurd (cc)

pub found_is : (is : Ref → Bool) (kind : NameKind) (name : Text) (ms : List Member) (r : Ref) → find is kind name ms ≡ Ok r → IsFound kind name ms r
found_is is kind name ms r e =
    let one = one_is (filter (is_called is kind name) ms) r e in
    let kept = filter_in (is_called is kind name) ms one.0 one.1 in
    let split = both (kind_eq kind one.0.kind) (bytes_eq name one.0.name) (both (is one.0.reference) _ kept.1).1 in
    record {
      member = one.0;
      listed = kept.0;
      reference = one.2;
      kind_is = kind_eq-true kind one.0.kind split.0;
      name_is = sym ((bytes_eq_equal true name one.0.name (sym split.1)).0 refl);
    }

or_else_is : (P : Ref → Type 0) (q r : Result Ref Code) (x : Ref) → (q ≡ Ok x → P x) → (r ≡ Ok x → P x) → or_else q r ≡ Ok x → P x
or_else_is P (Ok y) r x f g e = f e
or_else_is P (Err Unknown) r x f g e = g e
or_else_is P (Err c) r x f g e = f e

-- a reference has one member where it is declared, of that reference
of_entry_is : (r : Ref) (e : Option Entry) (m : Member) → In m (of_entry r e) → (m.reference ≡ r) × (of_entry r e ≡ m ∷ [])
of_entry_is r None m h = absurd h
of_entry_is r (Some e) m (inl h) = (ap (λ (x : Member). x.reference) h, ap (λ x. x ∷ []) (sym h))
of_entry_is r (Some e) m (inr h) = absurd h

of_formal_is : (r : Ref) (e : Option FormalSig) (m : Member) → In m (of_formal r e) → (m.reference ≡ r) × (of_formal r e ≡ m ∷ [])
of_formal_is r None m h = absurd h
of_formal_is r (Some e) m (inl h) = (ap (λ (x : Member). x.reference) h, ap (λ x. x ∷ []) (sym h))
of_formal_is r (Some e) m (inr h) = absurd h

member_is : (d : Development) (s : Signature) (r : Ref) (m : Member) → In m (member_of d s r) → (m.reference ≡ r) × (member_of d s r ≡ m ∷ [])
member_is d s (Own n) m h = of_entry_is (Own n) (slice_get s.entries n) m h
member_is d s (Formal n) m h = of_formal_is (Formal n) (slice_get s.formals n) m h
member_is d s (Inst th n xs) m h = of_entry_is (Inst th n xs) (entry_in (theory_named d th) n) m h

-- a member of a list of references is of one of them
in_members : (d : Development) (s : Signature) (rs : List Ref) (m : Member) → In m (members d s rs) → In m.reference rs × (member_of d s m.reference ≡ m ∷ [])
in_members d s [] m h = absurd h
in_members d s (r ∷ rs) m h = elim (in_split m (member_of d s r) (members d s rs) h) [
  | inl a ↦ (let p = member_is d s r m a in (inl p.0, subst (λ q. member_of d s q ≡ m ∷ []) (sym p.0) p.1))
  | inr b ↦ (let p = in_members d s rs m b in (inr p.0, p.1))
]

-- the one member of a list
member_eq : (m n : Member) → m ∷ [] ≡ n ∷ [] → m.kind ≡ n.kind
member_eq m n e = let same : m ≡ n = cc in ap (λ (x : Member). x.kind) same

of_entry_kind : (r : Ref) (e : Option Entry) (m : Member) → of_entry r e ≡ m ∷ [] → (k : Kind) × (option_map entry_kind e ≡ Some k) × (name_kind k ≡ m.kind)
of_entry_kind r None m h = absurd (cc)
of_entry_kind r (Some e) m h = (e.kind, refl, member_eq _ m h)

of_formal_kind : (r : Ref) (e : Option FormalSig) (m : Member) → of_formal r e ≡ m ∷ [] → (k : Kind) × (option_map formal_kind e ≡ Some k) × (name_kind k ≡ m.kind)
of_formal_kind r None m h = absurd (cc)
of_formal_kind r (Some e) m h = (formal_kind e, refl, member_eq _ m h)

instance_kind : (k : Kind) (th : Text) (xs : Trees) → name_kind (instantiate_kind k th xs) ≡ name_kind k
instance_kind (TypeSig b body) th xs = refl
instance_kind (ConstSig t body) th xs = refl
instance_kind (VarSig t) th xs = refl
instance_kind (FormulaSig c t o) th xs = refl

of_instance_kind : (r : Ref) (th : Text) (n : ℕ) (xs : Trees) (s : Option Signature) (m : Member) → of_entry r (entry_in s n) ≡ m ∷ []
    → (k : Kind) × (instantiate_found (kind_in s n) th xs ≡ Some k) × (name_kind k ≡ m.kind)
of_instance_kind r th n xs None m h = absurd (cc)
of_instance_kind r th n xs (Some s) m h =
    let k = of_entry_kind r (slice_get s.entries n) m h in
    (instantiate_kind k.0 th xs, ap (λ o. instantiate_found o th xs) k.1, instance_kind k.0 th xs ∙ k.2)

-- the member of a reference has its kind
kind_named : (d : Development) (s : Signature) (r : Ref) (m : Member) → member_of d s r ≡ m ∷ [] → (k : Kind) × (kind_of d s r ≡ Some k) × (name_kind k ≡ m.kind)
kind_named d s (Own n) m h = of_entry_kind (Own n) (slice_get s.entries n) m h
kind_named d s (Formal n) m h = of_formal_kind (Formal n) (slice_get s.formals n) m h
kind_named d s (Inst th n xs) m h = of_instance_kind (Inst th n xs) th n xs (theory_named d th) m h

-- what is found among the members of a list of references
abbrev pub IsNamed : Development → Signature → NameKind → Text → Ref → Type 0
IsNamed d s kind name r = (m : Member) × (member_of d s r ≡ m ∷ []) × (m.kind ≡ kind) × (m.name ≡ name)

pub found_named : (d : Development) (s : Signature) (rs : List Ref) (is : Ref → Bool) (kind : NameKind) (name : Text) (r : Ref)
    → find is kind name (members d s rs) ≡ Ok r → In r rs × IsNamed d s kind name r
found_named d s rs is kind name r e =
    let f = found_is is kind name (members d s rs) r e in
    let p = in_members d s rs f.member f.listed in
    (subst (λ q. In q rs) f.reference p.0, (f.member, subst (λ q. member_of d s q ≡ f.member ∷ []) f.reference p.1, f.kind_is, f.name_is))

module _ (d : Development) (s : Signature) (i : ℕ) (kind : NameKind) (name : Text) (r : Ref) where
  -- a member of the scope, or an own formula
  abbrev Is : Type 0
  Is = (In r (scope d s i) ⊎ (kind ≡ FormulaName)) × IsNamed d s kind name r

  seen : (is : Ref → Bool) → find is kind name (visible_members d s i) ≡ Ok r → Is
  seen is e = let p = found_named d s (scope d s i) is kind name r e in (inl p.0, p.1)

  formula_is : (k : NameKind) → kind ≡ k → any_formula d s k name ≡ Ok r → Is
  formula_is TypeName k e = absurd (cc)
  formula_is Constant k e = absurd (cc)
  formula_is FormulaName k e = (inr k, subst (λ j. IsNamed d s j name r) (sym k) (found_named d s (own_refs_below (length s.entries)) is_own_entry FormulaName name r e).1)

  where_is : (b : Bool) (q : Result Ref Code) → (q ≡ Ok r → Is) → if_visible b q ≡ Ok r → Is
  where_is true q f e = f e
  where_is false q f e = absurd (cc)

  theory_is : (b c : Bool) (th : Text) → (if b then or_else (find is_own_entry kind name (visible_members d s i)) (any_formula d s kind name) else if_visible c (find (is_entry_of th) kind name (visible_members d s i))) ≡ Ok r → Is
  theory_is true c th e = or_else_is (λ x. Is) (find is_own_entry kind name (visible_members d s i)) (any_formula d s kind name) r (seen is_own_entry) (formula_is kind refl) e
  theory_is false c th e = where_is c (find (is_entry_of th) kind name (visible_members d s i)) (seen (is_entry_of th)) e

  qualified_is : (th : Text) (acts : Option Trees) → resolve_qualified d s i kind th acts name ≡ Ok r → Is
  qualified_is th None e = theory_is (bytes_eq th s.name) (lists_theory th (instances d s i)) th e
  qualified_is th (Some acts) e = where_is (lists_instance th acts (instances d s i)) (find (is_entry_at th acts) kind name (visible_members d s i)) (seen (is_entry_at th acts)) e

  pub resolved_is : (q : Option Qualifier) → resolve d s i kind q name ≡ Ok r → Is
  resolved_is None e = or_else_is (λ x. Is) (find_plain kind name (visible_members d s i)) (any_formula d s kind name) r
      (λ p. or_else_is (λ x. Is) (find is_own kind name (visible_members d s i)) (find is_imported kind name (visible_members d s i)) r (seen is_own) (seen is_imported) p) (formula_is kind refl) e
  resolved_is (Some q) e = qualified_is q.theory q.actuals e

  pub resolved_kind : (q : Option Qualifier) → resolve d s i kind q name ≡ Ok r → (k : Kind) × (kind_of d s r ≡ Some k) × (name_kind k ≡ kind)
  resolved_kind q e =
      let m = (resolved_is q e).1 in
      let k = kind_named d s r m.0 m.1 in
      (k.0, k.1, k.2 ∙ m.2)
