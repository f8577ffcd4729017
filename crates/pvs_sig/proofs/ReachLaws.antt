-- What an entry reaches is in the whole scope of its theory, or owed.
use Rattle.std.proofs.Common.{◌≡◌, ◌⊎◌, inl, inr, ℕ, zero, suc, ◌<◌, ◌≤◌, Bool, true, false, cond, Option, Some, None, List, [], ◌∷◌, length, refl, ap, ◌∙◌, sym, subst, arith, eqb}
use Rattle.std.specs.Prelude.{option_map, slice_get}
use Rattle.std.proofs.lemmas.Bool.{eqb-true}
use Rattle.pvs_terms.specs.Tree.{Text, Tree, Ref, Trees}
use Rattle.pvs_terms.proofs.TreeLaws.{tree_eq-true}
use Rattle.pvs_subst.specs.Instance.{instantiate}
use Rattle.pvs_sig.specs.declared.signature.Class.TheVariants.{Axiom, Assumption, Lemma, Condition, ImportCondition, FormalCondition}
use Rattle.pvs_sig.specs.Signature.{Signature, Entry, Import, Kind, TypeSig, ConstSig, VarSig, FormulaSig, kind_at, entry_kind, formals_in}
use Rattle.pvs_sig.specs.Development.{Development, theory_named, In, MatchFormals, IsRefOver, IsSignatureOver, IsDevelopment}
use Rattle.pvs_sig.specs.Scope.{ref_instance, is_exported, scope, of_import}
use Rattle.pvs_sig.specs.Reach.{has_instance, next_number, owed_assumption, first_import_at, seen_by_assumption, assumption_refs_in, assumption_refs, reach_beyond, reach, Owes}
use Rattle.pvs_sig.proofs.ScopeLaws.{in_split, in_right, imported_from, in_imported, in_scope, to_scope, visible_later}
use Rattle.pvs_sig.proofs.DevelopmentLaws.{theory_stands, scope_over_signature, ref_instance_over}

-- the assumption that is found has that instance
pub record IsInstance (es : List Entry) (th : Text) (acts : Trees) (t : Tree) (n : ℕ) : Type 0 where
  pub tree : Tree
  pub owner : ℕ
  pub kind : option_map entry_kind (slice_get es n) ≡ Some (FormulaSig Assumption tree owner)
  pub same : instantiate tree th acts ≡ t

instance_here : (e : Entry) (es : List Entry) (k : Kind) (th : Text) (acts : Trees) (t : Tree) → e.kind ≡ k → has_instance k th acts t ≡ true → IsInstance (e ∷ es) th acts t zero
instance_here e es (FormulaSig Assumption u o) th acts t q h = record { tree = u; owner = o; kind = ap Some q; same = tree_eq-true (instantiate u th acts) t h }
instance_here e es (FormulaSig Axiom u o) th acts t q h = cc
instance_here e es (FormulaSig Lemma u o) th acts t q h = cc
instance_here e es (FormulaSig Condition u o) th acts t q h = cc
instance_here e es (FormulaSig ImportCondition u o) th acts t q h = cc
instance_here e es (FormulaSig (FormalCondition f) u o) th acts t q h = cc
instance_here e es (TypeSig b body) th acts t q h = cc
instance_here e es (ConstSig a body) th acts t q h = cc
instance_here e es (VarSig a) th acts t q h = cc

is_instance : (es : List Entry) (th : Text) (acts : Trees) (t : Tree) (n : ℕ) → owed_assumption es th acts t ≡ Some n → IsInstance es th acts t n
is_instance [] th acts t n h = cc
is_instance (e ∷ es) th acts t n h = go (λ j k. is_instance es th acts t j k) (has_instance e.kind th acts t) refl h
  where
    later : (j : ℕ) → suc j ≡ n → IsInstance es th acts t j → IsInstance (e ∷ es) th acts t n
    later j q k = subst (IsInstance (e ∷ es) th acts t) q record { tree = k.tree; owner = k.owner; kind = k.kind; same = k.same }

    next : ((j : ℕ) → owed_assumption es th acts t ≡ Some j → IsInstance es th acts t j) → (z : Option ℕ) → owed_assumption es th acts t ≡ z → next_number z ≡ Some n → IsInstance (e ∷ es) th acts t n
    next f None q k = cc
    next f (Some j) q k = let same : suc j ≡ n = cc in later j same (f j q)

    go : ((j : ℕ) → owed_assumption es th acts t ≡ Some j → IsInstance es th acts t j) → (z : Bool) → has_instance e.kind th acts t ≡ z → cond z (Some zero) (next_number (owed_assumption es th acts t)) ≡ Some n → IsInstance (e ∷ es) th acts t n
    go f true q k = let same : zero ≡ n = cc in subst (IsInstance (e ∷ es) th acts t) same (instance_here e es e.kind th acts t refl q)
    go f false q k = next f (owed_assumption es th acts t) refl k

pub import_found : (xs : List Import) (p : ℕ) (x : Import) → first_import_at xs p ≡ Some x → In x xs × (x.place ≡ p)
import_found [] p x h = cc
import_found (y ∷ ys) p x h = go (import_found ys p x) (eqb y.place p) refl h
  where
    go : (first_import_at ys p ≡ Some x → In x ys × (x.place ≡ p)) → (b : Bool) → eqb y.place p ≡ b → cond b (Some y) (first_import_at ys p) ≡ Some x → In x (y ∷ ys) × (x.place ≡ p)
    go f true e k = let same : y ≡ x = cc in (inl (sym same), ap (λ z. z.place) (sym same) ∙ eqb-true y.place p e)
    go f false e k = let r = f k in (inr r.0, r.1)

-- why a reference is reached beyond the scope
pub data Beyond (d : Development) (s : Signature) (i : ℕ) (q : Ref) : Type 0 where
  of_owed : (x : Import) (b : Signature) (n : ℕ) (r : Ref) → Owes d s i x b n → In r (scope d b n) → is_exported (Some b) r ≡ true → q ≡ ref_instance r x.theory x.actuals → Beyond d s i q

module _ (d : Development) (s : Signature) (i : ℕ) (q : Ref) where
  seen_beyond : (t : Tree) (o : ℕ) (x : Import) (b : Signature) (z : Option ℕ) → kind_at s i ≡ Some (FormulaSig ImportCondition t o) → first_import_at s.imports o ≡ Some x → theory_named d x.theory ≡ Some b → owed_assumption b.entries x.theory x.actuals t ≡ z
      → In q (seen_by_assumption d x b z) → Beyond d s i q
  seen_beyond t o x b None e f g k h = absurd h
  seen_beyond t o x b (Some n) e f g k h =
      let p = import_found s.imports o x f in
      let a = is_instance b.entries x.theory x.actuals t n k in
      let w = imported_from (Some b) x.theory x.actuals q (scope d b n) h in
      of_owed x b n w.0 record {
        listed = p.0;
        named = g;
        tree = a.tree;
        owner = a.owner;
        assumption = a.kind;
        entry = e ∙ ap (λ y. Some (FormulaSig ImportCondition y o)) (sym a.same) ∙ ap (λ y. Some (FormulaSig ImportCondition (instantiate a.tree x.theory x.actuals) y)) (sym p.1);
        found = ap (owed_assumption b.entries x.theory x.actuals) a.same ∙ k;
        first = ap (first_import_at s.imports) p.1 ∙ f;
      } w.1 w.2 w.3

  by_beyond : (t : Tree) (o : ℕ) (x : Import) (z : Option Signature) → kind_at s i ≡ Some (FormulaSig ImportCondition t o) → first_import_at s.imports o ≡ Some x → theory_named d x.theory ≡ z → In q (assumption_refs_in d x t z) → Beyond d s i q
  by_beyond t o x None e f g h = absurd h
  by_beyond t o x (Some b) e f g h = seen_beyond t o x b (owed_assumption b.entries x.theory x.actuals t) e f g refl h

  at_beyond : (t : Tree) (o : ℕ) (z : Option Import) → kind_at s i ≡ Some (FormulaSig ImportCondition t o) → first_import_at s.imports o ≡ z → In q (assumption_refs d t z) → Beyond d s i q
  at_beyond t o None e f h = absurd h
  at_beyond t o (Some x) e f h = by_beyond t o x (theory_named d x.theory) e f refl h

  in_beyond : (z : Option Kind) → kind_at s i ≡ z → In q (reach_beyond d s z) → Beyond d s i q
  in_beyond (Some (FormulaSig ImportCondition t o)) e h = at_beyond t o (first_import_at s.imports o) e refl h
  in_beyond None e h = absurd h
  in_beyond (Some (TypeSig b body)) e h = absurd h
  in_beyond (Some (ConstSig a body)) e h = absurd h
  in_beyond (Some (VarSig a)) e h = absurd h
  in_beyond (Some (FormulaSig Axiom t o)) e h = absurd h
  in_beyond (Some (FormulaSig Assumption t o)) e h = absurd h
  in_beyond (Some (FormulaSig Lemma t o)) e h = absurd h
  in_beyond (Some (FormulaSig Condition t o)) e h = absurd h
  in_beyond (Some (FormulaSig (FormalCondition f) t o)) e h = absurd h

  pub in_reach : In q (reach d s i) → In q (scope d s i) ⊎ Beyond d s i q
  in_reach h = elim (in_split q (scope d s i) (reach_beyond d s (kind_at s i)) h) [ inl a ↦ inl a | inr b ↦ inr (in_beyond (kind_at s i) refl b) ]

-- what the assumption sees is reached
pub to_beyond : (d : Development) (s : Signature) (i : ℕ) (x : Import) (b : Signature) (n : ℕ) (r : Ref) → Owes d s i x b n → In r (scope d b n) → is_exported (Some b) r ≡ true → In (ref_instance r x.theory x.actuals) (reach d s i)
to_beyond d s i x b n r w h v =
    let t = instantiate w.tree x.theory x.actuals in
    let q = ref_instance r x.theory x.actuals in
    let same : seen_by_assumption d x b (Some n) ≡ reach_beyond d s (kind_at s i) =
    ap (seen_by_assumption d x b) (sym w.found) ∙ ap (assumption_refs_in d x t) (sym w.named) ∙ ap (assumption_refs d t) (sym w.first) ∙ ap (reach_beyond d s) (sym w.entry) in
    in_right q (scope d s i) (reach_beyond d s (kind_at s i)) (subst (In q) same (in_imported (Some b) x.theory x.actuals r (scope d b n) h v))

number_below : {A : Type 0} (xs : List A) (n : ℕ) (y : A) → slice_get xs n ≡ Some y → n < length xs
number_below [] n y h = cc
number_below (x ∷ xs) zero y h = omega arith
number_below (x ∷ xs) (suc n) y h = let l = number_below xs n y h in omega (arith, l)

pub kind_below : (s : Signature) (n : ℕ) (k : Kind) → kind_at s n ≡ Some k → n < length s.entries
kind_below s n k h = go (slice_get s.entries n) refl h
  where
    go : (z : Option Entry) → slice_get s.entries n ≡ z → option_map entry_kind z ≡ Some k → n < length s.entries
    go None e q = cc
    go (Some y) e q = number_below s.entries n y e

-- the conditions of an importing stand together
abbrev pub StaysTogether : Signature → Type 0
StaysTogether s = (i j : ℕ) (t : Tree) (o : ℕ) → kind_at s i ≡ Some (FormulaSig ImportCondition t o) → i ≤ j → j < o → (u : Tree) × (kind_at s j ≡ Some (FormulaSig ImportCondition u o))

-- what entry y reaches, the scope at n has, once the importings that it is owed by stand below n
module _ (d : Development) (b : Signature) (standing : IsDevelopment d) (good : IsSignatureOver d b) where
  owed_later : (y n : ℕ) (x : Import) (c : Signature) (j : ℕ) (r : Ref) → Owes d b y x c j → x.place ≤ n → In r (scope d c j) → is_exported (Some c) r ≡ true → In (ref_instance r x.theory x.actuals) (scope d b n)
  owed_later y n x c j r w l h v =
      let st = theory_stands d standing x.theory c w.named in
      let below = kind_below c j (FormulaSig Assumption w.tree w.owner) w.assumption in
      let there = to_scope d c (length c.entries) r (visible_later d c j (length c.entries) r (omega (arith, below)) v (in_scope d c j r h)) in
      to_scope d b n (ref_instance r x.theory x.actuals) (of_import x r w.listed l (subst (In r) (sym st.at_end) there) (ap (λ z. is_exported z r) w.named ∙ v) refl)

  pub reach_later : (y n : ℕ) (q : Ref) → y ≤ n → ((x : Import) (c : Signature) (j : ℕ) → Owes d b y x c j → x.place ≤ n) → In q (reach d b y) → is_exported (Some b) q ≡ true → In q (scope d b n)
  reach_later y n q l places h v = elim (in_reach d b y q h) [
    | inl a ↦ to_scope d b n q (visible_later d b y n q l v (in_scope d b y q a))
    | inr e ↦ owed e
  ]
    where
      owed : Beyond d b y q → In q (scope d b n)
      owed (of_owed x c j r w k u e) = subst (λ z. In z (scope d b n)) (sym e) (owed_later y n x c j r w (places x c j w) k u)

  -- an importing that owes an entry up to an assumption stands below it
  pub owner_below : StaysTogether b → (y n : ℕ) (t : Tree) (o : ℕ) → kind_at b n ≡ Some (FormulaSig Assumption t o) → y ≤ n → (x : Import) (c : Signature) (j : ℕ) → Owes d b y x c j → x.place ≤ n
  owner_below together y n t o e l x c j w = omega (arith, λ (k : n < x.place). clash (together y n (instantiate w.tree x.theory x.actuals) x.place w.entry l k))
    where
      clash : (u : Tree) × (kind_at b n ≡ Some (FormulaSig ImportCondition u x.place)) → ⊥
      clash p = let q = sym e ∙ p.1 in cc

  pub reach_over : (y : ℕ) (q : Ref) → In q (reach d b y) → IsRefOver d b q
  reach_over y q h = elim (in_reach d b y q h) [ inl a ↦ scope_over_signature d b y q standing good a | inr e ↦ owed e ]
    where
      owed : Beyond d b y q → IsRefOver d b q
      owed (of_owed x c j r w k u e) =
          let st = theory_stands d standing x.theory c w.named in
          subst (IsRefOver d b) (sym e) (ref_instance_over d b c x.theory x.actuals r w.named (subst (λ z. MatchFormals d b (formals_in z) x.actuals) w.named (good.imports x w.listed).1) (scope_over_signature d c j r standing st.over k))
