-- In a model that fits the entries before it, each entry of a theory that was read is inside.
use Rattle.std.proofs.Common.{◌≡◌, ◌⊎◌, inl, inr, ℕ, zero, suc, ◌<◌, ◌≤◌, Bool, true, false, ◌&&◌, cond, [], Option, Some, None, refl, ap, ◌∙◌, sym, subst, arith}
use Rattle.std.specs.Prelude.{nat_lt}
use Rattle.std.proofs.lemmas.Bool.{lt-ltb, ltb-true, ltb-false}
use Rattle.pvs_terms.specs.Tree.{Tree, Leaf, Var, Name, Bind, Join, Project, If, Ref, Own, Formal, Inst, Trees, none, more}
use Rattle.pvs_terms.specs.declared.shape.Binder.{Binder}
use Rattle.pvs_terms.specs.declared.shape.Binder.TheVariants.{Subtype, Function, Product, Lambda}
use Rattle.pvs_terms.specs.declared.shape.Joint.{Joint}
use Rattle.pvs_terms.specs.declared.shape.Joint.TheVariants.{Apply, Tuple, Equal}
use Rattle.pvs_terms.specs.declared.shape.Projection.{Projection}
use Rattle.pvs_terms.specs.declared.shape.Projection.TheVariants.{First, Second}
use Rattle.pvs_sig.specs.Lookups.{Lookups, IsOrdered}
use Rattle.pvs_sig.specs.Signature.{Signature, Kind, TypeSig, ConstSig, VarSig, FormulaSig, kind_at}
use Rattle.pvs_sig.specs.Development.{Development, IsDevelopment}
use Rattle.pvs_sig.specs.Ranks.{type_body}
use Rattle.pvs_sig.specs.LookupsOf.{lookups_of, constant_type, is_type_kind, is_nonempty_kind}
use Rattle.pvs_sig.proofs.RankLaws.{lookups_are_ordered}
use Rattle.pvs_sem.specs.Value.{Value, IsMember, IsAscending}
use Rattle.pvs_sem.specs.Meaning.{Model, Env, mean}
use Rattle.pvs_types.specs.Soundness.{IsModelOf, IsValued}
use Rattle.pvs_soundness.specs.Vocabulary.{Vocabulary, BinderArity, JointArity, ProjectionArity, IsOver, IsReferenceOver, AreOver, vocabulary_of}
use Rattle.pvs_soundness.specs.Local.{IsClosedSet}
use Rattle.pvs_soundness.specs.Within.{is_own_below, entries_before, lookups_within}
use Rattle.pvs_soundness.specs.Fits.{nowhere, IsInsideKind}
use Rattle.pvs_soundness.specs.Checked.{IsFormedBy, IsKindBy}
use Rattle.pvs_soundness.specs.Read.{IsAcceptedSignature, FitsBefore}
use Rattle.pvs_soundness.proofs.ClosedLaws.{mean_closed}
use Rattle.pvs_soundness.proofs.StandingLaws.{accepted_stands}
use Rattle.pvs_soundness.proofs.WithinLaws.{found_within}
use Rattle.pvs_soundness.proofs.KindSound.{kind_inside, constant_valued, formed_scoped}

below : (k n : ℕ) → nat_lt k n ≡ true → k < n
below k n h = ltb-true k n h

own_later : (k n : ℕ) (r : Ref) → k ≤ n → is_own_below k r ≡ true → is_own_below n r ≡ true
own_later k n (Own j) l h = let b = ltb-true j k h in lt-ltb j n (omega (arith, b, l))
own_later k n (Formal j) l h = cc
own_later k n (Inst th j xs) l h = cc

-- a tree over some references is over more of them, with tuples of the same sizes
module _ (p q : Ref → Bool) (wider : (r : Ref) → p r ≡ true → q r ≡ true) where
  binder_wider : (o : Binder) → BinderArity (vocabulary_of p) o → BinderArity (vocabulary_of q) o
  binder_wider Subtype h = tt
  binder_wider Function h = tt
  binder_wider (Product k) h = h
  binder_wider Lambda h = tt

  joint_wider : (o : Joint) → JointArity (vocabulary_of p) o → JointArity (vocabulary_of q) o
  joint_wider Apply h = tt
  joint_wider (Tuple k) h = h
  joint_wider Equal h = tt

  projection_wider : (o : Projection) → ProjectionArity (vocabulary_of p) o → ProjectionArity (vocabulary_of q) o
  projection_wider (First k) h = h
  projection_wider (Second k) h = h

  mutual
    over_wider : (t : Tree) → IsOver (vocabulary_of p) t → IsOver (vocabulary_of q) t
    over_wider (Leaf o) h = tt
    over_wider (Var n) h = tt
    over_wider (Name o r) h = (wider r h.0, reference_wider r h.1)
    over_wider (Bind o a b) h = (over_wider a h.0, over_wider b h.1, binder_wider o h.2)
    over_wider (Join o a b) h = (over_wider a h.0, over_wider b h.1, joint_wider o h.2)
    over_wider (Project o a) h = (over_wider a h.0, projection_wider o h.1)
    over_wider (If a b c) h = (over_wider a h.0, over_wider b h.1, over_wider c h.2)

    reference_wider : (r : Ref) → IsReferenceOver (vocabulary_of p) r → IsReferenceOver (vocabulary_of q) r
    reference_wider (Own n) h = tt
    reference_wider (Formal n) h = tt
    reference_wider (Inst th n xs) h = all_wider xs h

    all_wider : (xs : Trees) → AreOver (vocabulary_of p) xs → AreOver (vocabulary_of q) xs
    all_wider none h = tt
    all_wider (more x xs) h = (over_wider x h.0, all_wider xs h.1)

abbrev pub Below : ℕ → Ref → Type 0
Below k r = is_own_below k r ≡ true

pub each_later : (k n : ℕ) → k ≤ n → (t : Tree) → IsOver (entries_before k) t → IsOver (entries_before n) t
each_later k n l = over_wider (is_own_below k) (is_own_below n) (λ r. own_later k n r l)

before_or_at : (j n : ℕ) → j < suc n → (j < n) ⊎ (j ≡ n)
before_or_at j n l = go (nat_lt j n) refl
  where
    go : (b : Bool) → nat_lt j n ≡ b → (j < n) ⊎ (j ≡ n)
    go true e = inl (below j n e)
    go false e = let b = ltb-false j n e in inr (omega (arith, b, l))

-- the type of a constant that typing accepted
type_formed : (V : Vocabulary) (s : Lookups) (a : Tree) (body : Option Tree) → IsKindBy V s (ConstSig a body) → IsFormedBy V s [] a
type_formed V s a None h = h
type_formed V s a (Some t) h = h.0

module _ (d : Development) (s : Signature) (development : IsDevelopment d) (plain : IsAcceptedSignature d s) where
  pub ordered : IsOrdered (lookups_of d s)
  ordered = lookups_are_ordered d s development (accepted_stands d s plain)

  constant_each : (j k : ℕ) (x : Option Kind) (a : Tree) → j < k → kind_at s j ≡ x → constant_type x ≡ Some a → IsOver (entries_before k) a
  constant_each j k (Some (ConstSig t body)) a l e h =
      let z : t ≡ a = cc in subst (IsOver (entries_before k)) z (each_later j k (omega (arith, l)) t (type_formed (entries_before j) (lookups_of d s) t body (plain.entries j (ConstSig t body) e)).each)
  constant_each j k (Some (TypeSig b body)) a l e h = cc
  constant_each j k (Some (VarSig t)) a l e h = cc
  constant_each j k (Some (FormulaSig c t o)) a l e h = cc
  constant_each j k None a l e h = cc

  body_each : (j k : ℕ) (x : Option Kind) (a : Tree) → j < k → kind_at s j ≡ x → type_body x ≡ Some a → IsOver (entries_before k) a
  body_each j k (Some (TypeSig b None)) a l e h = cc
  body_each j k (Some (TypeSig b (Some t))) a l e h = let z : t ≡ a = cc in subst (IsOver (entries_before k)) z (each_later j k (omega (arith, l)) t (plain.entries j (TypeSig b (Some t)) e).each)
  body_each j k (Some (ConstSig t body)) a l e h = cc
  body_each j k (Some (VarSig t)) a l e h = cc
  body_each j k (Some (FormulaSig c t o)) a l e h = cc
  body_each j k None a l e h = cc

  types_closed : (k : ℕ) (r : Ref) (a : Tree) → Below k r → (lookups_of d s).type_of r ≡ Some a → IsOver (entries_before k) a
  types_closed k (Own j) a p h = constant_each j k (kind_at s j) a (below j k p) refl h
  types_closed k (Formal j) a p h = cc
  types_closed k (Inst th j xs) a p h = cc

  bodies_closed : (k : ℕ) (r : Ref) (a : Tree) → Below k r → (lookups_of d s).body_of r ≡ Some a → IsOver (entries_before k) a
  bodies_closed k (Own j) a p h = body_each j k (kind_at s j) a (below j k p) refl h
  bodies_closed k (Formal j) a p h = cc
  bodies_closed k (Inst th j xs) a p h = cc

  pub set_closed : (k : ℕ) → IsClosedSet (entries_before k) (lookups_of d s)
  set_closed k = record { types = types_closed k; bodies = bodies_closed k }

  module _ (m : Model) (sets : (r : Ref) → IsAscending (m.meaning r).set) where
    abbrev Cut : ℕ → Lookups
    Cut k = lookups_within (is_own_below k) (lookups_of d s)

    type_has : (j k : ℕ) (x : Option Kind) → FitsBefore m s k → j < k → kind_at s j ≡ x → is_type_kind x ≡ true → m.has (Own j) ≡ true
    type_has j k (Some (TypeSig b None)) f l e h = (f j (TypeSig b None) l e).0
    type_has j k (Some (TypeSig b (Some a))) f l e h = (f j (TypeSig b (Some a)) l e).0
    type_has j k (Some (ConstSig t body)) f l e h = cc
    type_has j k (Some (VarSig t)) f l e h = cc
    type_has j k (Some (FormulaSig c t o)) f l e h = cc
    type_has j k None f l e h = cc

    constant_has : (j k : ℕ) (x : Option Kind) (a : Tree) → FitsBefore m s k → j < k → kind_at s j ≡ x → constant_type x ≡ Some a → m.has (Own j) ≡ true
    constant_has j k (Some (ConstSig t None)) a f l e h = (f j (ConstSig t None) l e).0
    constant_has j k (Some (ConstSig t (Some u))) a f l e h = (f j (ConstSig t (Some u)) l e).0
    constant_has j k (Some (TypeSig b body)) a f l e h = cc
    constant_has j k (Some (VarSig t)) a f l e h = cc
    constant_has j k (Some (FormulaSig c t o)) a f l e h = cc
    constant_has j k None a f l e h = cc

    definition_is : (j k : ℕ) (x : Option Kind) (a : Tree) (i : Env) → FitsBefore m s k → j < k → kind_at s j ≡ x → type_body x ≡ Some a → (m.meaning (Own j)).set ≡ (mean m a i).set
    definition_is j k (Some (TypeSig b None)) a i f l e h = cc
    definition_is j k (Some (TypeSig b (Some t))) a i f l e h =
        let z : t ≡ a = cc in
        subst (λ y. (m.meaning (Own j)).set ≡ (mean m y i).set) z
        ((f j (TypeSig b (Some t)) l e).1 ∙ ap (λ x. x.set) (mean_closed m t nowhere i (formed_scoped (entries_before j) (lookups_of d s) t (plain.entries j (TypeSig b (Some t)) e))))
    definition_is j k (Some (ConstSig t body)) a i f l e h = cc
    definition_is j k (Some (VarSig t)) a i f l e h = cc
    definition_is j k (Some (FormulaSig c t o)) a i f l e h = cc
    definition_is j k None a i f l e h = cc

    member_is : (j k : ℕ) (x : Option Kind) → FitsBefore m s k → j < k → kind_at s j ≡ x → type_body x ≡ None → is_nonempty_kind x ≡ true → (v : Value) × IsMember v (m.meaning (Own j)).set
    member_is j k (Some (TypeSig b None)) f l e h t = (f j (TypeSig b None) l e).1 t
    member_is j k (Some (TypeSig b (Some a))) f l e h t = cc
    member_is j k (Some (ConstSig a body)) f l e h t = cc
    member_is j k (Some (VarSig a)) f l e h t = cc
    member_is j k (Some (FormulaSig c a o)) f l e h t = cc
    member_is j k None f l e h t = cc

    and_both : (a b : Bool) → (a && b) ≡ true → (a ≡ true) × (b ≡ true)
    and_both true b h = (refl, h)
    and_both false b h = cc

    -- cut down to the entries before, the model is one of the look-ups
    module _ (k : ℕ) (f : FitsBefore m s k) where
      types_have : (r : Ref) → (Cut k).is_type r ≡ true → m.has r ≡ true
      types_have (Own j) h = let b = and_both (nat_lt j k) _ h in type_has j k (kind_at s j) f (below j k b.0) refl b.1
      types_have (Formal j) h = cc
      types_have (Inst th j xs) h = cc

      constants_have : (r : Ref) (a : Tree) → (Cut k).type_of r ≡ Some a → m.has r ≡ true
      constants_have (Own j) a h = let b = found_within (nat_lt j k) _ a h in constant_has j k (kind_at s j) a f (below j k b.0) refl b.1
      constants_have (Formal j) a h = cc
      constants_have (Inst th j xs) a h = cc

      definitions_are : (r : Ref) (a : Tree) (i : Env) → (Cut k).body_of r ≡ Some a → (m.meaning r).set ≡ (mean m a i).set
      definitions_are (Own j) a i h = let b = found_within (nat_lt j k) _ a h in definition_is j k (kind_at s j) a i f (below j k b.0) refl b.1
      definitions_are (Formal j) a i h = cc
      definitions_are (Inst th j xs) a i h = cc

      no_body : (b : Bool) (o : Option Tree) → b ≡ true → cond b o None ≡ None → o ≡ None
      no_body true o e h = h
      no_body false o e h = cc

      members_are : (r : Ref) → (Cut k).body_of r ≡ None → (Cut k).is_nonempty r ≡ true → (v : Value) × IsMember v (m.meaning r).set
      members_are (Own j) h t = let b = and_both (nat_lt j k) _ t in member_is j k (kind_at s j) f (below j k b.0) refl (no_body (nat_lt j k) _ b.0 h) b.1
      members_are (Formal j) h t = cc
      members_are (Inst th j xs) h t = cc

      model_is : IsModelOf m (Cut k)
      model_is = record { sets = sets; types = types_have; constants = constants_have; definitions = definitions_are; nonempty = members_are }

    earlier : (n : ℕ) → FitsBefore m s (suc n) → FitsBefore m s n
    earlier n f k x l e = f k x (omega (arith, l)) e

    -- constants before a place have values in their types
    abbrev AreValued : ℕ → Type 0
    AreValued k = (j : ℕ) (a : Tree) (e : Env) → j < k → constant_type (kind_at s j) ≡ Some a → IsMember (m.meaning (Own j)).value (mean m a e).set

    valued_ref : (k : ℕ) → AreValued k → (r : Ref) → IsValued m (Cut k) r
    valued_ref k v (Own j) a e h = let b = found_within (nat_lt j k) _ a h in v j a e (below j k b.0) b.1
    valued_ref k v (Formal j) a e h = cc
    valued_ref k v (Inst th j xs) a e h = cc

    value_at : (n : ℕ) → FitsBefore m s (suc n) → AreValued n → (x : Option Kind) → kind_at s n ≡ x → (a : Tree) (e : Env) → constant_type x ≡ Some a → IsMember (m.meaning (Own n)).value (mean m a e).set
    value_at n f v (Some (ConstSig t body)) k a e h =
        let z : t ≡ a = cc in
        subst (λ y. IsMember (m.meaning (Own n)).value (mean m y e).set) z
        (constant_valued (entries_before n) (lookups_of d s) ordered (set_closed n) m (model_is n (earlier n f)) (valued_ref n v) (Own n) t body (plain.entries n (ConstSig t body) k) (f n (ConstSig t body) (omega arith) k) e)
    value_at n f v (Some (TypeSig b body)) k a e h = cc
    value_at n f v (Some (VarSig t)) k a e h = cc
    value_at n f v (Some (FormulaSig c t o)) k a e h = cc
    value_at n f v None k a e h = cc

    are_valued : (k : ℕ) → FitsBefore m s k → AreValued k
    are_valued zero f j a e l h = absurd (omega (arith, l))
    are_valued (suc n) f j a e l h =
        let v = are_valued n (earlier n f) in
        elim (before_or_at j n l) [
          | inl x ↦ v j a e x h
          | inr x ↦ subst (λ i. IsMember (m.meaning (Own i)).value (mean m a e).set) (sym x) (value_at n f v (kind_at s n) refl a e (subst (λ i. constant_type (kind_at s i) ≡ Some a) x h))
        ]

    -- an entry is inside where the model fits those before it
    pub entry_inside : (i : ℕ) (x : Kind) → kind_at s i ≡ Some x → FitsBefore m s i → IsInsideKind m x
    entry_inside i x e f = kind_inside (entries_before i) (lookups_of d s) ordered (set_closed i) m (model_is i f) (valued_ref i (are_valued i f)) x (plain.entries i x e)
