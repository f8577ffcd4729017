-- A theory with one entry more may stand in its place.
use Rattle.std.proofs.Common.{◌≡◌, ◌⊎◌, inl, inr, ℕ, zero, suc, ◌<◌, Bool, true, false, cond, Option, Some, None, List, [], ◌∷◌, ◌++◌, length, refl, sym, ap, ◌∙◌, subst, arith, true≢false}
use Rattle.std.specs.Prelude.{slice_get, option_map, bytes_eq, IsSome}
use Rattle.std.proofs.lemmas.Slice.Eq.{bytes_eq-Decides}
use Rattle.pvs_terms.specs.Tree.{Text, Tree, Leaf, Var, Name, Bind, Join, Project, If, Ref, Own, Formal, Inst, Trees, none, more}
use Rattle.pvs_terms.specs.declared.shape.Sort.{Sort}
use Rattle.pvs_terms.specs.declared.shape.Sort.TheVariants.{OfType, OfTerm}
use Rattle.pvs_terms.specs.Stored.{Stored, IsName, IsNode, tree_at, text_at}
use Rattle.pvs_sig.specs.declared.signature.Class.{Class}
use Rattle.pvs_sig.specs.declared.signature.Class.TheVariants as class
use Rattle.pvs_sig.specs.declared.signature.EntryKind.{EntryKind}
use Rattle.pvs_sig.specs.declared.signature.EntryKind.TheVariants as numbers
use Rattle.pvs_sig.specs.declared.signature.Entry as entry
use Rattle.pvs_sig.specs.Signature.{Signature, FormalSig, Entry, Kind, TypeSig, ConstSig, VarSig, FormulaSig, entry_kind, formal_kind, kind_at, formals_in}
use Rattle.pvs_sig.specs.SignatureAt.{EntryIn, EntryKindIn, OptionIn, entry_at, entry_kind_at, option_at}
use Rattle.pvs_sig.specs.References.{EachRef, EachOf, OptionEach, KindEach}
use Rattle.pvs_sig.specs.Laws.{without, Avoids, RefAvoids}
use Rattle.pvs_sig.specs.Development.{Development, IsDevelopment, IsSignatureOver, IsKindOver, IsTreeOver, IsOptionOver, IsDeclared, AreDeclared, MatchFormals, HasSort, IsBefore, In, seen_by, theory_named}
use Rattle.pvs_sig.proofs.DeclaredLaws.{sort_stands}
use Rattle.pvs_sig.proofs.SignatureAtLaws.{entry_same, entry_in}
use Rattle.pvs_instantiate.specs.InstancesView.{InstancesView, development, Leaves}
use Rattle.pvs_instantiate.specs.Grown.{IsAlone, MayGrow, MayBecome, grown, become, with_entry}
use Rattle.pvs_instantiate.proofs.TheoryLaws.{itself, text_itself}
use Rattle.pvs_typing.specs.Growth.{EachName}
use Rattle.pvs_scope.specs.declared.place.PlaceNames.{PlaceNames}
use Rattle.pvs_scope.specs.NamesAt.{NamesAt}
use Rattle.pvs_place.specs.Place.{known_in, IsPlace}
use Rattle.pvs_place.specs.NextEntry.{IsEntryTree, IsEntryOption, IsNextKind, SeesAll}
use Rattle.pvs_place.specs.code.Sorted.{IsSortedOption, IsSortedKind}
use Rattle.pvs_place.proofs.PlaceLaws.{latest_kept}

-- The numbers of an entry.

module _ (s : Stored) (D : Development) where
  tree_in : (o : Sort) (i : ℕ) → IsEntryTree (known_in s D) o i → IsNode s i
  tree_in o i h = h.known.node

  tree_option_in : (o : Sort) (i : Option ℕ) → IsEntryOption (known_in s D) o i → OptionIn s i
  tree_option_in o None h = tt
  tree_option_in o (Some i) h = h.known.node

  pub next_in : (k : EntryKind) → IsNextKind (known_in s D) k → EntryKindIn s k
  next_in (numbers.TypeSig b body) h = tree_option_in OfType body h
  next_in (numbers.ConstSig t body) h = (h.0.known.node, tree_option_in OfTerm body h.1)
  next_in (numbers.VarSig t) h = h.known.node
  next_in (numbers.FormulaSig c t o) h = h.1.known.node

-- Its trees are those of a signature.

each_declared : (d : Development) (g : Signature) (t : Tree) → EachName (IsDeclared d g) t → AreDeclared d g t
each_declared d g (Leaf o) h = tt
each_declared d g (Var n) h = tt
each_declared d g (Name o r) h = h
each_declared d g (Bind o a b) h = (each_declared d g a h.0, each_declared d g b h.1)
each_declared d g (Join o a b) h = (each_declared d g a h.0, each_declared d g b h.1)
each_declared d g (Project o a) h = each_declared d g a h
each_declared d g (If a b c) h = (each_declared d g a h.0, each_declared d g b h.1, each_declared d g c h.2)

module _ (s : Stored) (d : Development) (g : Signature) where
  abbrev k : Development
  k = g ∷ d

  tree_over : (o : Sort) (i : ℕ) → IsEntryTree (known_in s k) o i → IsSortedOption s (Some i) → IsTreeOver d g o (tree_at s i)
  tree_over o i h q = record { sort = h.known.sort; closed = h.closed; sorted = q; declared = each_declared d g (tree_at s i) h.known.names }

  option_over : (o : Sort) (i : Option ℕ) → IsEntryOption (known_in s k) o i → IsSortedOption s i → IsOptionOver d g o (option_at s i)
  option_over o None h q = tt
  option_over o (Some i) h q = tree_over o i h q

  next_over : (e : EntryKind) → IsNextKind (known_in s k) e → IsSortedKind s e → IsKindOver d g (entry_kind_at s e)
  next_over (numbers.TypeSig b body) h q = option_over OfType body h q
  next_over (numbers.ConstSig t body) h q = (tree_over OfType t h.0 q.0, option_over OfTerm body h.1 q.1)
  next_over (numbers.VarSig t) h q = tree_over OfType t h q
  next_over (numbers.FormulaSig c t o) h q = tree_over OfTerm t h.1 q

  sees_all : (n : ℕ) (c : Class) (t : Tree) (o : ℕ) → SeesAll c → seen_by n (Some (FormulaSig c t o)) ≡ n
  sees_all n class.Axiom t o h = refl
  sees_all n class.Assumption t o h = refl
  sees_all n class.Lemma t o h = refl
  sees_all n class.Condition t o h = refl
  sees_all n class.ImportCondition t o h = refl
  sees_all n (class.FormalCondition f) t o h = absurd h

  next_sees : (n : ℕ) (e : EntryKind) → IsNextKind (known_in s k) e → seen_by n (Some (entry_kind_at s e)) ≡ n
  next_sees n (numbers.TypeSig b body) h = refl
  next_sees n (numbers.ConstSig t body) h = refl
  next_sees n (numbers.VarSig t) h = refl
  next_sees n (numbers.FormulaSig c t o) h = sees_all n c (tree_at s t) o h.0

-- An entry at the end.

at_before : (e : Entry) (es : List Entry) (n : ℕ) (k : Kind) → option_map entry_kind (slice_get es n) ≡ Some k → option_map entry_kind (slice_get (es ++ e ∷ []) n) ≡ Some k
at_before e [] n k h = cc
at_before e (x ∷ es) zero k h = h
at_before e (x ∷ es) (suc n) k h = at_before e es n k h

at_either : (e : Entry) (es : List Entry) (n : ℕ) (k : Kind) → option_map entry_kind (slice_get (es ++ e ∷ []) n) ≡ Some k → (option_map entry_kind (slice_get es n) ≡ Some k) ⊎ ((n ≡ length es) × (e.kind ≡ k))
at_either e [] zero k h = inr (refl, cc)
at_either e [] (suc n) k h = cc
at_either e (x ∷ es) zero k h = inl h
at_either e (x ∷ es) (suc n) k h = elim (at_either e es n k h) [
  | inl a ↦ inl a
  | inr b ↦ inr (ap suc b.0, b.1)
]

no_sort : (o : Sort) → HasSort o None → ⊥
no_sort OfType h = h
no_sort OfTerm h = h

-- what has a sort is in the list
sort_below : {A : Type 0} (f : A → Kind) (o : Sort) (xs : List A) (n : ℕ) → HasSort o (option_map f (slice_get xs n)) → n < length xs
sort_below f o [] n h = absurd (no_sort o h)
sort_below f o (x ∷ xs) zero h = omega arith
sort_below f o (x ∷ xs) (suc n) h = let k : n < length xs = sort_below f o xs n h in omega arith

sort_before : (e : Entry) (o : Sort) (es : List Entry) (n : ℕ) → HasSort o (option_map entry_kind (slice_get es n)) → HasSort o (option_map entry_kind (slice_get (es ++ e ∷ []) n))
sort_before e o [] n h = absurd (no_sort o h)
sort_before e o (x ∷ es) zero h = h
sort_before e o (x ∷ es) (suc n) h = sort_before e o es n h

-- what is declared is still so, and stands before the end
module _ (d : Development) (g : Signature) (e : Entry) where
  mutual
    declared_more : (t : Tree) → AreDeclared d g t → AreDeclared d (with_entry e g) t
    declared_more (Leaf o) h = tt
    declared_more (Var n) h = tt
    declared_more (Name o (Own n)) h = sort_before e o g.entries n h
    declared_more (Name o (Formal n)) h = h
    declared_more (Name o (Inst th n xs)) h = (h.0, actuals_more (formals_in (theory_named d th)) xs h.1)
    declared_more (Bind o a b) h = (declared_more a h.0, declared_more b h.1)
    declared_more (Join o a b) h = (declared_more a h.0, declared_more b h.1)
    declared_more (Project o a) h = declared_more a h
    declared_more (If a b c) h = (declared_more a h.0, declared_more b h.1, declared_more c h.2)

    actuals_more : (fs : List FormalSig) (xs : Trees) → MatchFormals d g fs xs → MatchFormals d (with_entry e g) fs xs
    actuals_more [] none h = tt
    actuals_more (f ∷ fs) (more y ys) h = (h.0, h.1, h.2, declared_more y h.3, actuals_more fs ys h.4)
    actuals_more [] (more y ys) h = absurd h
    actuals_more (f ∷ fs) none h = absurd h

  tree_more : (o : Sort) (t : Tree) → IsTreeOver d g o t → IsTreeOver d (with_entry e g) o t
  tree_more o t h = record { sort = h.sort; closed = h.closed; sorted = h.sorted; declared = declared_more t h.declared }

  option_more : (o : Sort) (t : Option Tree) → IsOptionOver d g o t → IsOptionOver d (with_entry e g) o t
  option_more o None h = tt
  option_more o (Some t) h = tree_more o t h

  kind_more : (k : Kind) → IsKindOver d g k → IsKindOver d (with_entry e g) k
  kind_more (TypeSig b body) h = option_more OfType body h
  kind_more (ConstSig t body) h = (tree_more OfType t h.0, option_more OfTerm body h.1)
  kind_more (VarSig t) h = tree_more OfType t h
  kind_more (FormulaSig c t o) h = tree_more OfTerm t h

module _ (d : Development) (g : Signature) where
  abbrev At : Ref → Type 0
  At = IsBefore (length g.formals) (length g.entries)

  mutual
    tree_before : (t : Tree) → AreDeclared d g t → EachRef At t
    tree_before (Leaf o) h = tt
    tree_before (Var n) h = tt
    tree_before (Name o (Own n)) h = (sort_below entry_kind o g.entries n h, tt)
    tree_before (Name o (Formal n)) h = (sort_below formal_kind o g.formals n h, tt)
    tree_before (Name o (Inst th n xs)) h = (tt, actuals_before (formals_in (theory_named d th)) xs h.1)
    tree_before (Bind o a b) h = (tree_before a h.0, tree_before b h.1)
    tree_before (Join o a b) h = (tree_before a h.0, tree_before b h.1)
    tree_before (Project o a) h = tree_before a h
    tree_before (If a b c) h = (tree_before a h.0, tree_before b h.1, tree_before c h.2)

    actuals_before : (fs : List FormalSig) (xs : Trees) → MatchFormals d g fs xs → EachOf At xs
    actuals_before [] none h = tt
    actuals_before (f ∷ fs) (more y ys) h = (tree_before y h.3, actuals_before fs ys h.4)
    actuals_before [] (more y ys) h = absurd h
    actuals_before (f ∷ fs) none h = absurd h

  option_before : (o : Sort) (t : Option Tree) → IsOptionOver d g o t → OptionEach At t
  option_before o None h = tt
  option_before o (Some t) h = tree_before t h.declared

  kind_before : (k : Kind) → IsKindOver d g k → KindEach At k
  kind_before (TypeSig b body) h = option_before OfType body h
  kind_before (ConstSig t body) h = (tree_before t h.0.declared, option_before OfTerm body h.1)
  kind_before (VarSig t) h = tree_before t h.declared
  kind_before (FormulaSig c t o) h = tree_before t h.declared

-- the theory with the entry may stand after the same others
next_signature : (d : Development) (g : Signature) (e : Entry) → IsSignatureOver d g → g.imports ≡ [] → IsKindOver d g e.kind → seen_by (length g.formals) (Some e.kind) ≡ length g.formals → IsSignatureOver d (with_entry e g)
next_signature d g e over alone kind sees = record {
  entries = λ n k h. elim (at_either e g.entries n k h) [
    | inl a ↦ kind_more d g e k (over.entries n k a)
    | inr b ↦ subst (IsKindOver d (with_entry e g)) b.1 (kind_more d g e e.kind kind)
  ];
  formals = λ n k h. kind_more d g e k (over.formals n k h);
  imports = λ x h. absurd (subst (In x) alone h);
  places = λ x h. absurd (subst (In x) alone h);
  earlier_entries = λ n k h. elim (at_either e g.entries n k h) [
    | inl a ↦ subst (λ z. KindEach (IsBefore (seen_by (length g.formals) z) n) k) (a ∙ sym h) (over.earlier_entries n k a)
    | inr b ↦ at_end n k h b.0 b.1
  ];
  earlier_formals = over.earlier_formals;
  earlier_actuals = λ x h. absurd (subst (In x) alone h);
}
  where
    at_end : (n : ℕ) (k : Kind) → kind_at (with_entry e g) n ≡ Some k → n ≡ length g.entries → e.kind ≡ k → KindEach (IsBefore (seen_by (length g.formals) (kind_at (with_entry e g) n)) n) k
    at_end n k h i f =
        let seen : seen_by (length g.formals) (kind_at (with_entry e g) n) ≡ length g.formals = ap (seen_by (length g.formals)) (h ∙ ap Some (sym f)) ∙ sees in
        subst (λ z. KindEach (IsBefore z n) k) (sym seen)
        (subst (λ m. KindEach (IsBefore (length g.formals) m) k) (sym i) (subst (KindEach (IsBefore (length g.formals) (length g.entries))) f (kind_before d g e.kind kind)))

-- The theories before one do not mention it.

module _ (d : Development) (s : Signature) (th : Text) (new : theory_named d th ≡ None) where
  other_name : (a : Text) → IsSome (theory_named d a) → bytes_eq a th ≡ false
  other_name a h = by (bytes_eq a th) refl
    where
      none : (z : Option Signature) → z ≡ None → IsSome z → ⊥
      none None e k = cc
      none (Some x) e k = cc

      by : (b : Bool) → bytes_eq a th ≡ b → bytes_eq a th ≡ false
      by true e = absurd (none (theory_named d a) (ap (theory_named d) ((bytes_eq-Decides a th).0 e) ∙ new) h)
      by false e = e

  mutual
    tree_avoids : (t : Tree) → AreDeclared d s t → EachRef (RefAvoids th) t
    tree_avoids (Leaf o) h = tt
    tree_avoids (Var n) h = tt
    tree_avoids (Name o (Own n)) h = (tt, tt)
    tree_avoids (Name o (Formal n)) h = (tt, tt)
    tree_avoids (Name o (Inst a n xs)) h = (other_name a (sort_stands o (theory_named d a) n h.0), actuals_avoid (formals_in (theory_named d a)) xs h.1)
    tree_avoids (Bind o a b) h = (tree_avoids a h.0, tree_avoids b h.1)
    tree_avoids (Join o a b) h = (tree_avoids a h.0, tree_avoids b h.1)
    tree_avoids (Project o a) h = tree_avoids a h
    tree_avoids (If a b c) h = (tree_avoids a h.0, tree_avoids b h.1, tree_avoids c h.2)

    actuals_avoid : (fs : List FormalSig) (xs : Trees) → MatchFormals d s fs xs → EachOf (RefAvoids th) xs
    actuals_avoid [] none h = tt
    actuals_avoid (f ∷ fs) (more y ys) h = (tree_avoids y h.3, actuals_avoid fs ys h.4)
    actuals_avoid [] (more y ys) h = absurd h
    actuals_avoid (f ∷ fs) none h = absurd h

  option_avoids : (o : Sort) (t : Option Tree) → IsOptionOver d s o t → OptionEach (RefAvoids th) t
  option_avoids o None h = tt
  option_avoids o (Some t) h = tree_avoids t h.declared

  kind_avoids : (k : Kind) → IsKindOver d s k → KindEach (RefAvoids th) k
  kind_avoids (TypeSig b body) h = option_avoids OfType body h
  kind_avoids (ConstSig t body) h = (tree_avoids t h.0.declared, option_avoids OfTerm body h.1)
  kind_avoids (VarSig t) h = tree_avoids t h.declared
  kind_avoids (FormulaSig c t o) h = tree_avoids t h.declared

  signature_avoids : IsSignatureOver d s → Avoids th s
  signature_avoids over = record {
    entries = λ n k e. kind_avoids k (over.entries n k e);
    formals = λ n k e. kind_avoids k (over.formals n k e);
    imports = λ x h. let f = over.imports x h in (other_name x.theory f.0, actuals_avoid (formals_in (theory_named d x.theory)) x.actuals f.1);
  }

not_here : (b : Bool) (s : Signature) (z : Option Signature) → cond b (Some s) z ≡ None → z ≡ None
not_here true s z e = cc
not_here false s z e = e

all_avoid : (th : Text) (d : Development) → IsDevelopment d → theory_named d th ≡ None → (s : Signature) → In s d → Avoids th s
all_avoid th [] standing new s h = absurd h
all_avoid th (x ∷ d) standing new s (inl e) = subst (Avoids th) (sym e) (signature_avoids d x th (not_here (bytes_eq x.name th) x (theory_named d th) new) standing.1)
all_avoid th (x ∷ d) standing new s (inr h) = all_avoid th d standing.2 (not_here (bytes_eq x.name th) x (theory_named d th) new) s h

latest_alone : (d : Development) (g : Signature) → IsDevelopment (g ∷ d) → IsAlone g.name (g ∷ d)
latest_alone d g standing s (inl e) q = absurd (true≢false (sym (text_itself s.name g.name (ap (λ z. z.name) e)) ∙ q))
latest_alone d g standing s (inr h) q = all_avoid g.name d standing.2 standing.0 s h

-- At a place.

latest_left_out : (d : Development) (g : Signature) → without g.name (g ∷ d) ≡ d
latest_left_out d g = ap (λ b. cond b d (g ∷ without g.name d)) (text_itself g.name g.name refl)

latest_may_grow : (d : Development) (g : Signature) (f : Signature → Signature) → IsSignatureOver d (f g) → MayGrow (g ∷ d) g.name f
latest_may_grow d g f h =
    subst (λ z. MayBecome (without g.name (g ∷ d)) z f) (sym (itself g d))
    (subst (λ e. IsSignatureOver e (f g)) (sym (latest_left_out d g)) h)

latest_grown : (d : Development) (g : Signature) (f : Signature → Signature) → grown (g ∷ d) g.name f ≡ f g ∷ d
latest_grown d g f = ap (λ z. become (without g.name (g ∷ d)) z f) (itself g d) ∙ ap (λ e. f g ∷ e) (latest_left_out d g)

module _ {v u : InstancesView} {n : ℕ} {i : PlaceNames} (place : IsPlace v n i) (kept : Leaves v u) where
  pub place_alone : IsDevelopment (development v) → IsAlone (text_at u.store n) (development u)
  unfolding latest_kept
  place_alone standing =
      let h = latest_kept place.latest kept in
      subst (λ d. IsAlone (text_at u.store n) d) (sym h.reads) (subst (λ t. IsAlone t (h.signature ∷ h.others)) (sym h.name)
      (latest_alone h.others h.signature (subst IsDevelopment place.latest.reads standing)))

  module _ (e : entry.Entry) (named : IsName v.store e.name) (kind : IsNextKind (known_in v.store (development v)) e.kind) where
    pub place_entry : EntryIn v.store e
    place_entry = (named, next_in v.store (development v) e.kind kind)

    pub place_entry_later : EntryIn u.store e
    place_entry_later = entry_in v.store u.store kept.store e place_entry

    pub place_may_grow : IsDevelopment (development v) → IsSortedKind v.store e.kind → MayGrow (development u) (text_at u.store n) (with_entry (entry_at u.store e))
    unfolding latest_kept
    place_may_grow standing sorted =
        let h = latest_kept place.latest kept in
        let next : IsNextKind (known_in v.store (h.signature ∷ h.others)) e.kind = subst (λ d. IsNextKind (known_in v.store d) e.kind) place.latest.reads kind in
        let over : IsDevelopment (h.signature ∷ h.others) = subst IsDevelopment place.latest.reads standing in
        subst (λ d. MayGrow d (text_at u.store n) (with_entry (entry_at u.store e))) (sym h.reads)
        (subst (λ t. MayGrow (h.signature ∷ h.others) t (with_entry (entry_at u.store e))) (sym h.name)
        (subst (λ x. MayGrow (h.signature ∷ h.others) h.signature.name (with_entry x)) (sym (entry_same v.store u.store kept.store e place_entry))
        (latest_may_grow h.others h.signature (with_entry (entry_at v.store e))
        (next_signature h.others h.signature (entry_at v.store e) over.1 place.imports (next_over v.store h.others h.signature e.kind next sorted) (next_sees v.store h.others h.signature (length h.signature.formals) e.kind next)))))

    module _ (w : InstancesView) (same : w.store ≡ u.store) (grows : development w ≡ grown (development u) (text_at u.store n) (with_entry (entry_at u.store e))) where
      grown_is : development w ≡ with_entry (entry_at v.store e) place.latest.signature ∷ place.latest.others
      unfolding latest_kept
      grown_is =
          let h = latest_kept place.latest kept in
          grows ∙ ap (λ d. grown d (text_at u.store n) (with_entry (entry_at u.store e))) h.reads
          ∙ ap (λ t. grown (h.signature ∷ h.others) t (with_entry (entry_at u.store e))) h.name
          ∙ latest_grown h.others h.signature (with_entry (entry_at u.store e))
          ∙ ap (λ x. with_entry x h.signature ∷ h.others) (entry_same v.store u.store kept.store e place_entry)

      pub next_place : (j : PlaceNames) → ((d : Development) (g : Signature) → NamesAt v.store i d g → NamesAt u.store j d (with_entry (entry_at v.store e) g)) → IsPlace w n j
      next_place j names = record {
        latest = record {
          named = subst (λ s. IsName s n) (sym same) (kept.store.names n place.latest.named);
          signature = with_entry (entry_at v.store e) place.latest.signature;
          others = place.latest.others;
          reads = grown_is;
          name = ap (λ s. text_at s n) same ∙ kept.store.texts n place.latest.named ∙ place.latest.name;
        };
        imports = place.imports;
        names = subst (λ s. NamesAt s j place.latest.others (with_entry (entry_at v.store e) place.latest.signature)) (sym same) (names place.latest.others place.latest.signature place.names);
      }
