-- What holds of the entries of a store.
use Rattle.std.proofs.Common.{◌≡◌, ℕ, zero, suc, ◌+◌, ◌<◌, ◌≤◌, List, [], ◌∷◌, ◌++◌, length, map, refl, ap, ap₂, sym, ◌∙◌, subst, arith}
use Rattle.std.proofs.lemmas.List.{length-map}
use Rattle.std.specs.Prelude.{slice_index_or}
use Rattle.pvs_terms.specs.Tree.{Text, Ref, IsWithinLimits, Const, AreClosed, ref_actuals}
use Rattle.pvs_terms.specs.declared.node.Node.{Node}
use Rattle.pvs_terms.specs.declared.node.RefKind.{RefKind}
use Rattle.pvs_terms.specs.declared.node.RefKind.TheVariants as kind
use Rattle.pvs_terms.specs.code.Refs.{Given, RefEntry}
use Rattle.pvs_terms.specs.declared.measure.Measure.{Measure}
use Rattle.pvs_terms.specs.Stored.{Stored, Reference, no_reference, tree_at, ref_at, IsNode, IsRef, HasParts, PartsIn, node_tree, AllBelow, trees_at, theory_in, KindIn, MayHave, given_ref, Extends, Stands, StandsRef}
use Rattle.pvs_terms.specs.code.StoreView.{stored, reference_of, IsRight, IsRightRef, IsSound, IsNew, NamesBelow, ActualsBelow}
use Rattle.pvs_terms.specs.code.Texts.{AreDistinct, KeepsTexts}
use Rattle.pvs_terms.proofs.StoredLaws.{pushed, pushed_ref, actuals_at, ref_at-given, ref_from-given, extends-names, extends-push, extends-push_ref, ref_at-push_new, NamesBelow-mono, NameBelow-of, NamesBelow-push, tree_at-push_new, node_tree-extends, HasParts-mono, ActualsBelow-mono}
use Rattle.std.proofs.lemmas.List.{map-append, get_or_append_left, get_or_push}
use Rattle.std.proofs.lemmas.Bool.{cases_lt}
use Rattle.std.proofs.Common.{length-append, inl, inr, ◌⊎◌}
use Rattle.pvs_terms.specs.code.Shapes.{shape_of}
use Rattle.pvs_terms.specs.code.Measures.{measure_of, ref_measure, IsSmall}
use Rattle.pvs_terms.specs.Sorts.{HasSorts, IsSorted, IsSortedRef}
use Rattle.std.specs.Map.{keys_of}
use Rattle.std.proofs.Common.{Some, slice_get}
use Rattle.std.proofs.lemmas.Option.{same_Some}
use Rattle.pvs_terms.specs.code.Measures.{no_trees}
use Rattle.pvs_terms.proofs.DistinctLaws.{NodesDistinct, RefsDistinct, IsGiven, given_ref-injective, shape_of-injective, shape_tree-injective, key_at, key_within, same_default}
use Rattle.pvs_terms.proofs.SortLaws.{shape_sorted, given_sorted}

pub entry_is_right : {ts : List Text} {es : List (Node × Measure)} {rs : List RefEntry} {s : Stored} (i : ℕ) (e : Node × Measure) → IsSound ts es rs → stored ts es rs ≡ s → IsNode s i → e ≡ slice_index_or es i e → IsRight s i e
entry_is_right {es} {rs} i e h v n x =
    let m : i < length es = omega (arith, length-map es (λ (y : Node × Measure). y.0), ap (λ (t : Stored). length t.nodes) v) in
    subst (λ t. IsRight t i e) v (h.nodes i e m x)

pub small_of : {s : Stored} {i : ℕ} {e : Node × Measure} → IsRight s i e → IsSmall e.1
small_of {e = e} r = rw r.measure (record { depth = r.fits.deep; size = r.fits.large; top = r.fits.index })

-- what an entry keeps where the store grows
right-extends : (s t : Stored) (i : ℕ) (e : Node × Measure) → Extends s t → IsNode s i → length s.refs ≤ length t.refs → IsRight s i e → IsRight t i e
right-extends s t i e x h le r =
    let same : tree_at t i ≡ tree_at s i = x.trees i h in
    let parts : HasParts (length s.nodes) (length s.refs) (shape_of e.0) = HasParts-mono i (length s.nodes) (length s.refs) (length s.refs) (shape_of e.0) (omega arith) (omega arith) r.parts in
    record {
      tree = same ∙ r.tree ∙ sym (node_tree-extends s t e.0 x parts);
      parts = HasParts-mono i i (length s.refs) (length t.refs) (shape_of e.0) (omega arith) le r.parts;
      measure = r.measure ∙ ap measure_of (sym same);
      fits = subst IsWithinLimits (sym same) r.fits;
    }

KindIn-extends : (s t : Stored) (k : RefKind) → Extends s t → KindIn s k → KindIn t k
KindIn-extends s t (kind.Own n) x h = tt
KindIn-extends s t (kind.Formal n) x h = tt
KindIn-extends s t (kind.Inst a n) x h = x.names a h

right_ref-extends : (s t : Stored) (r : ℕ) (e : RefEntry) → Extends s t → IsRef s r → IsRightRef s r e → IsRightRef t r e
right_ref-extends s t r e x h y =
    let same : ref_at s r ≡ ref_at t r = sym (x.references r h) in
    record {
      measure = y.measure ∙ ap ref_measure same;
      kind = KindIn-extends s t e.0.kind x y.kind;
      may_have = y.may_have;
      closed = subst (λ q. AreClosed (ref_actuals q)) same y.closed;
      fits = subst (λ q. IsWithinLimits (Const q)) same y.fits;
    }

-- a node on a reference is within the limits, so the reference's measure is
pub small_ref : {m : Measure} (r : Ref) → m ≡ ref_measure r → IsWithinLimits (Const r) → IsSmall m
small_ref r e f = rw e (record { depth = omega (arith, f.deep); size = omega (arith, f.large); top = f.index })

-- equal references have equal numbers
refs_distinct : (ts : List Text) (es : List (Node × Measure)) (rs : List RefEntry) → IsSound ts es rs → RefsDistinct (stored ts es rs)
refs_distinct ts es rs h r q a b = h.distinct r q (omega (arith, a, length-map rs (reference_of ts))) (omega (arith, b, length-map rs (reference_of ts)))

-- what was sorted stays so, and what is new is
sorted_after : (s t : Stored) → Extends s t → ((i : ℕ) → i < length s.nodes → IsSorted (tree_at s i)) → (n : ℕ) → n ≡ length s.nodes → IsSorted (tree_at t n) → (i : ℕ) → i < length s.nodes + 1 → IsSorted (tree_at t i)
sorted_after s t x f n e h i l = elim (cases_lt i (length s.nodes)) [
  | inl lt ↦ subst IsSorted (sym (x.trees i lt)) (f i lt)
  | inr ge ↦
      let at : n ≡ i = omega (arith, e, l, ge) in
      subst (λ j. IsSorted (tree_at t j)) at h
]

sorted_refs_after : (s t : Stored) → Extends s t → ((r : ℕ) → r < length s.refs → IsSortedRef (ref_at s r)) → (n : ℕ) → n ≡ length s.refs → IsSortedRef (ref_at t n) → (r : ℕ) → r < length s.refs + 1 → IsSortedRef (ref_at t r)
sorted_refs_after s t x f n e h r l = elim (cases_lt r (length s.refs)) [
  | inl lt ↦ subst IsSortedRef (sym (x.references r lt)) (f r lt)
  | inr ge ↦
      let at : n ≡ r = omega (arith, e, l, ge) in
      subst (λ j. IsSortedRef (ref_at t j)) at h
]

module _ (ts : List Text) (es : List (Node × Measure)) (rs : List RefEntry) (e : Node × Measure) (sound : IsSound ts es rs) (parts : PartsIn (stored ts es rs) e.0) (fresh : (i : ℕ) → slice_get (keys_of es) i ≡ Some e.0 → ⊥) (sorts : HasSorts (node_tree (stored ts es rs) e.0)) (measured : e.1 ≡ measure_of (node_tree (stored ts es rs) e.0)) (small : IsSmall e.1) where
  stored-push : stored ts (es ++ e ∷ []) rs ≡ pushed (stored ts es rs) e.0
  stored-push = ap (λ ns. record { names = ts; nodes = ns; refs = map (reference_of ts) rs }) (map-append (λ (y : Node × Measure). y.0) es (e ∷ []))

  extends : Extends (stored ts es rs) (stored ts (es ++ e ∷ []) rs)
  extends = rw stored-push (extends-push (stored ts es rs) e.0 sound.actuals)

  extends_length : length (stored ts es rs).nodes ≤ length (stored ts (es ++ e ∷ []) rs).nodes
  extends_length = omega (arith, length-map es (λ (y : Node × Measure). y.0), length-map (es ++ e ∷ []) (λ (y : Node × Measure). y.0), length-append es (e ∷ []))

  length_nodes : length (stored ts es rs).nodes ≡ length es
  length_nodes = length-map es (λ (y : Node × Measure). y.0)

  tree_new : tree_at (stored ts (es ++ e ∷ []) rs) (length es) ≡ node_tree (stored ts es rs) e.0
  tree_new = ap (λ s. tree_at s (length es)) stored-push ∙ ap (tree_at (pushed (stored ts es rs) e.0)) (sym length_nodes) ∙ tree_at-push_new (stored ts es rs) e.0

  fits_new : IsWithinLimits (node_tree (stored ts es rs) e.0)
  fits_new = let m : IsSmall (measure_of (node_tree (stored ts es rs) e.0)) = rw measured at small in record { deep = m.depth; large = m.size; index = m.top }

  right_new : IsRight (stored ts (es ++ e ∷ []) rs) (length es) e
  right_new = record {
    tree = tree_new ∙ sym (node_tree-extends (stored ts es rs) (stored ts (es ++ e ∷ []) rs) e.0 extends parts);
    parts = HasParts-mono (length (stored ts es rs).nodes) (length es) (length (stored ts es rs).refs) (length (stored ts es rs).refs) (shape_of e.0) (omega (arith, length_nodes)) (omega arith) parts;
    measure = measured ∙ ap measure_of (sym tree_new);
    fits = subst IsWithinLimits (sym tree_new) fits_new;
  }

  nodes_push : (i : ℕ) (d : Node × Measure) → i < length (es ++ e ∷ []) → d ≡ slice_index_or (es ++ e ∷ []) i d → IsRight (stored ts (es ++ e ∷ []) rs) i d
  nodes_push i d h x = elim (cases_lt i (length es)) [
    | inl lt ↦ right-extends (stored ts es rs) (stored ts (es ++ e ∷ []) rs) i d extends (omega (arith, lt, length_nodes)) (omega arith) (sound.nodes i d lt (x ∙ get_or_append_left es (e ∷ []) d i lt))
    | inr ge ↦
        let at : length es ≡ i = omega (arith, h, ge, length-append es (e ∷ [])) in
        let same : d ≡ e = x ∙ get_or_push es e d i at in
        subst (λ j. IsRight (stored ts (es ++ e ∷ []) rs) j d) at (subst (λ y. IsRight (stored ts (es ++ e ∷ []) rs) (length es) y) (sym same) right_new)
  ]

  -- no number stands for the new tree
  fresh_tree : (i : ℕ) → i < length es → tree_at (stored ts es rs) i ≡ node_tree (stored ts es rs) e.0 → ⊥
  fresh_tree i h k =
      let d = slice_index_or es i e in
      let right = sound.nodes i d h (same_default es i e d h) in
      let within : PartsIn (stored ts es rs) d.0 = HasParts-mono i (length (stored ts es rs).nodes) (length (stored ts es rs).refs) (length (stored ts es rs).refs) (shape_of d.0) (omega (arith, h, length_nodes)) (omega arith) right.parts in
      let same = shape_tree-injective (stored ts es rs) (shape_of d.0) (shape_of e.0) sound.distinct_nodes (refs_distinct ts es rs sound) within parts (sym right.tree ∙ k) in
      fresh i (key_at es i e h ∙ ap Some (shape_of-injective d.0 e.0 same))

  distinct_push : NodesDistinct (stored ts (es ++ e ∷ []) rs)
  distinct_push i j a b k = go (cases_lt i (length es)) (cases_lt j (length es))
    where
      old_tree : (n : ℕ) → n < length es → tree_at (stored ts (es ++ e ∷ []) rs) n ≡ tree_at (stored ts es rs) n
      old_tree n l = extends.trees n (omega (arith, l, length_nodes))

      at_last : (n : ℕ) → IsNode (stored ts (es ++ e ∷ []) rs) n → length es ≤ n → tree_at (stored ts (es ++ e ∷ []) rs) n ≡ node_tree (stored ts es rs) e.0
      at_last n l g =
          let at : n ≡ length es = omega (arith, l, g, length-map (es ++ e ∷ []) (λ (y : Node × Measure). y.0), length-append es (e ∷ [])) in
          ap (tree_at (stored ts (es ++ e ∷ []) rs)) at ∙ tree_new

      go : (i < length es) ⊎ (length es ≤ i) → (j < length es) ⊎ (length es ≤ j) → i ≡ j
      go (inl x) (inl y) = sound.distinct_nodes i j (omega (arith, x, length_nodes)) (omega (arith, y, length_nodes)) (sym (old_tree i x) ∙ k ∙ old_tree j y)
      go (inl x) (inr y) = absurd (fresh_tree i x (sym (old_tree i x) ∙ k ∙ at_last j b y))
      go (inr x) (inl y) = absurd (fresh_tree j y (sym (old_tree j y) ∙ sym k ∙ at_last i a x))
      go (inr x) (inr y) = omega (arith, a, b, x, y, length-map (es ++ e ∷ []) (λ (y : Node × Measure). y.0), length-append es (e ∷ []))

  same_ref : (r : ℕ) → r < length rs → ref_at (stored ts (es ++ e ∷ []) rs) r ≡ ref_at (stored ts es rs) r
  same_ref r h = extends.references r (omega (arith, h, length-map rs (reference_of ts)))

  sorted_new : IsSorted (tree_at (stored ts (es ++ e ∷ []) rs) (length es))
  sorted_new = subst IsSorted (sym tree_new) (shape_sorted (stored ts es rs) (shape_of e.0) sound.sorted sound.sorted_refs parts sorts)

  sound_push : IsSound ts (es ++ e ∷ []) rs
  sound_push = record {
    actuals = ActualsBelow-mono (length (stored ts es rs).nodes) (length (stored ts (es ++ e ∷ []) rs).nodes) (map (reference_of ts) rs) (extends_length) sound.actuals;
    names = subst (NamesBelow (length (stored ts es rs).refs)) (sym (map-append (λ (y : Node × Measure). y.0) es (e ∷ []))) (NamesBelow-push (length (stored ts es rs).refs) (map (λ (y : Node × Measure). y.0) es) e.0 sound.names (NameBelow-of (length (stored ts es rs).nodes) (length (stored ts es rs).refs) (shape_of e.0) parts));
    sorted = λ i h. sorted_after (stored ts es rs) (stored ts (es ++ e ∷ []) rs) extends sound.sorted (length es) (sym length_nodes) sorted_new i (omega (arith, h, length_nodes, length-map (es ++ e ∷ []) (λ (y : Node × Measure). y.0), length-append es (e ∷ [])));
    sorted_refs = λ r h. subst IsSortedRef (sym (extends.references r h)) (sound.sorted_refs r h);
    distinct_nodes = distinct_push;
    distinct = λ r q a b k. sound.distinct r q a b (sym (same_ref r a) ∙ k ∙ same_ref q b);
    nodes = nodes_push;
    refs = λ r d h x. right_ref-extends (stored ts es rs) (stored ts (es ++ e ∷ []) rs) r d extends (omega (arith, h, length-map rs (reference_of ts))) (sound.refs r d h x);
  }

-- the trees and the references of a store are sorted
pub tree_sorted : {ts : List Text} {es : List (Node × Measure)} {rs : List RefEntry} {s : Stored} (i : ℕ) → IsSound ts es rs → stored ts es rs ≡ s → IsNode s i → IsSorted (tree_at s i)
tree_sorted {ts} {es} {rs} i h v = subst (λ t. IsNode t i → IsSorted (tree_at t i)) v (h.sorted i)

pub ref_sorted : {ts : List Text} {es : List (Node × Measure)} {rs : List RefEntry} {s : Stored} (r : ℕ) → IsSound ts es rs → stored ts es rs ≡ s → IsRef s r → IsSortedRef (ref_at s r)
ref_sorted {ts} {es} {rs} r h v = subst (λ t. IsRef t r → IsSortedRef (ref_at t r)) v (h.sorted_refs r)

-- what a push leaves, where the fields are known by equations
pub record IsPushed (s t : Stored) (n : Node) (ts : List Text) (es : List (Node × Measure)) (rs : List RefEntry) (i : ℕ) : Type 0 where
  pub sound : IsSound ts es rs
  pub extends : Extends s t
  pub stands : Stands t (node_tree s n) i

pub pushed_is : {ts : List Text} {es fs : List (Node × Measure)} {rs : List RefEntry} {s : Stored} {i : ℕ} (e : Node × Measure) → IsSound ts es rs → stored ts es rs ≡ s → fs ≡ es ++ e ∷ [] → PartsIn s e.0 → ((i : ℕ) → slice_get (keys_of es) i ≡ Some e.0 → ⊥) → HasSorts (node_tree s e.0) → e.1 ≡ measure_of (node_tree s e.0) → IsSmall e.1 → i ≡ length es → IsPushed s (stored ts fs rs) e.0 ts fs rs i
pushed_is {ts} {es} {fs} {rs} {s} {i} e sound v fs_is parts fresh sorts measured small at =
    subst (λ f. IsPushed s (stored ts f rs) e.0 ts f rs i) (sym fs_is)
    (subst (λ t. PartsIn t e.0 → HasSorts (node_tree t e.0) → e.1 ≡ measure_of (node_tree t e.0) → IsPushed t (stored ts (es ++ e ∷ []) rs) e.0 ts (es ++ e ∷ []) rs i) v
    (λ p o m. record {
      sound = sound_push ts es rs e sound p fresh o m small;
      extends = extends ts es rs e sound p fresh o m small;
      stands = subst (Stands (stored ts (es ++ e ∷ []) rs) (node_tree (stored ts es rs) e.0)) (sym at) (record {
        node = omega (arith, length-map (es ++ e ∷ []) (λ (y : Node × Measure). y.0), length-append es (e ∷ []));
        tree = tree_new ts es rs e sound p fresh o m small;
        fits = fits_new ts es rs e sound p fresh o m small;
      });
    })
    parts sorts measured)

pub nodes_differ : {ts : List Text} {es : List (Node × Measure)} {rs : List RefEntry} {s : Stored} (i j : ℕ) → IsSound ts es rs → stored ts es rs ≡ s → IsNode s i → IsNode s j → tree_at s i ≡ tree_at s j → i ≡ j
nodes_differ {ts} {es} {rs} i j h v = subst (λ t. IsNode t i → IsNode t j → tree_at t i ≡ tree_at t j → i ≡ j) v (h.distinct_nodes i j)

-- a node that is found stands for its tree
pub found_stands : {ts : List Text} {es : List (Node × Measure)} {rs : List RefEntry} {s : Stored} (i : ℕ) (n : Node) → IsSound ts es rs → stored ts es rs ≡ s → slice_get (keys_of es) i ≡ Some n → Stands s (node_tree s n) i
found_stands {ts} {es} {rs} i n h v k =
    let lt = key_within es i n k in
    let d = slice_index_or es i (n, no_trees) in
    let right = h.nodes i d lt (same_default es i (n, no_trees) d lt) in
    let same : d.0 ≡ n = same_Some d.0 n (sym (key_at es i (n, no_trees) lt) ∙ k) in
    let is : tree_at (stored ts es rs) i ≡ node_tree (stored ts es rs) n = right.tree ∙ ap (node_tree (stored ts es rs)) same in
    subst (λ t. Stands t (node_tree t n) i) v (record {
      node = omega (arith, lt, length-map es (λ (y : Node × Measure). y.0));
      tree = is;
      fits = subst IsWithinLimits is right.fits;
    })

pub refs_differ : {ts : List Text} {es : List (Node × Measure)} {rs : List RefEntry} {s : Stored} (r q : ℕ) → IsSound ts es rs → stored ts es rs ≡ s → IsRef s r → IsRef s q → ref_at s r ≡ ref_at s q → r ≡ q
refs_differ {ts} {es} {rs} r q h v a b k =
    let m : length (stored ts es rs).refs ≡ length rs = length-map rs (reference_of ts) in
    subst (λ t. IsRef t r → IsRef t q → ref_at t r ≡ ref_at t q → r ≡ q) v (λ x y z. h.distinct r q (omega (arith, x, m)) (omega (arith, y, m)) z) a b k

-- the same with a reference more
actuals_push : (n : ℕ) (rs : List Reference) (x : Reference) → ActualsBelow n rs → AllBelow n x.actuals → ActualsBelow n (rs ++ x ∷ [])
actuals_push n [] x h k = (k, tt)
actuals_push n (r ∷ rs) x h k = (h.0, actuals_push n rs x h.1 k)

module _ (ts : List Text) (es : List (Node × Measure)) (rs : List RefEntry) (e : RefEntry) (sound : IsSound ts es rs) (new : IsNew (stored ts es rs) e.0.kind e.0.actuals e.1) where
  stored-push_ref : stored ts es (rs ++ e ∷ []) ≡ pushed_ref (stored ts es rs) (reference_of ts e)
  stored-push_ref = ap (λ xs. record { names = ts; nodes = map (λ (y : Node × Measure). y.0) es; refs = xs }) (map-append (reference_of ts) rs (e ∷ []))

  extends_ref : Extends (stored ts es rs) (stored ts es (rs ++ e ∷ []))
  extends_ref = rw stored-push_ref (extends-push_ref (stored ts es rs) (reference_of ts e) sound.names)

  length_refs : length (stored ts es rs).refs ≡ length rs
  length_refs = length-map rs (reference_of ts)

  longer_refs : length (stored ts es rs).refs ≤ length (stored ts es (rs ++ e ∷ [])).refs
  longer_refs = omega (arith, length-map rs (reference_of ts), length-map (rs ++ e ∷ []) (reference_of ts), length-append rs (e ∷ []))

  ref_new : ref_at (stored ts es (rs ++ e ∷ [])) (length rs) ≡ given_ref (stored ts es rs) e.0.kind e.0.actuals
  ref_new =
      ap (λ s. ref_at s (length rs)) stored-push_ref
      ∙ ap (ref_at (pushed_ref (stored ts es rs) (reference_of ts e))) (sym length_refs)
      ∙ ref_at-push_new (stored ts es rs) (reference_of ts e) sound.names
      ∙ ref_from-given (stored ts es rs) e.0.kind e.0.actuals

  old_ref : (r : ℕ) → r < length rs → ref_at (stored ts es (rs ++ e ∷ [])) r ≡ ref_at (stored ts es rs) r
  old_ref r h = extends_ref.references r (omega (arith, h, length_refs))

  fresh_ref : (r : ℕ) → r < length rs → ref_at (stored ts es rs) r ≡ given_ref (stored ts es rs) e.0.kind e.0.actuals → ⊥
  fresh_ref r h = new.fresh r (omega (arith, h, length_refs))

  distinct_ref : (r q : ℕ) → r < length (rs ++ e ∷ []) → q < length (rs ++ e ∷ []) → ref_at (stored ts es (rs ++ e ∷ [])) r ≡ ref_at (stored ts es (rs ++ e ∷ [])) q → r ≡ q
  distinct_ref r q a b k = go (cases_lt r (length rs)) (cases_lt q (length rs))
    where
      at_last : (n : ℕ) → n < length (rs ++ e ∷ []) → length rs ≤ n → ref_at (stored ts es (rs ++ e ∷ [])) n ≡ given_ref (stored ts es rs) e.0.kind e.0.actuals
      at_last n l g = let at : n ≡ length rs = omega (arith, l, g, length-append rs (e ∷ [])) in ap (ref_at (stored ts es (rs ++ e ∷ []))) at ∙ ref_new

      go : (r < length rs) ⊎ (length rs ≤ r) → (q < length rs) ⊎ (length rs ≤ q) → r ≡ q
      go (inl x) (inl y) = sound.distinct r q x y (sym (old_ref r x) ∙ k ∙ old_ref q y)
      go (inl x) (inr y) = absurd (fresh_ref r x (sym (old_ref r x) ∙ k ∙ at_last q b y))
      go (inr x) (inl y) = absurd (fresh_ref q y (sym (old_ref q y) ∙ sym k ∙ at_last r a x))
      go (inr x) (inr y) = omega (arith, a, b, x, y, length-append rs (e ∷ []))

  right_ref_new : IsRightRef (stored ts es (rs ++ e ∷ [])) (length rs) e
  right_ref_new = record {
    measure = new.measure ∙ ap ref_measure (sym ref_new);
    kind = KindIn-extends (stored ts es rs) (stored ts es (rs ++ e ∷ [])) e.0.kind extends_ref new.kind;
    may_have = new.may_have;
    closed = subst (λ q. AreClosed (ref_actuals q)) (sym ref_new) new.closed;
    fits = subst (λ q. IsWithinLimits (Const q)) (sym ref_new) new.fits;
  }

  right_refs : (r : ℕ) (d : RefEntry) → r < length (rs ++ e ∷ []) → d ≡ slice_index_or (rs ++ e ∷ []) r d → IsRightRef (stored ts es (rs ++ e ∷ [])) r d
  right_refs r d h x = elim (cases_lt r (length rs)) [
    | inl lt ↦ right_ref-extends (stored ts es rs) (stored ts es (rs ++ e ∷ [])) r d extends_ref (omega (arith, lt, length_refs)) (sound.refs r d lt (x ∙ get_or_append_left rs (e ∷ []) d r lt))
    | inr ge ↦
        let at : length rs ≡ r = omega (arith, h, ge, length-append rs (e ∷ [])) in
        let same : d ≡ e = x ∙ get_or_push rs e d r at in
        subst (λ j. IsRightRef (stored ts es (rs ++ e ∷ [])) j d) at (subst (λ y. IsRightRef (stored ts es (rs ++ e ∷ [])) (length rs) y) (sym same) right_ref_new)
  ]

  sorted_ref_new : IsSortedRef (ref_at (stored ts es (rs ++ e ∷ [])) (length rs))
  sorted_ref_new = subst IsSortedRef (sym ref_new) (given_sorted (stored ts es rs) e.0.kind e.0.actuals sound.sorted new.actuals)

  sound_ref : IsSound ts es (rs ++ e ∷ [])
  sound_ref = record {
    actuals = subst (ActualsBelow (length (stored ts es rs).nodes)) (sym (map-append (reference_of ts) rs (e ∷ []))) (actuals_push (length (stored ts es rs).nodes) (map (reference_of ts) rs) (reference_of ts e) sound.actuals new.actuals);
    names = NamesBelow-mono (length (stored ts es rs).refs) (length (stored ts es (rs ++ e ∷ [])).refs) (map (λ (y : Node × Measure). y.0) es) longer_refs sound.names;
    sorted = λ i h. subst IsSorted (sym (extends_ref.trees i h)) (sound.sorted i h);
    sorted_refs = λ r h. sorted_refs_after (stored ts es rs) (stored ts es (rs ++ e ∷ [])) extends_ref sound.sorted_refs (length rs) (sym length_refs) sorted_ref_new r (omega (arith, h, length_refs, length-map (rs ++ e ∷ []) (reference_of ts), length-append rs (e ∷ [])));
    distinct_nodes = λ i j a b k. sound.distinct_nodes i j a b (sym (extends_ref.trees i a) ∙ k ∙ extends_ref.trees j b);
    distinct = distinct_ref;
    nodes = λ i d h x. right-extends (stored ts es rs) (stored ts es (rs ++ e ∷ [])) i d extends_ref (omega (arith, h, length-map es (λ (y : Node × Measure). y.0))) longer_refs (sound.nodes i d h x);
    refs = right_refs;
  }

-- what an entry says of its reference
pub record RefSeen (s : Stored) (r : ℕ) (k : RefKind) (acts : List ℕ) (m : Measure) : Type 0 where
  pub is : ref_at s r ≡ given_ref s k acts
  pub actuals : AllBelow (length s.nodes) acts
  pub trees : trees_at s acts ≡ ref_actuals (ref_at s r)
  pub kind : KindIn s k
  pub may_have : MayHave k acts
  pub closed : AreClosed (ref_actuals (ref_at s r))
  pub measure : m ≡ ref_measure (ref_at s r)
  pub fits : IsWithinLimits (Const (ref_at s r))

actuals_of : (s : Stored) (k : RefKind) (acts : List ℕ) → MayHave k acts → trees_at s acts ≡ ref_actuals (given_ref s k acts)
actuals_of s (kind.Own n) acts h = ap (trees_at s) h
actuals_of s (kind.Formal n) acts h = ap (trees_at s) h
actuals_of s (kind.Inst a n) acts h = refl

get_or-map_at : (ts : List Text) (xs : List RefEntry) (k : ℕ) (d : RefEntry) → k < length xs → d ≡ slice_index_or xs k d → slice_index_or (map (reference_of ts) xs) k no_reference ≡ reference_of ts d
get_or-map_at ts [] k d l y = absurd (omega (arith, l))
get_or-map_at ts (z ∷ xs) zero d l y = ap (reference_of ts) (sym y)
get_or-map_at ts (z ∷ xs) (suc k) d l y = get_or-map_at ts xs k d (omega (arith, l)) y

pub ref_seen : {ts : List Text} {es : List (Node × Measure)} {rs : List RefEntry} {s : Stored} (r : ℕ) (e : RefEntry) → IsSound ts es rs → stored ts es rs ≡ s → IsRef s r → e ≡ slice_index_or rs r e → RefSeen s r e.0.kind e.0.actuals e.1
ref_seen {ts} {es} {rs} {s} r e h v i x =
    let m : r < length rs = omega (arith, i, length-map rs (reference_of ts), ap (λ (t : Stored). length t.refs) v) in
    let at : slice_index_or (map (reference_of ts) rs) r no_reference ≡ reference_of ts e = get_or-map_at ts rs r e m x in
    let is : ref_at (stored ts es rs) r ≡ given_ref (stored ts es rs) e.0.kind e.0.actuals = ref_at-given (stored ts es rs) r (reference_of ts e) at ∙ ref_from-given (stored ts es rs) e.0.kind e.0.actuals in
    let right = h.refs r e m x in
    subst (λ t. RefSeen t r e.0.kind e.0.actuals e.1) v (record {
      is = is;
      actuals = subst (λ (y : Reference). AllBelow (length (stored ts es rs).nodes) y.actuals) at (actuals_at (length (stored ts es rs).nodes) (map (reference_of ts) rs) r h.actuals);
      trees = actuals_of (stored ts es rs) e.0.kind e.0.actuals right.may_have ∙ ap ref_actuals (sym is);
      kind = right.kind;
      may_have = right.may_have;
      closed = right.closed;
      measure = right.measure;
      fits = right.fits;
    })

-- a reference that is found stands for what was asked
pub found_ref_stands : {ts : List Text} {es : List (Node × Measure)} {rs : List RefEntry} {s : Stored} (r : ℕ) (g : Given) → IsSound ts es rs → stored ts es rs ≡ s → slice_get (keys_of rs) r ≡ Some g → StandsRef s (given_ref s g.kind g.actuals) r
found_ref_stands {ts} {es} {rs} r g h v k =
    let lt = key_within rs r g k in
    let d = slice_index_or rs r (g, no_trees) in
    let same : d.0 ≡ g = same_Some d.0 g (sym (key_at rs r (g, no_trees) lt) ∙ k) in
    let within : IsRef (stored ts es rs) r = omega (arith, lt, length-map rs (reference_of ts)) in
    let seen = ref_seen r d h refl within (same_default rs r (g, no_trees) d lt) in
    subst (λ t. StandsRef t (given_ref t g.kind g.actuals) r) v (record {
      ref = within;
      is = seen.is ∙ ap (λ (x : Given). given_ref (stored ts es rs) x.kind x.actuals) same;
      fits = subst (λ (x : Given). IsWithinLimits (Const (given_ref (stored ts es rs) x.kind x.actuals))) same (subst (λ q. IsWithinLimits (Const q)) seen.is seen.fits);
    })

-- no number stands for a reference that is not found
absent_ref : (ts : List Text) (es : List (Node × Measure)) (rs : List RefEntry) (g : Given) → IsSound ts es rs → AreDistinct ts → IsGiven (stored ts es rs) g.kind g.actuals → ((i : ℕ) → slice_get (keys_of rs) i ≡ Some g → ⊥) → (r : ℕ) → IsRef (stored ts es rs) r → ref_at (stored ts es rs) r ≡ given_ref (stored ts es rs) g.kind g.actuals → ⊥
absent_ref ts es rs g h names given f r within k =
    let lt : r < length rs = omega (arith, within, length-map rs (reference_of ts)) in
    let d = slice_index_or rs r (g, no_trees) in
    let seen = ref_seen r d h refl within (same_default rs r (g, no_trees) d lt) in
    let there : IsGiven (stored ts es rs) d.0.kind d.0.actuals = record { kind = seen.kind; may_have = seen.may_have; actuals = seen.actuals } in
    let equal = given_ref-injective (stored ts es rs) d.0.kind g.kind d.0.actuals g.actuals h.distinct_nodes names there given (sym seen.is ∙ k) in
    let kinds : d.0.kind ≡ g.kind = equal.0 in
    let actuals : d.0.actuals ≡ g.actuals = equal.1 in
    let same : d.0 ≡ g = ap₂ (λ x y. record { kind = x; actuals = y }) kinds actuals in
    f r (key_at rs r (g, no_trees) lt ∙ ap Some same)

pub absent_ref_stands : {ts : List Text} {es : List (Node × Measure)} {rs : List RefEntry} {s : Stored} (g : Given) → IsSound ts es rs → stored ts es rs ≡ s → AreDistinct ts → IsGiven s g.kind g.actuals → ((i : ℕ) → slice_get (keys_of rs) i ≡ Some g → ⊥) → (r : ℕ) → IsRef s r → ref_at s r ≡ given_ref s g.kind g.actuals → ⊥
absent_ref_stands {ts} {es} {rs} g h v names given f =
    subst (λ t. IsGiven t g.kind g.actuals → (r : ℕ) → IsRef t r → ref_at t r ≡ given_ref t g.kind g.actuals → ⊥) v (λ x. absent_ref ts es rs g h names x f) given

-- a reference that may be added is not among those that stand
pub new_ref : {ts : List Text} {es : List (Node × Measure)} {rs : List RefEntry} {s : Stored} {m : Measure} (g : Given) → IsSound ts es rs → stored ts es rs ≡ s → IsNew s g.kind g.actuals m → (i : ℕ) → slice_get (keys_of rs) i ≡ Some g → ⊥
new_ref g h v new i k = let stands = found_ref_stands i g h v k in new.fresh i stands.ref stands.is

-- what a push of a reference leaves
pub record IsPushedRef (s t : Stored) (k : RefKind) (acts : List ℕ) (ts : List Text) (es : List (Node × Measure)) (rs : List RefEntry) (r : ℕ) : Type 0 where
  pub sound : IsSound ts es rs
  pub extends : Extends s t
  pub stands : StandsRef t (given_ref s k acts) r

pub pushed_ref_is : {ts : List Text} {es : List (Node × Measure)} {rs xs : List RefEntry} {s : Stored} {r : ℕ} (e : RefEntry) → IsSound ts es rs → stored ts es rs ≡ s → xs ≡ rs ++ e ∷ [] → IsNew s e.0.kind e.0.actuals e.1 → r ≡ length rs → IsPushedRef s (stored ts es xs) e.0.kind e.0.actuals ts es xs r
pushed_ref_is {ts} {es} {rs} {xs} {s} {r} e sound v xs_is new at =
    subst (λ y. IsPushedRef s (stored ts es y) e.0.kind e.0.actuals ts es y r) (sym xs_is)
    (subst (λ t. IsNew t e.0.kind e.0.actuals e.1 → IsPushedRef t (stored ts es (rs ++ e ∷ [])) e.0.kind e.0.actuals ts es (rs ++ e ∷ []) r) v
    (λ n. record {
      sound = sound_ref ts es rs e sound n;
      extends = extends_ref ts es rs e sound n;
      stands = record {
        ref = omega (arith, at, length-map (rs ++ e ∷ []) (reference_of ts), length-append rs (e ∷ []));
        is = ap (ref_at (stored ts es (rs ++ e ∷ []))) at ∙ ref_new ts es rs e sound n;
        fits = n.fits;
      };
    })
    new)

-- the same with a name more
references-names : (ts us : List Text) (rs : List RefEntry) (s : Stored) → s.names ≡ ts → KeepsTexts ts us → ((r : ℕ) (e : RefEntry) → r < length rs → e ≡ slice_index_or rs r e → KindIn s e.0.kind) → map (reference_of us) rs ≡ map (reference_of ts) rs
references-names ts us [] s n k h = refl
references-names ts us (r ∷ rs) s n k h = ap₂ ◌∷◌ (same r (h 0 r (omega arith) refl)) (references-names ts us rs s n k (λ q e l x. h (suc q) e (omega (arith, l)) x))
  where
    theory : (k : RefKind) → KindIn s k → theory_in us k ≡ theory_in ts k
    theory (kind.Own m) h = refl
    theory (kind.Formal m) h = refl
    theory (kind.Inst a m) h = k.texts a (subst (λ xs. a < length xs) n h)

    same : (e : RefEntry) → KindIn s e.0.kind → reference_of us e ≡ reference_of ts e
    same e h = ap (λ t. record { kind = e.0.kind; theory = t; actuals = e.0.actuals }) (theory e.0.kind h)

-- what a name more leaves
pub record IsNamed (s t : Stored) (ts : List Text) (es : List (Node × Measure)) (rs : List RefEntry) : Type 0 where
  pub sound : IsSound ts es rs
  pub extends : Extends s t

pub named_is : {ts : List Text} {es : List (Node × Measure)} {rs : List RefEntry} {s : Stored} (us : List Text) → IsSound ts es rs → stored ts es rs ≡ s → KeepsTexts ts us → IsNamed s (stored us es rs) us es rs
named_is {ts} {es} {rs} {s} us sound v keeps =
    let refs_are : map (reference_of us) rs ≡ map (reference_of ts) rs = references-names ts us rs (stored ts es rs) refl keeps (λ r e l x. (sound.refs r e l x).kind) in
    let at : stored us es rs ≡ record { names = us; nodes = (stored ts es rs).nodes; refs = (stored ts es rs).refs } = ap (λ xs. record { names = us; nodes = map (λ (y : Node × Measure). y.0) es; refs = xs }) refs_are in
    let x : Extends (stored ts es rs) (stored us es rs) = subst (Extends (stored ts es rs)) (sym at) (extends-names (stored ts es rs) us keeps) in
    let lengths : length (stored us es rs).refs ≡ length (stored ts es rs).refs = ap (λ (xs : List Reference). length xs) refs_are in
    record {
      sound = record {
        actuals = subst (ActualsBelow (length (stored ts es rs).nodes)) (sym refs_are) sound.actuals;
        names = subst (λ n. NamesBelow n (stored ts es rs).nodes) (sym lengths) sound.names;
        sorted = λ i h. subst IsSorted (sym (x.trees i h)) (sound.sorted i h);
        sorted_refs = λ r h. subst IsSortedRef (sym (x.references r (omega (arith, h, lengths)))) (sound.sorted_refs r (omega (arith, h, lengths)));
        distinct_nodes = λ i j a b k. sound.distinct_nodes i j a b (sym (x.trees i a) ∙ k ∙ x.trees j b);
        distinct = λ r q a b k. sound.distinct r q a b (sym (x.references r (omega (arith, a, length-map rs (reference_of ts)))) ∙ k ∙ x.references q (omega (arith, b, length-map rs (reference_of ts))));
        nodes = λ i d h y. right-extends (stored ts es rs) (stored us es rs) i d x (omega (arith, h, length-map es (λ (y : Node × Measure). y.0))) (omega (arith, lengths)) (sound.nodes i d h y);
        refs = λ r d h y. right_ref-extends (stored ts es rs) (stored us es rs) r d x (omega (arith, h, length-map rs (reference_of ts))) (sound.refs r d h y);
      };
      extends = subst (λ t. Extends t (stored us es rs)) v x;
    }
