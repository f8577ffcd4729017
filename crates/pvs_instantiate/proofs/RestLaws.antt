-- What the calls that change the theories, and those that give a part, leave and give.
use Rattle.std.proofs.Common.{◌≡◌, ℕ, zero, suc, Bool, true, false, cond, Option, None, Some, [], ◌∷◌, ◌++◌, slice_get, remove, refl, sym, ap, ◌∙◌, subst, map}
use Rattle.std.specs.Prelude.{bytes_eq, not, Result, Ok, Err, OnOk, OnErr}
use Rattle.std.specs.Map.{keys_of, values_of}
use Rattle.pvs_terms.specs.Tree.{Tree, Text}
use Rattle.pvs_terms.specs.Stored.{Stored, text_at}
use Rattle.pvs_terms.specs.declared.shape.Sort.TheVariants.{OfTerm}
use Rattle.pvs_sig.specs.Signature.{Signature, Kind, TypeSig, ConstSig, VarSig, FormulaSig}
use Rattle.pvs_sig.specs.SignatureAt.{signature_at, SignatureIn}
use Rattle.pvs_sig.specs.LookupsOf.{constant_type}
use Rattle.pvs_sig.specs.Development.{Development, theory_named, HasSort}
use Rattle.pvs_sig.specs.Laws.{without}
use Rattle.pvs_instantiate.specs.declared.theories.Theory.{Theory}
use Rattle.pvs_instantiate.specs.declared.growth.Growth.{Growth}
use Rattle.pvs_instantiate.specs.Standing.{Entries, signatures, theories_after, entry_signature, entry_stamp}
use Rattle.pvs_instantiate.specs.InstancesView.{InstancesView, development, stamps, Leaves}
use Rattle.pvs_instantiate.specs.Parts.{formula, IsFormula, GivesOption, GivesTree}
use Rattle.pvs_instantiate.specs.Soundness.{IsSound}
use Rattle.pvs_instantiate.specs.Grown.{IsAlone, MayGrow, MayBecome, grown, SameStamps, other_stamps}
use Rattle.pvs_instantiate.specs.code.Places.{IsMoved, IsSet}
use Rattle.pvs_instantiate.specs.code.Changes.{IsSameTheory}
use Rattle.pvs_instantiate.specs.code.Growing.{GrowthIn, with_growth, Adds}
use Rattle.pvs_instantiate.proofs.ListLaws.{pair_at, all_remap, filter_all}
use Rattle.pvs_instantiate.proofs.TheoryLaws.{without_none, absent_differ}
use Rattle.pvs_instantiate.proofs.LookupLaws.{theory_found}
use Rattle.pvs_instantiate.proofs.ChangeLaws.{removed_sound, removed_is, stamps_removed}
use Rattle.pvs_instantiate.proofs.GrowLaws.{IsGrown, adds, is_grown, is_unchanged}

pub leaves_same : (v : InstancesView) → Leaves v v
leaves_same v = record {
  store = record { nodes = λ i h. h; refs = λ r h. h; names = λ n h. h; trees = λ i h. refl; references = λ r h. refl; texts = λ n h. refl };
  development = refl;
  stamps = refl;
}

-- a theory that does not stand cannot be taken out
pub without_absent : (th : Text) (d : Development) → theory_named d th ≡ None → without th d ≡ d
without_absent th [] h = refl
without_absent th (s ∷ d) h = by (bytes_eq s.name th) h (without_absent th d)
  where
    by : (b : Bool) → cond b (Some s) (theory_named d th) ≡ None → (theory_named d th ≡ None → without th d ≡ d) → cond b d (s ∷ without th d) ≡ s ∷ d
    by true e f = cc
    by false e f = ap (λ l. s ∷ l) (f e)

-- the theories with the one at a place taken out, by what was seen before the call
pub record IsRemoved (w v : InstancesView) (es : Entries) (name : ℕ) (t : Theory) : Type 0 where
  pub sound : IsSound (record { store = v.store; entries = es; last_stamp = v.last_stamp; kept = v.kept })
  pub rest : theories_after [] (signatures v.store es) ≡ without (text_at w.store name) (development w)
  pub gone : theory_named (theories_after [] (signatures v.store es)) (text_at w.store name) ≡ None
  pub found : SignatureIn v.store t.signature × (theory_named (development w) (text_at w.store name) ≡ Some (signature_at v.store t.signature))
  pub stamps : map (entry_stamp v.store) es ≡ other_stamps (text_at w.store name) w

removed_at : (v : InstancesView) (i name : ℕ) (t : Theory) → IsSound v → slice_get v.entries i ≡ Some (name, t) → IsAlone (text_at v.store name) (development v) → IsRemoved v v (remove v.entries i) name t
removed_at v i name t sound found alone =
    let f = theory_found v.store v.entries i name t sound.standing found in
    let own = subst (λ n. IsAlone (text_at v.store n) (development v)) (sym f.named) alone in
    let rest : theories_after [] (signatures v.store (remove v.entries i)) ≡ without (text_at v.store name) (development v)
    = removed_is v i name t sound found own ∙ ap (λ n. without (text_at v.store n) (development v)) f.named in
    record {
      sound = removed_sound v i name t sound found own;
      rest = rest;
      gone = ap (λ d. theory_named d (text_at v.store name)) rest ∙ without_none (text_at v.store name) (development v) sound.standing.over;
      found = (f.stored, f.stands);
      stamps = subst (λ n. map (entry_stamp v.store) (remove v.entries i) ≡ other_stamps (text_at v.store n) v) f.named (sym (stamps_removed v.store v.entries i (name, t) sound.standing found));
    }

pub removal : (w v : InstancesView) (es : Entries) (i name : ℕ) (t : Theory) → v ≡ w → IsSound v → slice_get (keys_of w.entries) i ≡ Some name → slice_get (values_of v.entries) i ≡ Some t → IsAlone (text_at w.store name) (development w) → es ≡ remove v.entries i → IsRemoved w v es name t
removal w v es i name t e sound key value alone rest =
    let at = subst (λ z. slice_get (keys_of z.entries) i ≡ Some name) (sym e) key in
    subst (λ z. IsRemoved z v es name t) e
    (subst (λ l. IsRemoved v v l name t) (sym rest) (removed_at v i name t sound (pair_at v.entries i name t at value) (subst (λ z. IsAlone (text_at z.store name) (development z)) (sym e) alone)))

-- a theory that does not stand has no stamp
pub stamps_absent : (v : InstancesView) (th : Text) → IsSound v → theory_named (development v) th ≡ None → stamps v ≡ other_stamps th v
stamps_absent v th sound h =
    sym (filter_all (λ x. not (bytes_eq x.0 th)) (stamps v)
    (all_remap (λ y. bytes_eq y.name th ≡ false) (λ x. not (bytes_eq x.0 th) ≡ true) (entry_signature v.store) (entry_stamp v.store) (λ e q. ap not q) v.entries
    (absent_differ [] (signatures v.store v.entries) th sound.standing.over h)))

key_of_found : (es : Entries) (i name : ℕ) (t : Theory) → slice_get es i ≡ Some (name, t) → slice_get (keys_of es) i ≡ Some name
key_of_found [] i name t e = cc
key_of_found (x ∷ xs) zero name t e =
    let at : x ≡ (name, t) = cc in
    ap (λ z. Some z.0) at
key_of_found (x ∷ xs) (suc i) name t e = key_of_found xs i name t e

some_is : (a b : ℕ) → Some a ≡ Some b → a ≡ b
some_is a b e = cc

-- what a theory that grows leaves, whether or not it is refused
pub record Grows (w v : InstancesView) (new : Entries) (th : Text) (f : Signature → Signature) {A E : Type 0} (r : Result A E) : Type 0 where
  pub sound : IsSound (record { store = v.store; entries = new; last_stamp = v.last_stamp; kept = v.kept })
  pub ok : OnOk r (theories_after [] (signatures v.store new) ≡ grown (development w) th f)
  pub err : OnErr r (theories_after [] (signatures v.store new) ≡ development w)
  pub stamps : SameStamps w (record { store = v.store; entries = new; last_stamp = v.last_stamp; kept = v.kept })

module _ (v : InstancesView) (new : Entries) (i name : ℕ) (g : Growth) (sound : IsSound v) (key : slice_get (keys_of v.entries) i ≡ Some name) (within : GrowthIn v.store g)
    (alone : IsAlone (text_at v.store name) (development v)) (may : MayGrow (development v) (text_at v.store name) (with_growth v.store g)) where
  after_move : IsMoved (Adds g) v.entries new i → IsGrown v new (text_at v.store name) (with_growth v.store g)
  after_move m =
      let same : name ≡ m.name = some_is name m.name (sym key ∙ key_of_found v.entries i m.name m.before m.found) in
      let found = subst (λ n. slice_get v.entries i ≡ Some (n, m.before)) (sym same) m.found in
      let stored = (theory_found v.store v.entries i name m.before sound.standing found).stored in
      is_grown v new i name (with_growth v.store g) m.before m.after sound found (adds v.store g m.before m.after within stored m.related) alone may (m.moved ∙ ap (λ n. remove v.entries i ++ (n, m.after) ∷ []) (sym same))

  grows_here : {A E : Type 0} (r : Result A E) → OnOk r (IsMoved (Adds g) v.entries new i) → OnErr r (IsSet IsSameTheory v.entries new i) → Grows v v new (text_at v.store name) (with_growth v.store g) r
  grows_here (Ok a) h k =
      let x = after_move h in
      record { sound = x.sound; ok = x.development; err = tt; stamps = x.stamps }
  grows_here (Err e) h k =
      let x = is_unchanged v new i sound k in
      record { sound = x.sound; ok = tt; err = x.development; stamps = x.stamps }

pub grows : (w v : InstancesView) (new : Entries) (i name : ℕ) (g : Growth) {A E : Type 0} (r : Result A E) → v ≡ w → IsSound v → slice_get (keys_of w.entries) i ≡ Some name → GrowthIn w.store g → IsAlone (text_at w.store name) (development w)
    → MayGrow (development w) (text_at w.store name) (with_growth w.store g) → OnOk r (IsMoved (Adds g) v.entries new i) → OnErr r (IsSet IsSameTheory v.entries new i) → Grows w v new (text_at w.store name) (with_growth w.store g) r
grows w v new i name g r e sound key within alone may h k =
    subst (λ z. slice_get (keys_of z.entries) i ≡ Some name → GrowthIn z.store g → IsAlone (text_at z.store name) (development z) → MayGrow (development z) (text_at z.store name) (with_growth z.store g) → Grows z v new (text_at z.store name) (with_growth z.store g) r) e
    (λ key within alone may. grows_here v new i name g sound key within alone may r h k) key within alone may

pub cannot_grow : (d : Development) (z : Option Signature) (f : Signature → Signature) → z ≡ None → MayBecome d z f → ⊥
cannot_grow d None f e h = h
cannot_grow d (Some s) f e h = cc

-- a constant has a type, and a formula is one
pub constant_given : (s : Stored) (k : Option Kind) → HasSort OfTerm k → GivesOption s (constant_type k) None → ⊥
constant_given s None h g = h
constant_given s (Some (TypeSig b body)) h g = h
constant_given s (Some (ConstSig t body)) h g = g
constant_given s (Some (VarSig t)) h g = h
constant_given s (Some (FormulaSig c t o)) h g = h

pub formula_given : (s : Stored) (k : Option Kind) → IsFormula k → GivesOption s (formula k) None → ⊥
formula_given s None h g = h
formula_given s (Some (TypeSig b body)) h g = h
formula_given s (Some (ConstSig t body)) h g = h
formula_given s (Some (VarSig t)) h g = h
formula_given s (Some (FormulaSig c t o)) h g = g

pub gives_tree : (s : Stored) (o : Option Tree) (i : ℕ) → GivesOption s o (Some i) → GivesTree s o i
gives_tree s None i h = h
gives_tree s (Some t) i h = h
