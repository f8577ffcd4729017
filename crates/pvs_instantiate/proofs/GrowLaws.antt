-- What stands after a theory has grown.
use Rattle.std.proofs.Common.{◌≡◌, ◌≤◌, inl, inr, ◌⊎◌, ℕ, zero, suc, Option, None, Some, List, [], ◌∷◌, ◌++◌, slice_get, remove, refl, sym, ap, ap₂, ◌∙◌, subst, map}
use Rattle.std.specs.Prelude.{option_map}
use Rattle.std.proofs.lemmas.Option.{slice_get-map}
use Rattle.indexmap.specs.IndexMap.{set_value_at}
use Rattle.pvs_terms.specs.Tree.{Tree, Text, Inst}
use Rattle.pvs_terms.specs.Stored.{Stored, text_at, tree_at}
use Rattle.pvs_cache.specs.declared.key.JudgeKey.{JudgeKey}
use Rattle.pvs_sig.specs.declared.signature.FormalSig as numbers_formal
use Rattle.pvs_sig.specs.declared.signature.Entry as numbers_entry
use Rattle.pvs_sig.specs.declared.signature.Import as numbers_import
use Rattle.pvs_sig.specs.Signature.{Signature, Entry, Kind, entry_kind, kind_at, instantiate_found}
use Rattle.pvs_sig.specs.SignatureAt.{signature_at, formal_sig_at, entry_at, import_at, SignatureIn, FormalIn, EntryIn, ImportIn, AllIn}
use Rattle.pvs_sig.specs.Development.{theory_named, IsDevelopment, IsSignatureOver, In}
use Rattle.pvs_sig.specs.Laws.{without}
use Rattle.pvs_sig.proofs.RemovalLaws.{removal_stands}
use Rattle.pvs_instantiate.specs.declared.theories.Theory.{Theory}
use Rattle.pvs_instantiate.specs.Standing.{Entries, StampsDiffer, entry_signature, entry_stamp, signatures, theories_after}
use Rattle.pvs_instantiate.specs.InstancesView.{InstancesView, development, stamps}
use Rattle.pvs_instantiate.specs.Parts.{part_tree}
use Rattle.pvs_instantiate.specs.Soundness.{IsValue, HasValues, IsSound}
use Rattle.pvs_instantiate.specs.Grown.{IsAlone, MayGrow, MayBecome, grown, become, with_formal, with_entry, with_import, SameStamps}
use Rattle.pvs_instantiate.specs.code.Places.{IsSet}
use Rattle.pvs_instantiate.specs.code.Growing.{GrowthIn, with_growth, Adds}
use Rattle.pvs_instantiate.specs.declared.growth.Growth.{Growth}
use Rattle.pvs_instantiate.specs.declared.growth.Growth.TheVariants as growth
use Rattle.pvs_instantiate.specs.code.Changes.{AddsFormal, AddsEntry, AddsImport, IsSameTheory}
use Rattle.pvs_instantiate.proofs.ListLaws.{all_append, all_remove, all_get}
use Rattle.pvs_instantiate.proofs.TheoryLaws.{without_none}
use Rattle.pvs_instantiate.proofs.LookupLaws.{theory_found}
use Rattle.pvs_instantiate.proofs.ChangeLaws.{map_append, map_removed, differ_append, differ_remove, differ_others, signatures_append, signatures_removed, in_append, in_last}
use Rattle.pvs_instantiate.proofs.PartLaws.{part_none}

-- what a theory becomes: f of it, with each entry that it had
pub record Becomes (s : Stored) (f : Signature → Signature) (t u : Theory) : Type 0 where
  pub signature : signature_at s u.signature ≡ f (signature_at s t.signature)
  pub stored : SignatureIn s u.signature
  pub name : u.signature.name ≡ t.signature.name
  pub stamp : u.stamp ≡ t.stamp
  pub kinds : (n : ℕ) (k : Kind) → kind_at (signature_at s t.signature) n ≡ Some k → kind_at (signature_at s u.signature) n ≡ Some k

get_append : {A : Type 0} (xs ys : List A) (n : ℕ) (x : A) → slice_get xs n ≡ Some x → slice_get (xs ++ ys) n ≡ Some x
get_append [] ys n x e = cc
get_append (y ∷ zs) ys zero x e = e
get_append (y ∷ zs) ys (suc n) x e = get_append zs ys n x e

some_kind : {A B : Type 0} (f : A → B) (o : Option A) (k : B) → option_map f o ≡ Some k → (x : A) × (o ≡ Some x) × (f x ≡ k)
some_kind f None k e = cc
some_kind f (Some x) k e =
    let at : f x ≡ k = cc in
    (x, refl, at)

pub kinds_append : (xs ys : List Entry) (n : ℕ) (k : Kind) → option_map entry_kind (slice_get xs n) ≡ Some k → option_map entry_kind (slice_get (xs ++ ys) n) ≡ Some k
kinds_append xs ys n k e =
    let x = some_kind entry_kind (slice_get xs n) k e in
    ap (option_map entry_kind) (get_append xs ys n x.0 x.1) ∙ ap Some x.2

adds_formal : (s : Stored) (x : numbers_formal.FormalSig) (t u : Theory) → FormalIn s x → SignatureIn s t.signature → AddsFormal x t u → Becomes s (with_formal (formal_sig_at s x)) t u
adds_formal s x t u i h a =
    let formals = ap (map (formal_sig_at s)) a.formals ∙ map_append (formal_sig_at s) t.signature.formals.items (x ∷ []) in
    let entries = ap (map (entry_at s)) a.entries in
    record {
      signature = rw (ap (text_at s) a.name, formals, entries, ap (map (import_at s)) a.imports) refl;
      stored = record {
        name = rw a.name h.name;
        formals = rw a.formals (all_append (FormalIn s) t.signature.formals.items (x ∷ []) h.formals (i, tt));
        entries = rw a.entries h.entries;
        imports = rw a.imports h.imports;
      };
      name = a.name;
      stamp = a.stamp;
      kinds = λ n k e. ap (λ l. option_map entry_kind (slice_get l n)) entries ∙ e;
    }

adds_entry : (s : Stored) (x : numbers_entry.Entry) (t u : Theory) → EntryIn s x → SignatureIn s t.signature → AddsEntry x t u → Becomes s (with_entry (entry_at s x)) t u
adds_entry s x t u i h a =
    let entries = ap (map (entry_at s)) a.entries ∙ map_append (entry_at s) t.signature.entries.items (x ∷ []) in
    record {
      signature = rw (ap (text_at s) a.name, ap (map (formal_sig_at s)) a.formals, entries, ap (map (import_at s)) a.imports) refl;
      stored = record {
        name = rw a.name h.name;
        formals = rw a.formals h.formals;
        entries = rw a.entries (all_append (EntryIn s) t.signature.entries.items (x ∷ []) h.entries (i, tt));
        imports = rw a.imports h.imports;
      };
      name = a.name;
      stamp = a.stamp;
      kinds = λ n k e. ap (λ l. option_map entry_kind (slice_get l n)) entries ∙ kinds_append (map (entry_at s) t.signature.entries.items) (entry_at s x ∷ []) n k e;
    }

adds_import : (s : Stored) (x : numbers_import.Import) (t u : Theory) → ImportIn s x → SignatureIn s t.signature → AddsImport x t u → Becomes s (with_import (import_at s x)) t u
adds_import s x t u i h a =
    let imports = ap (map (import_at s)) a.imports ∙ map_append (import_at s) t.signature.imports.items (x ∷ []) in
    let entries = ap (map (entry_at s)) a.entries in
    record {
      signature = rw (ap (text_at s) a.name, ap (map (formal_sig_at s)) a.formals, entries, imports) refl;
      stored = record {
        name = rw a.name h.name;
        formals = rw a.formals h.formals;
        entries = rw a.entries h.entries;
        imports = rw a.imports (all_append (ImportIn s) t.signature.imports.items (x ∷ []) h.imports (i, tt));
      };
      name = a.name;
      stamp = a.stamp;
      kinds = λ n k e. ap (λ l. option_map entry_kind (slice_get l n)) entries ∙ e;
    }

pub adds : (s : Stored) (g : Growth) (t u : Theory) → GrowthIn s g → SignatureIn s t.signature → Adds g t u → Becomes s (with_growth s g) t u
adds s (growth.Formal x) t u i h a = adds_formal s x t u i h a
adds s (growth.Entry x) t u i h a = adds_entry s x t u i h a
adds s (growth.Import x) t u i h a = adds_import s x t u i h a

pub same_theory : (s : Stored) (t u : Theory) → SignatureIn s t.signature → IsSameTheory t u → Becomes s (λ x. x) t u
same_theory s t u h a =
    let entries = ap (map (entry_at s)) a.entries in
    record {
      signature = rw (ap (text_at s) a.name, ap (map (formal_sig_at s)) a.formals, entries, ap (map (import_at s)) a.imports) refl;
      stored = record { name = rw a.name h.name; formals = rw a.formals h.formals; entries = rw a.entries h.entries; imports = rw a.imports h.imports };
      name = a.name;
      stamp = a.stamp;
      kinds = λ n k e. ap (λ l. option_map entry_kind (slice_get l n)) entries ∙ e;
    }

none_some : (t : Tree) → None ≡ Some t → ⊥
none_some t e = cc

-- the values of the theory stay
pub value_stays : (s : Stored) (f : Signature → Signature) (t u : Theory) (p : JudgeKey × ℕ) → Becomes s f t u → IsValue s t.signature p → IsValue s u.signature p
value_stays s f t u p b v = record {
  item = v.item;
  value = v.value;
  number = v.number;
  actuals = v.actuals;
  reference = v.reference ∙ ap (λ z. Inst (text_at s z) v.number v.actuals) (sym b.name);
  tree = ap (λ z. part_tree p.0.part (instantiate_found (kind_at (signature_at s u.signature) v.number) (text_at s z) v.actuals)) b.name
      ∙ ap (λ z. part_tree p.0.part (instantiate_found z (text_at s t.signature.name) v.actuals)) (by (kind_at (signature_at s t.signature) v.number) refl) ∙ v.tree;
}
  where
    by : (z : Option Kind) → kind_at (signature_at s t.signature) v.number ≡ z → kind_at (signature_at s u.signature) v.number ≡ kind_at (signature_at s t.signature) v.number
    by None e = absurd (none_some (tree_at s p.1) (sym (part_none p.0.part) ∙ sym (ap (λ z. part_tree p.0.part (instantiate_found z (text_at s t.signature.name) v.actuals)) e) ∙ v.tree))
    by (Some k) e = b.kinds v.number k e ∙ sym e

in_left : {A : Type 0} (xs : List A) (y x : A) → In x xs → In x (xs ++ y ∷ [])
in_left [] y x h = absurd h
in_left (z ∷ zs) y x (inl e) = inl e
in_left (z ∷ zs) y x (inr h) = inr (in_left zs y x h)

in_moved : {A : Type 0} (xs : List A) (i : ℕ) (y x : A) → slice_get xs i ≡ Some y → In x xs → In x (remove xs i ++ y ∷ [])
in_moved [] i y x k h = absurd h
in_moved (z ∷ zs) zero y x k (inl e) =
    let at : z ≡ y = cc in
    subst (λ w. In w (zs ++ y ∷ [])) (sym at ∙ sym e) (in_last zs y)
in_moved (z ∷ zs) zero y x k (inr h) = in_left zs y x h
in_moved (z ∷ zs) (suc i) y x k (inl e) = inl e
in_moved (z ∷ zs) (suc i) y x k (inr h) = inr (in_moved zs i y x k h)

in_at : {A : Type 0} (xs : List A) (i : ℕ) (y : A) → slice_get xs i ≡ Some y → In y xs
in_at [] i y k = cc
in_at (z ∷ zs) zero y k =
    let at : y ≡ z = cc in
    inl at
in_at (z ∷ zs) (suc i) y k = inr (in_at zs i y k)

in_removed : {A : Type 0} (xs : List A) (i : ℕ) (x : A) → In x (remove xs i) → In x xs
in_removed [] zero x h = absurd h
in_removed [] (suc i) x h = absurd h
in_removed (z ∷ zs) zero x h = inr h
in_removed (z ∷ zs) (suc i) x (inl e) = inl e
in_removed (z ∷ zs) (suc i) x (inr h) = inr (in_removed zs i x h)

in_unmoved : {A : Type 0} (xs : List A) (i : ℕ) (y x : A) → slice_get xs i ≡ Some y → In x (remove xs i ++ y ∷ []) → In x xs
in_unmoved xs i y x k h = by (in_append (remove xs i) y x h)
  where
    by : In x (remove xs i) ⊎ (x ≡ y) → In x xs
    by (inl g) = in_removed xs i x g
    by (inr e) = subst (λ z. In z xs) (sym e) (in_at xs i y k)

-- the theory at a place has become another, and stands last
pub record IsGrown (v : InstancesView) (es : Entries) (th : Text) (f : Signature → Signature) : Type 0 where
  pub sound : IsSound (record { store = v.store; entries = es; last_stamp = v.last_stamp; kept = v.kept })
  pub development : theories_after [] (signatures v.store es) ≡ grown (development v) th f
  pub stamps : SameStamps v (record { store = v.store; entries = es; last_stamp = v.last_stamp; kept = v.kept })

module _ (v : InstancesView) (es : Entries) (i name : ℕ) (f : Signature → Signature) (t u : Theory) (sound : IsSound v) (found : slice_get v.entries i ≡ Some (name, t)) (b : Becomes v.store f t u)
    (alone : IsAlone (text_at v.store name) (development v)) (may : MayGrow (development v) (text_at v.store name) f) where
  own_name : t.signature.name ≡ name
  own_name = (theory_found v.store v.entries i name t sound.standing found).named

  stands : theory_named (development v) (text_at v.store name) ≡ Some (signature_at v.store t.signature)
  stands = (theory_found v.store v.entries i name t sound.standing found).stands

  now_is : theories_after [] (signatures v.store (remove v.entries i ++ (name, u) ∷ [])) ≡ signature_at v.store u.signature ∷ without (text_at v.store name) (development v)
  now_is = signatures_append v.store (remove v.entries i) (name, u)
      ∙ ap (λ l. signature_at v.store u.signature ∷ l) (signatures_removed v.store v.entries i (name, t) sound.standing found ∙ ap (λ n. without (text_at v.store n) (development v)) own_name)

  grown_is : theories_after [] (signatures v.store (remove v.entries i ++ (name, u) ∷ [])) ≡ grown (development v) (text_at v.store name) f
  grown_is = now_is ∙ ap (λ x. x ∷ without (text_at v.store name) (development v)) b.signature ∙ ap (λ z. become (without (text_at v.store name) (development v)) z f) (sym stands)

  over : IsSignatureOver (without (text_at v.store name) (development v)) (signature_at v.store u.signature)
  over = subst (IsSignatureOver (without (text_at v.store name) (development v))) (sym b.signature) (subst (λ z. MayBecome (without (text_at v.store name) (development v)) z f) stands may)

  is_development : IsDevelopment (signature_at v.store u.signature ∷ without (text_at v.store name) (development v))
  is_development = (
    ap (λ n. theory_named (without (text_at v.store name) (development v)) (text_at v.store n)) (b.name ∙ own_name) ∙ without_none (text_at v.store name) (development v) sound.standing.over,
    over,
    (removal_stands (text_at v.store name) (development v) sound.standing.over alone).0,
  )

  own_values : HasValues v.store v.kept (name, u)
  own_values = λ p c e. value_stays v.store f t u p b (all_get (HasValues v.store v.kept) v.entries i (name, t) sound.values found p c (e ∙ b.stamp))

  grown_sound : IsSound (record { store = v.store; entries = remove v.entries i ++ (name, u) ∷ []; last_stamp = v.last_stamp; kept = v.kept })
  grown_sound = record {
    standing = record {
      named = all_append (λ e. e.0 ≡ e.1.signature.name) (remove v.entries i) ((name, u) ∷ []) (all_remove (λ e. e.0 ≡ e.1.signature.name) v.entries i sound.standing.named) (sym (b.name ∙ own_name), tt);
      stored = all_append (λ e. SignatureIn v.store e.1.signature) (remove v.entries i) ((name, u) ∷ []) (all_remove (λ e. SignatureIn v.store e.1.signature) v.entries i sound.standing.stored) (b.stored, tt);
      over = subst IsDevelopment (sym now_is) is_development;
    };
    stamps_below = all_append (λ e. e.1.stamp ≤ v.last_stamp) (remove v.entries i) ((name, u) ∷ []) (all_remove (λ e. e.1.stamp ≤ v.last_stamp) v.entries i sound.stamps_below)
        (subst (λ n. n ≤ v.last_stamp) (sym b.stamp) (all_get (λ e. e.1.stamp ≤ v.last_stamp) v.entries i (name, t) sound.stamps_below found), tt);
    stamps_differ = differ_append (remove v.entries i) (name, u) (differ_remove v.entries i sound.stamps_differ)
        (subst (λ n. AllIn (λ g. n ≡ g.1.stamp → ⊥) (remove v.entries i)) (sym b.stamp) (differ_others v.entries i (name, t) sound.stamps_differ found));
    kept_below = sound.kept_below;
    values = all_append (HasValues v.store v.kept) (remove v.entries i) ((name, u) ∷ []) (all_remove (HasValues v.store v.kept) v.entries i sound.values) (own_values, tt);
  }

  stamp_found : slice_get (stamps v) i ≡ Some (entry_stamp v.store (name, t))
  stamp_found = slice_get-map (entry_stamp v.store) v.entries i ∙ ap (option_map (entry_stamp v.store)) found

  stamps_moved : map (entry_stamp v.store) (remove v.entries i ++ (name, u) ∷ []) ≡ remove (stamps v) i ++ entry_stamp v.store (name, t) ∷ []
  stamps_moved = map_append (entry_stamp v.store) (remove v.entries i) ((name, u) ∷ [])
      ∙ ap₂ (λ l x. l ++ x ∷ []) (map_removed (entry_stamp v.store) v.entries i) (ap₂ (λ n m. (text_at v.store n, m)) b.name b.stamp)

  same_stamps : SameStamps v (record { store = v.store; entries = remove v.entries i ++ (name, u) ∷ []; last_stamp = v.last_stamp; kept = v.kept })
  same_stamps = record {
    stay = λ x h. subst (In x) (sym stamps_moved) (in_moved (stamps v) i (entry_stamp v.store (name, t)) x stamp_found h);
    stood = λ x h. in_unmoved (stamps v) i (entry_stamp v.store (name, t)) x stamp_found (subst (In x) stamps_moved h);
  }

  pub is_grown : es ≡ remove v.entries i ++ (name, u) ∷ [] → IsGrown v es (text_at v.store name) f
  is_grown e = subst (λ l. IsGrown v l (text_at v.store name) f) (sym e) (record { sound = grown_sound; development = grown_is; stamps = same_stamps })

-- a theory of which only the room of its lists has changed
set_all : (P : ℕ × Theory → Type 0) (es : Entries) (i k : ℕ) (t u : Theory) → slice_get es i ≡ Some (k, t) → P (k, u) → AllIn P es → AllIn P (set_value_at es i u)
set_all P [] i k t u e h a = tt
set_all P (x ∷ xs) zero k t u e h a =
    let at : x.0 ≡ k = cc in
    (subst (λ n. P (n, u)) (sym at) h, a.1)
set_all P (x ∷ xs) (suc i) k t u e h a = (a.0, set_all P xs i k t u e h a.1)

set_map : {B : Type 0} (f : ℕ × Theory → B) (es : Entries) (i k : ℕ) (t u : Theory) → slice_get es i ≡ Some (k, t) → f (k, u) ≡ f (k, t) → map f (set_value_at es i u) ≡ map f es
set_map f [] i k t u e h = refl
set_map f (x ∷ xs) zero k t u e h =
    let at : x ≡ (k, t) = cc in
    ap (λ z. z ∷ map f xs) (ap (λ z. f (z.0, u)) at ∙ h ∙ ap f (sym at))
set_map f (x ∷ xs) (suc i) k t u e h = ap (λ l. f x ∷ l) (set_map f xs i k t u e h)

set_differ : (es : Entries) (i k : ℕ) (t u : Theory) → slice_get es i ≡ Some (k, t) → u.stamp ≡ t.stamp → StampsDiffer es → StampsDiffer (set_value_at es i u)
set_differ [] i k t u e h d = tt
set_differ (x ∷ xs) zero k t u e h d =
    let at : x ≡ (k, t) = cc in
    (subst (λ n. AllIn (λ f. f.1.stamp ≡ n → ⊥) xs) (ap (λ z. z.1.stamp) at ∙ sym h) d.0, d.1)
set_differ (x ∷ xs) (suc i) k t u e h d = (set_all (λ f. f.1.stamp ≡ x.1.stamp → ⊥) xs i k t u e (λ q. all_get (λ f. f.1.stamp ≡ x.1.stamp → ⊥) xs i (k, t) d.0 e (sym h ∙ q)) d.0, set_differ xs i k t u e h d.1)

pub record IsUnchanged (v : InstancesView) (es : Entries) : Type 0 where
  pub sound : IsSound (record { store = v.store; entries = es; last_stamp = v.last_stamp; kept = v.kept })
  pub development : theories_after [] (signatures v.store es) ≡ development v
  pub stamps : SameStamps v (record { store = v.store; entries = es; last_stamp = v.last_stamp; kept = v.kept })

pub is_unchanged : (v : InstancesView) (es : Entries) (i : ℕ) → IsSound v → IsSet IsSameTheory v.entries es i → IsUnchanged v es
is_unchanged v es i sound h =
    let f = theory_found v.store v.entries i h.name h.before sound.standing h.found in
    let b = same_theory v.store h.before h.after f.stored h.related in
    let sigs = set_map (entry_signature v.store) v.entries i h.name h.before h.after h.found b.signature in
    let marks = set_map (entry_stamp v.store) v.entries i h.name h.before h.after h.found (ap₂ (λ n m. (text_at v.store n, m)) b.name b.stamp) in
    subst (IsUnchanged v) (sym h.set)
    (record {
      sound = record {
        standing = record {
          named = set_all (λ e. e.0 ≡ e.1.signature.name) v.entries i h.name h.before h.after h.found (sym (b.name ∙ f.named)) sound.standing.named;
          stored = set_all (λ e. SignatureIn v.store e.1.signature) v.entries i h.name h.before h.after h.found b.stored sound.standing.stored;
          over = subst (λ l. IsDevelopment (theories_after [] l)) (sym sigs) sound.standing.over;
        };
        stamps_below = set_all (λ e. e.1.stamp ≤ v.last_stamp) v.entries i h.name h.before h.after h.found
            (subst (λ n. n ≤ v.last_stamp) (sym b.stamp) (all_get (λ e. e.1.stamp ≤ v.last_stamp) v.entries i (h.name, h.before) sound.stamps_below h.found)) sound.stamps_below;
        stamps_differ = set_differ v.entries i h.name h.before h.after h.found b.stamp sound.stamps_differ;
        kept_below = sound.kept_below;
        values = set_all (HasValues v.store v.kept) v.entries i h.name h.before h.after h.found
            (λ p c e. value_stays v.store (λ x. x) h.before h.after p b (all_get (HasValues v.store v.kept) v.entries i (h.name, h.before) sound.values h.found p c (e ∙ b.stamp))) sound.values;
      };
      development = ap (theories_after []) sigs;
      stamps = record { stay = λ x q. subst (In x) (sym marks) q; stood = λ x q. subst (In x) marks q };
    })
