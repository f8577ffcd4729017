-- What stands after a theory is added, is taken out, or grows.
use Rattle.std.proofs.Common.{◌≡◌, ◌≤◌, ◌<◌, ◌+◌, inl, inr, ◌⊎◌, ℕ, zero, suc, List, [], ◌∷◌, ◌++◌, None, Some, length, slice_get, remove, refl, sym, ap, ◌∙◌, subst, map, Contains, arith}
use Rattle.std.specs.Prelude.{false, true, not, bytes_eq, filter, option_map}
use Rattle.std.proofs.lemmas.Option.{slice_get-map}
use Rattle.pvs_terms.specs.Tree.{Text}
use Rattle.pvs_terms.specs.Stored.{Stored, text_at}
use Rattle.pvs_cache.specs.declared.key.JudgeKey.{JudgeKey}
use Rattle.pvs_sig.specs.declared.signature.Signature as numbers
use Rattle.pvs_sig.specs.SignatureAt.{signature_at, SignatureIn, AllIn}
use Rattle.pvs_sig.specs.Development.{theory_named, IsDevelopment, IsSignatureOver, In}
use Rattle.pvs_sig.specs.Laws.{without}
use Rattle.pvs_sig.proofs.SignatureAtLaws.{all_in}
use Rattle.pvs_sig.proofs.RemovalLaws.{removal_stands}
use Rattle.pvs_instantiate.specs.declared.theories.Theory.{Theory}
use Rattle.pvs_instantiate.specs.Standing.{Entries, StampsDiffer, entry_signature, entry_stamp, signatures, theories_after, numbered}
use Rattle.pvs_instantiate.specs.InstancesView.{InstancesView, development, stamps}
use Rattle.pvs_instantiate.specs.Soundness.{IsValue, HasValues, AreStanding, IsSound}
use Rattle.pvs_instantiate.specs.Grown.{IsAlone, IsNewStamp}
use Rattle.pvs_instantiate.proofs.ListLaws.{all_append, all_remove, all_get, all_remap, filter_removed}
use Rattle.pvs_instantiate.proofs.TheoryLaws.{text_itself, after_append, without_at, others_at}
use Rattle.pvs_instantiate.proofs.NumberedLaws.{numbered_named, numbered_stored, numbered_signatures, numbered_below, numbered_differ}
use Rattle.pvs_instantiate.proofs.LookupLaws.{signature_found}

pub map_append : {A B : Type 0} (f : A → B) (xs ys : List A) → map f (xs ++ ys) ≡ map f xs ++ map f ys
map_append f [] ys = refl
map_append f (x ∷ xs) ys = ap (λ l. f x ∷ l) (map_append f xs ys)

pub map_removed : {A B : Type 0} (f : A → B) (xs : List A) (i : ℕ) → map f (remove xs i) ≡ remove (map f xs) i
map_removed f [] zero = refl
map_removed f [] (suc i) = refl
map_removed f (x ∷ xs) zero = refl
map_removed f (x ∷ xs) (suc i) = ap (λ l. f x ∷ l) (map_removed f xs i)

pub differ_append : (es : Entries) (e : ℕ × Theory) → StampsDiffer es → AllIn (λ f. e.1.stamp ≡ f.1.stamp → ⊥) es → StampsDiffer (es ++ e ∷ [])
differ_append [] e h k = (tt, tt)
differ_append (x ∷ xs) e h k = (all_append (λ f. f.1.stamp ≡ x.1.stamp → ⊥) xs (e ∷ []) h.0 (k.0, tt), differ_append xs e h.1 k.1)

pub differ_remove : (es : Entries) (i : ℕ) → StampsDiffer es → StampsDiffer (remove es i)
differ_remove [] zero h = tt
differ_remove [] (suc i) h = tt
differ_remove (x ∷ xs) zero h = h.1
differ_remove (x ∷ xs) (suc i) h = (all_remove (λ f. f.1.stamp ≡ x.1.stamp → ⊥) xs i h.0, differ_remove xs i h.1)

-- the others have another stamp
pub differ_others : (es : Entries) (i : ℕ) (e : ℕ × Theory) → StampsDiffer es → slice_get es i ≡ Some e → AllIn (λ f. e.1.stamp ≡ f.1.stamp → ⊥) (remove es i)
differ_others [] i e h k = cc
differ_others (x ∷ xs) zero e h k =
    let at : x ≡ e = cc in
    subst (λ z. AllIn (λ f. z.1.stamp ≡ f.1.stamp → ⊥) xs) at (all_in (λ f. f.1.stamp ≡ x.1.stamp → ⊥) (λ f. x.1.stamp ≡ f.1.stamp → ⊥) (λ f g q. g (sym q)) xs h.0)
differ_others (x ∷ xs) (suc i) e h k = (all_get (λ f. f.1.stamp ≡ x.1.stamp → ⊥) xs i e h.0 k, differ_others xs i e h.1 k)

-- a theory that has the stamp of the theory at a place is that one
pub differ_one : (es : Entries) (i : ℕ) (e : ℕ × Theory) → StampsDiffer es → slice_get es i ≡ Some e → AllIn (λ f. f.1.stamp ≡ e.1.stamp → f ≡ e) es
differ_one [] i e h k = cc
differ_one (x ∷ xs) zero e h k =
    let at : x ≡ e = cc in
    (λ q. at, subst (λ z. AllIn (λ f. f.1.stamp ≡ z.1.stamp → f ≡ z) xs) at (all_in (λ f. f.1.stamp ≡ x.1.stamp → ⊥) (λ f. f.1.stamp ≡ x.1.stamp → f ≡ x) (λ f g q. absurd (g q)) xs h.0))
differ_one (x ∷ xs) (suc i) e h k = (λ q. absurd (all_get (λ f. f.1.stamp ≡ x.1.stamp → ⊥) xs i e h.0 k (sym q)), differ_one xs i e h.1 k)

pub signatures_append : (s : Stored) (es : Entries) (e : ℕ × Theory) → theories_after [] (signatures s (es ++ e ∷ [])) ≡ signature_at s e.1.signature ∷ theories_after [] (signatures s es)
signatures_append s es e = ap (theories_after []) (map_append (entry_signature s) es (e ∷ [])) ∙ after_append [] (signatures s es) (signature_at s e.1.signature)

pub signatures_removed : (s : Stored) (es : Entries) (i : ℕ) (e : ℕ × Theory) → AreStanding s es → slice_get es i ≡ Some e → theories_after [] (signatures s (remove es i)) ≡ without (text_at s e.1.signature.name) (theories_after [] (signatures s es))
signatures_removed s es i e h k = ap (theories_after []) (map_removed (entry_signature s) es i) ∙ sym (without_at [] (signatures s es) i (signature_at s e.1.signature) h.over (signature_found s es i e k))

pub stamps_removed : (s : Stored) (es : Entries) (i : ℕ) (e : ℕ × Theory) → AreStanding s es → slice_get es i ≡ Some e → filter (λ x. not (bytes_eq x.0 (text_at s e.1.signature.name))) (map (entry_stamp s) es) ≡ map (entry_stamp s) (remove es i)
stamps_removed s es i e h k =
    let th = text_at s e.1.signature.name in
    let others = subst (AllIn (λ y. bytes_eq y.name th ≡ false)) (sym (map_removed (entry_signature s) es i)) (others_at [] (signatures s es) i (signature_at s e.1.signature) h.over (signature_found s es i e k)) in
    let passes = all_remap (λ y. bytes_eq y.name th ≡ false) (λ x. not (bytes_eq x.0 th) ≡ true) (entry_signature s) (entry_stamp s) (λ x q. ap not q) (remove es i) others in
    filter_removed (λ x. not (bytes_eq x.0 th)) (map (entry_stamp s) es) i (entry_stamp s e) (slice_get-map (entry_stamp s) es i ∙ ap (option_map (entry_stamp s)) k) (ap not (text_itself th th refl))
    (subst (AllIn (λ x. not (bytes_eq x.0 th) ≡ true)) (map_removed (entry_stamp s) es i) passes)
    ∙ sym (map_removed (entry_stamp s) es i)

pub in_append : {A : Type 0} (xs : List A) (y x : A) → In x (xs ++ y ∷ []) → In x xs ⊎ (x ≡ y)
in_append [] y x (inl e) = inr e
in_append [] y x (inr e) = absurd e
in_append (z ∷ zs) y x (inl e) = inl (inl e)
in_append (z ∷ zs) y x (inr e) = by (in_append zs y x e)
  where
    by : In x zs ⊎ (x ≡ y) → In x (z ∷ zs) ⊎ (x ≡ y)
    by (inl q) = inl (inr q)
    by (inr q) = inr q

pub in_last : {A : Type 0} (xs : List A) (y : A) → In y (xs ++ y ∷ [])
in_last [] y = inl refl
in_last (z ∷ zs) y = inr (in_last zs y)

in_all : {A : Type 0} (P : A → Type 0) (xs : List A) (x : A) → AllIn P xs → In x xs → P x
in_all P [] x h i = absurd i
in_all P (y ∷ ys) x h (inl e) = subst P (sym e) h.0
in_all P (y ∷ ys) x h (inr i) = in_all P ys x h.1 i

stamps_all : (s : Stored) (n : ℕ) (es : Entries) → AllIn (λ e. e.1.stamp ≤ n) es → AllIn (λ x. x.1 ≤ n) (map (entry_stamp s) es)
stamps_all s n [] h = tt
stamps_all s n (e ∷ es) h = (h.0, stamps_all s n es h.1)

-- a theory more, with a stamp above all
module _ (v : InstancesView) (g : numbers.Signature) (n : ℕ) (sound : IsSound v) (stored : SignatureIn v.store g) (new : theory_named (development v) (text_at v.store g.name) ≡ None) (over : IsSignatureOver (development v) (signature_at v.store g)) (next : n ≡ v.last_stamp + 1) where
  added_values : (p : JudgeKey × ℕ) → Contains v.kept p → p.0.stamp ≡ n → IsValue v.store g p
  added_values p c e = absurd (omega (arith, sound.kept_below p c, e, next))

  pub added_sound : IsSound (record { store = v.store; entries = v.entries ++ (g.name, record { signature = g; stamp = n }) ∷ []; last_stamp = n; kept = v.kept })
  added_sound = record {
    standing = record {
      named = all_append (λ e. e.0 ≡ e.1.signature.name) v.entries _ sound.standing.named (refl, tt);
      stored = all_append (λ e. SignatureIn v.store e.1.signature) v.entries _ sound.standing.stored (stored, tt);
      over = subst IsDevelopment (sym (signatures_append v.store v.entries (g.name, record { signature = g; stamp = n }))) (new, over, sound.standing.over);
    };
    stamps_below = all_append (λ e. e.1.stamp ≤ n) v.entries _ (all_in (λ e. e.1.stamp ≤ v.last_stamp) (λ e. e.1.stamp ≤ n) (λ e h. omega (arith, h, next)) v.entries sound.stamps_below) (omega arith, tt);
    stamps_differ = differ_append v.entries (g.name, record { signature = g; stamp = n }) sound.stamps_differ
        (all_in (λ e. e.1.stamp ≤ v.last_stamp) (λ e. n ≡ e.1.stamp → ⊥) (λ e h q. omega (arith, h, q, next)) v.entries sound.stamps_below);
    kept_below = λ p c. omega (arith, sound.kept_below p c, next);
    values = all_append (HasValues v.store v.kept) v.entries _ sound.values (added_values, tt);
  }

  pub added_development : development (record { store = v.store; entries = v.entries ++ (g.name, record { signature = g; stamp = n }) ∷ []; last_stamp = n; kept = v.kept }) ≡ signature_at v.store g ∷ development v
  added_development = signatures_append v.store v.entries (g.name, record { signature = g; stamp = n })

  pub added_stamps : stamps (record { store = v.store; entries = v.entries ++ (g.name, record { signature = g; stamp = n }) ∷ []; last_stamp = n; kept = v.kept }) ≡ stamps v ++ (text_at v.store g.name, n) ∷ []
  added_stamps = map_append (entry_stamp v.store) v.entries ((g.name, record { signature = g; stamp = n }) ∷ [])

  pub added_stamp : IsNewStamp (record { store = v.store; entries = v.entries ++ (g.name, record { signature = g; stamp = n }) ∷ []; last_stamp = n; kept = v.kept }) (text_at v.store g.name) n
  added_stamp = record {
    given = subst (In (text_at v.store g.name, n)) (sym added_stamps) (in_last (stamps v) (text_at v.store g.name, n));
    above = λ x i. by x (in_append (stamps v) (text_at v.store g.name, n) x (subst (In x) added_stamps i));
    above_kept = λ p c. omega (arith, sound.kept_below p c, next);
  }
    where
      by : (x : Text × ℕ) → In x (stamps v) ⊎ (x ≡ (text_at v.store g.name, n)) → (x ≡ (text_at v.store g.name, n)) ⊎ (x.1 < n)
      by x (inl i) = inr (omega (arith, in_all (λ y. y.1 ≤ v.last_stamp) (stamps v) x (stamps_all v.store v.last_stamp v.entries sound.stamps_below) i, next))
      by x (inr e) = inl e

-- the theory at a place is taken out
module _ (v : InstancesView) (i name : ℕ) (t : Theory) (sound : IsSound v) (found : slice_get v.entries i ≡ Some (name, t)) (alone : IsAlone (text_at v.store t.signature.name) (development v)) where
  removed_development : theories_after [] (signatures v.store (remove v.entries i)) ≡ without (text_at v.store t.signature.name) (development v)
  removed_development = signatures_removed v.store v.entries i (name, t) sound.standing found

  rest_stands : IsDevelopment (without (text_at v.store t.signature.name) (development v))
  rest_stands = (removal_stands (text_at v.store t.signature.name) (development v) sound.standing.over alone).0

  pub removed_sound : IsSound (record { store = v.store; entries = remove v.entries i; last_stamp = v.last_stamp; kept = v.kept })
  removed_sound = record {
    standing = record {
      named = all_remove (λ e. e.0 ≡ e.1.signature.name) v.entries i sound.standing.named;
      stored = all_remove (λ e. SignatureIn v.store e.1.signature) v.entries i sound.standing.stored;
      over = subst IsDevelopment (sym removed_development) rest_stands;
    };
    stamps_below = all_remove (λ e. e.1.stamp ≤ v.last_stamp) v.entries i sound.stamps_below;
    stamps_differ = differ_remove v.entries i sound.stamps_differ;
    kept_below = sound.kept_below;
    values = all_remove (HasValues v.store v.kept) v.entries i sound.values;
  }

  pub removed_is : development (record { store = v.store; entries = remove v.entries i; last_stamp = v.last_stamp; kept = v.kept }) ≡ without (text_at v.store t.signature.name) (development v)
  removed_is = removed_development

all_of : {A : Type 0} (P : A → Type 0) → ((x : A) → P x) → (xs : List A) → AllIn P xs
all_of P h [] = tt
all_of P h (x ∷ xs) = (h x, all_of P h xs)

nothing : (p : JudgeKey × ℕ) → Contains [] p → ⊥
nothing p c = omega (arith, c.1)

-- the theories with the stamps from 1 on, and nothing kept
pub renumbered_sound : (v : InstancesView) → IsSound v → IsSound (record { store = v.store; entries = numbered 0 (length v.entries) v.entries; last_stamp = length v.entries; kept = [] })
renumbered_sound v sound = record {
  standing = record {
    named = numbered_named 0 (length v.entries) v.entries sound.standing.named;
    stored = numbered_stored v.store 0 (length v.entries) v.entries sound.standing.stored;
    over = subst (λ l. IsDevelopment (theories_after [] l)) (sym (numbered_signatures v.store 0 (length v.entries) v.entries)) sound.standing.over;
  };
  stamps_below = numbered_below 0 (length v.entries) v.entries (omega arith);
  stamps_differ = numbered_differ 0 v.entries;
  kept_below = λ p c. absurd (nothing p c);
  values = all_of (HasValues v.store []) (λ e p c k. absurd (nothing p c)) (numbered 0 (length v.entries) v.entries);
}

pub renumbered_development : (v : InstancesView) → theories_after [] (signatures v.store (numbered 0 (length v.entries) v.entries)) ≡ development v
renumbered_development v = ap (theories_after []) (numbered_signatures v.store 0 (length v.entries) v.entries)
