-- What stands as the store grows, and as pairs are kept and forgotten.
use Rattle.std.proofs.Common.{◌≡◌, ◌⊎◌, inl, inr, ℕ, Result, Ok, Err, IfOk, OnErr, [], ◌∷◌, Some, refl, sym, ap, ap₂, subst, ◌∙◌, map, Contains}
use Rattle.pvs_terms.specs.Tree.{Tree, Inst}
use Rattle.pvs_terms.specs.Stored.{Stored, Extends, Stands}
use Rattle.pvs_cache.specs.Kept.{Pairs, KeepsOnly, AddsOnly}
use Rattle.pvs_cache.specs.declared.key.JudgeKey.{JudgeKey}
use Rattle.pvs_sig.specs.declared.signature.Signature as numbers
use Rattle.pvs_sig.specs.Signature.{kind_at, instantiate_found}
use Rattle.pvs_sig.specs.SignatureAt.{SignatureIn, AllIn}
use Rattle.pvs_sig.specs.Development.{IsDevelopment}
use Rattle.pvs_sig.proofs.SignatureAtLaws.{signature_in, signature_same, all_in}
use Rattle.pvs_instantiate.specs.Standing.{Entries, entry_stamp, signatures, theories_after}
use Rattle.pvs_instantiate.specs.code.KeptTrees.{KeepsTree}
use Rattle.pvs_instantiate.specs.Parts.{part_tree}
use Rattle.pvs_instantiate.specs.InstancesView.{InstancesView, Leaves}
use Rattle.pvs_instantiate.specs.Soundness.{IsValue, HasValues, AreStanding, IsSound}

module _ (s t : Stored) (later : Extends s t) where
  pub signatures_later : (es : Entries) → AllIn (λ e. SignatureIn s e.1.signature) es → signatures t es ≡ signatures s es
  signatures_later [] h = refl
  signatures_later (e ∷ es) h = ap₂ (λ x xs. x ∷ xs) (signature_same s t later e.1.signature h.0) (signatures_later es h.1)

  stamps_later : (es : Entries) → AllIn (λ e. SignatureIn s e.1.signature) es → map (entry_stamp t) es ≡ map (entry_stamp s) es
  stamps_later [] h = refl
  stamps_later (e ∷ es) h = ap₂ (λ x xs. x ∷ xs) (ap (λ z. (z, e.1.stamp)) (later.texts e.1.signature.name h.0.name)) (stamps_later es h.1)

  value_later : (g : numbers.Signature) (p : JudgeKey × ℕ) → SignatureIn s g → IsValue s g p → IsValue t g p
  value_later g p h v =
      let text = later.texts g.name h.name in
      let whole = signature_same s t later g h in
      let tree = later.trees p.1 v.value in
      record {
        item = later.refs p.0.item v.item;
        value = later.nodes p.1 v.value;
        number = v.number;
        actuals = v.actuals;
        reference = later.references p.0.item v.item ∙ v.reference ∙ ap (λ z. Inst z v.number v.actuals) (sym text);
        tree = ap₂ (λ x y. part_tree p.0.part (instantiate_found (kind_at x v.number) y v.actuals)) whole text ∙ v.tree ∙ ap Some (sym tree);
      }

  values_later : (kept : Pairs) (es : Entries) → AllIn (λ e. SignatureIn s e.1.signature) es → AllIn (HasValues s kept) es → AllIn (HasValues t kept) es
  values_later kept [] h v = tt
  values_later kept (e ∷ es) h v = (λ p c k. value_later e.1.signature p h.0 (v.0 p c k), values_later kept es h.1 v.1)

  standing_later : (es : Entries) → AreStanding s es → AreStanding t es
  standing_later es h = record {
    named = h.named;
    stored = all_in (λ e. SignatureIn s e.1.signature) (λ e. SignatureIn t e.1.signature) (λ e k. signature_in s t later e.1.signature k) es h.stored;
    over = subst (λ z. IsDevelopment (theories_after [] z)) (sym (signatures_later es h.stored)) h.over;
  }

-- a store that has grown
pub record IsLater (v : InstancesView) (t : Stored) : Type 0 where
  pub sound : IsSound (record { store = t; entries = v.entries; last_stamp = v.last_stamp; kept = v.kept })
  pub leaves : Leaves v (record { store = t; entries = v.entries; last_stamp = v.last_stamp; kept = v.kept })

pub is_later : (v : InstancesView) (t : Stored) → IsSound v → Extends v.store t → IsLater v t
is_later v t h later = record {
  sound = record {
    standing = standing_later v.store t later v.entries h.standing;
    stamps_below = h.stamps_below;
    stamps_differ = h.stamps_differ;
    kept_below = h.kept_below;
    values = values_later v.store t later v.kept v.entries h.standing.stored h.values;
  };
  leaves = record {
    store = later;
    development = ap (theories_after []) (signatures_later v.store t later v.entries h.standing.stored);
    stamps = stamps_later v.store t later v.entries h.standing.stored;
  };
}

-- what a cache keeps after it was asked and given a tree
kept_then : (s : Stored) (old mid new : Pairs) (key : JudgeKey) (i : ℕ) (t : Tree) → KeepsOnly old mid → AddsOnly mid new (key, i) → Stands s t i → KeepsTree s old new key t
kept_then s old mid new key i t h k st = λ p c. by p (k p c)
  where
    by : (p : JudgeKey × ℕ) → Contains mid p ⊎ (p ≡ (key, i)) → Contains old p ⊎ ((p.0 ≡ key) × Stands s t p.1)
    by p (inl x) = inl (h p x)
    by p (inr e) = inr (ap (λ z. z.0) e, subst (Stands s t) (sym (ap (λ z. z.1) e)) st)

pub kept_or_refused : (s : Stored) (old mid new : Pairs) (key : JudgeKey) (t : Tree) {E : Type 0} (r : Result ℕ E) → KeepsOnly old mid → IfOk r (Stands s t) → IfOk r (λ i. AddsOnly mid new (key, i)) → OnErr r (new ≡ mid) → KeepsTree s old new key t
kept_or_refused s old mid new key t (Ok i) h st k e = kept_then s old mid new key i t h k st
kept_or_refused s old mid new key t (Err x) h st k e = λ p c. inl (h p (subst (λ l. Contains l p) e c))
