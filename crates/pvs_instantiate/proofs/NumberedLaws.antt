-- What the stamps from 1 on leave.
use Rattle.std.proofs.Common.{◌≡◌, ◌≤◌, ◌<◌, ◌+◌, ℕ, zero, suc, [], ◌∷◌, Some, length, slice_get, refl, sym, ap, ap₂, ◌∙◌, arith}
use Rattle.std.specs.Map.{values_of}
use Rattle.indexmap.specs.IndexMap.{set_value_at}
use Rattle.pvs_terms.specs.Stored.{Stored}
use Rattle.pvs_sig.specs.SignatureAt.{SignatureIn, AllIn}
use Rattle.pvs_instantiate.specs.declared.theories.Theory.{Theory}
use Rattle.pvs_instantiate.specs.Standing.{Entries, AreNamed, StampsDiffer, signatures, numbered}

pub numbered_length : (from n : ℕ) (es : Entries) → length (numbered from n es) ≡ length es
numbered_length from zero es = refl
numbered_length from (suc n) [] = refl
numbered_length from (suc n) (e ∷ es) = ap suc (numbered_length (suc from) n es)

pub numbered_next : (from i n : ℕ) (es : Entries) (v w : Theory) → slice_get (values_of (numbered from i es)) i ≡ Some v → n ≡ suc (from + i) → w ≡ record { signature = v.signature; stamp = n } → set_value_at (numbered from i es) i w ≡ numbered from (suc i) es
numbered_next from zero n [] v w h k q = cc
numbered_next from zero n (e ∷ es) v w h k q =
    let at : e.1 ≡ v = cc in
    let m : n ≡ suc from = omega (arith, k) in
    ap (λ z. (e.0, z) ∷ es) (q ∙ ap₂ (λ a b. record { signature = a.signature; stamp = b }) (sym at) m)
numbered_next from (suc i) n [] v w h k q = cc
numbered_next from (suc i) n (e ∷ es) v w h k q =
    ap (λ l. (e.0, record { signature = e.1.signature; stamp = suc from }) ∷ l) (numbered_next (suc from) i n es v w h (omega (arith, k)) q)

module _ (s : Stored) where
  pub numbered_signatures : (from n : ℕ) (es : Entries) → signatures s (numbered from n es) ≡ signatures s es
  numbered_signatures from zero es = refl
  numbered_signatures from (suc n) [] = refl
  numbered_signatures from (suc n) (e ∷ es) = ap₂ (λ x xs. x ∷ xs) refl (numbered_signatures (suc from) n es)

  pub numbered_stored : (from n : ℕ) (es : Entries) → AllIn (λ e. SignatureIn s e.1.signature) es → AllIn (λ e. SignatureIn s e.1.signature) (numbered from n es)
  numbered_stored from zero es h = h
  numbered_stored from (suc n) [] h = tt
  numbered_stored from (suc n) (e ∷ es) h = (h.0, numbered_stored (suc from) n es h.1)

pub numbered_named : (from n : ℕ) (es : Entries) → AreNamed es → AreNamed (numbered from n es)
numbered_named from zero es h = h
numbered_named from (suc n) [] h = tt
numbered_named from (suc n) (e ∷ es) h = (h.0, numbered_named (suc from) n es h.1)

numbered_above : (low from : ℕ) (es : Entries) → low ≤ from → AllIn (λ e. low < e.1.stamp) (numbered from (length es) es)
numbered_above low from [] h = tt
numbered_above low from (e ∷ es) h = (omega (arith, h), numbered_above low (suc from) es (omega (arith, h)))

pub numbered_below : (from top : ℕ) (es : Entries) → from + length es ≤ top → AllIn (λ e. e.1.stamp ≤ top) (numbered from (length es) es)
numbered_below from top [] h = tt
numbered_below from top (e ∷ es) h = (omega (arith, h), numbered_below (suc from) top es (omega (arith, h)))

differs : (low : ℕ) (es : Entries) → AllIn (λ e. low < e.1.stamp) es → AllIn (λ f. f.1.stamp ≡ low → ⊥) es
differs low [] h = tt
differs low (e ∷ es) h = (λ k. omega (arith, h.0, k), differs low es h.1)

pub numbered_differ : (from : ℕ) (es : Entries) → StampsDiffer (numbered from (length es) es)
numbered_differ from [] = tt
numbered_differ from (e ∷ es) = (differs (suc from) (numbered (suc from) (length es) es) (numbered_above (suc from) (suc from) es (omega arith)), numbered_differ (suc from) es)
