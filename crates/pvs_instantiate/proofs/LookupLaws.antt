-- What the name of a theory finds.
use Rattle.std.proofs.Common.{◌≡◌, ℕ, zero, suc, Bool, true, false, None, [], ◌∷◌, Some, slice_get, refl, sym, ap, ◌∙◌, subst}
use Rattle.std.specs.Prelude.{bytes_eq, option_map}
use Rattle.std.specs.Map.{keys_of, values_of}
use Rattle.std.proofs.lemmas.Option.{slice_get-map}
use Rattle.std.proofs.lemmas.Slice.Eq.{bytes_eq-Decides}
use Rattle.pvs_terms.specs.Stored.{Stored, text_at, IsName}
use Rattle.pvs_sig.specs.SignatureAt.{signature_at, SignatureIn, AllIn}
use Rattle.pvs_sig.specs.Development.{theory_named}
use Rattle.pvs_instantiate.specs.declared.theories.Theory.{Theory}
use Rattle.pvs_instantiate.specs.Standing.{Entries, AreNamed, entry_signature, signatures, theories_after}
use Rattle.pvs_instantiate.specs.Soundness.{AreStanding}
use Rattle.pvs_instantiate.proofs.ListLaws.{all_get, pair_at, value_at}
use Rattle.pvs_instantiate.proofs.TheoryLaws.{named_at, not_named}

-- the theory at a place, by its name
pub record IsFound (s : Stored) (es : Entries) (name : ℕ) (t : Theory) : Type 0 where
  pub named : t.signature.name ≡ name
  pub stored : SignatureIn s t.signature
  pub stands : theory_named (theories_after [] (signatures s es)) (text_at s name) ≡ Some (signature_at s t.signature)

pub signature_found : (s : Stored) (es : Entries) (i : ℕ) (e : ℕ × Theory) → slice_get es i ≡ Some e → slice_get (signatures s es) i ≡ Some (signature_at s e.1.signature)
signature_found s es i e h = slice_get-map (entry_signature s) es i ∙ ap (option_map (entry_signature s)) h

pub theory_found : (s : Stored) (es : Entries) (i name : ℕ) (t : Theory) → AreStanding s es → slice_get es i ≡ Some (name, t) → IsFound s es name t
theory_found s es i name t h e =
    let named : name ≡ t.signature.name = all_get (λ e. e.0 ≡ e.1.signature.name) es i (name, t) h.named e in
    record {
      named = sym named;
      stored = all_get (λ e. SignatureIn s e.1.signature) es i (name, t) h.stored e;
      stands = subst (λ n. theory_named (theories_after [] (signatures s es)) (text_at s n) ≡ Some (signature_at s t.signature)) (sym named)
          (named_at [] (signatures s es) i (signature_at s t.signature) h.over (signature_found s es i (name, t) e));
    }

pub found_at : (s : Stored) (es : Entries) (i name : ℕ) (t : Theory) → AreStanding s es → slice_get (keys_of es) i ≡ Some name → slice_get (values_of es) i ≡ Some t → IsFound s es name t
found_at s es i name t h k v = theory_found s es i name t h (pair_at es i name t k v)

-- a name under which no theory stands
module _ (s : Stored) (name : ℕ) (known : IsName s name) (once : (m n : ℕ) → IsName s m → IsName s n → text_at s m ≡ text_at s n → m ≡ n) where
  other_texts : (es : Entries) → AreNamed es → AllIn (λ e. SignatureIn s e.1.signature) es → ((i : ℕ) → slice_get (keys_of es) i ≡ Some name → ⊥) → AllIn (λ x. bytes_eq x.name (text_at s name) ≡ false) (signatures s es)
  other_texts [] n h f = tt
  other_texts (e ∷ es) n h f = (by (bytes_eq (text_at s e.1.signature.name) (text_at s name)) refl, other_texts es n.1 h.1 (λ i k. f (suc i) k))
    where
      by : (b : Bool) → bytes_eq (text_at s e.1.signature.name) (text_at s name) ≡ b → bytes_eq (text_at s e.1.signature.name) (text_at s name) ≡ false
      by true k = absurd (f zero (ap Some (n.0 ∙ once e.1.signature.name name h.0.name known ((bytes_eq-Decides _ _).0 k))))
      by false k = k

  pub none_found : (es : Entries) → AreStanding s es → ((i : ℕ) → slice_get (keys_of es) i ≡ Some name → ⊥) → theory_named (theories_after [] (signatures s es)) (text_at s name) ≡ None
  none_found es h f = not_named [] (signatures s es) (text_at s name) refl (other_texts es h.named h.stored f)

some_none : {A : Type 0} (x : A) → Some x ≡ None → ⊥
some_none x e = cc

-- a new name is under no theory
pub is_absent : (s : Stored) (es : Entries) (name : ℕ) → AreStanding s es → theory_named (theories_after [] (signatures s es)) (text_at s name) ≡ None → (i : ℕ) → slice_get (keys_of es) i ≡ Some name → ⊥
is_absent s es name h new i k =
    let v = value_at es i name k in
    some_none (signature_at s v.0.signature) (sym (theory_found s es i name v.0 h v.1).stands ∙ new)
