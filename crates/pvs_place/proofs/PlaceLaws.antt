-- What stays of a place where its store grows, and how a theory begins.
use Rattle.std.proofs.Common.{◌≡◌, ℕ, ◌∷◌, refl, sym, ap, ◌∙◌, subst}
use Rattle.pvs_terms.specs.Stored.{Stored, Extends, IsName, text_at}
use Rattle.pvs_sig.specs.declared.signature.Signature as numbers
use Rattle.pvs_sig.specs.Development.{Development}
use Rattle.pvs_sig.specs.SignatureAt.{signature_at}
use Rattle.pvs_instantiate.specs.InstancesView.{InstancesView, development, Leaves}
use Rattle.pvs_instantiate.specs.code.Importing.{IsEmptyOf}
use Rattle.pvs_typing.specs.Growth.{Keeps}
use Rattle.pvs_elaboration.specs.Known.{Grows}
use Rattle.pvs_sig.specs.Signature.{Signature}
use Rattle.pvs_scope.specs.declared.place.PlaceNames.{PlaceNames}
use Rattle.pvs_scope.specs.NamesAt.{NamesAt, IsUnread}
use Rattle.pvs_scope.proofs.PlaceLaws.{names_extend}
use Rattle.pvs_place.specs.Place.{IsDeclaredIn, lookups_in, names_in, known_in, empty_theory, IsLatest, IsPlace}

-- the same theories, over a later store
pub state_grows : {s t : Stored} {D E : Development} → Extends s t → E ≡ D → Keeps s (IsDeclaredIn D) (lookups_in D) t (IsDeclaredIn E) (lookups_in E) D E
state_grows x e = record {
  stored = x;
  declared = λ o r h. subst (λ d. IsDeclaredIn d o r) (sym e) h;
  lookups = ap lookups_in e;
  theories = e;
}

pub known_grows : {s t : Stored} {D E : Development} → Keeps s (IsDeclaredIn D) (lookups_in D) t (IsDeclaredIn E) (lookups_in E) D E → Grows (known_in s D) (known_in t E)
known_grows k = record { keeps = k; names = ap names_in k.theories }

unfoldable pub latest_kept : {v w : InstancesView} {n : ℕ} → IsLatest v n → Leaves v w → IsLatest w n
latest_kept {n = n} h x = record {
  named = x.store.names n h.named;
  signature = h.signature;
  others = h.others;
  reads = x.development ∙ h.reads;
  name = x.store.texts n h.named ∙ h.name;
}

pub place_kept : {v w : InstancesView} {n : ℕ} {i : PlaceNames} → IsPlace v n i → Leaves v w → IsPlace w n i
unfolding latest_kept
place_kept h x = record { latest = latest_kept h.latest x; imports = h.imports; names = names_extend x.store h.names }

-- a theory of which nothing is read, by number
module _ (s : Stored) (g : numbers.Signature) (n : ℕ) (is : IsEmptyOf g n) where
  pub empty_is : signature_at s g ≡ empty_theory (text_at s n)
  empty_is = rw (is.name, is.formals, is.entries, is.imports) refl

  pub place_begins : {v : InstancesView} {D : Development} {i : PlaceNames} → v.store ≡ s → development v ≡ signature_at s g ∷ D → IsName s n
      → ((t : Stored) (d : Development) (h : Signature) → IsUnread h → NamesAt t i d h) → IsPlace v n i
  place_begins {v} {D} {i} e f k names = record {
    latest = record {
      named = subst (λ t. IsName t n) (sym e) k;
      signature = empty_theory (text_at s n);
      others = D;
      reads = f ∙ ap (λ h. h ∷ D) empty_is;
      name = ap (λ t. text_at t n) e;
    };
    imports = refl;
    names = names v.store D (empty_theory (text_at s n)) (record { formals = refl; entries = refl; imports = refl });
  }
