-- The index of a place is that of later stores too.
use Rattle.std.proofs.Common.{◌≡◌, ℕ, List, Option, Some, None, Result, Bor, refl, sym, ap, subst, ◌∙◌}
use Rattle.pvs_terms.specs.Tree.{Text, Trees, AreClosed}
use Rattle.pvs_terms.specs.Stored.{Stored, Extends}
use Rattle.pvs_terms.proofs.StoredLaws.{extends_trans, nodes_extend, trees_at-extends}
use Rattle.pvs_sig.specs.Signature.{Signature, Import}
use Rattle.pvs_sig.specs.Development.{Development}
use Rattle.pvs_names.specs.declared.key.Key.{Key}
use Rattle.pvs_names.specs.declared.index.Found.{Found}
use Rattle.pvs_names.specs.declared.names.Names.{Names}
use Rattle.pvs_names.specs.declared.kind.NameKind.{NameKind}
use Rattle.pvs_names.specs.declared.fault.NameFault.{NameFault}
use Rattle.pvs_names.specs.Members.{Member}
use Rattle.pvs_names.specs.Resolve.{Qualifier, resolve, resolve_qualified}
use Rattle.pvs_names.specs.Answer.{Resolves}
use Rattle.pvs_names.specs.Qualifiers.{AreActualsIn, actuals_at}
use Rattle.pvs_names.specs.code.Index.{Indexes}
use Rattle.pvs_names.specs.code.Visible.{Seen, IndexesInstances}
use Rattle.pvs_names.specs.code.Places.{IndexesPlace}

pub indexes_extends : {s t : Stored} {m : List (Key × Found)} {ms : List Member} → Extends s t → Indexes s m ms → Indexes t m ms
indexes_extends x ix u y d k h = ix u (extends_trans x y) d k h

pub instances_extend : {s t : Stored} {v : Seen} {xs : List Import} → Extends s t → IndexesInstances s v xs → IndexesInstances t v xs
instances_extend x ix u y d = ix u (extends_trans x y) d

pub place_extends : {s t : Stored} {n : Names} {d : Development} {g : Signature} {i : ℕ} → Extends s t → IndexesPlace s n d g i → IndexesPlace t n d g i
place_extends {s} {t} {n} x p = record {
  theory_in = x.names n.theory p.theory_in;
  theory = x.texts n.theory p.theory_in ∙ p.theory;
  visible = indexes_extends x p.visible;
  own = indexes_extends x p.own;
  instances_are = instances_extend x p.instances_are;
  limits = p.limits;
}

-- the actuals of a qualifier stand in a later store for what they stood for
pub actuals_extend : {s t : Stored} (o : Option (Bor (List ℕ))) → Extends s t → AreActualsIn s o → AreActualsIn t o
actuals_extend None x h = tt
actuals_extend {s} {t} (Some is) x h = (nodes_extend s t is.now x h.0, subst AreClosed (sym (trees_at-extends s t is.now x h.0)) h.1)

pub actuals_kept : {s t : Stored} (o : Option (Bor (List ℕ))) → Extends s t → AreActualsIn s o → actuals_at t o ≡ actuals_at s o
actuals_kept None x h = refl
actuals_kept {s} {t} (Some is) x h = ap Some (trees_at-extends s t is.now x h.0)

pub qualified_is : (s : Stored) (r : Result ℕ NameFault) (d : Development) (g : Signature) (i : ℕ) (kind : NameKind) {th ph : Text} {xs ys : Option Trees} {v w : Text}
    → th ≡ ph → xs ≡ ys → v ≡ w → Resolves s r (resolve_qualified d g i kind th xs v) → Resolves s r (resolve_qualified d g i kind ph ys w)
qualified_is s r d g i kind {th} {ph} {xs} {ys} {v} {w} e f k h =
    subst (λ z. Resolves s r (resolve_qualified d g i kind ph ys z)) k
    (subst (λ z. Resolves s r (resolve_qualified d g i kind ph z v)) f (subst (λ z. Resolves s r (resolve_qualified d g i kind z xs v)) e h))

pub resolved_is : (s : Stored) (r : Result ℕ NameFault) (d : Development) (g : Signature) (i : ℕ) (kind : NameKind) {q p : Option Qualifier} {v w : Text}
    → q ≡ p → v ≡ w → Resolves s r (resolve d g i kind q v) → Resolves s r (resolve d g i kind p w)
resolved_is s r d g i kind {q} {p} {v} {w} e k h =
    subst (λ z. Resolves s r (resolve d g i kind p z)) k (subst (λ z. Resolves s r (resolve d g i kind z v)) e h)
