-- What an index finds is what the definition finds.
use Rattle.std.proofs.Common.{◌≡◌, ℕ, Bool, true, false, List, Option, Some, None, Result, Err, sym, ap, subst, ◌∙◌}
use Rattle.std.specs.Prelude.{bytes_eq, if◌then◌else◌}
use Rattle.pvs_base.specs.declared.code.Code.TheVariants.{NotImported}
use Rattle.pvs_terms.specs.Tree.{Text}
use Rattle.pvs_terms.specs.Stored.{Stored, text_at, IsName}
use Rattle.pvs_terms.proofs.StoredLaws.{extends_refl}
use Rattle.pvs_sig.specs.Signature.{Signature}
use Rattle.pvs_sig.specs.Development.{Development}
use Rattle.pvs_sig.specs.Instances.{instances, lists_instance}
use Rattle.pvs_names.specs.declared.fault.NameFault.{NameFault}
use Rattle.pvs_names.specs.declared.kind.NameKind.{NameKind}
use Rattle.pvs_names.specs.declared.key.Key.{Key}
use Rattle.pvs_names.specs.declared.key.Section.TheVariants as section
use Rattle.pvs_names.specs.declared.index.Found.{Found}
use Rattle.pvs_names.specs.Members.{Member, find}
use Rattle.pvs_names.specs.Resolve.{is_own_entry, is_entry_of, lists_theory, or_else, visible_members, any_formula, if_visible, resolve}
use Rattle.pvs_names.specs.Answer.{Resolves}
use Rattle.pvs_names.specs.code.Index.{answer, is_beside, is_in, found_of, IsFirst, IsFoundIn, IsDistinct, IsKeyIn, Indexes}
use Rattle.pvs_names.specs.code.Visible.{Seen, sees_theory, sees_instance, Sees, IndexesInstances}

pub found_resolves : (m : List (Key × Found)) (k : Key) (o : Option Found) (x : Result ℕ NameFault) → o ≡ found_of m k → ((s : Stored) → IsFoundIn s o → Resolves s x (answer s o))
    → (s : Stored) (ms : List Member) → IsDistinct s → IsKeyIn s k → Indexes s m ms → Resolves s x (find (is_in s k.section) k.kind (text_at s k.name) ms)
found_resolves m k o x e h s ms d i ix =
    let f = ix s (extends_refl s) d k i in
    subst (Resolves s x) f.found (subst (λ z. Resolves s x (answer s z)) e (h s (subst (IsFoundIn s) (sym e) f.stored)))

-- by a theory other than this one, where an instance of it is visible and where none is
module _ (s : Stored) (d : Development) (g : Signature) (i : ℕ) (dis : IsDistinct s) (v : Seen) (ix : IndexesInstances s v (instances d g i)) (kind : NameKind) (name : Text) where
  sees : Sees s v (instances d g i)
  sees = ix s (extends_refl s) dis

  by_theory : (th : ℕ) (b : Bool) → IsName s th → bytes_eq (text_at s th) g.name ≡ false → b ≡ sees_theory v th
      → if_visible b (find (is_entry_of (text_at s th)) kind name (visible_members d g i)) ≡ resolve d g i kind (Some (record { theory = text_at s th; actuals = None })) name
  by_theory th b h e k =
      ap (λ z. if_visible z (find (is_entry_of (text_at s th)) kind name (visible_members d g i))) (k ∙ sees.theories th h)
      ∙ sym (ap (λ z. if z then or_else (find is_own_entry kind name (visible_members d g i)) (any_formula d g kind name) else if_visible (lists_theory (text_at s th) (instances d g i)) (find (is_entry_of (text_at s th)) kind name (visible_members d g i))) e)

  pub theory_seen : (th : ℕ) (x : Result ℕ NameFault) → IsName s th → bytes_eq (text_at s th) g.name ≡ false → true ≡ sees_theory v th
      → Resolves s x (find (is_entry_of (text_at s th)) kind name (visible_members d g i)) → Resolves s x (resolve d g i kind (Some (record { theory = text_at s th; actuals = None })) name)
  theory_seen th x h e k r = subst (Resolves s x) (by_theory th true h e k) r

  pub theory_unseen : (th : ℕ) → IsName s th → bytes_eq (text_at s th) g.name ≡ false → false ≡ sees_theory v th
      → resolve d g i kind (Some (record { theory = text_at s th; actuals = None })) name ≡ Err NotImported
  theory_unseen th h e k = sym (by_theory th false h e k)

  by_instance : (q : ℕ) (h : IsFirst s q) (b : Bool) → b ≡ sees_instance v q
      → if_visible b (find (is_in s (section.OfInstance q)) kind name (visible_members d g i)) ≡ resolve d g i kind (Some (record { theory = h.theory; actuals = Some h.actuals })) name
  by_instance q h b k =
      ap (λ z. if_visible z (find (is_in s (section.OfInstance q)) kind name (visible_members d g i))) (k ∙ sees.instances q h)
      ∙ ap (λ z. if_visible (lists_instance h.theory h.actuals (instances d g i)) (find (is_beside z) kind name (visible_members d g i))) h.is

  pub instance_seen : (q : ℕ) (x : Result ℕ NameFault) (h : IsFirst s q) → true ≡ sees_instance v q
      → Resolves s x (find (is_in s (section.OfInstance q)) kind name (visible_members d g i)) → Resolves s x (resolve d g i kind (Some (record { theory = h.theory; actuals = Some h.actuals })) name)
  instance_seen q x h k r = subst (Resolves s x) (by_instance q h true k) r

  pub instance_unseen : (q : ℕ) (h : IsFirst s q) → false ≡ sees_instance v q → resolve d g i kind (Some (record { theory = h.theory; actuals = Some h.actuals })) name ≡ Err NotImported
  instance_unseen q h k = sym (by_instance q h false k)
