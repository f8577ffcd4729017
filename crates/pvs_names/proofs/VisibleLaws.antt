-- The visible instances with one more.
use Rattle.std.proofs.Common.{◌≡◌, ℕ, Bool, true, false, ◌||◌, ◌&&◌, eqb, List, [], ◌∷◌, ◌++◌, rules, refl, sym, ap, ap₂, ◌∙◌}
use Rattle.std.specs.Prelude.{bytes_eq}
use Rattle.pvs_terms.specs.Tree.{Text, Inst, Trees, trees_eq}
use Rattle.pvs_terms.specs.Stored.{Stored, Extends, IsName, text_at, ref_at}
use Rattle.pvs_sig.specs.Signature.{Import}
use Rattle.pvs_sig.specs.Instances.{is_instance_of, lists_instance}
use Rattle.pvs_names.specs.Resolve.{lists_theory}
use Rattle.pvs_names.specs.code.Index.{IsDistinct, IsFirst, IsEntryOf}
use Rattle.pvs_names.specs.code.Visible.{Seen, sees_theory, sees_instance, Sees, IndexesInstances, IsImportOf}
use Rattle.pvs_names.proofs.SectionLaws.{name_same, first_same}

or_false : (b : Bool) → (b || false) ≡ b
or_false true = refl
or_false false = refl

or_assoc : (a b c : Bool) → (a || (b || c)) ≡ ((a || b) || c)
or_assoc true b c = refl
or_assoc false b c = refl

lists_theory-append : (th : Text) (xs : List Import) (x : Import) → lists_theory th (xs ++ x ∷ []) ≡ (lists_theory th xs || bytes_eq th x.theory)
lists_theory-append th [] x = or_false (bytes_eq th x.theory)
lists_theory-append th (y ∷ xs) x = ap (λ z. bytes_eq th y.theory || z) (lists_theory-append th xs x) ∙ or_assoc (bytes_eq th y.theory) (lists_theory th xs) (bytes_eq th x.theory)

lists_instance-append : (th : Text) (acts : Trees) (xs : List Import) (x : Import) → lists_instance th acts (xs ++ x ∷ []) ≡ (lists_instance th acts xs || (bytes_eq th x.theory && trees_eq acts x.actuals))
lists_instance-append th acts [] x = or_false (bytes_eq th x.theory && trees_eq acts x.actuals)
lists_instance-append th acts (y ∷ xs) x = ap (λ z. is_instance_of th acts y || z) (lists_instance-append th acts xs x) ∙ or_assoc (is_instance_of th acts y) (lists_instance th acts xs) (bytes_eq th x.theory && trees_eq acts x.actuals)

abbrev import_extends : {s t : Stored} {theory first : ℕ} {x : Import} → Extends s t → IsImportOf s theory first x → IsImportOf t theory first x
import_extends {s} {t} {theory} {first} e i = record {
  theory_in = e.names theory i.theory_in;
  theory_is = i.theory_is ∙ sym (e.texts theory i.theory_in);
  first_in = e.refs first i.first_in;
  first_is = e.references first i.first_in ∙ i.first_is;
}

abbrev first_of : {t : Stored} {theory first : ℕ} {x : Import} → IsImportOf t theory first x → IsEntryOf t theory first first
first_of {t} {theory} {first} {x} i = record {
  theory_in = i.theory_in;
  first_in = i.first_in;
  actuals = x.actuals;
  number = 0;
  first_is = i.first_is ∙ ap (λ z. Inst z 0 x.actuals) i.theory_is;
  reference_is = i.first_is ∙ ap (λ z. Inst z 0 x.actuals) i.theory_is;
}

pub import_added : (old new : Seen) (theory first : ℕ) → ((n : ℕ) → sees_theory new n ≡ (sees_theory old n || eqb theory n)) → ((r : ℕ) → sees_instance new r ≡ (sees_instance old r || eqb first r))
    → (s : Stored) (xs : List Import) (x : Import) → IsImportOf s theory first x → IndexesInstances s old xs → IndexesInstances s new (xs ++ x ∷ [])
import_added old new theory first a b s xs x i ix t e d =
    let j = import_extends e i in
    let o = ix t e d in record {
      theories = λ n h. a n
          ∙ ap₂ (λ p q. p || q) (o.theories n h) (name_same t d theory n j.theory_in h ∙ ap (bytes_eq (text_at t n)) (sym j.theory_is))
          ∙ sym (lists_theory-append (text_at t n) xs x);
      instances = λ r h. b r
          ∙ ap₂ (λ p q. p || q) (o.instances r h) (sym (first_same t d theory first first r (first_of j) h) ∙ ap (λ z. bytes_eq h.theory z && trees_eq h.actuals x.actuals) (sym j.theory_is))
          ∙ sym (lists_instance-append h.theory h.actuals xs x);
    }
