-- What is known of a theory that is accepted.
use Rattle.std.proofs.Common.{◌≡◌, ◌∙◌, refl, sym, ap, subst, ℕ, Bool, true, false, not, if◌then◌else◌, [], slice_get, Option, Some, None, Ok, Err}
use Rattle.pvs_base.specs.Answers.{◌>>=◌}
use Rattle.pvs_base.specs.declared.code.Code.TheVariants.{Duplicate, OutOfProfile}
use Rattle.pvs_terms.specs.Tree.{Text, Tree}
use Rattle.pvs_syntax.specs.Words.{spelling}
use Rattle.pvs_syntax.specs.declared.word.Word.{Word}
use Rattle.pvs_syntax.specs.declared.unit.Theory.{Theory}
use Rattle.pvs_sig.specs.declared.signature.Class.TheVariants.{Lemma}
use Rattle.pvs_sig.specs.Signature.{Signature, FormulaSig}
use Rattle.pvs_sig.specs.Development.{Development, IsDevelopment, IsSignatureOver}
use Rattle.pvs_elab.specs.Answer.{Answer, fault}
use Rattle.pvs_soundness.specs.Theory.{CheckedTheory, with_declarations, empty_theory}
use Rattle.pvs_soundness.proofs.ReadLaws.{all_plain, unread_plain}
use Rattle.pvs_soundness.proofs.StandingLaws.{accepted_stands}
use Rattle.pvs_proof_soundness.specs.Laws.{ProvedFormulasHold}
use Rattle.pvs_proof_soundness.proofs.ProvedLaws.{theories_sound}
use Rattle.pvs_verdicts.specs.Forms.{is_built_theory}
use Rattle.pvs_verdicts.specs.Duplicates.{first_repeated}
use Rattle.pvs_verdicts.specs.Parts.{accepted_signature, declared_signature, unless_repeated}
use Rattle.pvs_verdicts.specs.Verdicts.{lemma_named}
use Rattle.pvs_verdicts.proofs.NameLaws.{are_distinct, distinct_names}
use Rattle.pvs_verdicts.proofs.EntryLaws.{declarations_named, entry_names, found_by_name}

-- its declarations make it
pub record IsRead (d : Development) (text : Text) (t : Theory) (s : Signature) : Type 0 where
  pub checked : CheckedTheory
  pub reads : with_declarations d text (empty_theory (spelling text t.name)) t.decls ≡ Ok checked
  pub signature : checked.signature ≡ s

-- and no earlier theory has its name, and no name is declared again
pub record IsAccepted (d : Development) (text : Text) (again : Bool) (t : Theory) (s : Signature) : Type 0 where
  pub first : again ≡ false
  pub apart : first_repeated text [] t.decls ≡ None
  pub read : IsRead d text t s

pub theory_accepted : (d : Development) (text : Text) (again : Bool) (t : Theory) (s : Signature) → accepted_signature d text again t ≡ Ok s → IsAccepted d text again t s
theory_accepted d text again t s h = built (is_built_theory t) h
  where
    declared : (r : Answer CheckedTheory) → with_declarations d text (empty_theory (spelling text t.name)) t.decls ≡ r → (r >>= (λ c. Ok c.signature)) ≡ Ok s → IsRead d text t s
    declared (Err f) k h = cc
    declared (Ok c) k h = record { checked = c; reads = k; signature = cc }

    repeats : (o : Option Word) → unless_repeated o (declared_signature d text t) ≡ Ok s → (o ≡ None) × IsRead d text t s
    repeats None h = (refl, declared (with_declarations d text (empty_theory (spelling text t.name)) t.decls) refl h)
    repeats (Some w) h = cc

    named : (b : Bool) → (if b then fault t.name.pos Duplicate else unless_repeated (first_repeated text [] t.decls) (declared_signature d text t)) ≡ Ok s → IsAccepted d text b t s
    named true h = cc
    named false h = let r = repeats (first_repeated text [] t.decls) h in record { first = refl; apart = r.0; read = r.1 }

    built : (b : Bool) → (if not b then fault t.name.pos OutOfProfile else (if again then fault t.name.pos Duplicate else unless_repeated (first_repeated text [] t.decls) (declared_signature d text t))) ≡ Ok s
        → IsAccepted d text again t s
    built true h = named again h
    built false h = cc

module _ (d : Development) (text : Text) (again : Bool) (t : Theory) (s : Signature) (a : IsAccepted d text again t s) where
  -- it has the name that the text gives it
  pub accepted_named : s.name ≡ spelling text t.name
  accepted_named = ap (λ (u : Signature). u.name) (sym a.read.signature) ∙ (declarations_named d text (empty_theory (spelling text t.name)) t.decls a.read.checked a.read.reads).name

  distinct_entries : are_distinct (entry_names s.entries) ≡ true
  distinct_entries =
      ap (λ (u : Signature). are_distinct (entry_names u.entries)) (sym a.read.signature)
      ∙ ap are_distinct (declarations_named d text (empty_theory (spelling text t.name)) t.decls a.read.checked a.read.reads).formulas
      ∙ distinct_names text t.decls a.apart

  -- a lemma of it is found by its name
  pub accepted_finds : (x : ℕ) (name : Text) (body : Tree) (owner : ℕ) → slice_get s.entries x ≡ Some (record { name = name; kind = FormulaSig Lemma body owner }) → lemma_named s.entries name ≡ Some body
  accepted_finds x name body owner h = found_by_name s.entries x name body owner distinct_entries h

  module _ (development : IsDevelopment d) where
    -- it may stand after the theories
    pub accepted_over : IsSignatureOver d s
    accepted_over = subst (IsSignatureOver d) a.read.signature
        (accepted_stands d a.read.checked.signature (all_plain d development text (empty_theory (spelling text t.name)) (unread_plain d (spelling text t.name)) t.decls a.read.checked a.read.reads))

    -- and what is proved of it holds
    pub accepted_holds : ProvedFormulasHold s
    accepted_holds = subst ProvedFormulasHold a.read.signature (theories_sound d development text (spelling text t.name) t.decls a.read.checked a.read.reads)
