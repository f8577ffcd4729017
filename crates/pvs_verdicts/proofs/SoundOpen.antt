-- The lemma of the example is reported open, and is FALSE in an interpretation that fits its theory.
use Rattle.std.proofs.Common.{◌≡◌, ◌∙◌, refl, sym, ap, subst, ◌&&◌, Bool, true, false, not, if◌then◌else◌, [], ◌∷◌, Contains, arith, codes, Ok}
use Rattle.std.proofs.lemmas.List.Elements.{Contains-append_left}
use Rattle.pvs_base.specs.declared.code.Code.TheVariants.{OutOfProfile}
use Rattle.pvs_parser.specs.Text.{IsAnswer}
use Rattle.pvs_script.specs.code.Reading.{script_of}
use Rattle.pvs_script.proofs.Verdicts.{script_answer}
use Rattle.pvs_sig.specs.Signature.{Signature}
use Rattle.pvs_elab.specs.Answer.{Answer, fault, pure}
use Rattle.pvs_base.specs.Answers.{◌>>=◌}
use Rattle.pvs_soundness.specs.Theory.{CheckedTheory}
use Rattle.pvs_proof_soundness.proofs.OpenExample.{text, word, named_type, named_term, component, function_type, application, all_p, theory4, read_all, interpretation, fits_before}
use Rattle.pvs_report.specs.Lines.{Line, FormulaLine, TotalLine, OpenWord, totals_of}
use Rattle.pvs_verdicts.specs.Forms.{BindingForm, is_built, is_built_type, is_built_theory, binding_form, is_component}
use Rattle.pvs_verdicts.specs.Duplicates.{first_repeated}
use Rattle.pvs_verdicts.specs.Parts.{Accepted, declared_signature, parts_of, theory_part, theory_signature, unless_repeated}
use Rattle.pvs_verdicts.specs.Verdicts.{Scripts}
use Rattle.pvs_verdicts.specs.Outcomes.{outcomes_of}
use Rattle.pvs_verdicts.specs.Reporting.{of_text, outcome_lines, with_total}
use Rattle.pvs_verdicts.specs.SoundFacts.{ReportedCanBeFalse}
use Rattle.pvs_verdicts.proofs.FormLaws.{type_name_built, name_term_built, typed_form, function_type_built, application_built}
use Rattle.pvs_verdicts.proofs.OpenExample.{small, whole}

-- ---- Its forms are built.

component_built : binding_form component ≡ record { is_named = false; is_built = true }
component_built =
    typed_form (word 28 28) (named_type (word 28 29))
    ∙ ap (λ (b : Bool). let f : BindingForm = record { is_named = false; is_built = b } in f) (type_name_built (word 28 29))

function_built : is_built_type function_type ≡ true
function_built =
    function_type_built (component ∷ []) (named_type (word 33 37)) _
    ∙ ap (λ (f : BindingForm). is_component (f ∷ []) && is_built_type (named_type (word 33 37))) component_built
    ∙ type_name_built (word 33 37)

lemma_built : is_built application ≡ true
lemma_built =
    application_built (named_term (word 57 58)) (named_term (word 59 60))
    ∙ ap (λ (b : Bool). b && is_built (named_term (word 59 60))) (name_term_built (word 57 58))
    ∙ name_term_built (word 59 60)

built : is_built_theory small ≡ true
built =
    ap (λ (b : Bool). (b && true) && (is_built_type (named_type (word 46 47)) && (is_built application && true))) function_built
    ∙ ap (λ (b : Bool). b && (is_built application && true)) (type_name_built (word 46 47))
    ∙ ap (λ (b : Bool). b && true) lemma_built

-- ---- The theory is accepted.

declares : declared_signature [] text small ≡ Ok theory4.signature
declares = ap (λ (r : Answer CheckedTheory). r >>= (λ c. pure c.signature)) read_all

accepted : theory_signature [] text [] small ≡ Ok theory4.signature
accepted = ap (λ (b : Bool). let r : Answer Signature = if not b then fault small.name.pos OutOfProfile else unless_repeated (first_repeated text [] small.decls) (declared_signature [] text small) in r) built ∙ declares

-- ---- Its lemma is reported open.

abbrev line : Line
line = FormulaLine (codes "t") (codes "l") OpenWord

module _ (scripts : Scripts) where
  printed : (r : Answer Signature) → r ≡ Ok theory4.signature → Contains (outcome_lines (outcomes_of scripts (theory_part (codes "t") r ∷ []))) line
  printed r e = subst (λ (q : Answer Signature). Contains (outcome_lines (outcomes_of scripts (theory_part (codes "t") q ∷ []))) line) (sym e) (1, omega arith, refl)

  open_line : Contains (outcome_lines (outcomes_of scripts (parts_of text whole.items))) line
  open_line = printed (theory_signature [] text [] small) accepted

among : (r : Answer Signature) → r ≡ Ok theory4.signature → Contains (theory_part (codes "t") r ∷ []) (Accepted theory4.signature)
among r e = subst (λ (q : Answer Signature). Contains (theory_part (codes "t") q ∷ []) (Accepted theory4.signature)) (sym e) (0, omega arith, refl)

-- a lemma that is reported open can be FALSE, where the text reads as the unit
pub reported_can_be_false : IsAnswer text (Ok whole) → ReportedCanBeFalse
reported_can_be_false reads =
    let lines = outcome_lines (outcomes_of script_of (parts_of text whole.items)) in (
      text,
      with_total lines,
      whole,
      theory4.signature,
      3,
      codes "l",
      all_p,
      interpretation,
      reads,
      of_text script_of script_answer (Ok whole) reads,
      record {
        accepted = among (theory_signature [] text [] small) accepted;
        stated = refl;
        printed = Contains-append_left lines (TotalLine (totals_of lines) ∷ []) line (open_line script_of);
        sets = ((λ v h. absurd h, tt), (tt, tt));
        fits = fits_before;
        untrue = refl;
      },
    )
