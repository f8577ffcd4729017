-- The lines that stand for those of an answer are those of the report of its text.
use Rattle.std.proofs.Common.{◌≡◌, ◌∙◌, ℕ, List, IfOk, Result, Ok, Err, sym, ap, subst}
use Rattle.std.proofs.Math.Path.{fun_ext}
use Rattle.pvs_base.specs.declared.code.Fault.{Fault}
use Rattle.pvs_syntax.specs.declared.unit.Item.{Item}
use Rattle.pvs_syntax.specs.declared.unit.Unit as unit
use Rattle.pvs_parser.specs.declared.failure.ParseFault.{ParseFault}
use Rattle.pvs_parser.specs.declared.failure.ParseFault.TheVariants as parse_fault
use Rattle.pvs_parser.specs.Text.{IsAnswer, Answers}
use Rattle.pvs_script.specs.code.Reading.{script_of}
use Rattle.pvs_script.proofs.Verdicts.{one_answer, script_answer}
use Rattle.pvs_report.specs.Lines.{Line}
use Rattle.pvs_cli.specs.Verdicts.{AreScripts, Scripts}
use Rattle.pvs_theory.specs.Theories.{parts_of}
use Rattle.pvs_cli.specs.Outcomes.{outcomes_of}
use Rattle.pvs_cli.specs.Reporting.{IsReport, answer_lines, outcome_lines, with_total, of_text}

-- two answers of one text are the same: its unit, or its first fault
abbrev pub OneAnswer : Type 0
OneAnswer = (text : List ℕ) (a b : Result unit.Unit Fault) → IsAnswer text a → IsAnswer text b → a ≡ b

report_of : (text : List ℕ) (a : Result unit.Unit Fault) → IsAnswer text a → (ls : List Line) → ls ≡ answer_lines script_of text a → IsReport text (with_total ls)
report_of text a h ls e = subst (λ (z : List Line). IsReport text (with_total z)) (sym e) (of_text script_of script_answer a h)

-- lines that are those of the answer, where there is memory for them
pub reported : {A E : Type 0} (shown : A → List Line) (text : List ℕ) (a : Result unit.Unit Fault) → IsAnswer text a → (r : Result A E) → IfOk r (λ v. shown v ≡ answer_lines script_of text a) → IfOk r (λ v. IsReport text (with_total (shown v)))
reported shown text a h (Ok v) e = report_of text a h (shown v) e
reported shown text a h (Err x) e = e

-- the same for a unit whose items are these
pub reported_unit : {A E : Type 0} (shown : A → List Line) (text : List ℕ) (u : unit.Unit) → IsAnswer text (Ok u) → (items : List Item) → items ≡ u.items → (r : Result A E) → IfOk r (λ v. shown v ≡ outcome_lines (outcomes_of script_of (parts_of text items))) → IfOk r (λ v. IsReport text (with_total (shown v)))
reported_unit shown text u h items same r made = reported shown text (Ok u) h r (subst (λ (z : List Item). IfOk r (λ v. shown v ≡ outcome_lines (outcomes_of script_of (parts_of text z)))) same made)

-- a text where a fault is answered has that first fault
pub faulty : (text : List ℕ) (q : ParseFault) (f : Fault) → q ≡ parse_fault.At f → Answers text (Err q) → IsAnswer text (Err f)
faulty text q f e h = subst (λ (z : ParseFault). Answers text (Err z)) e h

same_scripts : (s z : Scripts) → AreScripts s → AreScripts z → s ≡ z
same_scripts s z h k = fun_ext (λ text. fun_ext (λ p. one_answer text p (s text p) (z text p) (h text p) (k text p)))

-- a text has at most one report, where it has at most one answer
pub one_report : OneAnswer → (text : List ℕ) (ls ms : List Line) → IsReport text ls → IsReport text ms → ls ≡ ms
one_report one text _ _ (of_text s r a h) (of_text z q b k) =
    ap (λ (x : Scripts). with_total (answer_lines x text a)) (same_scripts s z r q) ∙ ap (λ a. with_total (answer_lines z text a)) (one text a b h k)
