-- What is reported complete is true (CSL-97-2, models of theories and soundness of the proof rules).
use Rattle.std.specs.Prelude.{◌≡◌, ℕ, List, slice_get, Contains, Some, Ok}
use Rattle.pvs_syntax.specs.declared.unit.Unit as unit
use Rattle.pvs_parser.specs.Text.{IsAnswer}
use Rattle.pvs_terms.specs.Tree.{Text, Tree}
use Rattle.pvs_sig.specs.declared.signature.Class.TheVariants.{Lemma}
use Rattle.pvs_sig.specs.Signature.{Signature, FormulaSig}
use Rattle.pvs_sem.specs.Interpretations.{FiniteMap, AreSets, model_of}
use Rattle.pvs_soundness.specs.Read.{FitsBefore}
use Rattle.pvs_proof_soundness.specs.Holds.{HoldsAt}
use Rattle.pvs_report.specs.Lines.{Line, FormulaLine, CompleteWord}
use Rattle.pvs_verdicts.specs.Parts.{Accepted, parts_of}
use Rattle.pvs_verdicts.specs.Reporting.{IsReport}

-- Each lemma of an accepted theory of the unit that these lines report complete is TRUE in every interpretation by finite sets that fits the entries
-- before it. There each name of the lemma, and of the entries before it, has a meaning, and each argument is in the domain of its function.
abbrev pub IsSound : Text → List Line → Type 0
IsSound text lines = (u : unit.Unit) (s : Signature) (x : ℕ) (name : Text) (body : Tree) (owner : ℕ) (m : FiniteMap)
    → IsAnswer text (Ok u) → Contains (parts_of text u.items) (Accepted s)
    → slice_get s.entries x ≡ Some (record { name = name; kind = FormulaSig Lemma body owner })
    → Contains lines (FormulaLine s.name name CompleteWord)
    → AreSets m → FitsBefore (model_of m) s x → HoldsAt (model_of m) s x body

-- so it is of each report
abbrev pub ReportsAreSound : Type 0
ReportsAreSound = (text : Text) (lines : List Line) → IsReport text lines → IsSound text lines
