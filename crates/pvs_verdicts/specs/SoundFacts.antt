-- What is reported open need not be true.
use Rattle.std.specs.Prelude.{◌≡◌, ℕ, false, List, slice_get, Contains, Some, Ok}
use Rattle.pvs_syntax.specs.declared.unit.Unit as unit
use Rattle.pvs_parser.specs.Text.{IsAnswer}
use Rattle.pvs_terms.specs.Tree.{Text, Tree}
use Rattle.pvs_sig.specs.declared.signature.Class.TheVariants.{Lemma}
use Rattle.pvs_sig.specs.Signature.{Signature, FormulaSig}
use Rattle.pvs_sem.specs.Value.{Truth}
use Rattle.pvs_sem.specs.Meaning.{mean}
use Rattle.pvs_sem.specs.Interpretations.{FiniteMap, AreSets, model_of}
use Rattle.pvs_soundness.specs.Fits.{nowhere}
use Rattle.pvs_soundness.specs.Read.{FitsBefore}
use Rattle.pvs_report.specs.Lines.{Line, FormulaLine, OpenWord}
use Rattle.pvs_verdicts.specs.Parts.{Part, Accepted, parts_of}
use Rattle.pvs_verdicts.specs.Reporting.{IsReport}

-- A lemma of an accepted theory among these parts that these lines report open. It is FALSE in an interpretation by finite sets that fits the entries
-- before it.
pub record IsOpenAndFalse (parts : List Part) (lines : List Line) (s : Signature) (x : ℕ) (name : Text) (body : Tree) (m : FiniteMap) : Type 0 where
  pub accepted : Contains parts (Accepted s)
  pub stated : slice_get s.entries x ≡ Some (record { name = name; kind = FormulaSig Lemma body 0 })
  pub printed : Contains lines (FormulaLine s.name name OpenWord)
  pub sets : AreSets m
  pub fits : FitsBefore (model_of m) s x
  pub untrue : (mean (model_of m) body nowhere).value ≡ Truth false

-- a lemma that the report of a text prints as open can be FALSE
abbrev pub ReportedCanBeFalse : Type 0
ReportedCanBeFalse = (text : Text) × (lines : List Line) × (u : unit.Unit) × (s : Signature) × (x : ℕ) × (name : Text) × (body : Tree) × (m : FiniteMap)
    × IsAnswer text (Ok u) × IsReport text lines × IsOpenAndFalse (parts_of text u.items) lines s x name body m
