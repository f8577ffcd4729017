-- What is printed open need not be true.
use Rattle.std.specs.Prelude.{◌≡◌, ℕ, false, List, slice_get, Contains, Some, Ok}
use Rattle.pvs_syntax.specs.declared.unit.Unit as unit
use Rattle.pvs_syntax.specs.declared.unit.FormulaWord.TheVariants as formula_word
use Rattle.pvs_parser.specs.Text.{IsAnswer}
use Rattle.pvs_terms.specs.Tree.{Tree}
use Rattle.pvs_sem.specs.Truth.{TruthAssignment, truth}
use Rattle.pvs_theory.specs.Entries.{Entry, Formula}
use Rattle.pvs_theory.specs.Theories.{Part, Accepted, parts_of}
use Rattle.pvs_report.specs.Lines.{Line, FormulaLine, OpenWord}
use Rattle.pvs_cli.specs.Reporting.{IsReport}
use Rattle.pvs_cli.specs.Soundness.{Fits}

-- A lemma of an accepted theory among these parts that these lines print as open. It is FALSE under a truth assignment that fits the theory there.
pub record IsOpenAndFalse (parts : List Part) (lines : List Line) (theory : List ℕ) (es : List Entry) (x : ℕ) (name : List ℕ) (body : Tree) (v : TruthAssignment) : Type 0 where
  pub accepted : Contains parts (Accepted theory es)
  pub stated : slice_get es x ≡ Some (record { name = name; kind = Formula formula_word.Lemma body })
  pub printed : Contains lines (FormulaLine theory name OpenWord)
  pub fits : Fits v es x
  pub untrue : truth v body ≡ false

-- a lemma that the report of a text prints as open can be FALSE
abbrev pub ReportedCanBeFalse : Type 0
ReportedCanBeFalse = (text : List ℕ) × (lines : List Line) × (u : unit.Unit) × (theory : List ℕ) × (es : List Entry) × (x : ℕ) × (name : List ℕ) × (body : Tree) × (v : TruthAssignment)
    × IsAnswer text (Ok u) × IsReport text lines × IsOpenAndFalse (parts_of text u.items) lines theory es x name body v
