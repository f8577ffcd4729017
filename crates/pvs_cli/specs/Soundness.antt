-- What is printed complete is true.
use Rattle.std.specs.Prelude.{◌≡◌, ◌<◌, ℕ, true, List, ◌++◌, slice_get, Contains, Option, Some, Ok}
use Rattle.pvs_syntax.specs.declared.unit.Unit as unit
use Rattle.pvs_syntax.specs.declared.unit.FormulaWord.TheVariants as formula_word
use Rattle.pvs_parser.specs.Text.{IsAnswer}
use Rattle.pvs_terms.specs.Tree.{Tree}
use Rattle.pvs_sem.specs.Truth.{TruthAssignment, truth}
use Rattle.pvs_theory.specs.Entries.{Entry, Formula}
use Rattle.pvs_theory.specs.Theories.{Accepted, parts_of}
use Rattle.pvs_report.specs.Lines.{Line, FormulaLine, CompleteWord, bytes_of}
use Rattle.pvs_cli.specs.Exposed.{OfExposed, OfInput}
use Rattle.pvs_cli.specs.Output.{text_of}
use Rattle.pvs_cli.specs.Reporting.{IsReport}

-- a truth assignment makes each axiom before the entry of this number TRUE
abbrev pub Fits : TruthAssignment → List Entry → ℕ → Type 0
Fits v es x = (i : ℕ) (name : List ℕ) (t : Tree) → i < x → slice_get es i ≡ Some (record { name = name; kind = Formula formula_word.Axiom t }) → truth v t ≡ true

-- Each lemma of an accepted theory of the unit that these lines print as complete is TRUE under every truth assignment that fits the theory there.
abbrev pub IsSound : List ℕ → List Line → Type 0
IsSound text lines = (u : unit.Unit) (theory : List ℕ) (es : List Entry) (x : ℕ) (name : List ℕ) (body : Tree) (v : TruthAssignment)
    → IsAnswer text (Ok u) → Contains (parts_of text u.items) (Accepted theory es)
    → slice_get es x ≡ Some (record { name = name; kind = Formula formula_word.Lemma body })
    → Contains lines (FormulaLine theory name CompleteWord)
    → Fits v es x → truth v body ≡ true

-- where the output is exposed: the lines of the report of a text were added, and what they print as complete is true
abbrev pub AddsTruth : List ℕ → Option (List ℕ) → Option (List ℕ) → Type 0
AddsTruth text = OfExposed (λ before after. (lines : List Line) × IsReport text lines × (after ≡ before ++ bytes_of lines) × IsSound text lines)

-- the same of the text of the input, by the bytes that were left before and after the run
abbrev pub WritesTruth : Option (List ℕ) → Option (List ℕ) → Option (List ℕ) → Option (List ℕ) → Type 0
WritesTruth old new before after = OfInput (λ input. AddsTruth (text_of input) before after) old new
