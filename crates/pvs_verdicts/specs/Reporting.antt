-- The report of a text.
use Rattle.std.specs.Prelude.{codes, flat_map, List, [], ◌∷◌, ◌++◌, Result, Ok, Err}
use Rattle.pvs_base.specs.declared.code.Fault.{Fault}
use Rattle.pvs_syntax.specs.declared.unit.Unit as unit
use Rattle.pvs_parser.specs.Text.{IsAnswer}
use Rattle.pvs_terms.specs.Tree.{Text}
use Rattle.pvs_sig.specs.declared.signature.Class.TheVariants.{Axiom, Lemma}
use Rattle.pvs_sig.specs.Signature.{Entry, Kind, FormulaSig}
use Rattle.pvs_replay.specs.Replaying.{Outcome, Refused}
use Rattle.pvs_report.specs.declared.line.What.TheVariants as what
use Rattle.pvs_report.specs.Lines.{Line, TheoryLine, RefusedLine, FormulaLine, TotalLine, LineWord, AxiomWord, full_name, totals_of}
use Rattle.pvs_verdicts.specs.Names.{FormulaName}
use Rattle.pvs_verdicts.specs.Parts.{parts_of}
use Rattle.pvs_verdicts.specs.Verdicts.{AreScripts, Scripts}
use Rattle.pvs_verdicts.specs.Outcomes.{PartOutcome, TheoryAccepted, TheoryRefused, ProofOutcome, lemma_word, outcomes_of}

-- the lines of an entry of a theory, where lemmas have these words: one for an axiom or a lemma
abbrev pub entry_lines : (FormulaName → LineWord) → Text → Text → Kind → List Line
entry_lines word theory name (FormulaSig Axiom t owner) = FormulaLine theory name AxiomWord ∷ []
entry_lines word theory name (FormulaSig Lemma t owner) = FormulaLine theory name (word (record { theory = theory; formula = name })) ∷ []
entry_lines word theory name _ = []

-- the lines of the formulas of a theory, in order
abbrev pub formula_lines : (FormulaName → LineWord) → Text → List Entry → List Line
formula_lines word theory es = flat_map (λ e. entry_lines word theory e.name e.kind) es

-- the line of a proof: one where it is refused
abbrev pub proof_line : FormulaName → Outcome → List Line
proof_line n (Refused f) = RefusedLine what.ProofOf (full_name n.theory n.formula) f ∷ []
proof_line n _ = []

-- the lines of a part of a unit with its outcome, where lemmas have these words
abbrev pub part_lines : (FormulaName → LineWord) → PartOutcome → List Line
part_lines word (TheoryAccepted s) = TheoryLine s.name ∷ formula_lines word s.name s.entries
part_lines word (TheoryRefused theory f) = RefusedLine what.TheoryOf theory f ∷ []
part_lines word (ProofOutcome n o) = proof_line n o

-- the lines of the parts of a unit with their outcomes: the word for each lemma follows from all of them
abbrev pub outcome_lines : List PartOutcome → List Line
outcome_lines os = flat_map (part_lines (lemma_word os)) os

-- the lines of what a text reads as: those of a unit, or its first fault; the name of the unit is u
abbrev pub answer_lines : Scripts → Text → Result unit.Unit Fault → List Line
answer_lines scripts text (Ok u) = outcome_lines (outcomes_of scripts (parts_of text u.items))
answer_lines scripts text (Err f) = RefusedLine what.UnitOf (codes "u") f ∷ []

-- the lines of a report up to the last, and the last
abbrev pub with_total : List Line → List Line
with_total ls = ls ++ TotalLine (totals_of ls) ∷ []

-- the report of a text, which is unit u
pub data IsReport (text : Text) : List Line → Type 0 where
  of_text : (scripts : Scripts) → AreScripts scripts → (a : Result unit.Unit Fault) → IsAnswer text a → IsReport text (with_total (answer_lines scripts text a))
