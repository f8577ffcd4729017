-- The lines, words and names that those of the code stand for.
use Rattle.std.specs.Prelude.{ℕ, List, map}
use Rattle.pvs_report.specs.declared.line.Line as program
use Rattle.pvs_report.specs.declared.line.Line.TheVariants as line
use Rattle.pvs_report.specs.declared.line.LineWord as program_word
use Rattle.pvs_report.specs.declared.line.LineWord.TheVariants as word
use Rattle.pvs_report.specs.declared.line.LineName as program_name
use Rattle.pvs_report.specs.declared.line.LineName.TheVariants as name
use Rattle.pvs_report.specs.Lines.{Line, TheoryLine, RefusedLine, FormulaLine, LineWord, AxiomWord, AssumptionWord, CompleteWord, IncompleteWord, OpenWord, full_name}

abbrev pub word_shown : program_word.LineWord → LineWord
word_shown word.AxiomWord = AxiomWord
word_shown word.AssumptionWord = AssumptionWord
word_shown word.CompleteWord = CompleteWord
word_shown (word.IncompleteWord t n) = IncompleteWord t.now n.now
word_shown word.OpenWord = OpenWord

abbrev pub name_shown : program_name.LineName → List ℕ
name_shown (name.Simple n) = n.now
name_shown (name.Qualified t n) = full_name t.now n.now

abbrev pub line_shown : program.Line → Line
line_shown (line.TheoryLine t) = TheoryLine t.now
line_shown (line.RefusedLine w n f) = RefusedLine w (name_shown n) f
line_shown (line.FormulaLine t n w) = FormulaLine t.now n.now (word_shown w)

abbrev pub lines_shown : List program.Line → List Line
lines_shown ls = map line_shown ls
