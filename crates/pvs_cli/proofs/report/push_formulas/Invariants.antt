use Rattle.std.proofs.Common.{◌≡◌, ◌++◌, take}
use Rattle.pvs_terms.specs.Stored.{Stored}
use Rattle.pvs_cli.specs.code.LemmaIndex.{word_in}
use Rattle.pvs_theory.specs.code.Shown.{entries_shown}
use Rattle.pvs_report.specs.Printed.{lines_shown}
use Rattle.pvs_cli.specs.Reporting.{formula_lines}
use Rattle.pvs_cli.proofs.report.push_formulas.Given as goal

-- the lines so far are those of the entries so far
abbrev pub invariant-loop-entry : goal.invariant-loop-entry
invariant-loop-entry l =
    (s : Stored) → lines_shown l.lines.items ≡ lines_shown l.fn.lines.items ++ formula_lines (word_in l.proved) l.theory (entries_shown s l.text (take l.entry-index l.entries))
