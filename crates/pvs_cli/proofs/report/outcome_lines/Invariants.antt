use Rattle.std.proofs.Common.{◌≡◌, flat_map, take}
use Rattle.pvs_terms.specs.Stored.{Stored}
use Rattle.pvs_cli.specs.code.LemmaIndex.{word_in}
use Rattle.pvs_report.specs.Printed.{lines_shown}
use Rattle.pvs_cli.specs.code.Shown.{part_outcomes_shown}
use Rattle.pvs_cli.specs.Reporting.{part_lines}
use Rattle.pvs_cli.proofs.report.outcome_lines.Given as goal

-- the lines so far are those of the parts so far
abbrev pub invariant-loop-outcome : goal.invariant-loop-outcome
invariant-loop-outcome l = (s : Stored) → lines_shown l.lines.items ≡ flat_map (part_lines (word_in l.proved)) (part_outcomes_shown s l.text (take l.outcome-index l.outcomes))
