use Rattle.std.proofs.Common.{◌≡◌, drop}
use Rattle.std.specs.List.{list_any}
use Rattle.pvs_report.specs.Printed.{lines_shown}
use Rattle.pvs_cli.specs.Output.{is_unfinished}
use Rattle.pvs_cli.proofs.report.is_unfinished.Given as goal

-- some line is unfinished where one is that is left
abbrev pub invariant-loop-line : goal.invariant-loop-line
invariant-loop-line l = list_any is_unfinished (lines_shown (drop l.line-index l.lines)) ≡ list_any is_unfinished (lines_shown l.lines)
