use Rattle.std.proofs.Common.{◌≡◌, take}
use Rattle.pvs_report.specs.Lines.{bytes_of}
use Rattle.pvs_report.specs.Printed.{lines_shown}
use Rattle.pvs_report.proofs.put.report_bytes.Given as goal

-- the lines so far were added
abbrev pub invariant-loop-line : goal.invariant-loop-line
invariant-loop-line l = l.bytes.items ≡ bytes_of (lines_shown (take l.line-index l.lines))
