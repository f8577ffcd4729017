use Rattle.std.proofs.Common.{rules, ◌≡◌}
use Rattle.pvs_report.specs.Lines.{bytes_of}
use Rattle.pvs_report.specs.Printed.{lines_shown}
use Rattle.pvs_cli.specs.Output.{exit_status}
use Rattle.pvs_cli.specs.Reporting.{IsReport, with_total}
use Rattle.pvs_cli.proofs.report.make_report.Goals as goal

pub returns : goal.returns
returns c =
    let lines = with_total (lines_shown c.in_ok-lines.lines.items) in
    let report : IsReport c.args.text.now lines = search rules in
    let bytes : c.in_ok-bytes.bytes.items ≡ bytes_of lines = search rules in
    let end : c.end_of-status.result ≡ exit_status lines = search rules in
    (lines, report, bytes, end)
