use Rattle.std.proofs.Common.{◌∙◌, ◌++◌, ap, sym}
use Rattle.std.proofs.lemmas.List.{take_all}
use Rattle.pvs_report.specs.Lines.{TotalLine, bytes_of, line_bytes}
use Rattle.pvs_report.specs.Printed.{lines_shown}
use Rattle.pvs_report.proofs.LineLaws.{bytes_push}
use Rattle.pvs_report.proofs.put.report_bytes.Goals as goal

pub returns : goal.returns
returns c =
    c.in_ok-put_totals.ensures
    ∙ ap (λ bs. bs ++ line_bytes (TotalLine c.args.totals.now)) (c.loop-line.invariant ∙ ap (λ ls. bytes_of (lines_shown ls)) (take_all c.loop-line.line-index c.args.lines.now c.loop-line-test.false))
    ∙ sym (bytes_push (lines_shown c.args.lines.now) (TotalLine c.args.totals.now))
