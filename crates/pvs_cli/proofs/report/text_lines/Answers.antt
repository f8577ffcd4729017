use Rattle.std.proofs.Common.{Err, rules}
use Rattle.pvs_report.specs.Printed.{lines_shown}
use Rattle.pvs_cli.proofs.ReportOf.{reported, reported_unit, faulty}
use Rattle.pvs_cli.proofs.report.text_lines.Goals as goal

pub returns-in-Ok : goal.returns-in-Ok
returns-in-Ok c = reported_unit (λ v. lines_shown v.items) c.args.text.now c.in-Ok.unit c.in-Ok.ensures.answer c.as_slice.result.now (search (rules)) c.unit_lines.result c.unit_lines.ensures

pub returns-in-Err-At : goal.returns-in-Err-At
returns-in-Err-At c = reported (λ v. lines_shown v.items) c.args.text.now (Err c.in-Err-At.fault) (faulty c.args.text.now c.in-Err-At.field-0 c.in-Err-At.fault c.in-Err-At.field-0-is c.in-Err-At.ensures.answer) c.unit_refusal.result c.unit_refusal.ensures
