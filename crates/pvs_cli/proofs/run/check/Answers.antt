use Rattle.std.proofs.Common.{arith, refl, subst}
use Rattle.pvs_cli.specs.code.Writing.{WritesReportOf}
use Rattle.pvs_cli.proofs.InputLaws.{whole_taken, whole_unit}
use Rattle.pvs_cli.proofs.OutputLaws.{report_unwritten, report_written}
use Rattle.pvs_cli.proofs.run.check.Goals as goal

pub returns-in-Whole-clause-written : goal.returns-in-Whole-clause-written
returns-in-Whole-clause-written g c =
    report_written _ _ _ _ c.read_text.new.text.items c.write_report.result c.in-Whole.ensures.taken (omega (arith, c.in-Whole.ensures.len, c.read_text.new.text.ok.0))
    (subst (λ xs. WritesReportOf xs (g.K.Sink.written c.args.sink.now) (g.K.Sink.written c.write_report.new.sink) c.write_report.result) c.deref.ensures.value c.write_report.ensures.written)

pub returns-in-Whole-clause-unit : goal.returns-in-Whole-clause-unit
returns-in-Whole-clause-unit g c whole = whole_unit _ _ c.read_text.new.text.items c.in-Whole.ensures.taken

pub returns-in-Whole-clause-taken : goal.returns-in-Whole-clause-taken
returns-in-Whole-clause-taken g c = whole_taken _ _ c.read_text.new.text.items c.in-Whole.ensures.taken

pub returns-in-Failed-clause-written : goal.returns-in-Failed-clause-written
returns-in-Failed-clause-written g c = report_unwritten _ _ _ c.read_text.new.text.items _ _ c.in-Failed.ensures.taken refl

pub returns-clause-written : goal.returns-clause-written
returns-clause-written g c = report_unwritten _ _ _ c.read_text.new.text.items _ _ c.in-Memory.ensures.taken refl
