use Rattle.pvs_cli.proofs.OutputLaws.{report_cut, report_given, report_missing}
use Rattle.pvs_cli.proofs.run.write_report.Goals as goal

pub returns-in_default-clause-written : goal.returns-in_default-clause-written
returns-in_default-clause-written g c = report_missing c.args.text.now (g.K.Sink.written c.args.sink.now)

pub returns-then-give_all-clause-written : goal.returns-then-give_all-clause-written
returns-then-give_all-clause-written g c =
    report_given c.args.text.now _ _ c.in-Ok.report.bytes.items c.deref.result.now c.in-Ok.report.status c.in-Ok.ensures c.deref.ensures.value c.if-give_all.ensures.bytes

pub returns-clause-written : goal.returns-clause-written
returns-clause-written g c =
    report_cut c.args.text.now _ _ c.in-Ok.report.bytes.items c.deref.result.now c.in-Ok.report.status c.in-Ok.ensures c.deref.ensures.value c.if-give_all.ensures.bytes
