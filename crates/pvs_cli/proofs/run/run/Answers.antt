use Rattle.std.proofs.Common.{◌≡◌, true, false}
use Rattle.pvs_cli.proofs.OutputLaws.{check_written, one_output, usage_written}
use Rattle.pvs_cli.proofs.SoundReports.{report_sound}
use Rattle.pvs_cli.proofs.SoundOutput.{truth_written}
use Rattle.pvs_cli.proofs.run.run.Goals as goal

pub returns-then-is_check-clause-written : goal.returns-then-is_check-clause-written
returns-then-is_check-clause-written g c = check_written _ _ _ _ _ c.check.result (c.is_check.ensures.0 c.if-is_check.true) c.check.ensures.written

pub returns-then-is_check-clause-only : goal.returns-then-is_check-clause-only
returns-then-is_check-clause-only g c = one_output c.one_answer.ensures.only _

pub returns-then-is_check-clause-sound : goal.returns-then-is_check-clause-sound
returns-then-is_check-clause-sound g c = report_sound c.one_answer.ensures.only

pub returns-then-is_check-clause-truth : goal.returns-then-is_check-clause-truth
returns-then-is_check-clause-truth g c check whole = truth_written c.one_answer.ensures.only _ _ _ _ c.check.result whole c.check.ensures.written

pub returns-else-is_check-clause-written : goal.returns-else-is_check-clause-written
returns-else-is_check-clause-written g c =
    usage_written _ _ _ _ c.write_usage.result (λ e. let h : false ≡ true = c.if-is_check.ensures.1 e in cc) c.write_usage.ensures.end c.write_usage.ensures.written

pub returns-else-is_check-clause-only : goal.returns-else-is_check-clause-only
returns-else-is_check-clause-only g c = one_output c.one_answer.ensures.only _

pub returns-else-is_check-clause-sound : goal.returns-else-is_check-clause-sound
returns-else-is_check-clause-sound g c = report_sound c.one_answer.ensures.only

pub returns-else-is_check-clause-truth : goal.returns-else-is_check-clause-truth
returns-else-is_check-clause-truth g c check whole = let h : false ≡ true = c.if-is_check.ensures.1 check in cc
