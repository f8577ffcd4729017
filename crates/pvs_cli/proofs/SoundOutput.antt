-- What was written as the report of an input prints as complete only what is true.
use Rattle.std.proofs.Common.{◌≡◌, ◌∙◌, ◌++◌, ℕ, true, List, Option, Some, None, ap, subst}
use Rattle.pvs_cli.specs.declared.status.Status.{Status}
use Rattle.pvs_cli.specs.Output.{Adds, WritesOutput, has_whole_output, text_of}
use Rattle.pvs_cli.specs.code.Writing.{IsReportOf, WritesReport}
use Rattle.pvs_cli.proofs.ReportOf.{OneAnswer}
use Rattle.pvs_cli.specs.Soundness.{AddsTruth, WritesTruth}
use Rattle.pvs_cli.proofs.SoundReports.{report_sound}

truth_added : OneAnswer → (text : List ℕ) (before after : Option (List ℕ)) (bytes : List ℕ) (end : Status) → IsReportOf text bytes end → Adds before after true bytes → AddsTruth text before after
truth_added one text None None bytes end r a = a
truth_added one text None (Some d) bytes end r a = a
truth_added one text (Some b) None bytes end r a = a
truth_added one text (Some b) (Some d) bytes end r a = (r.0, r.1, a ∙ ap (λ (xs : List ℕ). b ++ xs) r.2, report_sound one text r.0 r.1)

truth_output : OneAnswer → (text : List ℕ) (before after : Option (List ℕ)) (result : Status) → has_whole_output result ≡ true → WritesOutput (IsReportOf text) before after result → AddsTruth text before after
truth_output one text before after result whole w = truth_added one text before after w.bytes w.end w.meant (subst (λ b. Adds before after b w.bytes) whole w.added)

pub truth_written : OneAnswer → (old new before after : Option (List ℕ)) (result : Status) → has_whole_output result ≡ true → WritesReport old new before after result → WritesTruth old new before after
truth_written one None None before after result whole w =
    (w.0, w.1, truth_output one (text_of w.0) before after result whole w.2)
truth_written one None (Some l) before after result whole w = w
truth_written one (Some a) None before after result whole w = w
truth_written one (Some a) (Some l) before after result whole w = truth_output one (text_of a) before after result whole w
