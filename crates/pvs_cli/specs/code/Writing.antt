-- What the writing of a report writes, and how it may end.
use Rattle.std.specs.Prelude.{◌≡◌, ℕ, Bool, true, false, List, Option}
use Rattle.pvs_cli.specs.declared.status.Status.{Status}
use Rattle.pvs_cli.specs.declared.status.Status.TheVariants as status
use Rattle.pvs_report.specs.Lines.{Line, bytes_of}
use Rattle.pvs_cli.specs.Reporting.{IsReport}
use Rattle.pvs_cli.specs.Exposed.{OfInput}
use Rattle.pvs_cli.specs.Output.{WritesOutput, exit_status, text_of}

-- bytes are those of the report of a text, and a run that wrote them ends so
abbrev pub IsReportOf : List ℕ → List ℕ → Status → Type 0
IsReportOf text bytes end = (lines : List Line) × IsReport text lines × (bytes ≡ bytes_of lines) × (end ≡ exit_status lines)

-- the report of a text was written, or a proper prefix of it
abbrev pub WritesReportOf : List ℕ → Option (List ℕ) → Option (List ℕ) → Status → Type 0
WritesReportOf text before after result = WritesOutput (IsReportOf text) before after result

-- the report of the text of the input was written, or a proper prefix of it
abbrev pub WritesReport : Option (List ℕ) → Option (List ℕ) → Option (List ℕ) → Option (List ℕ) → Status → Type 0
WritesReport old new before after result = OfInput (λ input. WritesReportOf (text_of input) before after result) old new

-- how the writing of a report may end
abbrev pub ends_writing : Status → Bool
ends_writing status.Clean = true
ends_writing status.Unfinished = true
ends_writing status.OutputFault = true
ends_writing status.Memory = true
ends_writing _ = false

-- how a check may end
abbrev pub ends_check : Status → Bool
ends_check status.InputFault = true
ends_check end = ends_writing end
