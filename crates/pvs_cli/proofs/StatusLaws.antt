-- How a run ends that wrote a report.
use Rattle.std.proofs.Common.{◌≡◌, ◌||◌, List, [], ◌∷◌, ◌++◌, refl, ap}
use Rattle.std.specs.List.{list_any}
use Rattle.pvs_report.specs.declared.totals.Totals.{Totals}
use Rattle.pvs_report.specs.Lines.{Line, TotalLine, totals_of}
use Rattle.pvs_cli.specs.Output.{is_unfinished}
use Rattle.pvs_cli.specs.Reporting.{with_total}

total_is_finished : (t : Totals) (ls : List Line) → list_any is_unfinished (ls ++ TotalLine t ∷ []) ≡ list_any is_unfinished ls
total_is_finished t [] = refl
total_is_finished t (l ∷ ls) = ap (λ b. is_unfinished l || b) (total_is_finished t ls)

-- the last line says nothing of a formula that is open, and refuses nothing
pub total_ends_none : (ls : List Line) → list_any is_unfinished (with_total ls) ≡ list_any is_unfinished ls
total_ends_none ls = total_is_finished (totals_of ls) ls
