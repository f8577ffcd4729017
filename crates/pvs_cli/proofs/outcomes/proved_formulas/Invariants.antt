use Rattle.std.proofs.Common.{◌≡◌, ℕ, List, is_some, take}
use Rattle.std.specs.List.{list_any}
use Rattle.pvs_theory.specs.code.Index.{formula_value}
use Rattle.pvs_theory.specs.Names.{FormulaName}
use Rattle.pvs_terms.specs.Stored.{Stored}
use Rattle.pvs_cli.specs.code.Shown.{part_outcomes_shown}
use Rattle.pvs_cli.specs.Outcomes.{proves}
use Rattle.pvs_cli.proofs.outcomes.proved_formulas.Given as goal

-- the formulas that the proofs so far prove
abbrev pub invariant-loop-outcome : goal.invariant-loop-outcome
invariant-loop-outcome l = (s : Stored) (text : List ℕ) (n : FormulaName) → is_some (formula_value l.proved n) ≡ list_any (proves n) (part_outcomes_shown s text (take l.outcome-index l.outcomes))
