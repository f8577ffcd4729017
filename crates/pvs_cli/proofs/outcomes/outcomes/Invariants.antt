use Rattle.std.proofs.Common.{◌≡◌, [], map, take}
use Rattle.pvs_script.specs.code.Reading.{script_of}
use Rattle.pvs_theory.specs.code.Index.{HasFormulas}
use Rattle.pvs_cli.specs.code.Shown.{part_outcomes_shown, plain}
use Rattle.pvs_theory.specs.code.Shown.{parts_shown}
use Rattle.pvs_cli.specs.Outcomes.{outcomes_after}
use Rattle.pvs_cli.proofs.OutcomeLaws.{names_of}
use Rattle.pvs_cli.proofs.outcomes.outcomes.Given as goal

-- the outcomes of the parts so far, and the formulas that the proofs among them name
abbrev pub invariant-loop-part : goal.invariant-loop-part
invariant-loop-part l = record {
  named : HasFormulas l.named (names_of (parts_shown l.store l.text (take l.part-index l.parts)));
  outcomes : part_outcomes_shown l.store l.text l.outcomes.items ≡ map plain (outcomes_after script_of (parts_shown l.store l.text l.parts) [] (parts_shown l.store l.text (take l.part-index l.parts)));
}
