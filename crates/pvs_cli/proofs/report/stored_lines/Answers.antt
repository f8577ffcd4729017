use Rattle.std.proofs.Common.{◌∙◌, [], map, sym, ap, subst}
use Rattle.std.proofs.lemmas.Result.{IfOk-weaker}
use Rattle.std.specs.List.{All}
use Rattle.pvs_cli.specs.code.Shown.{IsPartIn}
use Rattle.pvs_script.specs.code.Reading.{script_of}
use Rattle.pvs_cli.specs.Outcomes.{outcomes_of}
use Rattle.pvs_cli.specs.Reporting.{outcome_lines}
use Rattle.pvs_theory.specs.Theories.{parts_of}
use Rattle.pvs_cli.specs.code.Shown.{part_outcomes_shown, plain}
use Rattle.pvs_cli.proofs.OutcomeLaws.{plain_lines}
use Rattle.pvs_theory.specs.code.Shown.{part_shown, parts_shown}
use Rattle.pvs_cli.proofs.PartLaws.{all_from_map, parts_in}
use Rattle.pvs_cli.proofs.report.stored_lines.Goals as goal

pub outcomes-requires-clause-spans : goal.outcomes-requires-clause-spans
outcomes-requires-clause-spans c =
    let text = c.args.text.now in
    let s = c.parts.new.store in
    subst (All (λ p. IsPartIn (part_shown s text p))) (sym c.deref.ensures.value)
    (all_from_map IsPartIn (part_shown s text) c.in_ok-parts.parts.items (subst (All IsPartIn) (sym c.in_ok-parts.ensures.parts.are) (parts_in text [] c.args.items.now c.requires.spans)))

pub returns : goal.returns
returns c =
    let text = c.args.text.now in
    let s = c.parts.new.store in
    let os =
    ap (part_outcomes_shown s text) c.deref-2.ensures.value
    ∙ c.in_ok-outcomes.ensures
    ∙ ap (λ qs. map plain (outcomes_of script_of qs)) (ap (parts_shown s text) c.deref.ensures.value ∙ c.in_ok-parts.ensures.parts.are)
    in
    IfOk-weaker c.outcome_lines.result _ _ (λ v h. h ∙ ap outcome_lines os ∙ plain_lines (outcomes_of script_of (parts_of text c.args.items.now))) (c.outcome_lines.ensures s)
