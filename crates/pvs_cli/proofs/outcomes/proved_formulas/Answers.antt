use Rattle.std.proofs.Common.{◌<◌, ◌≤◌, ◌∙◌, ◌||◌, length, take, map, rules, ap, sym}
use Rattle.std.specs.List.{list_any}
use Rattle.std.proofs.lemmas.List.{take_all}
use Rattle.pvs_cli.specs.code.Shown.{part_outcome_shown, part_outcomes_shown}
use Rattle.pvs_cli.specs.Outcomes.{proves}
use Rattle.pvs_theory.proofs.IndexLaws.{any_push}
use Rattle.pvs_cli.proofs.Loops.{shown_more}
use Rattle.pvs_cli.proofs.outcomes.proved_formulas.Goals as goal

pub loop-outcome-preserved : goal.loop-outcome-preserved
loop-outcome-preserved c = λ s text n.
    let os = c.args.outcomes.now in
    let i = c.loop-outcome.outcome-index in
    let o = c.outcome-item.result in
    let inside : c.loop-outcome.outcome-index < length c.args.outcomes.now = search rules in
    c.in_ok-add_proved.ensures s text n
    ∙ (ap (λ b. b || proves n (part_outcome_shown s text o)) (c.loop-outcome.invariant s text n)
    ∙ sym (ap (list_any (proves n)) (shown_more (part_outcome_shown s text) os i o inside c.outcome-item.is) ∙ any_push (proves n) (map (part_outcome_shown s text) (take i os)) (part_outcome_shown s text o)))

pub returns : goal.returns
returns c = λ s text n.
    let os = c.args.outcomes.now in
    let past : length c.args.outcomes.now ≤ c.loop-outcome.outcome-index = search rules in
    c.loop-outcome.invariant s text n ∙ ap (λ xs. list_any (proves n) (part_outcomes_shown s text xs)) (take_all c.loop-outcome.outcome-index os past)
