use Rattle.std.proofs.Common.{◌<◌, ◌≤◌, ◌∙◌, ◌++◌, is_some, flat_map, length, take, map, rules, ap, sym}
use Rattle.std.proofs.lemmas.List.{take_all}
use Rattle.pvs_theory.specs.code.Index.{formula_value}
use Rattle.pvs_cli.specs.code.LemmaIndex.{word_in}
use Rattle.pvs_cli.specs.code.Shown.{part_outcome_shown, part_outcomes_shown}
use Rattle.pvs_cli.specs.Reporting.{part_lines}
use Rattle.pvs_cli.proofs.OutcomeLaws.{same_words}
use Rattle.pvs_cli.proofs.Loops.{shown_more}
use Rattle.pvs_theory.proofs.Loops.{flat_push}
use Rattle.pvs_cli.proofs.report.outcome_lines.Goals as goal

pub loop-outcome-preserved : goal.loop-outcome-preserved
loop-outcome-preserved c = λ s.
    let text = c.args.text.now in
    let os = c.args.outcomes.now in
    let i = c.loop-outcome.outcome-index in
    let o = c.outcome-item.result in
    let word = word_in c.in_ok-proved.proved in
    let inside : c.loop-outcome.outcome-index < length c.args.outcomes.now = search rules in
    c.in_ok-push_part.ensures s
    ∙ (ap (λ ls. ls ++ part_lines word (part_outcome_shown s text o)) (c.loop-outcome.invariant s)
    ∙ sym (ap (flat_map (part_lines word)) (shown_more (part_outcome_shown s text) os i o inside c.outcome-item.is) ∙ flat_push (part_lines word) (map (part_outcome_shown s text) (take i os)) (part_outcome_shown s text o)))

pub returns : goal.returns
returns c = λ s.
    let text = c.args.text.now in
    let os = c.args.outcomes.now in
    let proved = c.in_ok-proved.proved in
    let past : length c.args.outcomes.now ≤ c.loop-outcome.outcome-index = search rules in
    c.loop-outcome.invariant s
    ∙ (ap (λ xs. flat_map (part_lines (word_in proved)) (part_outcomes_shown s text xs)) (take_all c.loop-outcome.outcome-index os past)
    ∙ ap (λ w. flat_map (part_lines w) (part_outcomes_shown s text os)) (same_words (λ n. is_some (formula_value proved n)) (part_outcomes_shown s text os) (c.in_ok-proved.ensures s text)))
