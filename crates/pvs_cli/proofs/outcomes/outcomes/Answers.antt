use Rattle.std.proofs.Common.{◌≡◌, ◌<◌, ◌∙◌, ◌++◌, ◌∷◌, [], length, take, map, rules, ap, sym}
use Rattle.std.proofs.lemmas.List.{map-append}
use Rattle.pvs_script.specs.code.Reading.{script_of}
use Rattle.pvs_theory.specs.Names.{is_listed}
use Rattle.pvs_cli.specs.code.Shown.{part_outcome_shown, plain}
use Rattle.pvs_theory.specs.code.Shown.{part_shown, parts_shown}
use Rattle.pvs_cli.specs.Outcomes.{names_in, outcomes_after, part_outcome}
use Rattle.pvs_cli.proofs.Loops.{shown_more}
use Rattle.pvs_theory.proofs.Loops.{flat_push}
use Rattle.pvs_cli.proofs.OutcomeLaws.{names_of, outcomes_push}
use Rattle.pvs_cli.proofs.outcomes.outcomes.Goals as goal

pub loop-part-preserved : goal.loop-part-preserved
loop-part-preserved c =
    let s = c.args.store.now in
    let text = c.args.text.now in
    let ps = c.args.parts.now in
    let i = c.loop-part.part-index in
    let p = part_shown s text c.part-item.result in
    let all = parts_shown s text ps in
    let before = parts_shown s text (take i ps) in
    let seen = c.loop-part.invariant in
    let inside : c.loop-part.part-index < length c.args.parts.now = search rules in
    let more = shown_more (part_shown s text) ps i c.part-item.result inside c.part-item.is in
    let new = c.in_ok-part_outcome.field-0 in
    let outcome : part_outcome_shown s text c.in_ok-part_outcome.field-0 ≡ plain (part_outcome script_of all (names_of before) p) = c.in_ok-part_outcome.ensures.outcome all (names_of before) (c.in_ok-lemmas.ensures.lemmas s) seen.named in
    record {
      named = λ n. c.in_ok-part_outcome.ensures.names (names_of before) seen.named n ∙ ap (is_listed n) (sym (ap names_of more ∙ flat_push names_in before p));
      outcomes =
          ap (map (part_outcome_shown s text)) c.in_ok-push.ensures.items
          ∙ map-append (part_outcome_shown s text) c.loop-part.outcomes.items (new ∷ [])
          ∙ ap (λ os. os ++ part_outcome_shown s text new ∷ []) seen.outcomes
          ∙ ap (λ o. map plain (outcomes_after script_of all [] before) ++ o ∷ []) outcome
          ∙ sym (map-append plain (outcomes_after script_of all [] before) (part_outcome script_of all (names_of before) p ∷ []))
          ∙ ap (map plain) (sym (outcomes_push script_of all [] before p) ∙ ap (outcomes_after script_of all []) (sym more));
    }

pub part_outcome-requires-clause-nodes : goal.part_outcome-requires-clause-nodes
part_outcome-requires-clause-nodes c = c.in_ok-lemmas.ensures.nodes c.args.store.now c.requires.nodes
