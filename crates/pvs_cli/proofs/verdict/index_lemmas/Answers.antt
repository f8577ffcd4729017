use Rattle.std.proofs.Common.{◌<◌, ◌∙◌, length, take, rules, ap, sym}
use Rattle.pvs_cli.specs.code.LemmaIndex.{lemma_tree}
use Rattle.pvs_theory.specs.code.Shown.{part_shown, parts_shown}
use Rattle.pvs_cli.specs.Verdicts.{lemma_in}
use Rattle.pvs_cli.proofs.LemmaLaws.{parts_more}
use Rattle.pvs_cli.proofs.Loops.{shown_more}
use Rattle.pvs_theory.proofs.ShownLaws.{part_known}
use Rattle.pvs_cli.proofs.verdict.index_lemmas.Goals as goal

pub loop-part-preserved : goal.loop-part-preserved
loop-part-preserved c =
    let text = c.args.text.now in
    let ps = c.args.parts.now in
    let i = c.loop-part.part-index in
    let p = c.part-item.result in
    let inside : c.loop-part.part-index < length c.args.parts.now = search rules in
    record {
      trees = λ s n.
          parts_more (parts_shown s text (take i ps)) (part_shown s text p) n (lemma_tree s c.loop-part.formulas n) (lemma_tree s c.add_part.new.formulas n) (c.loop-part.invariant.trees s n) (c.in_ok-add_part.ensures.trees s n)
          ∙ ap (λ qs. lemma_in qs n) (sym (shown_more (part_shown s text) ps i p inside c.part-item.is));
      nodes = λ s known. c.in_ok-add_part.ensures.nodes s (c.loop-part.invariant.nodes s known) (part_known s ps i p known inside c.part-item.is);
    }
