use Rattle.std.proofs.Common.{◌<◌, ◌∙◌, length, take, rules, ap, sym}
use Rattle.pvs_cli.specs.code.LemmaIndex.{lemma_tree}
use Rattle.pvs_theory.specs.code.Shown.{entries_shown, entry_shown}
use Rattle.std.specs.Option.{option_or}
use Rattle.pvs_theory.specs.Theories.{Accepted}
use Rattle.pvs_cli.specs.Verdicts.{part_lemma}
use Rattle.pvs_cli.proofs.LemmaLaws.{entries_more}
use Rattle.pvs_cli.proofs.Loops.{shown_more}
use Rattle.pvs_theory.proofs.ShownLaws.{entry_known}
use Rattle.pvs_cli.proofs.verdict.add_lemmas.Goals as goal

pub loop-entry-preserved : goal.loop-entry-preserved
loop-entry-preserved c =
    let text = c.args.text.now in
    let es = c.args.entries.now in
    let i = c.loop-entry.entry-index in
    let e = c.entry-item.result in
    let inside : c.loop-entry.entry-index < length c.args.entries.now = search rules in
    record {
      trees = λ s n.
          entries_more c.args.theory.now (entries_shown s text (take i es)) (entry_shown s text e) n (lemma_tree s c.args.formulas.now n) (lemma_tree s c.loop-entry.formulas n) (lemma_tree s c.add_lemma.new.formulas n) (c.loop-entry.invariant.trees s n) (c.in_ok-add_lemma.ensures.trees s n)
          ∙ ap (λ fs. option_or (lemma_tree s c.args.formulas.now n) (part_lemma (Accepted c.args.theory.now fs) n)) (sym (shown_more (entry_shown s text) es i e inside c.entry-item.is));
      nodes = λ s was known. c.in_ok-add_lemma.ensures.nodes s (c.loop-entry.invariant.nodes s was known) (entry_known s es i e known inside c.entry-item.is);
    }
