use Rattle.std.proofs.Common.{◌≡◌, ◌∙◌, ℕ, List, OnOk, ap, ap₂, subst, sym}
use Rattle.std.specs.Option.{option_or}
use Rattle.pvs_theory.specs.Entries.{Entry}
use Rattle.pvs_theory.specs.Theories.{Part, Accepted}
use Rattle.pvs_theory.specs.code.Shown.{entries_shown, part_shown}
use Rattle.pvs_cli.specs.code.LemmaIndex.{lemma_tree}
use Rattle.pvs_cli.specs.Verdicts.{part_lemma}
use Rattle.pvs_cli.proofs.verdict.add_part.Goals as goal

pub returns-in-Accepted-clause-trees : goal.returns-in-Accepted-clause-trees
returns-in-Accepted-clause-trees c = λ s n.
    let same : Accepted c.spelling_of.result.now (entries_shown s c.args.text.now c.deref.result.now) ≡ part_shown s c.args.text.now c.args.part.now =
    ap₂ (λ (t : List ℕ) (es : List Entry). Accepted t es) c.spelling_of.ensures (ap (entries_shown s c.args.text.now) c.deref.ensures.value) ∙ sym (ap (part_shown s c.args.text.now) c.in-Accepted.is) in
    subst (λ (p : Part). OnOk c.add_lemmas.result (lemma_tree s c.add_lemmas.new.formulas n ≡ option_or (lemma_tree s c.args.formulas.now n) (part_lemma p n))) same (c.add_lemmas.ensures.trees s n)
