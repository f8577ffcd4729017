use Rattle.std.proofs.Common.{◌≡◌, take}
use Rattle.pvs_terms.specs.Stored.{Stored}
use Rattle.pvs_cli.specs.code.LemmaIndex.{HasNodes, lemma_tree}
use Rattle.pvs_theory.specs.Names.{FormulaName}
use Rattle.pvs_theory.specs.code.Shown.{AreEntriesOf, entries_shown}
use Rattle.std.specs.Option.{option_or}
use Rattle.pvs_theory.specs.Theories.{Accepted}
use Rattle.pvs_cli.specs.Verdicts.{part_lemma}
use Rattle.pvs_cli.proofs.verdict.add_lemmas.Given as goal

-- the lemmas of the entries so far are added
abbrev pub invariant-loop-entry : goal.invariant-loop-entry
invariant-loop-entry l = record {
  trees : (s : Stored) (n : FormulaName) → lemma_tree s l.formulas n ≡ option_or (lemma_tree s l.fn.formulas n) (part_lemma (Accepted l.theory (entries_shown s l.text (take l.entry-index l.entries))) n);
  nodes : (s : Stored) → HasNodes s l.fn.formulas → AreEntriesOf s l.entries → HasNodes s l.formulas;
}
