use Rattle.std.proofs.Common.{take}
use Rattle.pvs_terms.specs.Stored.{Stored}
use Rattle.pvs_cli.specs.code.LemmaIndex.{HasLemmas, HasNodes}
use Rattle.pvs_theory.specs.code.Shown.{ArePartsOf, parts_shown}
use Rattle.pvs_cli.proofs.verdict.index_lemmas.Given as goal

-- the index has the lemmas of the parts so far
abbrev pub invariant-loop-part : goal.invariant-loop-part
invariant-loop-part l = record {
  trees : (s : Stored) → HasLemmas s l.formulas (parts_shown s l.text (take l.part-index l.parts));
  nodes : (s : Stored) → ArePartsOf s l.parts → HasNodes s l.formulas;
}
