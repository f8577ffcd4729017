use Rattle.std.proofs.Common.{take}
use Rattle.pvs_terms.specs.Stored.{Extends}
use Rattle.pvs_theory.specs.code.Index.{HasNames}
use Rattle.pvs_theory.specs.code.Shown.{AreParts}
use Rattle.pvs_theory.specs.Theories.{parts_of, theory_names}
use Rattle.pvs_theory.proofs.theories.parts.Given as goal

-- the parts of the items so far, and the names of the theories among them
abbrev pub invariant-loop-item : goal.invariant-loop-item
invariant-loop-item l = record {
  kept : Extends l.fn.store l.store;
  names : HasNames l.names (theory_names l.text (take l.item-index l.items));
  parts : AreParts l.store l.text (parts_of l.text (take l.item-index l.items)) l.parts.items;
}
