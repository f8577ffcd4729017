use Rattle.std.proofs.Common.{◌≡◌, [], drop, take}
use Rattle.pvs_theory.specs.code.Index.{HasNames}
use Rattle.pvs_theory.specs.Theories.{constant_names, first_repeated, formula_names}
use Rattle.pvs_theory.proofs.distinct.first_repeated.Given as goal

-- the names so far are seen, and none of them is repeated
abbrev pub invariant-loop-decl : goal.invariant-loop-decl
invariant-loop-decl l = record {
  constants : HasNames l.constants (constant_names l.text (take l.decl-index l.decls));
  formulas : HasNames l.formulas (formula_names l.text (take l.decl-index l.decls));
  first : first_repeated l.text (take l.decl-index l.decls) (drop l.decl-index l.decls) ≡ first_repeated l.text [] l.decls;
}
