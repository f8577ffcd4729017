use Rattle.std.proofs.Common.{◌≡◌, drop}
use Rattle.pvs_terms.specs.Stored.{Extends}
use Rattle.pvs_theory.proofs.EntryLaws.{AreSoFar}
use Rattle.pvs_theory.proofs.entries.entries.Given as goal

-- the entries so far, and the declarations that are left
abbrev pub invariant-loop-decl : goal.invariant-loop-decl
invariant-loop-decl l = record {
  kept : Extends l.fn.store l.store;
  text : l.scope.text.now ≡ l.text;
  place : l.scope.at ≡ l.fn.at;
  so_far : AreSoFar l.store l.text l.fn.at l.scope.constants l.entries.items (drop l.decl-index l.decls) l.decls;
}
