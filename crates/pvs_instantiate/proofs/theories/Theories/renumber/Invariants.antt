use Rattle.std.proofs.Common.{◌≡◌, length}
use Rattle.pvs_instantiate.specs.Standing.{numbered}
use Rattle.pvs_instantiate.proofs.theories.Theories.renumber.Given as goal

abbrev pub invariant-loop-i : goal.invariant-loop-i
invariant-loop-i l = record {
  count : l.count ≡ length l.initial.self-inside.entries.entries;
  numbered : l.self-inside.entries.entries ≡ numbered 0 l.i l.initial.self-inside.entries.entries;
}
