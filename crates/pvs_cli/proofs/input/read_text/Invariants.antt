use Rattle.std.proofs.Common.{◌≤◌, ◌+◌, ◌-◌, ◌^◌, vec_len}
use Rattle.pvs_cli.proofs.InputLaws.{Consumes}
use Rattle.pvs_cli.proofs.input.read_text.Given as goal

-- the text so far was taken
abbrev pub invariant-loop-src : goal.invariant-loop-src
invariant-loop-src g l = record {
  taken : Consumes (g.S.Source.left l.fn.src) (g.S.Source.left l.src) l.text.items;
  len : vec_len l.text ≤ 2 ^ 20 + 1;
  later : g.S.Source.faults l.fn.src ≤ g.S.Source.faults l.src;
}

-- each turn takes at least one byte
abbrev pub decreases-loop-src : goal.decreases-loop-src
decreases-loop-src g l = 2 ^ 20 + 1 - vec_len l.text
