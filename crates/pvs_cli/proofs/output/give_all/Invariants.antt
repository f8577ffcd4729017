use Rattle.std.proofs.Common.{◌≤◌, length}
use Rattle.pvs_cli.proofs.OutputLaws.{AddsUpTo}
use Rattle.pvs_cli.proofs.output.give_all.Given as goal

-- the bytes before the rest were given
abbrev pub invariant-loop-rest : goal.invariant-loop-rest
invariant-loop-rest g l = record {
  given : AddsUpTo (g.K.Sink.written l.fn.sink) (g.K.Sink.written l.sink) l.bytes l.rest;
  later : g.K.Sink.faults l.fn.sink ≤ g.K.Sink.faults l.sink;
}

-- each turn gives at least one byte
abbrev pub decreases-loop-rest : goal.decreases-loop-rest
decreases-loop-rest g l = length l.rest
