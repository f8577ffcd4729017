use Rattle.std.proofs.Common.{subst, sym, arith}
use Rattle.pvs_cli.proofs.OutputLaws.{AddsUpTo, given_more}
use Rattle.pvs_cli.proofs.Loops.{rest_whole}
use Rattle.pvs_cli.proofs.output.give_all.Goals as goal

pub loop-rest-preserved : goal.loop-rest-preserved
loop-rest-preserved g c = record {
  given = subst (AddsUpTo (g.K.Sink.written c.args.sink.now) (g.K.Sink.written c.give.new.self) c.args.bytes.now) (sym (rest_whole c.loop-rest.rest.now c.in-Bytes.n)) (given_more _ _ _ _ _ c.in-Bytes.n c.loop-rest.invariant.given c.in-Bytes.ensures.bytes);
  later = omega (arith, c.loop-rest.invariant.later, c.in-Bytes.ensures.cause.later);
}
