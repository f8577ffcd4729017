use Rattle.std.proofs.Common.{arith}
use Rattle.std.proofs.lemmas.Grind.{common_steps}
use Rattle.pvs_cli.proofs.InputLaws.{chunk_lost}
use Rattle.pvs_cli.proofs.input.read_chunk.Goals as goal

pub returns-in-Err-clause-taken : goal.returns-in-Err-clause-taken
returns-in-Err-clause-taken g c = chunk_lost c.args.most _ _ c.in-Bytes.n c.take.new.into _ _ (grind (arith, common_steps, c.in-Bytes.ensures.count.within)) c.in-Bytes.ensures.bytes
