use Rattle.std.proofs.Common.{refl, arith, ◌+◌, ◌-◌}
use Rattle.pvs_cli.proofs.InputLaws.{text_ended, text_full, text_lost}
use Rattle.pvs_cli.proofs.input.read_text.Goals as goal

pub returns-in-End-clause-taken : goal.returns-in-End-clause-taken
returns-in-End-clause-taken g c =
    text_ended 1048577 (1048576 + 1 - c.len-in-loop-src.result) _ (g.S.Source.left c.loop-src.src) _ c.loop-src.text.items c.read_chunk.new.text.items
    c.loop-src.invariant.taken c.in-End.ensures.taken (c.in-End.ensures.end refl) (omega (arith, c.read_chunk.new.text.ok.0, c.loop-src.text.ok.0, c.in-End.ensures.most))

pub returns-in-Memory-clause-taken : goal.returns-in-Memory-clause-taken
returns-in-Memory-clause-taken g c =
    text_lost 1048577 (1048576 + 1 - c.len-in-loop-src.result) _ (g.S.Source.left c.loop-src.src) _ c.loop-src.text.items c.read_chunk.new.text.items
    c.loop-src.invariant.taken c.in-Memory.ensures.taken (omega (arith, c.loop-src.text.ok.0))

pub returns-clause-taken : goal.returns-clause-taken
returns-clause-taken g c = text_full 1048577 _ _ c.loop-src.text.items c.loop-src.invariant.taken (omega (arith, c.loop-src.text.ok.0))
