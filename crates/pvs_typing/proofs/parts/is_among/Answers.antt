use Rattle.pvs_terms.specs.declared.shape.Sort.TheVariants.{OfType}
use Rattle.pvs_typing.proofs.GrowthLaws.{known_at}
use Rattle.pvs_typing.proofs.parts.is_among.Goals as goal

pub is_same-requires-clause-second : goal.is_same-requires-clause-second
is_same-requires-clause-second g c =
    let t = g.T.Theories in
    (known_at (t.state c.args.theories.now).stored ((t.state c.args.theories.now).declares c.args.theory) OfType c.args.types.now c.loop-above.above-index c.above-item.result c.requires.types c.loop-above-test.true c.above-item.is).node
