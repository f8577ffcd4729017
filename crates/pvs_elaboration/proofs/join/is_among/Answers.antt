use Rattle.pvs_terms.specs.declared.shape.Sort.TheVariants.{OfType}
use Rattle.pvs_typing.proofs.GrowthLaws.{known_at}
use Rattle.pvs_elaboration.proofs.join.is_among.Goals as goal

pub is_same-requires-clause-second : goal.is_same-requires-clause-second
is_same-requires-clause-second g c =
    let k = g.S.Scope.known c.args.scope.now in
    known_at k.stored k.declares OfType c.args.types.now c.loop-above.above-index c.above-item.result c.requires.types c.loop-above-test.true c.above-item.is
