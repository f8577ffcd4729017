use Rattle.pvs_terms.specs.declared.shape.Sort.TheVariants.{OfType}
use Rattle.pvs_typing.proofs.GrowthLaws.{known_at}
use Rattle.pvs_elaboration.proofs.join.first_among.Goals as goal

pub is_among-requires-clause-ty : goal.is_among-requires-clause-ty
is_among-requires-clause-ty g c =
    let k = g.S.Scope.known c.args.scope.now in
    known_at k.stored k.declares OfType c.args.types.now c.loop-ty.ty-index c.ty-item.result c.requires.types c.loop-ty-test.true c.ty-item.is

pub returns-then-is_among-clause-known : goal.returns-then-is_among-clause-known
returns-then-is_among-clause-known g c =
    let k = g.S.Scope.known c.args.scope.now in
    known_at k.stored k.declares OfType c.args.types.now c.loop-ty.ty-index c.ty-item.result c.requires.types c.loop-ty-test.true c.ty-item.is
