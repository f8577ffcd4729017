use Rattle.pvs_terms.specs.declared.shape.Sort.TheVariants.{OfType}
use Rattle.pvs_typing.proofs.GrowthLaws.{known_at}
use Rattle.pvs_typing.proofs.rows.first_common.Goals as goal

pub is_among-requires-clause-ty : goal.is_among-requires-clause-ty
is_among-requires-clause-ty g c =
    (known_at (g.T.Theories.state c.args.theories.now).stored ((g.T.Theories.state c.args.theories.now).declares c.args.theory) OfType c.args.types.now c.loop-ty.ty-index c.ty-item.result c.requires.types c.loop-ty-test.true c.ty-item.is).node

pub returns-then-is_among-clause-known : goal.returns-then-is_among-clause-known
returns-then-is_among-clause-known g c =
    known_at (g.T.Theories.state c.args.theories.now).stored ((g.T.Theories.state c.args.theories.now).declares c.args.theory) OfType c.args.types.now c.loop-ty.ty-index c.ty-item.result c.requires.types c.loop-ty-test.true c.ty-item.is
