use Rattle.pvs_parser.specs.Language.{language_limit, outermost}
use Rattle.pvs_parser.specs.Units.{var_decl}
use Rattle.pvs_parser.specs.code.UnitDescent as spec
use Rattle.pvs_parser.proofs.Each.{are_more, are_all, rest_is}
use Rattle.std.proofs.Common.{arith}
use Rattle.pvs_parser.proofs.declarations.variables.Goals as goal

pub loop-name-preserved : goal.loop-name-preserved
loop-name-preserved c = record {
  found = rw (c.in_ok-push.ensures.ok) (are_more var_decl c.args.names.now c.loop-name.name-index _ (spec.type language_limit outermost c.args.tokens.now) c.loop-name.found c.in_ok-ty.ty c.in_ok-ty.behind.now c.loop-name-test.true c.loop-name.invariant.found c.in_ok-ty.ensures);
  rest = λ h. rest_is (spec.type language_limit outermost c.args.tokens.now) c.in_ok-ty.ty c.in_ok-ty.behind.now c.in_ok-ty.ensures;
}

pub returns : goal.returns
returns c =
    are_all var_decl c.args.names.now c.loop-name.name-index (spec.type language_limit outermost c.args.tokens.now) c.loop-name.found c.loop-name.rest.now
    c.loop-name-test.false c.loop-name.invariant.found (c.loop-name.invariant.rest (omega arith))
