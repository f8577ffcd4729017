use Rattle.std.proofs.Common.{arith}
use Rattle.pvs_parser.specs.Language.{language_limit, IsBelow}
use Rattle.pvs_parser.proofs.WholeUnits as whole
use Rattle.pvs_parser.proofs.grammar.one_unit.Goals as goal

some_bounded : IsBelow language_limit 0
some_bounded = omega arith

pub returns : goal.returns
returns c = whole.one_unit language_limit some_bounded
