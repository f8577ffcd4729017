use Rattle.pvs_parser.proofs.OneExpression.{one_expr}
use Rattle.pvs_parser.proofs.grammar.one_expression.Goals as goal

pub returns : goal.returns
returns c = one_expr
