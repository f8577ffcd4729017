use Rattle.pvs_parser.proofs.FirstTokens.{expr_starts, type_starts, name_starts}
use Rattle.pvs_parser.proofs.grammar.first_tokens.Goals as goal

pub returns-clause-exprs : goal.returns-clause-exprs
returns-clause-exprs c = expr_starts

pub returns-clause-types : goal.returns-clause-types
returns-clause-types c = type_starts

pub returns-clause-names : goal.returns-clause-names
returns-clause-names c = name_starts
