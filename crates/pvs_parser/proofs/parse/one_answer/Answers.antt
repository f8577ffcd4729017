use Rattle.pvs_parser.proofs.Texts.{one_answer, has_answer}
use Rattle.pvs_parser.proofs.parse.one_answer.Goals as goal

pub returns-clause-some : goal.returns-clause-some
returns-clause-some c = has_answer

pub returns-clause-only : goal.returns-clause-only
returns-clause-only c = one_answer
