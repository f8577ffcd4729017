use Rattle.pvs_lexer.specs.Tokens.{tokens_of}
use Rattle.pvs_lexer.proofs.SpanLaws.{tokens_are}
use Rattle.pvs_lexer.proofs.lexer.Lexer.new.Goals as goal

pub returns-clause-each : goal.returns-clause-each
unfolding tokens_of
returns-clause-each c = tokens_are c.args.pos c.args.text.now
