use Rattle.pvs_scripts.proofs.HeldTokens.{answers_quote}
use Rattle.pvs_scripts.proofs.quotes.quote.Goals as goal

pub returns : goal.returns
returns c = answers_quote c.args.text.now c.args.word c.parse_expr.result c.parse_expr.ensures.answer
