use Rattle.std.proofs.Common.{rules, arith}
use Rattle.std.proofs.lemmas.Grind.{common_steps}
use Rattle.pvs_script.specs.code.Reading.{read_span}
use Rattle.pvs_script.proofs.Turns.{token_next}
use Rattle.pvs_script.proofs.reading.read_span.Goals as goal

pub returns-in_err-state : goal.returns-in_err-state
unfolding read_span
returns-in_err-state c =
    let e = token_next c.args.pos c.args.span.now c.loop-answer.lexer c.in-Ok.token c.loop-answer.state (rw c.in-Ok.is at c.in-Some.ensures.answer) in
    first_of (search rules, grind (arith, common_steps))

pub loop-answer-preserved : goal.loop-answer-preserved
unfolding read_span
loop-answer-preserved c =
    let e = token_next c.args.pos c.args.span.now c.loop-answer.lexer c.in-Ok.token c.loop-answer.state (rw c.in-Ok.is at c.in-Some.ensures.answer) in
    first_of (search rules, grind (arith, common_steps))
