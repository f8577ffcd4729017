use Rattle.std.proofs.Common.{All, false, sym, ap, subst, arith}
use Rattle.pvs_scripts.specs.declared.state.State.TheVariants as state
use Rattle.pvs_parser.specs.code.Reading.{Returns}
use Rattle.pvs_scripts.specs.code.Reading.{read_script, read_tokens, take_token}
use Rattle.pvs_scripts.proofs.Spans.{IsTokenIn, all_in, next_in, quote_fits, line_fits, col_fits}
use Rattle.pvs_scripts.proofs.Turns.{turned}
use Rattle.pvs_scripts.proofs.reading.read_script.Goals as goal

pub loop-answer-init : goal.loop-answer-init
unfolding read_script
loop-answer-init c = (
  ap (λ z. read_tokens c.args.text.now c.args.offset c.args.pos c.args.span.now false z state.Start) (sym c.new-lexer.ensures.tokens),
  all_in c.args.pos c.args.span.now 0 c.new-lexer.result.tokens c.new-lexer.ensures.spans c.new-lexer.ensures.each,
)

pub take_token-requires-clause-order : goal.take_token-requires-clause-order
take_token-requires-clause-order c =
    let e = rw c.in-Ok.is at c.in-Some.ensures.answer in
    let i = next_in c.args.pos c.args.span.now c.loop-answer.lexer c.in-Ok.token c.loop-answer.invariant.1 e in
    quote_fits c.args.pos c.args.span.now c.in-Ok.token c.loop-answer.after_nonempty c.args.offset c.lexeme-lexeme.result i.0 c.lexeme-lexeme.ensures

pub take_token-requires-clause-line : goal.take_token-requires-clause-line
take_token-requires-clause-line c =
    let e = rw c.in-Ok.is at c.in-Some.ensures.answer in
    let i = next_in c.args.pos c.args.span.now c.loop-answer.lexer c.in-Ok.token c.loop-answer.invariant.1 e in
    line_fits c.args.pos c.args.span.now c.in-Ok.token c.loop-answer.after_nonempty c.args.offset c.lexeme-lexeme.result i.0 c.lexeme-lexeme.ensures c.requires.line
    (omega (arith, c.requires.within, c.requires.size))

pub take_token-requires-clause-col : goal.take_token-requires-clause-col
take_token-requires-clause-col c =
    let e = rw c.in-Ok.is at c.in-Some.ensures.answer in
    let i = next_in c.args.pos c.args.span.now c.loop-answer.lexer c.in-Ok.token c.loop-answer.invariant.1 e in
    col_fits c.args.pos c.args.span.now c.in-Ok.token c.loop-answer.after_nonempty c.args.offset c.lexeme-lexeme.result i.0 c.lexeme-lexeme.ensures c.requires.col
    (omega (arith, c.requires.within, c.requires.size))

pub loop-answer-preserved : goal.loop-answer-preserved
loop-answer-preserved c =
    let e = rw c.in-Ok.is at c.in-Some.ensures.answer in
    let i = next_in c.args.pos c.args.span.now c.loop-answer.lexer c.in-Ok.token c.loop-answer.invariant.1 e in
    let took = subst (λ z. Returns z (take_token c.args.text.now c.loop-answer.state c.lexeme-lexeme.result)) c.in_ok-state.was c.take_token.ensures in (
      turned c.args.text.now c.args.offset c.args.pos c.args.span.now c.loop-answer.after_nonempty c.loop-answer.lexer c.in-Ok.token c.loop-answer.state c.lexeme-lexeme.result c.in_ok-state.state
          c.is_nonempty_type-after_nonempty.result c.next.new.self (read_script c.args.text.now c.args.offset c.args.pos c.args.span.now) c.loop-answer.invariant.0 e c.next.ensures.rest c.lexeme-lexeme.ensures
          c.is_nonempty_type-after_nonempty.ensures took,
      subst (λ z. All (IsTokenIn c.args.pos c.args.span.now) z.tokens) (sym c.next.ensures.rest) i.1,
    )
