use Rattle.std.proofs.Common.{◌∙◌, ap, arith, sym, Some, Ok, length, length-drop}
use Rattle.std.proofs.lemmas.List.{take_rest}
use Rattle.pvs_lexer.specs.declared.token.Token.{Token}
use Rattle.pvs_lexer.specs.Answers.{answer_of, after_answer}
use Rattle.pvs_lexer.proofs.TokenLaws.{found_step}
use Rattle.pvs_lexer.proofs.lexer.Lexer.next.Goals as goal

pub past-self-inside-requires-clause-within : goal.past-self-inside-requires-clause-within
past-self-inside-requires-clause-within c =
    let rest = c.past_blanks-cursor.result.rest.now in
    omega (arith, c.in-Some.ensures.within.1, ap length (take_rest rest 1), length-drop 1 rest)

pub returns-in-Some-clause-answer : goal.returns-in-Some-clause-answer
returns-in-Some-clause-answer c =
    let cursor = c.past_blanks-cursor.result in
    let found = found_step cursor.offset cursor.pos cursor.rest.now c.in-Some.kind c.in-Some.size c.past_blanks-cursor.ensures.stops c.in-len1-up.len_at_least c.in-Some.ensures.value c.in-Some.ensures.within.0 in
    ap (λ e. let t : Token = record { kind = c.in-Some.kind; start = cursor.offset; end = e; pos = cursor.pos } in Some (Ok t)) c.past-self-inside.ensures.offset
    ∙ sym (ap answer_of (sym c.self.view_is ∙ sym c.past_blanks-cursor.ensures.same ∙ found))

pub returns-in-Some-clause-rest : goal.returns-in-Some-clause-rest
returns-in-Some-clause-rest c =
    let cursor = c.past_blanks-cursor.result in
    let found = found_step cursor.offset cursor.pos cursor.rest.now c.in-Some.kind c.in-Some.size c.past_blanks-cursor.ensures.stops c.in-len1-up.len_at_least c.in-Some.ensures.value c.in-Some.ensures.within.0 in
    c.past-self-inside.ensures.same ∙ sym (ap after_answer (sym c.self.view_is ∙ sym c.past_blanks-cursor.ensures.same ∙ found))
