use Rattle.std.proofs.Common.{length, rules, arith}
use Rattle.std.proofs.lemmas.Grind.{common_steps}
use Rattle.pvs_parser.specs.code.Nests.{bounded_reader}
use Rattle.pvs_parser.proofs.DescentTurns.{term_turn, term_end}
use Rattle.pvs_parser.proofs.descent.Descent.term.Goals as goal
use Rattle.pvs_parser.proofs.descent.Descent.term.Goals.{in-Some+in_ok-term-2, in_default+in-Some-after+in_ok-term-3}

pub returns-in_err-term-2 : goal.returns-in_err-term-2
returns-in_err-term-2 g c =
    let e = term_turn (bounded_reader c.args.self.now.room) (length c.args.tokens.now) c.loop.counter c.loop.is_closed c.loop.term c.loop.nesting c.loop.rest.now c.loop-test.true c.loop.invariant in
    first_of (search rules, grind (arith, common_steps))

pub returns-in_err-term-3 : goal.returns-in_err-term-3
returns-in_err-term-3 g c =
    let e = term_turn (bounded_reader c.args.self.now.room) (length c.args.tokens.now) c.loop.counter c.loop.is_closed c.loop.term c.loop.nesting c.loop.rest.now c.loop-test.true c.loop.invariant in
    first_of (search rules, grind (arith, common_steps))

pub returns-in_default-after : goal.returns-in_default-after
returns-in_default-after g c =
    let e = term_turn (bounded_reader c.args.self.now.room) (length c.args.tokens.now) c.loop.counter c.loop.is_closed c.loop.term c.loop.nesting c.loop.rest.now c.loop-test.true c.loop.invariant in
    first_of (search rules, grind (arith, common_steps))

pub loop-preserved : goal.loop-preserved
loop-preserved g c =
    let e = term_turn (bounded_reader c.args.self.now.room) (length c.args.tokens.now) c.loop.counter c.loop.is_closed c.loop.term c.loop.nesting c.loop.rest.now c.loop-test.true c.loop.invariant in
    elim c.match-after.branch [
      | in-Some+in_ok-term-2 w ↦ first_of (search rules, grind (arith, common_steps))
      | in_default+in-Some-after+in_ok-term-3 w ↦ first_of (search rules, grind (arith, common_steps))
    ]

pub returns : goal.returns
returns g c = term_end (bounded_reader c.args.self.now.room) (length c.args.tokens.now) c.loop.counter c.loop.is_closed c.loop.term c.loop.nesting c.loop.rest.now c.loop-test.false c.loop.invariant
