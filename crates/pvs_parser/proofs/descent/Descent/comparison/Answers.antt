use Rattle.std.proofs.Common.{length, rules, arith}
use Rattle.std.proofs.lemmas.Grind.{common_steps}
use Rattle.pvs_parser.specs.code.Nests.{bounded_reader}
use Rattle.pvs_parser.proofs.DescentTurns.{compared_turn, compared_end}
use Rattle.pvs_parser.proofs.descent.Descent.comparison.Goals as goal

pub returns-in_default : goal.returns-in_default
returns-in_default g c =
    let e = compared_turn (bounded_reader c.args.self.now.room) (length c.args.tokens.now) c.loop.counter c.loop.left c.loop.nesting c.loop.rest.now c.loop-test.true c.loop.invariant in
    first_of (search rules, grind (arith, common_steps))

pub returns-in_err-inner : goal.returns-in_err-inner
returns-in_err-inner g c =
    let e = compared_turn (bounded_reader c.args.self.now.room) (length c.args.tokens.now) c.loop.counter c.loop.left c.loop.nesting c.loop.rest.now c.loop-test.true c.loop.invariant in
    first_of (search rules, grind (arith, common_steps))

pub returns-in_err-right : goal.returns-in_err-right
returns-in_err-right g c =
    let e = compared_turn (bounded_reader c.args.self.now.room) (length c.args.tokens.now) c.loop.counter c.loop.left c.loop.nesting c.loop.rest.now c.loop-test.true c.loop.invariant in
    first_of (search rules, grind (arith, common_steps))

pub returns-in-Some-begins : goal.returns-in-Some-begins
returns-in-Some-begins g c =
    let e = compared_turn (bounded_reader c.args.self.now.room) (length c.args.tokens.now) c.loop.counter c.loop.left c.loop.nesting c.loop.rest.now c.loop-test.true c.loop.invariant in
    first_of (search rules, grind (arith, common_steps))

pub returns-in_err-right-2 : goal.returns-in_err-right-2
returns-in_err-right-2 g c =
    let e = compared_turn (bounded_reader c.args.self.now.room) (length c.args.tokens.now) c.loop.counter c.loop.left c.loop.nesting c.loop.rest.now c.loop-test.true c.loop.invariant in
    first_of (search rules, grind (arith, common_steps))

pub loop-preserved : goal.loop-preserved
loop-preserved g c =
    let e = compared_turn (bounded_reader c.args.self.now.room) (length c.args.tokens.now) c.loop.counter c.loop.left c.loop.nesting c.loop.rest.now c.loop-test.true c.loop.invariant in
    first_of (search rules, grind (arith, common_steps))

pub returns : goal.returns
returns g c = compared_end (bounded_reader c.args.self.now.room) (length c.args.tokens.now) c.loop.counter c.loop.left c.loop.nesting c.loop.rest.now c.loop-test.false c.loop.invariant
