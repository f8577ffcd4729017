use Rattle.std.proofs.Common.{sym, rules, arith, refl}
use Rattle.std.proofs.lemmas.Grind.{common_steps}
use Rattle.pvs_parser.proofs.DescentTurns.{list_turn, list_goes, list_end}
use Rattle.pvs_parser.proofs.lists.list.Goals as goal

pub loop-init : goal.loop-init
loop-init g c = λ starts reads answers. rw (c.new-found.ensures) refl

pub returns-in_err-tree : goal.returns-in_err-tree
returns-in_err-tree g c = λ starts reads answers.
    let e = list_turn starts reads 200 c.loop.counter c.loop.found c.loop.nesting c.loop.rest.now c.loop-test.true (c.loop.invariant starts reads answers) in
    let m = answers.item_gives _ _ _ c.item.ensures in
    first_of (search rules, grind (arith, common_steps))

pub returns-in_default : goal.returns-in_default
returns-in_default g c = λ starts reads answers.
    let e = list_turn starts reads 200 c.loop.counter c.loop.found c.loop.nesting c.loop.rest.now c.loop-test.true (c.loop.invariant starts reads answers) in
    let m = answers.item_gives _ _ _ c.item.ensures in
    first_of (search rules, grind (arith, common_steps))

pub loop-preserved : goal.loop-preserved
loop-preserved g c = λ starts reads answers.
    let e = list_goes starts reads 200 c.loop.counter c.loop.found c.loop.nesting c.in_ok-tree.behind c.loop.rest.now c.in_ok-tree.next.now c.in-Some.next.now c.in_ok-tree.tree c.loop-test.true (c.loop.invariant starts reads answers) (answers.item_gives _ _ _ c.in_ok-tree.ensures) (sym c.in-Some.ensures) in
    rw (c.in_ok-push.ensures.ok, c.cleared-nesting.ensures) e

pub returns : goal.returns
returns g c = λ starts reads answers.
    let e = list_end starts reads 200 c.loop.counter c.loop.found c.loop.nesting c.loop.rest.now c.loop-test.false (c.loop.invariant starts reads answers) in
    let m = answers.start_gives _ _ c.is_start.ensures in
    first_of (search rules, grind (arith, common_steps))
