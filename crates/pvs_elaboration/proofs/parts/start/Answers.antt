use Rattle.std.proofs.Common.{◌≡◌, ◌≤◌, ◌-◌, ◌∙◌, suc, arith}
use Rattle.pvs_elaboration.proofs.PartLaws.{start_follows}
use Rattle.pvs_elaboration.proofs.parts.start.Goals as goal

pub returns-else-index-size : goal.returns-else-index-size
returns-else-index-size g c =
    let i = c.in-Ok-Some.index in
    let n = c.args.size in
    let e : i ≡ suc (i - 1) = omega (arith, c.if-index-eq0.false) in
    let l : i ≤ n = omega (arith, c.if-index-size.false) in
    let d : n ≡ suc (suc (n - 2)) = omega (arith, c.requires.size) in
    λ t h. rw c.give_to.ensures (start_follows t c.args.here.now c.args.projection c.args.operand n i (n - 2) (i - 1) c.requires.operand (c.in-Ok-Some.ensures t h ∙ c.in-Ok-Some.field-0-is) e l d)
