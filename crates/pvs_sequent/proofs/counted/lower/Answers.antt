use Rattle.std.proofs.Common.{◌≡◌, ◌-◌, ℕ, ap, arith, None, Some}
use Rattle.pvs_sequent.specs.Counts.{counted}
use Rattle.pvs_sequent.proofs.CountLaws.{lowered}
use Rattle.pvs_sequent.proofs.counted.lower.Goals as goal

pub returns-then-count-eq1 : goal.returns-then-count-eq1
returns-then-count-eq1 c =
    let none : 0 ≡ counted c.args.counts.now.entries c.args.id - 1 = omega arith in
    lowered c.args.counts.now.entries c.swap_remove-count.new.self.entries c.args.id None c.swap_remove-count.ensures.updates.0 none

pub returns : goal.returns
returns c =
    lowered c.args.counts.now.entries c.insert.new.self.entries c.args.id (Some (c.count_in-count.result - 1)) c.in-Ok.ensures.updates.0 (ap (λ (n : ℕ). n - 1) c.count_in-count.ensures)
