use Rattle.std.proofs.Common.{ℕ, ◌+◌, ap}
use Rattle.pvs_sequent.proofs.CountLaws.{raised}
use Rattle.pvs_sequent.proofs.counted.raise.Goals as goal

pub returns-clause-ok : goal.returns-clause-ok
returns-clause-ok c =
    raised c.args.counts.now.entries c.insert.new.self.entries c.args.id (c.count_in-count.result + 1) c.in_ok-insert.ensures.updates.0 (ap (λ (n : ℕ). n + 1) c.count_in-count.ensures)
