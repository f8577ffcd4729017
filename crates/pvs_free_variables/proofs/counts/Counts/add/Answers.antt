use Rattle.std.proofs.Common.{◌+◌, ◌∙◌}
use Rattle.pvs_free_variables.specs.code.Counts.{count_of}
use Rattle.pvs_free_variables.proofs.CountLaws.{count_set, at_name}
use Rattle.pvs_free_variables.proofs.counts.Counts.add.Goals as goal

pub returns-clause-ok : goal.returns-clause-ok
returns-clause-ok c x =
    rw c.count-count.ensures at (count_set c.args.name.now c.args.self.now (record { counts = c.insert.new.self }) (c.count-count.result + 1) c.in_ok-insert.ensures.updates x)
    ∙ at_name (count_of c.args.self.now) (λ n. n + 1) c.args.name.now x
