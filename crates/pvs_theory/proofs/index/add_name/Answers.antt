use Rattle.std.proofs.lemmas.Result.{on_ok_weaker}
use Rattle.pvs_theory.specs.code.Index.{value_of}
use Rattle.pvs_theory.proofs.IndexLaws.{names_more}
use Rattle.pvs_theory.proofs.index.add_name.Goals as goal

pub returns-clause-names : goal.returns-clause-names
returns-clause-names c =
    on_ok_weaker c.add.result
    (λ h seen was other. names_more c.args.name.now other seen (value_of c.args.names.now other) (value_of c.add.new.self other) tt (was other) (h other))
    c.add.ensures.values
