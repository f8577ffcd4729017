use Rattle.std.proofs.lemmas.Result.{on_ok_weaker}
use Rattle.pvs_theory.specs.code.Index.{formula_value}
use Rattle.pvs_theory.specs.Names.{FormulaName}
use Rattle.pvs_theory.proofs.IndexLaws.{formulas_more}
use Rattle.pvs_theory.proofs.index.add_formula.Goals as goal

pub returns : goal.returns
returns c =
    let n : FormulaName = record { theory = c.args.theory.now; formula = c.args.formula.now } in
    on_ok_weaker c.add.result
    (λ h seen was other. formulas_more n other seen (formula_value c.args.formulas.now other) (formula_value c.add.new.self other) tt (was other) (h other))
    c.add.ensures
