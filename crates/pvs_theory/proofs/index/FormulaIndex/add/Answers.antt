use Rattle.std.proofs.Common.{◌≡◌, ◌∙◌, None, Some, cond, rules, ap}
use Rattle.pvs_theory.specs.code.Index.{formula_value}
use Rattle.pvs_theory.specs.Names.{FormulaName, is_same}
use Rattle.pvs_theory.proofs.IndexLaws.{is_eq-formula, same_formula, value_more}
use Rattle.pvs_theory.proofs.index.FormulaIndex.add.Goals as goal

pub returns-in_ok-insert : goal.returns-in_ok-insert
returns-in_ok-insert g c = λ other.
    let n : FormulaName = record { theory = c.args.theory.now; formula = c.args.formula.now } in
    let none : formula_value c.args.self.now n ≡ None = search rules in
    c.in_ok-insert.ensures.updates.0 (record { ref_ptr = c.args.theory.ref_ptr; now = other.theory }, record { ref_ptr = c.args.theory.ref_ptr; now = other.formula })
    ∙ ap (λ b. cond b (Some c.args.value) (formula_value c.args.self.now other)) (is_eq-formula n other)
    ∙ value_more (formula_value c.args.self.now) n other c.args.value (is_same n other) (same_formula n other) none
