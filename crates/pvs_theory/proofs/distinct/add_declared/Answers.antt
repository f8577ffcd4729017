use Rattle.std.proofs.Common.{◌∙◌, ap, sym}
use Rattle.std.proofs.lemmas.Result.{IfOk-weaker}
use Rattle.pvs_theory.specs.Theories.{constant_names, formula_names, repeated}
use Rattle.pvs_theory.proofs.distinct.add_declared.Goals as goal

pub returns-in-Constant-clause-repeated : goal.returns-in-Constant-clause-repeated
returns-in-Constant-clause-repeated c = λ earlier constants formulas.
    IfOk-weaker c.add_word.result _ _ (λ o h. h ∙ ap (repeated c.args.text.now earlier) (sym c.in-Constant.is)) (c.add_word.ensures.repeated (constant_names c.args.text.now earlier) constants)

pub returns-in-Formula-clause-repeated : goal.returns-in-Formula-clause-repeated
returns-in-Formula-clause-repeated c = λ earlier constants formulas.
    IfOk-weaker c.add_word-in-Formula.result _ _ (λ o h. h ∙ ap (repeated c.args.text.now earlier) (sym c.in-Formula.is)) (c.add_word-in-Formula.ensures.repeated (formula_names c.args.text.now earlier) formulas)
