use Rattle.std.proofs.Common.{sym, subst}
use Rattle.pvs_terms.specs.Stored.{text_at}
use Rattle.pvs_names.specs.Answer.{Resolves}
use Rattle.pvs_names.specs.Resolve.{any_formula}
use Rattle.pvs_names.proofs.search.find_formula.Goals as goal

pub returns-in-FormulaName : goal.returns-in-FormulaName
returns-in-FormulaName c s d g dis h ix =
    subst (λ j. Resolves s c.find_in.result (any_formula d g j (text_at s c.args.name))) (sym c.in-FormulaName.is) (c.find_in.ensures s _ dis (tt, h) ix)
