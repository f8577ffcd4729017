use Rattle.std.proofs.Common.{sym, ap}
use Rattle.pvs_sequent.specs.Numbered.{Numbered}
use Rattle.pvs_sequent.proofs.NumberLaws.{antecedent_found, consequent_found}
use Rattle.pvs_sequent.proofs.sequent.Sequent.formula_at.Goals as goal

pub returns-in-Antecedent : goal.returns-in-Antecedent
returns-in-Antecedent c s h = antecedent_found s c.args.self.now c.args.place c.in-Antecedent.at _ _ c.in-Antecedent.is (ap (λ (q : Numbered). q.antecedents) (sym c.self.view_is)) c.antecedent.ensures h

pub returns-in-Consequent : goal.returns-in-Consequent
returns-in-Consequent c s h = consequent_found s c.args.self.now c.args.place c.in-Consequent.at _ _ c.in-Consequent.is (ap (λ (q : Numbered). q.consequents) (sym c.self.view_is)) c.consequent.ensures h
