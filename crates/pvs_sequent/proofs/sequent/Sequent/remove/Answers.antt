use Rattle.pvs_sequent.proofs.NumberLaws.{antecedent_removed, consequent_removed}
use Rattle.pvs_sequent.proofs.sequent.Sequent.remove.Goals as goal

pub returns-in-Antecedent : goal.returns-in-Antecedent
returns-in-Antecedent c =
    antecedent_removed c.args.store.now c.args.self.now c.args.place c.in-Antecedent.at c.self.inside.variables c.self.inside.sides c.remove_antecedent.new.self
    c.in-Antecedent.is c.self.view_is c.remove_antecedent.ensures c.requires.sequent

pub returns-in-Consequent : goal.returns-in-Consequent
returns-in-Consequent c =
    consequent_removed c.args.store.now c.args.self.now c.args.place c.in-Consequent.at c.self.inside.variables c.self.inside.sides c.remove_consequent.new.self
    c.in-Consequent.is c.self.view_is c.remove_consequent.ensures c.requires.sequent
