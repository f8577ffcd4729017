use Rattle.std.proofs.Common.{◌∙◌, arith, sym}
use Rattle.pvs_sequent.proofs.CountLaws.{one_less, none_less}
use Rattle.pvs_sequent.proofs.sides.Sides.remove_antecedent.Goals as goal

pub overflow_sub-self : goal.overflow_sub-self
overflow_sub-self c =
    omega (arith, one_less c.self.inside.antecedents c.self.inside.consequents c.remove-id.new.self c.args.at c.remove-id.result c.self.inside.shared c.self.invariant c.remove-id.ensures.number (sym c.contains.ensures ∙ c.if-contains.true) c.remove-id.ensures.rest)

pub invariant_of-self : goal.invariant_of-self
invariant_of-self c =
    omega (arith, one_less c.self.inside.antecedents c.self.inside.consequents c.remove-id.new.self c.args.at c.remove-id.result c.self.inside.shared c.self.invariant c.remove-id.ensures.number (sym c.contains.ensures ∙ c.if-contains.true) c.remove-id.ensures.rest)

pub invariant_of-self-else-contains : goal.invariant_of-self-else-contains
invariant_of-self-else-contains c =
    none_less c.self.inside.antecedents c.self.inside.consequents c.remove-id.new.self c.args.at c.remove-id.result c.self.inside.shared c.self.invariant c.remove-id.ensures.number (sym c.contains.ensures ∙ c.if-contains.false) c.remove-id.ensures.rest
