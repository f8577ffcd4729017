use Rattle.std.proofs.Common.{◌∙◌, arith, sym}
use Rattle.pvs_sequent.proofs.CountLaws.{times_less, still_shared}
use Rattle.pvs_sequent.proofs.sides.Sides.remove_consequent.Goals as goal

pub overflow_sub-self : goal.overflow_sub-self
overflow_sub-self c =
    omega (arith, c.count.ensures, times_less c.self.inside.antecedents c.self.inside.consequents c.remove-id.new.self c.args.at c.remove-id.result c.self.inside.shared c.self.invariant c.remove-id.ensures.number c.remove-id.ensures.rest (sym c.contains.ensures ∙ c.if-not-contains.true))

pub invariant_of-self : goal.invariant_of-self
invariant_of-self c =
    omega (arith, c.count.ensures, times_less c.self.inside.antecedents c.self.inside.consequents c.remove-id.new.self c.args.at c.remove-id.result c.self.inside.shared c.self.invariant c.remove-id.ensures.number c.remove-id.ensures.rest (sym c.contains.ensures ∙ c.if-not-contains.true))

pub invariant_of-self-else-not-contains : goal.invariant_of-self-else-not-contains
invariant_of-self-else-not-contains c =
    still_shared c.self.inside.antecedents c.self.inside.consequents c.remove-id.new.self c.args.at c.remove-id.result c.self.inside.shared c.self.invariant c.remove-id.ensures.number c.remove-id.ensures.rest (sym c.contains.ensures ∙ c.if-not-contains.false)
