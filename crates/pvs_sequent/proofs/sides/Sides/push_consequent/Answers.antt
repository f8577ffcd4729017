use Rattle.std.proofs.Common.{◌≡◌, ◌+◌, arith, rules, false, eqb, refl, ◌∷◌}
use Rattle.std.specs.List.{list_any}
use Rattle.pvs_sequent.specs.Counts.{count_among}
use Rattle.pvs_sequent.proofs.CountLaws.{new_shared, shared_fit}
use Rattle.pvs_sequent.proofs.sides.Sides.push_consequent.Goals as goal

pub overflow_add-self : goal.overflow_add-self
overflow_add-self c =
    let new : list_any (eqb c.args.id) c.self.inside.consequents ≡ false = search rules in
    let is : c.self.inside.shared + c.count.result ≡ count_among c.self.inside.antecedents (c.args.id ∷ c.self.inside.consequents) =
    new_shared c.self.inside.antecedents c.self.inside.consequents (c.args.id ∷ c.self.inside.consequents) c.args.id c.self.inside.shared c.count.result c.self.invariant c.count.ensures new refl in
    omega (arith, is, shared_fit c.self.inside.antecedents (c.args.id ∷ c.self.inside.consequents), c.len-length.ensures)

pub invariant_of-self-then-is_new : goal.invariant_of-self-then-is_new
invariant_of-self-then-is_new c =
    let new : list_any (eqb c.args.id) c.self.inside.consequents ≡ false = search rules in
    new_shared c.self.inside.antecedents c.self.inside.consequents c.push_first.new.self c.args.id c.self.inside.shared c.count.result c.self.invariant c.count.ensures new c.in_ok-push_first.ensures.ok
