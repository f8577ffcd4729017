use Rattle.std.proofs.Common.{◌≡◌, ◌∙◌, sym, ap, Some}
use Rattle.pvs_replay.specs.Numbers.{outcome_at}
use Rattle.pvs_replay.specs.Replaying.{after, only_one}
use Rattle.pvs_replay.proofs.RunLaws.{inner_leaves, inner_stops, premise_node, premise_one}
use Rattle.pvs_replay.proofs.outcome.go_on.Goals as goal

pub returns-in-Some : goal.returns-in-Some
returns-in-Some c s b at o h =
    let e = rw c.in-Leaves.is at h in
    let p : only_one c.in-Leaves.premises.items ≡ Some c.in-Some.premise = sym c.only_one.ensures ∙ c.in-Some.is in
    record {
      numbers = (e.numbers.0, premise_node s c.in-Leaves.premises.items c.in-Some.premise p e.numbers.1);
      is = λ next. inner_leaves b (outcome_at s c.in-Leaves.outcome) at c.in-Leaves.pos next o _ e.is ∙ ap (after (outcome_at s c.in-Leaves.outcome)) (premise_one s c.in-Leaves.pos next c.in-Leaves.premises.items c.in-Some.premise p);
    }

pub returns-in-Stops : goal.returns-in-Stops
returns-in-Stops c s b at o h =
    let e = rw c.in-Stops.is at h in
    record { numbers = e.numbers; is = λ next. inner_stops b (outcome_at s c.in-Stops.outcome) at next o e.is }
