use Rattle.std.proofs.Common.{◌-◌, cond, ap, ◌∙◌, rules}
use Rattle.std.specs.Prelude.{unwrap_or, bytes_eq}
use Rattle.pvs_free_variables.specs.code.Counts.{count_of}
use Rattle.pvs_free_variables.proofs.CountLaws.{count_set, at_name}
use Rattle.pvs_free_variables.proofs.counts.Counts.remove.Goals as goal

pub returns-in-Some : goal.returns-in-Some
returns-in-Some c x =
    let m = c.args.self.now in
    let k = c.args.name.now in
    let n = c.saturating_sub.result in
    let updates = (c.get_mut.follows.holds n).3 (search rules) in
    let less = c.saturating_sub.ensures ∙ ap (λ o. unwrap_or o 0 - 1) c.in-Some.ensures.value in
    count_set k m (record { counts = c.get_mut.follows.lender n }) n updates x
    ∙ ap (λ i. cond (bytes_eq k x) i (count_of m x)) less
    ∙ at_name (count_of m) (λ i. i - 1) k x
