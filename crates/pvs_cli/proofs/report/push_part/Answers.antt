use Rattle.std.proofs.Common.{arith, rules}
use Rattle.std.proofs.lemmas.Grind.{common_steps}
use Rattle.pvs_cli.proofs.report.push_part.Goals as goal

pub returns-in_ok-push-in-Accepted : goal.returns-in_ok-push-in-Accepted
returns-in_ok-push-in-Accepted c = λ s.
    let h = c.push_formulas.ensures s in
    first_of (search rules, grind (arith, common_steps, h))
