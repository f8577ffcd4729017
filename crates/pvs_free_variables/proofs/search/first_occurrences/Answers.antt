use Rattle.std.proofs.Common.{◌∙◌}
use Rattle.pvs_free_variables.proofs.SearchLaws.{outcome_firsts}
use Rattle.pvs_free_variables.proofs.search.first_occurrences.Goals as goal

pub returns : goal.returns
returns g c =
    c.into_occurrences.ensures ∙ c.in_ok-run.ensures
    ∙ rw (c.in_ok-push.ensures, c.new-tasks.ensures, c.new.ensures, c.new-2.ensures) (outcome_firsts c.args.text.now (g.S.Scope.known c.args.scope.now).names c.args.part)
