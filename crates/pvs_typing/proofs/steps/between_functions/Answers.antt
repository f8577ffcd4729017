use Rattle.std.proofs.Common.{sym, ◌∙◌}
use Rattle.pvs_typing.proofs.TaskLaws.{application_follows}
use Rattle.pvs_typing.proofs.GrowthLaws.{keeps_none}
use Rattle.pvs_typing.proofs.steps.between_functions.Goals as goal

pub returns-then-is_same : goal.returns-then-is_same
returns-then-is_same g c =
    let a = c.args in
    record {
      ok = application_follows ((g.T.Theories.state a.theories.now).lookups a.theory) a.context a.term a.domain_from a.domain_to a.range_from a.range_to c.requires.domains c.requires.ranges (sym c.is_same.ensures ∙ c.if-is_same.true);
      refused = tt;
      kept = keeps_none _ _ _;
    }
