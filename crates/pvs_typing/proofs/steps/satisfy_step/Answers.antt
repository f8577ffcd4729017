use Rattle.pvs_typing.proofs.TaskLaws.{satisfy_follows}
use Rattle.pvs_typing.proofs.steps.satisfy_step.Goals as goal

pub returns : goal.returns
returns g c =
    let a = c.args in
    record {
      ok = satisfy_follows ((g.T.Theories.state a.theories.now).lookups a._theory) a.context a.predicate a.term c.in_ok-goal.goal (c.in_ok-goal.ensures.kept a._theory c.requires.theory) c.requires.context c.requires.predicate c.requires.term c.in_ok-goal.ensures.ok;
      refused = tt;
      kept = c.in_ok-goal.ensures.kept a._theory c.requires.theory;
    }
