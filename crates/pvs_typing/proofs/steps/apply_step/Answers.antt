use Rattle.pvs_typing.proofs.TaskLaws.{apply_follows}
use Rattle.pvs_typing.proofs.steps.apply_step.Goals as goal

pub returns : goal.returns
returns g c =
    let a = c.args in
    record {
      ok = apply_follows c.in_ok-inner.inner a.context a.domain a.term a.from a.to c.in_ok-applied.applied c.in_ok-applied.ensures.kept c.in_ok-inner.ensures c.requires.domain c.requires.coercion c.in_ok-applied.ensures.ok;
      refused = tt;
      kept = c.in_ok-applied.ensures.kept;
    }
