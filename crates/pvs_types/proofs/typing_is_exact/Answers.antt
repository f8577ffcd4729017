use Rattle.pvs_types.proofs.FormsLaws.{head_step, up_step, most_step, nonempty_step}
use Rattle.pvs_types.proofs.ProperTermLaws.{sorted_is_proper}
use Rattle.pvs_types.proofs.LimitsLaws.{limits_decided}
use Rattle.pvs_types.proofs.CoerceLaws.{coerce_rule}
use Rattle.pvs_types.proofs.UsesLaws.{coerce_silent, typing_uses}
use Rattle.pvs_types.proofs.typing_is_exact.Goals as goal

pub returns : goal.returns
returns c = record {
  cases = λ s ordered g t b a k. (
    head_step s ordered b,
    up_step s ordered b,
    most_step s ordered b,
    nonempty_step s ordered b,
    coerce_rule s ordered g t b a k,
  );
  terms = sorted_is_proper;
  limits = limits_decided;
  symbols = λ s g t b a. let u = typing_uses s t in (u.infer g, u.check g a, u.well_formed g, coerce_silent s g t b a);
}
