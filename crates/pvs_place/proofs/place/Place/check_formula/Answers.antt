use Rattle.pvs_place.proofs.OutcomeLaws.{judged_accepts}
use Rattle.pvs_place.proofs.place.Place.check_formula.Goals as goal

pub returns-in-Ok-clause-ok : goal.returns-in-Ok-clause-ok
returns-in-Ok-clause-ok g c = rw (c.in_ok-context.ensures, c.requires.here.is_truth) at (judged_accepts c.in-Ok.ensures.ok)
