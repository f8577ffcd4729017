use Rattle.pvs_elaboration.proofs.KnownLaws.{grows_trans, here_stays}
use Rattle.pvs_place.proofs.place.Place.existence.Goals as goal

pub existential-requires-clause-here : goal.existential-requires-clause-here
existential-requires-clause-here g c = here_stays c.is_known_nonempty.ensures.kept c.requires.here

pub returns-in_err-goal-clause-kept : goal.returns-in_err-goal-clause-kept
returns-in_err-goal-clause-kept g c = grows_trans c.is_known_nonempty.ensures.kept c.existential.ensures.kept
