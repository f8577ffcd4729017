use Rattle.pvs_elaboration.proofs.KnownLaws.{here_stays}
use Rattle.pvs_place.proofs.tests.subtype.Goals as goal

pub returns-clause-here : goal.returns-clause-here
returns-clause-here c = here_stays c.in_ok-made.ensures.kept c.requires
