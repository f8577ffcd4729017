use Rattle.pvs_verdicts.proofs.SoundReports.{reports_sound}
use Rattle.pvs_verdicts.proofs.reports_are_sound.Goals as goal

pub returns : goal.returns
returns c = reports_sound
