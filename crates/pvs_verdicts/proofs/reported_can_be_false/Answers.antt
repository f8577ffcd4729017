use Rattle.pvs_verdicts.proofs.SoundOpen.{reported_can_be_false}
use Rattle.pvs_verdicts.proofs.OpenExampleReads.{reads}
use Rattle.pvs_verdicts.proofs.reported_can_be_false.Goals as goal

pub returns : goal.returns
returns c = reported_can_be_false reads
