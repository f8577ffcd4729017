use Rattle.pvs_cli.proofs.SoundOpen.{reported_can_be_false}
use Rattle.pvs_cli.proofs.OpenExampleReads.{reads}
use Rattle.pvs_cli.proofs.fact.reported_can_be_false.Goals as goal

pub returns : goal.returns
returns c = reported_can_be_false reads
