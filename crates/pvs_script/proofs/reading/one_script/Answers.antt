use Rattle.pvs_script.proofs.Completeness.{one_whole}
use Rattle.pvs_script.proofs.reading.one_script.Goals as goal

pub returns : goal.returns
returns c = one_whole
