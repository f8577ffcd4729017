use Rattle.pvs_scripts.proofs.Completeness.{one_whole}
use Rattle.pvs_scripts.proofs.parse.one_script.Goals as goal

pub returns : goal.returns
returns c = one_whole
