use Rattle.pvs_sig.proofs.SignatureAtLaws.{later_stores_keep}
use Rattle.pvs_sig.proofs.laws.stored_laws.Goals as goal

pub returns : goal.returns
returns c = later_stores_keep
