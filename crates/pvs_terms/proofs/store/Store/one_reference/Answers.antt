use Rattle.pvs_terms.proofs.StoreLaws.{refs_differ}
use Rattle.pvs_terms.proofs.store.Store.one_reference.Goals as goal

pub returns : goal.returns
returns c r q = refs_differ r q c.self.invariant c.self.view_is
