use Rattle.pvs_terms.proofs.StoreLaws.{nodes_differ}
use Rattle.pvs_terms.proofs.store.Store.one_node_per_tree.Goals as goal

pub returns : goal.returns
returns c i j = nodes_differ i j c.self.invariant c.self.view_is
