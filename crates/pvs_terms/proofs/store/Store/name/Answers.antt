use Rattle.pvs_terms.specs.code.StoreView.{stored}
use Rattle.pvs_terms.proofs.StoreLaws.{named_is, IsNamed}
use Rattle.pvs_terms.proofs.store.Store.name.Goals as goal
use Rattle.pvs_terms.proofs.store.Store.name.Goals.{After-new}

named : (c : After-new) → IsNamed c.args.self.now (stored c.number.new.self c.self.inside.nodes c.self.inside.refs) c.number.new.self c.self.inside.nodes c.self.inside.refs
named c = named_is c.number.new.self c.self.invariant c.self.view_is c.number.ensures.kept

pub invariant_of-self-2 : goal.invariant_of-self-2
invariant_of-self-2 c = (named c).sound

pub returns-clause-kept : goal.returns-clause-kept
returns-clause-kept c = (named c).extends
