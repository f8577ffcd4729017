use Rattle.pvs_terms.proofs.StoreLaws.{entry_is_right, small_of}
use Rattle.pvs_terms.proofs.store.Store.measure_at.Goals as goal

pub returns-clause-value : goal.returns-clause-value
returns-clause-value c = (entry_is_right c.args.id c.entry.result c.self.invariant c.self.view_is c.requires (rw (← c.number.ensures) c.entry.ensures)).measure

pub returns-clause-small : goal.returns-clause-small
returns-clause-small c = small_of (entry_is_right c.args.id c.entry.result c.self.invariant c.self.view_is c.requires (rw (← c.number.ensures) c.entry.ensures))
