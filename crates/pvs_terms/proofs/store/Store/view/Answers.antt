use Rattle.pvs_terms.proofs.StoreLaws.{entry_is_right, tree_sorted}
use Rattle.pvs_terms.proofs.store.Store.view.Goals as goal

pub returns-clause-tree : goal.returns-clause-tree
returns-clause-tree c = (entry_is_right c.args.id c.entry.result c.self.invariant c.self.view_is c.requires (rw (← c.number.ensures) c.entry.ensures)).tree

pub returns-clause-parts : goal.returns-clause-parts
returns-clause-parts c = (entry_is_right c.args.id c.entry.result c.self.invariant c.self.view_is c.requires (rw (← c.number.ensures) c.entry.ensures)).parts

pub returns-clause-fits : goal.returns-clause-fits
returns-clause-fits c = (entry_is_right c.args.id c.entry.result c.self.invariant c.self.view_is c.requires (rw (← c.number.ensures) c.entry.ensures)).fits

pub returns-clause-sorted : goal.returns-clause-sorted
returns-clause-sorted c = tree_sorted c.args.id c.self.invariant c.self.view_is c.requires
