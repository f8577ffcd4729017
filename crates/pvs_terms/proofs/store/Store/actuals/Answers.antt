use Rattle.pvs_terms.specs.code.Refs.{given_of}
use Rattle.pvs_terms.specs.Stored.{ref_at}
use Rattle.pvs_terms.proofs.SortLaws.{actuals_sorted}
use Rattle.pvs_terms.proofs.StoreLaws.{ref_seen, ref_sorted}
use Rattle.pvs_terms.proofs.store.Store.actuals.Goals as goal

pub returns-clause-trees : goal.returns-clause-trees
returns-clause-trees c =
    let seen = ref_seen c.args.r (given_of c.entry.result.0.now, c.entry.result.1) c.self.invariant c.self.view_is c.requires (rw (← c.number.ensures) c.entry.ensures) in
    rw c.as_slice.ensures seen.trees

pub returns-clause-nodes : goal.returns-clause-nodes
returns-clause-nodes c =
    let seen = ref_seen c.args.r (given_of c.entry.result.0.now, c.entry.result.1) c.self.invariant c.self.view_is c.requires (rw (← c.number.ensures) c.entry.ensures) in
    rw c.as_slice.ensures seen.actuals

pub returns-clause-closed : goal.returns-clause-closed
returns-clause-closed c = (ref_seen c.args.r (given_of c.entry.result.0.now, c.entry.result.1) c.self.invariant c.self.view_is c.requires (rw (← c.number.ensures) c.entry.ensures)).closed

pub returns-clause-fits : goal.returns-clause-fits
returns-clause-fits c = (ref_seen c.args.r (given_of c.entry.result.0.now, c.entry.result.1) c.self.invariant c.self.view_is c.requires (rw (← c.number.ensures) c.entry.ensures)).fits

pub returns-clause-sorted : goal.returns-clause-sorted
returns-clause-sorted c = actuals_sorted (ref_at c.args.self.now c.args.r) (ref_sorted c.args.r c.self.invariant c.self.view_is c.requires)
