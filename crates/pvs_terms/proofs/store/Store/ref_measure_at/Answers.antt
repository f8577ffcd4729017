use Rattle.pvs_terms.specs.code.Refs.{given_of}
use Rattle.pvs_terms.specs.Stored.{ref_at}
use Rattle.pvs_terms.proofs.StoreLaws.{ref_seen, small_ref}
use Rattle.pvs_terms.proofs.store.Store.ref_measure_at.Goals as goal

pub returns-clause-value : goal.returns-clause-value
returns-clause-value c = (ref_seen c.args.r (given_of c.entry.result.0.now, c.entry.result.1) c.self.invariant c.self.view_is c.requires (rw (← c.number.ensures) c.entry.ensures)).measure

pub returns-clause-small : goal.returns-clause-small
returns-clause-small c =
    let seen = ref_seen c.args.r (given_of c.entry.result.0.now, c.entry.result.1) c.self.invariant c.self.view_is c.requires (rw (← c.number.ensures) c.entry.ensures) in
    small_ref (ref_at c.args.self.now c.args.r) seen.measure seen.fits
