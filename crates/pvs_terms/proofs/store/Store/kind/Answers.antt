use Rattle.pvs_terms.specs.code.Refs.{given_of}
use Rattle.std.proofs.Common.{◌∙◌, ap}
use Rattle.pvs_terms.specs.Stored.{ref_of}
use Rattle.pvs_terms.proofs.StoreLaws.{ref_seen}
use Rattle.pvs_terms.proofs.store.Store.kind.Goals as goal

pub returns-clause-ref_is : goal.returns-clause-ref_is
returns-clause-ref_is c =
    let seen = ref_seen c.args.r (given_of c.entry.result.0.now, c.entry.result.1) c.self.invariant c.self.view_is c.requires (rw (← c.number.ensures) c.entry.ensures) in
    seen.is ∙ ap (ref_of c.args.self.now c.entry.result.0.now.kind) seen.trees

pub returns-clause-named : goal.returns-clause-named
returns-clause-named c = (ref_seen c.args.r (given_of c.entry.result.0.now, c.entry.result.1) c.self.invariant c.self.view_is c.requires (rw (← c.number.ensures) c.entry.ensures)).kind

pub returns-clause-fits : goal.returns-clause-fits
returns-clause-fits c = (ref_seen c.args.r (given_of c.entry.result.0.now, c.entry.result.1) c.self.invariant c.self.view_is c.requires (rw (← c.number.ensures) c.entry.ensures)).fits
