use Rattle.std.proofs.Common.{◌∙◌, sym, subst}
use Rattle.pvs_terms.specs.code.Refs.{given_of}
use Rattle.pvs_terms.specs.Stored.{StandsRef, given_ref}
use Rattle.pvs_terms.proofs.StoreLaws.{refs_differ, found_ref_stands, absent_ref_stands}
use Rattle.pvs_terms.proofs.store.Store.find.Goals as goal

found : (c : goal.After-new) → StandsRef c.args.self.now (given_ref c.args.self.now c.args.key.now.kind c.args.key.now.actuals.items) c.new.result
found c = subst (StandsRef c.args.self.now (given_ref c.args.self.now c.args.key.now.kind c.args.key.now.actuals.items)) (sym c.new.ensures) (found_ref_stands c.in-Some.at (given_of c.args.key.now) c.self.invariant c.self.view_is c.in-Some.ensures.some)

pub returns-in-Some-clause-some : goal.returns-in-Some-clause-some
returns-in-Some-clause-some c = found c

pub returns-in-Some-clause-only : goal.returns-in-Some-clause-only
returns-in-Some-clause-only c q h e = refs_differ q c.new.result c.self.invariant c.self.view_is h (found c).ref (e ∙ sym (found c).is)

pub returns-in-None-clause-none : goal.returns-in-None-clause-none
returns-in-None-clause-none c =
    absent_ref_stands (given_of c.args.key.now) c.self.invariant c.self.view_is c.one_number_per_text.ensures
    (record { kind = c.requires.named; may_have = c.requires.may_have; actuals = c.requires.actuals }) c.in-None.ensures.none
