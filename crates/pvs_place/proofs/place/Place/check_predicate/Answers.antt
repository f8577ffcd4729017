use Rattle.pvs_elaboration.proofs.KnownLaws.{grows_trans, here_stays}
use Rattle.pvs_place.proofs.PlaceLaws.{known_grows}
use Rattle.pvs_place.proofs.OutcomeLaws.{judged_accepts, formula_same, predicate_ok, predicate_fault}
use Rattle.pvs_place.proofs.place.Place.check_predicate.Goals as goal

pub check_formula-requires-clause-here : goal.check_formula-requires-clause-here
check_formula-requires-clause-here g c = here_stays (known_grows c.well_formed-2.ensures.kept) c.requires.here

pub returns-clause-ok : goal.returns-clause-ok
returns-clause-ok g c =
    predicate_ok c.check_formula.result (judged_accepts c.in_ok-well_formed.ensures.ok) (formula_same c.well_formed-2.ensures.kept c.args.here.now.context.items c.args.ty c.args.formula c.requires.here.context c.requires.ty c.requires.formula) c.check_formula.ensures.ok

pub returns-clause-refused : goal.returns-clause-refused
returns-clause-refused g c =
    predicate_fault c.check_formula.result (judged_accepts c.in_ok-well_formed.ensures.ok) (formula_same c.well_formed-2.ensures.kept c.args.here.now.context.items c.args.ty c.args.formula c.requires.here.context c.requires.ty c.requires.formula) c.check_formula.ensures.refused

pub returns-clause-kept : goal.returns-clause-kept
returns-clause-kept g c = grows_trans (known_grows c.well_formed-2.ensures.kept) c.check_formula.ensures.kept
