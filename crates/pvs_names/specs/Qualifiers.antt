-- What a name is qualified by, with actuals by number.
use Rattle.std.specs.Prelude.{ℕ, Option, Some, None, List}
use Rattle.std.specs.Borrow.{Bor}
use Rattle.pvs_terms.specs.Tree.{Text, Trees, AreClosed}
use Rattle.pvs_terms.specs.Stored.{Stored, AreNodes, trees_at}
use Rattle.pvs_names.specs.Resolve.{Qualifier}
use Rattle.pvs_names.specs.declared.qualifier.Qualifier as numbers

-- the actuals, where there are any, are nodes without free indices
abbrev pub AreActualsIn : Stored → Option (Bor (List ℕ)) → Type 0
AreActualsIn s None = Unit {0}
AreActualsIn s (Some is) = AreNodes s is.now × AreClosed (trees_at s is.now)

abbrev pub actuals_at : Stored → Option (Bor (List ℕ)) → Option Trees
actuals_at s None = None
actuals_at s (Some is) = Some (trees_at s is.now)

abbrev pub QualifierIn : Stored → Option numbers.Qualifier → Type 0
QualifierIn s None = Unit {0}
QualifierIn s (Some q) = AreActualsIn s q.actuals

abbrev pub qualifier_at : Stored → Option numbers.Qualifier → Option Qualifier
qualifier_at s None = None
qualifier_at s (Some q) = Some (record { theory = q.theory.now; actuals = actuals_at s q.actuals })
