-- References as they are kept: by their kinds and the numbers of their actuals.
use Rattle.std.specs.Prelude.{ℕ, List}
use Rattle.pvs_terms.specs.declared.measure.Measure.{Measure}
use Rattle.pvs_terms.specs.declared.node.RefKind.{RefKind}
use Rattle.pvs_terms.specs.declared.refs.RefKey.{RefKey}

-- the kind of a reference and the numbers of its actuals
pub record Given : Type 0 where
  pub kind : RefKind
  pub actuals : List ℕ

abbrev pub given_of : RefKey → Given
given_of k = record { kind = k.kind; actuals = k.actuals.items }

-- a reference and its measure
abbrev pub RefEntry : Type 0
RefEntry = Given × Measure

abbrev pub entry_of : RefKey × Measure → RefEntry
entry_of e = (given_of e.0, e.1)
