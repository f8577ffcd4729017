-- An instance of a theory in a store: the name of the theory, and its actuals.
use Rattle.std.specs.Prelude.{ℕ, List}
use Rattle.pvs_terms.specs.Tree.{AreClosed}
use Rattle.pvs_terms.specs.Stored.{Stored, IsName, AreNodes, trees_at}

pub record IsInstance (s : Stored) (th : ℕ) (acts : List ℕ) : Type 0 where
  pub theory : IsName s th
  pub actuals : AreNodes s acts
  pub closed : AreClosed (trees_at s acts)
