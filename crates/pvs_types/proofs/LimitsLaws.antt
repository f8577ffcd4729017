-- The test of the limits decides them.
use Rattle.std.proofs.Common.{◌≡◌, true, leb}
use Rattle.std.specs.Prelude.{◌↔◌, ◌&&◌}
use Rattle.std.proofs.lemmas.Bool.{le-leb, leb-true}
use Rattle.pvs_terms.specs.Tree.{Tree, depth, size, top_index, IsWithinLimits}
use Rattle.pvs_terms.proofs.TreeLaws.{both, all_true}
use Rattle.pvs_types.specs.Limits.{is_within_limits}

pub limits_decided : (t : Tree) → (is_within_limits t ≡ true) ↔ IsWithinLimits t
limits_decided t = (
  λ h.
      let x = both (leb (depth t) 1000) (leb (size t) 1000000 && leb (top_index t) 1000000) h in
      let y = both (leb (size t) 1000000) (leb (top_index t) 1000000) x.1 in
      record { deep = leb-true (depth t) 1000 x.0; large = leb-true (size t) 1000000 y.0; index = leb-true (top_index t) 1000000 y.1 },
  λ h. all_true (le-leb (depth t) 1000 h.deep) (all_true (le-leb (size t) 1000000 h.large) (le-leb (top_index t) 1000000 h.index)),
)
