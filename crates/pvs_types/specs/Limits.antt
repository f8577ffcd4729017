-- The limits of trees as a test.
use Rattle.std.specs.Prelude.{nat_le, Bool, ◌&&◌}
use Rattle.pvs_terms.specs.Tree.{Tree, depth, size, top_index}

-- whether the tree is within the limits of depth, size and index, as `IsWithinLimits` says
abbrev pub is_within_limits : Tree → Bool
is_within_limits t = nat_le (depth t) 1000 && (nat_le (size t) 1000000 && nat_le (top_index t) 1000000)
