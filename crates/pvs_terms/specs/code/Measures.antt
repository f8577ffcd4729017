-- How large a tree is, in one record.
use Rattle.std.specs.Prelude.{ℕ, suc, ◌+◌, ◌-◌, ◌<◌, ◌≤◌, max, Bool, false, ◌||◌}
use Rattle.pvs_terms.specs.Tree.{Tree, Ref, Trees, size, depth, top_index, is_local, free_below, ref_size, ref_depth, ref_top, ref_local, trees_size, trees_depth, trees_top, trees_local, trees_free}
use Rattle.pvs_terms.specs.declared.measure.Measure.{Measure}

-- the measures of a tree, of a reference and of a list of trees
abbrev pub measure_of : Tree → Measure
measure_of t = record { depth = depth t; size = size t; top = top_index t; free = free_below t; local = is_local t }

abbrev pub ref_measure : Ref → Measure
ref_measure r = record { depth = ref_depth r; size = ref_size r; top = ref_top r; free = 0; local = ref_local r }

abbrev pub trees_measure : Trees → Measure
trees_measure ts = record { depth = trees_depth ts; size = trees_size ts; top = trees_top ts; free = trees_free ts; local = trees_local ts }

abbrev pub no_trees : Measure
no_trees = record { depth = 0; size = 0; top = 0; free = 0; local = false }

abbrev pub leaf : Measure
leaf = record { depth = 1; size = 1; top = 0; free = 0; local = false }

abbrev pub variable : ℕ → Measure
variable n = record { depth = 1; size = 1; top = n; free = suc n; local = false }

-- one node on a part of this measure
abbrev pub above : Measure → Measure
above m = record { depth = 1 + m.depth; size = 1 + m.size; top = m.top; free = m.free; local = m.local }

-- two parts side by side
abbrev pub beside : Measure → Measure → Measure
beside m n = record { depth = max m.depth n.depth; size = m.size + n.size; top = max m.top n.top; free = max m.free n.free; local = m.local || n.local }

-- a part that a binder stands above
abbrev pub under : Measure → Measure
under m = record { depth = m.depth; size = m.size; top = m.top; free = m.free - 1; local = m.local }

-- a reference, whose actuals have no free index
abbrev pub of_ref : Measure → Bool → Measure
of_ref m local = record { depth = m.depth; size = m.size; top = m.top; free = 0; local = local || m.local }

-- within the limits
pub record IsSmall (m : Measure) : Type 0 where
  pub depth : m.depth ≤ 1000
  pub size : m.size ≤ 1000000
  pub top : m.top ≤ 1000000

-- a node on parts of this measure is within the limits
pub record IsRoomy (m : Measure) : Type 0 where
  pub depth : m.depth < 1000
  pub size : m.size < 1000000
  pub top : m.top ≤ 1000000
