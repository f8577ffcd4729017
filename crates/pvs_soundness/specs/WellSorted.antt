-- Trees with a term where a term stands, and a type where a type stands. Tags and actuals are not seen.
use Rattle.std.specs.Prelude.{◌≡◌}
use Rattle.pvs_terms.specs.Tree.{Tree, Leaf, Var, Name, Bind, Join, Project, If}
use Rattle.pvs_terms.specs.Sorts.{sort_of, body_sort, IsType, IsTerm}

abbrev pub IsWellSorted : Tree → Type 0
IsWellSorted (Leaf o) = Unit {0}
IsWellSorted (Var n) = Unit {0}
IsWellSorted (Name s r) = Unit {0}
IsWellSorted (Bind o a b) = IsType a × (sort_of b ≡ body_sort o) × IsWellSorted a × IsWellSorted b
IsWellSorted (Join o a b) = IsTerm a × IsTerm b × IsWellSorted a × IsWellSorted b
IsWellSorted (Project o a) = IsTerm a × IsWellSorted a
IsWellSorted (If a b c) = IsTerm a × IsTerm b × IsTerm c × IsWellSorted a × IsWellSorted b × IsWellSorted c
