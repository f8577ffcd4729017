-- The truth of a tree by the truth of its atoms: of the trees that are neither a truth value nor a choice.
use Rattle.std.specs.Prelude.{Bool, true, false, if◌then◌else◌, List}
use Rattle.std.specs.List.{list_all, list_any}
use Rattle.pvs_terms.specs.Tree.{Tree, True, False, If}

-- a truth value for each atom; what it gives to other trees does not count
abbrev pub TruthAssignment : Type 0
TruthAssignment = Tree → Bool

-- the truth value of a tree
abbrev pub truth : TruthAssignment → Tree → Bool
truth v True = true
truth v False = false
truth v (If c a b) = if truth v c then truth v a else truth v b
truth v t = v t

-- whether all trees are TRUE
abbrev pub all_true : TruthAssignment → List Tree → Bool
all_true v ts = list_all (truth v) ts

-- whether some tree is TRUE
abbrev pub some_true : TruthAssignment → List Tree → Bool
some_true v ts = list_any (truth v) ts
