-- The symbols of a tree: the references of its names, within types too, and those in the actuals of these.
use Rattle.std.specs.Prelude.{List, [], ◌∷◌, ◌++◌}
use Rattle.pvs_terms.specs.Tree.{Tree, Leaf, Var, Name, Bind, Join, Project, If, Ref, Own, Formal, Inst, Trees, none, more}

abbrev mutual
  pub symbols : Tree → List Ref
  symbols (Leaf o) = []
  symbols (Var n) = []
  symbols (Name s r) = r ∷ symbols_within r
  symbols (Bind o a b) = symbols a ++ symbols b
  symbols (Join o a b) = symbols a ++ symbols b
  symbols (Project o a) = symbols a
  symbols (If c a b) = symbols c ++ (symbols a ++ symbols b)

  -- those in the actuals of a reference
  pub symbols_within : Ref → List Ref
  symbols_within (Own n) = []
  symbols_within (Formal n) = []
  symbols_within (Inst th n acts) = all_symbols acts

  pub all_symbols : Trees → List Ref
  all_symbols none = []
  all_symbols (more x xs) = symbols x ++ all_symbols xs
