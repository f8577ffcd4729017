-- Where a variable is mentioned: only then is it written before the type that binds it.
use Rattle.std.specs.Prelude.{ℕ, suc, Bool, false, ◌||◌, nat_eq, List, [], ◌∷◌}
use Rattle.pvs_terms.specs.Tree as t
use Rattle.pvs_terms.specs.Tree.{Tree}

-- whether the variable of this index occurs; the actuals of a name have no free variable
abbrev pub mentions : ℕ → Tree → Bool
mentions n (t.Leaf o) = false
mentions n (t.Var m) = nat_eq m n
mentions n (t.Name s r) = false
mentions n (t.Bind o a b) = mentions n a || mentions (suc n) b
mentions n (t.Join o a b) = mentions n a || mentions n b
mentions n (t.Project o a) = mentions n a
mentions n (t.If a b c) = mentions n a || (mentions n b || mentions n c)

-- whether a component's variable occurs in the components after it, the first of which has it at this index
abbrev pub mentioned : ℕ → List Tree → Bool
mentioned n [] = false
mentioned n (x ∷ xs) = mentions n x || mentioned (suc n) xs
