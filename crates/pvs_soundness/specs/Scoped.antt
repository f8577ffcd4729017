-- Which trees have their free indices below a number.
use Rattle.std.specs.Prelude.{ℕ, suc, ◌<◌}
use Rattle.pvs_terms.specs.Tree.{Tree, Leaf, Var, Name, Bind, Join, Project, If}
use Rattle.pvs_subst.specs.Contexts.{Assumptions, Variable, Hypothesis}
use Rattle.std.specs.Prelude.{[], ◌∷◌}

-- each free index of the tree is below n; a reference has none
abbrev pub IsScoped : ℕ → Tree → Type 0
IsScoped n (Leaf o) = Unit {0}
IsScoped n (Var k) = k < n
IsScoped n (Name s r) = Unit {0}
IsScoped n (Bind o a b) = IsScoped n a × IsScoped (suc n) b
IsScoped n (Join o a b) = IsScoped n a × IsScoped n b
IsScoped n (Project o a) = IsScoped n a
IsScoped n (If a b c) = IsScoped n a × IsScoped n b × IsScoped n c

-- how many variables a context binds
abbrev pub variables_in : Assumptions → ℕ
variables_in [] = 0
variables_in (Variable a ∷ g) = suc (variables_in g)
variables_in (Hypothesis p ∷ g) = variables_in g
