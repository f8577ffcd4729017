-- Conditions, closed over what stands between them and the variables of a sequent.
use Rattle.std.specs.Prelude.{ℕ, ◌-◌, [], ◌∷◌, length, take}
use Rattle.pvs_terms.specs.Tree.{Tree, True, Lam, Eq, If}
use Rattle.pvs_subst.specs.Contexts.{Assumptions, Variable, Hypothesis, Obligation}
use Rattle.pvs_sequent.specs.Sequents.{Sequent}

-- the formula that p holds for all values of its variable in a type
abbrev pub all_of : Tree → Tree → Tree
all_of a p = Eq (Lam a p) (Lam a True)

-- the formula that p implies q
abbrev pub implies : Tree → Tree → Tree
implies p q = If p q True

-- a goal closed over its context, from the inside out
abbrev pub close : Assumptions → Tree → Tree
close [] t = t
close (Variable a ∷ g) t = close g (all_of a t)
close (Hypothesis p ∷ g) t = close g (implies p t)

-- a context without its outermost n entries
abbrev pub inner : ℕ → Assumptions → Assumptions
inner n g = take (length g - n) g

-- a condition closed down to the variables of a sequent
abbrev pub closed_in : Sequent → Obligation → Tree
closed_in q c = close (inner (length q.variables) c.context) c.goal
