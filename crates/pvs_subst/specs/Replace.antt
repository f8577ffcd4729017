-- Lifting and putting in, on trees. Both are total: a result has no value where it does not fit.
-- Indices are followed by recursion; proofs/ReplaceLaws says the same by comparison.
use Rattle.std.specs.Prelude.{ℕ, zero, suc, ◌+◌}
use Rattle.pvs_terms.specs.Tree.{Tree, Leaf, Var, Name, Bind, Join, Project, If}

-- the index n, raised_index by `by` where it is at least `from`
abbrev pub raised_index : ℕ → ℕ → ℕ → ℕ
raised_index by zero n = n + by
raised_index by (suc from) zero = zero
raised_index by (suc from) (suc n) = suc (raised_index by from n)

-- each free index that is at least `from` is raised_index by `by`; a reference has no free index
abbrev pub lift : Tree → ℕ → ℕ → Tree
lift (Leaf o) by from = Leaf o
lift (Var n) by from = Var (raised_index by from n)
lift (Name s r) by from = Name s r
lift (Bind o a b) by from = Bind o (lift a by from) (lift b by (suc from))
lift (Join o a b) by from = Join o (lift a by from) (lift b by from)
lift (Project o a) by from = Project o (lift a by from)
lift (If a b c) by from = If (lift a by from) (lift b by from) (lift c by from)

-- what stands for the index n where `arg` is put in for the index `at`
abbrev pub put_var : Tree → ℕ → ℕ → Tree
put_var arg zero zero = arg
put_var arg zero (suc n) = Var n
put_var arg (suc at) zero = Var zero
put_var arg (suc at) (suc n) = lift (put_var arg at n) 1 0

-- `arg` is put in for the index `at`, and the greater ones are lowered; `arg` counts its free
-- indices from outside the `at` binders below that index
abbrev pub put_at : Tree → Tree → ℕ → Tree
put_at (Leaf o) arg at = Leaf o
put_at (Var n) arg at = put_var arg at n
put_at (Name s r) arg at = Name s r
put_at (Bind o a b) arg at = Bind o (put_at a arg at) (put_at b arg (suc at))
put_at (Join o a b) arg at = Join o (put_at a arg at) (put_at b arg at)
put_at (Project o a) arg at = Project o (put_at a arg at)
put_at (If a b c) arg at = If (put_at a arg at) (put_at b arg at) (put_at c arg at)

-- `body[arg]`: `arg` for the index 0, and the others lowered
abbrev pub put_in : Tree → Tree → Tree
put_in body arg = put_at body arg 0
