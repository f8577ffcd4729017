-- Which environments satisfy a context.
use Rattle.std.specs.Prelude.{◌≡◌, true, [], ◌∷◌, ◌++◌}
use Rattle.pvs_subst.specs.Contexts.{Assumptions, Variable, Hypothesis}
use Rattle.pvs_sem.specs.Value.{Truth, IsMember}
use Rattle.pvs_sem.specs.Meaning.{Model, Env, env_rest, mean}

-- each bound value is in its set, and each hypothesis is TRUE
abbrev pub Satisfies : Model → Assumptions → Env → Type 0
Satisfies m [] e = Unit {0}
Satisfies m (Variable a ∷ g) e = IsMember (e 0) (mean m a (env_rest e)).set × Satisfies m g (env_rest e)
Satisfies m (Hypothesis p ∷ g) e = ((mean m p e).value ≡ Truth true) × Satisfies m g e

-- `e` extends the environment `at` by a value for each variable of the context, in its set, such that each hypothesis
-- is TRUE
abbrev pub IsExtension : Model → Env → Assumptions → Env → Type 0
IsExtension m at [] e = e ≡ at
IsExtension m at (Variable a ∷ g) e = IsMember (e 0) (mean m a (env_rest e)).set × IsExtension m at g (env_rest e)
IsExtension m at (Hypothesis p ∷ g) e = ((mean m p e).value ≡ Truth true) × IsExtension m at g e

-- the context adds something to `base`, and `e` extends `at` by what it adds
pub record Above (m : Model) (base : Assumptions) (at : Env) (g : Assumptions) (e : Env) : Type 0 where
  pub between : Assumptions
  pub is : g ≡ between ++ base
  pub extension : IsExtension m at between e
