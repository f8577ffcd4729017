-- The model of a theory that an instance of it has in a model: the reduct along the instance's actuals.
use Rattle.std.specs.Prelude.{Bool, false}
use Rattle.pvs_terms.specs.Tree.{Text, Ref, Own, Formal, Inst, Trees, False}
use Rattle.pvs_subst.specs.Instance.{actual, instantiate_all}
use Rattle.pvs_sem.specs.Value.{Truth}
use Rattle.pvs_sem.specs.Meaning.{Meaning, Model, Env, mean, inside}

-- the environment of a closed tree
abbrev pub empty_env : Env
empty_env n = Truth false

abbrev pub reduct_meaning : Model → Text → Trees → Ref → Meaning
reduct_meaning m th acts (Own n) = m.meaning (Inst th n acts)
reduct_meaning m th acts (Formal n) = mean m (actual acts n False) empty_env
reduct_meaning m th acts (Inst a n xs) = m.meaning (Inst a n (instantiate_all xs th acts))

abbrev pub reduct_has : Model → Text → Trees → Ref → Bool
reduct_has m th acts (Own n) = m.has (Inst th n acts)
reduct_has m th acts (Formal n) = inside m (actual acts n False) empty_env
reduct_has m th acts (Inst a n xs) = m.has (Inst a n (instantiate_all xs th acts))

-- a formal means what its actual means, and each other reference what its instance means
abbrev pub reduct : Model → Text → Trees → Model
reduct m th acts = record { meaning = reduct_meaning m th acts; has = reduct_has m th acts }
