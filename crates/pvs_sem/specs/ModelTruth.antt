-- Which terms are TRUE in a model.
use Rattle.pvs_sem.specs.Value.{is_true}
use Rattle.pvs_sem.specs.Meaning.{Model, Env, mean}
use Rattle.pvs_sem.specs.Truth.{TruthAssignment}

-- whether a term is TRUE in a model and an environment, as a truth assignment
abbrev pub is_true_in : Model → Env → TruthAssignment
is_true_in m e t = is_true (mean m t e).value
