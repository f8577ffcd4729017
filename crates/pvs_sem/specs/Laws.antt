-- Laws of meaning, for all trees, models and environments.
use Rattle.std.specs.Prelude.{◌≡◌, ◌↔◌, true, List}
use Rattle.pvs_terms.specs.Tree.{Text, Tree, TBool, Trees, AreClosed}
use Rattle.pvs_terms.specs.Sorts.{IsTerm}
use Rattle.pvs_subst.specs.Replace.{lift, put_in}
use Rattle.pvs_subst.specs.Instance.{instantiate, HasActuals}
use Rattle.pvs_sem.specs.Value.{Value, Truth, IsMember, IsAscending}
use Rattle.pvs_sem.specs.Meaning.{Model, Env, env_with, env_rest, mean, inside}
use Rattle.pvs_sem.specs.Reduct.{reduct}
use Rattle.pvs_sem.specs.Interpretations.{FiniteMap, AreSets, model_of}
use Rattle.pvs_sem.specs.Truth.{truth}
use Rattle.pvs_sem.specs.ModelTruth.{is_true_in}

-- sets with the same members are equal
abbrev pub SetsAreExtensional : Type 0
SetsAreExtensional = (xs ys : List Value) → IsAscending xs → IsAscending ys → ((v : Value) → IsMember v xs → IsMember v ys)
    → ((v : Value) → IsMember v ys → IsMember v xs) → xs ≡ ys

-- what stands for a set in a finite map's model ascends
abbrev pub MeaningsAreSets : Type 0
MeaningsAreSets = (i : FiniteMap) → AreSets i → (t : Tree) (e : Env) → IsAscending (mean (model_of i) t e).set

-- a tree that is lifted by one means what it means without the value of index 0
abbrev pub LiftingKeepsMeaning : Type 0
LiftingKeepsMeaning = (m : Model) (t : Tree) (e : Env)
    → (mean m (lift t 1 0) e ≡ mean m t (env_rest e)) × (inside m (lift t 1 0) e ≡ inside m t (env_rest e))

-- a tree with a term put in means what the tree means at the term's value; the flags agree where the term's is on
abbrev pub ReplacementKeepsMeaning : Type 0
ReplacementKeepsMeaning = (m : Model) (t u : Tree) (e : Env) → IsTerm u →
    (mean m (put_in t u) e ≡ mean m t (env_with (mean m u e).value e))
    × (inside m u e ≡ true → inside m (put_in t u) e ≡ inside m t (env_with (mean m u e).value e))

-- an instance of a tree means what the tree means in the reduct
abbrev pub InstancesKeepMeaning : Type 0
InstancesKeepMeaning = (m : Model) (th : Text) (acts : Trees) (t : Tree) (e : Env) → AreClosed acts → HasActuals acts t →
    (mean m (instantiate t th acts) e ≡ mean (reduct m th acts) t e) × (inside m (instantiate t th acts) e ≡ inside (reduct m th acts) t e)

-- the truth of a tree by the truth of its atoms in a model is its truth in the model
abbrev pub TruthIsValue : Type 0
TruthIsValue = (m : Model) (e : Env) (t : Tree) → truth (is_true_in m e) t ≡ is_true_in m e t

-- a term is TRUE by its atoms exactly if its value is TRUE
abbrev pub TrueTermsAreTrue : Type 0
TrueTermsAreTrue = (m : Model) (e : Env) (t : Tree) → truth (is_true_in m e) t ≡ true ↔ (mean m t e).value ≡ Truth true

-- the value of a term of type bool is its truth by its atoms
abbrev pub BooleanTermsAreTruths : Type 0
BooleanTermsAreTruths = (m : Model) (e : Env) (t : Tree) → IsMember (mean m t e).value (mean m TBool e).set
    → (mean m t e).value ≡ Truth (truth (is_true_in m e) t)
