-- The set of each tree ascends where the sets of the references do.
use Rattle.std.proofs.Common.{inl, inr, Bool, true, false, cond, [], ◌∷◌, Some, refl}
use Rattle.pvs_terms.specs.Tree.{Tree, Leaf, Var, Name, Bind, Join, Project, If, Ref, ref_eq}
use Rattle.pvs_terms.specs.declared.shape.Plain.TheVariants.{BoolType, Yes, No}
use Rattle.pvs_terms.specs.declared.shape.Sort.TheVariants.{OfType, OfTerm}
use Rattle.pvs_terms.specs.declared.shape.Binder.TheVariants.{Subtype, Function, Product, Lambda}
use Rattle.pvs_terms.specs.declared.shape.Joint.TheVariants.{Apply, Tuple, Equal}
use Rattle.pvs_terms.specs.declared.shape.Projection.TheVariants.{First, Second}
use Rattle.pvs_sem.specs.Value.{IsAscending, is_true}
use Rattle.pvs_sem.specs.Meaning.{Model, Env, env_with, mean}
use Rattle.pvs_sem.specs.Interpretations.{Denotation, Set, Element, FiniteMap, denotation_of, denoted_meaning, model_of, IsSet, AreSets}
use Rattle.pvs_sem.proofs.OrderLaws.{ascending_subset, ascending_tables, ascending_pairs}

module _ (m : Model) (sets : (r : Ref) → IsAscending (m.meaning r).set) where
  pub ascending_mean : (a : Tree) (e : Env) → IsAscending (mean m a e).set
  ascending_mean (Leaf BoolType) e = (λ v q. elim q [ inl x ↦ rw x refl | inr x ↦ absurd x ], ((λ v q. absurd q), tt))
  ascending_mean (Leaf Yes) e = tt
  ascending_mean (Leaf No) e = tt
  ascending_mean (Var n) e = tt
  ascending_mean (Name OfType r) e = sets r
  ascending_mean (Name OfTerm r) e = tt
  ascending_mean (Bind Subtype a p) e = ascending_subset (λ w. is_true (mean m p (env_with w e)).value) (mean m a e).set
      (ascending_mean a e)
  ascending_mean (Bind Function a b) e = ascending_tables (λ v. (mean m b (env_with v e)).set) (mean m a e).set
      (λ v. ascending_mean b (env_with v e))
  ascending_mean (Bind (Product k) a b) e = ascending_pairs (λ v. (mean m b (env_with v e)).set) (mean m a e).set (ascending_mean a e)
      (λ v. ascending_mean b (env_with v e))
  ascending_mean (Bind Lambda a b) e = tt
  ascending_mean (Join Apply a b) e = tt
  ascending_mean (Join (Tuple k) a b) e = tt
  ascending_mean (Join Equal a b) e = tt
  ascending_mean (Project (First k) a) e = tt
  ascending_mean (Project (Second k) a) e = tt
  ascending_mean (If c a b) e = tt

ascending_denoted : (d : Denotation) → IsSet d → IsAscending (denoted_meaning (Some d)).set
ascending_denoted (Set xs) h = h
ascending_denoted (Element v) h = tt

-- the model of a finite map has sets
pub ascending_model : (i : FiniteMap) → AreSets i → (r : Ref) → IsAscending ((model_of i).meaning r).set
ascending_model [] h r = tt
ascending_model (x ∷ xs) h r = go (ref_eq r x.reference) (ascending_model xs h.1 r)
  where
    go : (b : Bool) → IsAscending (denoted_meaning (denotation_of xs r)).set
        → IsAscending (denoted_meaning (cond b (Some x.denotation) (denotation_of xs r))).set
    go true k = ascending_denoted x.denotation h.0
    go false k = k
