-- Proper terms are terms, and each term of a sorted tree is proper.
use Rattle.std.proofs.Common.{refl}
use Rattle.pvs_terms.specs.Tree.{Tree, Leaf, Var, Name, Bind, Join, Project, If}
use Rattle.pvs_terms.specs.Sorts.{IsTerm, IsSorted}
use Rattle.pvs_terms.specs.declared.shape.Plain.TheVariants.{BoolType, Yes, No}
use Rattle.pvs_terms.specs.declared.shape.Sort.TheVariants.{OfType, OfTerm}
use Rattle.pvs_terms.specs.declared.shape.Binder.TheVariants.{Subtype, Function, Product, Lambda}
use Rattle.pvs_terms.specs.declared.shape.Joint.TheVariants.{Apply, Tuple, Equal}
use Rattle.pvs_types.specs.ProperTerms.{IsProperTerm}

pub proper_is_term : (t : Tree) → IsProperTerm t → IsTerm t
proper_is_term (Leaf BoolType) h = absurd h
proper_is_term (Leaf Yes) h = refl
proper_is_term (Leaf No) h = refl
proper_is_term (Var n) h = refl
proper_is_term (Name OfType r) h = absurd h
proper_is_term (Name OfTerm r) h = refl
proper_is_term (Bind Subtype a p) h = absurd h
proper_is_term (Bind Function a b) h = absurd h
proper_is_term (Bind (Product k) a b) h = absurd h
proper_is_term (Bind Lambda a b) h = refl
proper_is_term (Join o a b) h = refl
proper_is_term (Project o a) h = refl
proper_is_term (If c a b) h = refl

pub sorted_is_proper : (t : Tree) → IsSorted t → IsTerm t → IsProperTerm t
sorted_is_proper (Leaf BoolType) s h = cc
sorted_is_proper (Leaf Yes) s h = tt
sorted_is_proper (Leaf No) s h = tt
sorted_is_proper (Var n) s h = tt
sorted_is_proper (Name OfType r) s h = cc
sorted_is_proper (Name OfTerm r) s h = tt
sorted_is_proper (Bind Subtype a p) s h = cc
sorted_is_proper (Bind Function a b) s h = cc
sorted_is_proper (Bind (Product k) a b) s h = cc
sorted_is_proper (Bind Lambda a b) s h = sorted_is_proper b s.2 s.0.2
sorted_is_proper (Join Apply a b) s h = tt
sorted_is_proper (Join (Tuple k) a b) s h = (sorted_is_proper a s.1 s.0.1, sorted_is_proper b s.2 s.0.2)
sorted_is_proper (Join Equal a b) s h = tt
sorted_is_proper (Project o a) s h = tt
sorted_is_proper (If c a b) s h = tt
