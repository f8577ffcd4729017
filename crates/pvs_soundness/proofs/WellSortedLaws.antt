-- What typing accepts is well sorted, and the terms of well-sorted trees are proper.
use Rattle.std.proofs.Common.{refl}
use Rattle.pvs_terms.specs.Tree.{Tree, Leaf, Var, Name, Bind, Join, Project, If}
use Rattle.pvs_terms.specs.Sorts.{IsType, IsTerm}
use Rattle.pvs_terms.specs.declared.shape.Plain.TheVariants.{BoolType, Yes, No}
use Rattle.pvs_terms.specs.declared.shape.Sort.TheVariants.{OfType, OfTerm}
use Rattle.pvs_terms.specs.declared.shape.Binder.TheVariants.{Subtype, Function, Product, Lambda}
use Rattle.pvs_terms.specs.declared.shape.Joint.TheVariants.{Apply, Tuple, Equal}
use Rattle.pvs_sig.specs.Lookups.{Lookups}
use Rattle.pvs_subst.specs.Contexts.{Assumptions}
use Rattle.pvs_types.specs.ProperTerms.{IsProperTerm}
use Rattle.pvs_soundness.specs.WellSorted.{IsWellSorted}
use Rattle.pvs_soundness.specs.Laws.{AcceptedTreesAreWellSorted}
use Rattle.pvs_soundness.proofs.AcceptedLaws.{IsKept, typing_kept}

pub proper : (t : Tree) → IsWellSorted t → IsTerm t → IsProperTerm t
proper (Leaf BoolType) s h = cc
proper (Leaf Yes) s h = tt
proper (Leaf No) s h = tt
proper (Var n) s h = tt
proper (Name OfType r) s h = cc
proper (Name OfTerm r) s h = tt
proper (Bind Subtype a p) s h = cc
proper (Bind Function a b) s h = cc
proper (Bind (Product k) a b) s h = cc
proper (Bind Lambda a b) s h = proper b s.3 s.1
proper (Join Apply a b) s h = tt
proper (Join (Tuple k) a b) s h = (proper a s.2 s.0, proper b s.3 s.1)
proper (Join Equal a b) s h = tt
proper (Project o a) s h = tt
proper (If c a b) s h = tt

abbrev pub Term : Assumptions → Tree → Type 0
Term g t = IsTerm t × IsWellSorted t

abbrev pub Type' : Assumptions → Tree → Type 0
Type' g a = IsType a × IsWellSorted a

pub sorts_kept : (s : Lookups) → IsKept s Term Type'
sorts_kept s = record {
  truth = λ g. (refl, tt);
  yes = λ g. (refl, tt);
  no = λ g. (refl, tt);
  variable = λ g n a h. (refl, tt);
  constant = λ g r a e. (refl, tt);
  name = λ g r e. (refl, tt);
  subtype = λ g a p h k. (refl, (h.0, k.0, h.1, k.1));
  function = λ g a b h k. (refl, (h.0, k.0, h.1, k.1));
  product = λ g n a b h k. (refl, (h.0, k.0, h.1, k.1));
  abstraction = λ g a b h k. (refl, (h.0, k.0, h.1, k.1));
  application = λ g a b h k. (refl, (h.0, k.0, h.1, k.1));
  tuple = λ g n a b h k. (refl, (h.0, k.0, h.1, k.1));
  equation = λ g a b h k. (refl, (h.0, k.0, h.1, k.1));
  universal = λ g a p h. (refl, (refl, refl, h.1, (h.1.0, refl, h.1.2, tt)));
  projection = λ g o a h. (refl, (h.0, h.1));
  choice = λ g t a b h j k. (refl, (h.0, j.0, k.0, h.1, j.1, k.1));
}

pub accepted_sorted : AcceptedTreesAreWellSorted
accepted_sorted s g t a = let x = typing_kept s Term Type' (sorts_kept s) t in (x.infer g, x.check g a, x.well_formed g)
