-- What typing accepts in a context has its free indices below the number of variables that the context binds.
use Rattle.std.proofs.Common.{◌≡◌, ℕ, zero, suc, ◌<◌, ◌≤◌, [], ◌∷◌, Some, arith}
use Rattle.pvs_terms.specs.Tree.{Tree, Leaf, Var, Name, Bind, Join, Project, If, free_below, IsClosed}
use Rattle.pvs_sig.specs.Lookups.{Lookups}
use Rattle.pvs_subst.specs.Contexts.{Assumptions, Variable, Hypothesis}
use Rattle.pvs_types.specs.Typing.{binder_type}
use Rattle.pvs_soundness.specs.Scoped.{IsScoped, variables_in}
use Rattle.pvs_soundness.specs.Laws.{AcceptedTreesAreClosed}
use Rattle.pvs_soundness.proofs.AcceptedLaws.{IsKept, typing_kept, weaker}

-- a variable that has a type is bound
bound : (g : Assumptions) (n : ℕ) (a : Tree) → binder_type g n ≡ Some a → n < variables_in g
bound [] n a h = cc
bound (Variable b ∷ g) zero a h = omega arith
bound (Variable b ∷ g) (suc n) a h = let r = bound g n a h in omega arith
bound (Hypothesis p ∷ g) n a h = bound g n a h

abbrev pub InScope : Assumptions → Tree → Type 0
InScope g t = IsScoped (variables_in g) t

pub scope_kept : (s : Lookups) → IsKept s InScope InScope
scope_kept s = record {
  truth = λ g. tt;
  yes = λ g. tt;
  no = λ g. tt;
  variable = bound;
  constant = λ g r a e. tt;
  name = λ g r e. tt;
  subtype = λ g a p h k. (h, k);
  function = λ g a b h k. (h, k);
  product = λ g n a b h k. (h, k);
  abstraction = λ g a b h k. (h, k);
  application = λ g a b h k. (h, k);
  tuple = λ g n a b h k. (h, k);
  equation = λ g a b h k. (h, k);
  universal = λ g a p h. (h, (h.0, tt));
  projection = λ g o a h. h;
  choice = λ g t a b h j k. (h, j, k);
}

-- free indices below a number, as a number
pub free_within : (n : ℕ) (t : Tree) → IsScoped n t → free_below t ≤ n
free_within n (Leaf o) h = omega arith
free_within n (Var k) h = omega arith
free_within n (Name s r) h = omega arith
free_within n (Bind o a b) h = let p = free_within n a h.0 in let q = free_within (suc n) b h.1 in omega arith
free_within n (Join o a b) h = let p = free_within n a h.0 in let q = free_within n b h.1 in omega arith
free_within n (Project o a) h = free_within n a h
free_within n (If a b c) h = let p = free_within n a h.0 in let q = free_within n b h.1 in let r = free_within n c h.2 in omega arith

pub closed_within : (t : Tree) → IsScoped 0 t → IsClosed t
closed_within t h = let p = free_within 0 t h in omega arith

pub accepted_closed : AcceptedTreesAreClosed
accepted_closed s t a =
    let x = typing_kept s InScope InScope (scope_kept s) t in
    (weaker _ _ _ (closed_within t) (x.infer []), weaker _ _ _ (closed_within t) (x.check [] a), weaker _ _ _ (closed_within t) (x.well_formed []))
