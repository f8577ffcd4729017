-- Replacement keeps sorts: laws for all trees.
use Rattle.std.proofs.Common.{◌≡◌, ℕ, zero, suc, refl, ◌∙◌}
use Rattle.pvs_terms.specs.Tree.{Text, Tree, Leaf, Var, Name, Bind, Join, Project, If, Own, Formal, Inst, Trees, none, more}
use Rattle.pvs_terms.specs.Sorts.{sort_of, IsTerm, HasSorts, IsSorted, AreSorted}
use Rattle.pvs_terms.specs.Stored.{Stored, tree_at, shape_tree}
use Rattle.pvs_terms.specs.declared.shape.Sort.{Sort}
use Rattle.pvs_terms.specs.declared.shape.Shape.{Shape}
use Rattle.pvs_terms.specs.declared.shape.Shape.TheVariants as shape
use Rattle.pvs_terms.proofs.SortLaws.{has_sorts}
use Rattle.pvs_subst.specs.code.Compound.{IsCompound, IsNoName}
use Rattle.pvs_subst.specs.Replace.{lift, put_var, put_at, put_in}
use Rattle.pvs_subst.specs.Instance.{actual, instantiate, instantiate_all, HasActual, HasActuals, AllHaveActuals}

-- lifting
pub sort_of-lift : (t : Tree) (by from : ℕ) → sort_of (lift t by from) ≡ sort_of t
sort_of-lift (Leaf o) by from = refl
sort_of-lift (Var n) by from = refl
sort_of-lift (Name s r) by from = refl
sort_of-lift (Bind o x y) by from = refl
sort_of-lift (Join o x y) by from = refl
sort_of-lift (Project o x) by from = refl
sort_of-lift (If x y z) by from = refl

pub HasSorts-lift : (t : Tree) (by from : ℕ) → HasSorts t → HasSorts (lift t by from)
HasSorts-lift (Leaf o) by from h = tt
HasSorts-lift (Var n) by from h = tt
HasSorts-lift (Name s r) by from h = tt
HasSorts-lift (Bind o x y) by from h = (h.0, sort_of-lift x by from ∙ h.1, sort_of-lift y by (suc from) ∙ h.2)
HasSorts-lift (Join o x y) by from h = (h.0, sort_of-lift x by from ∙ h.1, sort_of-lift y by from ∙ h.2)
HasSorts-lift (Project o x) by from h = (h.0, sort_of-lift x by from ∙ h.1)
HasSorts-lift (If x y z) by from h = (sort_of-lift x by from ∙ h.0, sort_of-lift y by from ∙ h.1, sort_of-lift z by from ∙ h.2)

pub IsSorted-lift : (t : Tree) (by from : ℕ) → IsSorted t → IsSorted (lift t by from)
IsSorted-lift (Leaf o) by from h = tt
IsSorted-lift (Var n) by from h = tt
IsSorted-lift (Name s r) by from h = h
IsSorted-lift (Bind o x y) by from h = (HasSorts-lift (Bind o x y) by from h.0, IsSorted-lift x by from h.1, IsSorted-lift y by (suc from) h.2)
IsSorted-lift (Join o x y) by from h = (HasSorts-lift (Join o x y) by from h.0, IsSorted-lift x by from h.1, IsSorted-lift y by from h.2)
IsSorted-lift (Project o x) by from h = (HasSorts-lift (Project o x) by from h.0, IsSorted-lift x by from h.1)
IsSorted-lift (If x y z) by from h = (HasSorts-lift (If x y z) by from h.0, IsSorted-lift x by from h.1, IsSorted-lift y by from h.2, IsSorted-lift z by from h.3)

-- substitution of a term
pub sort_of-put_var : (u : Tree) (at n : ℕ) → IsTerm u → IsTerm (put_var u at n)
sort_of-put_var u zero zero h = h
sort_of-put_var u zero (suc n) h = refl
sort_of-put_var u (suc at) zero h = refl
sort_of-put_var u (suc at) (suc n) h = sort_of-lift (put_var u at n) 1 0 ∙ sort_of-put_var u at n h

pub sort_of-put_at : (t u : Tree) (at : ℕ) → IsTerm u → sort_of (put_at t u at) ≡ sort_of t
sort_of-put_at (Leaf o) u at h = refl
sort_of-put_at (Var n) u at h = sort_of-put_var u at n h
sort_of-put_at (Name s r) u at h = refl
sort_of-put_at (Bind o x y) u at h = refl
sort_of-put_at (Join o x y) u at h = refl
sort_of-put_at (Project o x) u at h = refl
sort_of-put_at (If x y z) u at h = refl

pub sort_of-put_in : (t u : Tree) → IsTerm u → sort_of (put_in t u) ≡ sort_of t
sort_of-put_in t u h = sort_of-put_at t u 0 h

IsSorted-put_var : (u : Tree) (at n : ℕ) → IsSorted u → IsSorted (put_var u at n)
IsSorted-put_var u zero zero h = h
IsSorted-put_var u zero (suc n) h = tt
IsSorted-put_var u (suc at) zero h = tt
IsSorted-put_var u (suc at) (suc n) h = IsSorted-lift (put_var u at n) 1 0 (IsSorted-put_var u at n h)

-- of a shape that is no variable
pub HasSorts-put_shape : (s : Stored) (x : Shape) (u : Tree) (at : ℕ) → IsCompound x → IsTerm u → HasSorts (shape_tree s x) → HasSorts (put_at (shape_tree s x) u at)
HasSorts-put_shape s (shape.Leaf o) u at c i h = tt
HasSorts-put_shape s (shape.Index n) u at c i h = absurd c
HasSorts-put_shape s (shape.Name t r) u at c i h = tt
HasSorts-put_shape s (shape.Bind o a b) u at c i h = (h.0, sort_of-put_at (tree_at s a) u at i ∙ h.1, sort_of-put_at (tree_at s b) u (suc at) i ∙ h.2)
HasSorts-put_shape s (shape.Join o a b) u at c i h = (h.0, sort_of-put_at (tree_at s a) u at i ∙ h.1, sort_of-put_at (tree_at s b) u at i ∙ h.2)
HasSorts-put_shape s (shape.Project o a) u at c i h = (h.0, sort_of-put_at (tree_at s a) u at i ∙ h.1)
HasSorts-put_shape s (shape.Choose x y z) u at c i h = (sort_of-put_at (tree_at s x) u at i ∙ h.0, sort_of-put_at (tree_at s y) u at i ∙ h.1, sort_of-put_at (tree_at s z) u at i ∙ h.2)

pub HasSorts-put_at : (t u : Tree) (at : ℕ) → IsTerm u → IsSorted u → HasSorts t → HasSorts (put_at t u at)
HasSorts-put_at (Leaf o) u at i j h = tt
HasSorts-put_at (Var n) u at i j h = has_sorts (put_var u at n) (IsSorted-put_var u at n j)
HasSorts-put_at (Name s r) u at i j h = tt
HasSorts-put_at (Bind o x y) u at i j h = (h.0, sort_of-put_at x u at i ∙ h.1, sort_of-put_at y u (suc at) i ∙ h.2)
HasSorts-put_at (Join o x y) u at i j h = (h.0, sort_of-put_at x u at i ∙ h.1, sort_of-put_at y u at i ∙ h.2)
HasSorts-put_at (Project o x) u at i j h = (h.0, sort_of-put_at x u at i ∙ h.1)
HasSorts-put_at (If x y z) u at i j h = (sort_of-put_at x u at i ∙ h.0, sort_of-put_at y u at i ∙ h.1, sort_of-put_at z u at i ∙ h.2)

pub IsSorted-put_at : (t u : Tree) (at : ℕ) → IsTerm u → IsSorted u → IsSorted t → IsSorted (put_at t u at)
IsSorted-put_at (Leaf o) u at i j h = tt
IsSorted-put_at (Var n) u at i j h = IsSorted-put_var u at n j
IsSorted-put_at (Name s r) u at i j h = h
IsSorted-put_at (Bind o x y) u at i j h = (HasSorts-put_at (Bind o x y) u at i j h.0, IsSorted-put_at x u at i j h.1, IsSorted-put_at y u (suc at) i j h.2)
IsSorted-put_at (Join o x y) u at i j h = (HasSorts-put_at (Join o x y) u at i j h.0, IsSorted-put_at x u at i j h.1, IsSorted-put_at y u at i j h.2)
IsSorted-put_at (Project o x) u at i j h = (HasSorts-put_at (Project o x) u at i j h.0, IsSorted-put_at x u at i j h.1)
IsSorted-put_at (If x y z) u at i j h = (HasSorts-put_at (If x y z) u at i j h.0, IsSorted-put_at x u at i j h.1, IsSorted-put_at y u at i j h.2, IsSorted-put_at z u at i j h.3)

pub IsSorted-put_in : (t u : Tree) → IsTerm u → IsSorted u → IsSorted t → IsSorted (put_in t u)
IsSorted-put_in t u i j h = IsSorted-put_at t u 0 i j h

-- instances
sort_of-actual : (acts : Trees) (n : ℕ) (s : Sort) (other : Tree) → HasActual acts n s → sort_of (actual acts n other) ≡ s
sort_of-actual none n s other h = absurd h
sort_of-actual (more x xs) zero s other h = h
sort_of-actual (more x xs) (suc n) s other h = sort_of-actual xs n s other h

pub sort_of-instantiate : (t : Tree) (th : Text) (acts : Trees) → HasActuals acts t → sort_of (instantiate t th acts) ≡ sort_of t
sort_of-instantiate (Leaf o) th acts h = refl
sort_of-instantiate (Var n) th acts h = refl
sort_of-instantiate (Name s (Own n)) th acts h = refl
sort_of-instantiate (Name s (Formal n)) th acts h = sort_of-actual acts n s (Name s (Formal n)) h
sort_of-instantiate (Name s (Inst a n xs)) th acts h = refl
sort_of-instantiate (Bind o x y) th acts h = refl
sort_of-instantiate (Join o x y) th acts h = refl
sort_of-instantiate (Project o x) th acts h = refl
sort_of-instantiate (If x y z) th acts h = refl

IsSorted-actual : (acts : Trees) (n : ℕ) (other : Tree) → AreSorted acts → IsSorted other → IsSorted (actual acts n other)
IsSorted-actual none n other h k = k
IsSorted-actual (more x xs) zero other h k = h.0
IsSorted-actual (more x xs) (suc n) other h k = IsSorted-actual xs n other h.1 k

-- of a shape that is no name
pub HasSorts-instantiate_shape : (s : Stored) (x : Shape) (th : Text) (acts : Trees) → IsNoName x → HasActuals acts (shape_tree s x) → HasSorts (shape_tree s x) → HasSorts (instantiate (shape_tree s x) th acts)
HasSorts-instantiate_shape s (shape.Leaf o) th acts n a h = tt
HasSorts-instantiate_shape s (shape.Index i) th acts n a h = tt
HasSorts-instantiate_shape s (shape.Name t r) th acts n a h = absurd n
HasSorts-instantiate_shape s (shape.Bind o i j) th acts n a h = (h.0, sort_of-instantiate (tree_at s i) th acts a.0 ∙ h.1, sort_of-instantiate (tree_at s j) th acts a.1 ∙ h.2)
HasSorts-instantiate_shape s (shape.Join o i j) th acts n a h = (h.0, sort_of-instantiate (tree_at s i) th acts a.0 ∙ h.1, sort_of-instantiate (tree_at s j) th acts a.1 ∙ h.2)
HasSorts-instantiate_shape s (shape.Project o i) th acts n a h = (h.0, sort_of-instantiate (tree_at s i) th acts a ∙ h.1)
HasSorts-instantiate_shape s (shape.Choose i j k) th acts n a h = (sort_of-instantiate (tree_at s i) th acts a.0 ∙ h.0, sort_of-instantiate (tree_at s j) th acts a.1 ∙ h.1, sort_of-instantiate (tree_at s k) th acts a.2 ∙ h.2)

mutual
  pub IsSorted-instantiate : (t : Tree) (th : Text) (acts : Trees) → HasActuals acts t → AreSorted acts → IsSorted t → IsSorted (instantiate t th acts)
  IsSorted-instantiate (Leaf o) th acts a b h = tt
  IsSorted-instantiate (Var n) th acts a b h = tt
  IsSorted-instantiate (Name s (Own n)) th acts a b h = b
  IsSorted-instantiate (Name s (Formal n)) th acts a b h = IsSorted-actual acts n (Name s (Formal n)) b tt
  IsSorted-instantiate (Name s (Inst u n xs)) th acts a b h = AreSorted-instantiate_all xs th acts a b h
  IsSorted-instantiate (Bind o x y) th acts a b h =
      ((h.0.0, sort_of-instantiate x th acts a.0 ∙ h.0.1, sort_of-instantiate y th acts a.1 ∙ h.0.2), IsSorted-instantiate x th acts a.0 b h.1, IsSorted-instantiate y th acts a.1 b h.2)
  IsSorted-instantiate (Join o x y) th acts a b h =
      ((h.0.0, sort_of-instantiate x th acts a.0 ∙ h.0.1, sort_of-instantiate y th acts a.1 ∙ h.0.2), IsSorted-instantiate x th acts a.0 b h.1, IsSorted-instantiate y th acts a.1 b h.2)
  IsSorted-instantiate (Project o x) th acts a b h = ((h.0.0, sort_of-instantiate x th acts a ∙ h.0.1), IsSorted-instantiate x th acts a b h.1)
  IsSorted-instantiate (If x y z) th acts a b h = (
    (sort_of-instantiate x th acts a.0 ∙ h.0.0, sort_of-instantiate y th acts a.1 ∙ h.0.1, sort_of-instantiate z th acts a.2 ∙ h.0.2),
    IsSorted-instantiate x th acts a.0 b h.1,
    IsSorted-instantiate y th acts a.1 b h.2,
    IsSorted-instantiate z th acts a.2 b h.3,
  )

  pub AreSorted-instantiate_all : (xs : Trees) (th : Text) (acts : Trees) → AllHaveActuals acts xs → AreSorted acts → AreSorted xs → AreSorted (instantiate_all xs th acts)
  AreSorted-instantiate_all none th acts a b h = tt
  AreSorted-instantiate_all (more x xs) th acts a b h = (IsSorted-instantiate x th acts a.0 b h.0, AreSorted-instantiate_all xs th acts a.1 b h.1)
