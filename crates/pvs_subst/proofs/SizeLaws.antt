-- Sizes, depths and indices under replacement, for all trees.
use Rattle.std.proofs.Common.{◌≡◌, ℕ, zero, suc, ◌+◌, ◌*◌, ◌<◌, ◌≤◌, refl, arith, inl, inr}
use Rattle.std.proofs.lemmas.Bool.{cases_lt}
use Rattle.pvs_terms.specs.Tree.{Text, Tree, Leaf, Var, Name, Bind, Join, Project, If, Own, Formal, Inst, Trees, none, more, size, depth, top_index, free_below, ref_size, trees_size, trees_depth}
use Rattle.pvs_subst.specs.Replace.{raised_index, lift, put_var, put_at, put_in}
use Rattle.pvs_subst.specs.Instance.{actual, instantiate, instantiate_all}
use Rattle.pvs_subst.proofs.ReplaceLaws.{raised_below, raised_above, put_var_below, put_var_at, put_var_above}

-- a tree has a node
pub size-positive : (t : Tree) → 1 ≤ size t
size-positive (Leaf o) = omega arith
size-positive (Var n) = omega arith
size-positive (Name s r) = omega arith
size-positive (Bind o x y) = omega arith
size-positive (Join o x y) = omega arith
size-positive (Project o x) = omega arith
size-positive (If x y z) = omega arith

pub depth-positive : (t : Tree) → 1 ≤ depth t
depth-positive (Leaf o) = omega arith
depth-positive (Var n) = omega arith
depth-positive (Name s r) = omega arith
depth-positive (Bind o x y) = omega arith
depth-positive (Join o x y) = omega arith
depth-positive (Project o x) = omega arith
depth-positive (If x y z) = omega arith

-- lifting keeps size and depth
pub size-lift : (t : Tree) (by from : ℕ) → size (lift t by from) ≡ size t
size-lift (Leaf o) by from = refl
size-lift (Var n) by from = refl
size-lift (Name s r) by from = refl
size-lift (Bind o x y) by from = rw (size-lift x by from, size-lift y by (suc from)) refl
size-lift (Join o x y) by from = rw (size-lift x by from, size-lift y by from) refl
size-lift (Project o x) by from = rw (size-lift x by from) refl
size-lift (If x y z) by from = rw (size-lift x by from, size-lift y by from, size-lift z by from) refl

pub depth-lift : (t : Tree) (by from : ℕ) → depth (lift t by from) ≡ depth t
depth-lift (Leaf o) by from = refl
depth-lift (Var n) by from = refl
depth-lift (Name s r) by from = refl
depth-lift (Bind o x y) by from = rw (depth-lift x by from, depth-lift y by (suc from)) refl
depth-lift (Join o x y) by from = rw (depth-lift x by from, depth-lift y by from) refl
depth-lift (Project o x) by from = rw (depth-lift x by from) refl
depth-lift (If x y z) by from = rw (depth-lift x by from, depth-lift y by from, depth-lift z by from) refl

-- and raises no index by more than `by`
raised_index-le : (by from n : ℕ) → (n ≤ raised_index by from n) × (raised_index by from n ≤ n + by)
raised_index-le by from n = elim (cases_lt n from) [
  | inl h ↦ (omega (arith, raised_below by from n h), omega (arith, raised_below by from n h))
  | inr h ↦ (omega (arith, raised_above by from n h), omega (arith, raised_above by from n h))
]

pub top_index-lift : (t : Tree) (by from : ℕ) → top_index (lift t by from) ≤ top_index t + by
top_index-lift (Leaf o) by from = omega arith
top_index-lift (Var n) by from = (raised_index-le by from n).1
top_index-lift (Name s r) by from = omega arith
top_index-lift (Bind o x y) by from = omega (arith, top_index-lift x by from, top_index-lift y by (suc from))
top_index-lift (Join o x y) by from = omega (arith, top_index-lift x by from, top_index-lift y by from)
top_index-lift (Project o x) by from = top_index-lift x by from
top_index-lift (If x y z) by from = omega (arith, top_index-lift x by from, top_index-lift y by from, top_index-lift z by from)

pub free-lift : (t : Tree) (by from : ℕ) → free_below (lift t by from) ≤ free_below t + by
free-lift (Leaf o) by from = omega arith
free-lift (Var n) by from = omega (arith, (raised_index-le by from n).1)
free-lift (Name s r) by from = omega arith
free-lift (Bind o x y) by from = omega (arith, free-lift x by from, free-lift y by (suc from))
free-lift (Join o x y) by from = omega (arith, free-lift x by from, free-lift y by from)
free-lift (Project o x) by from = free-lift x by from
free-lift (If x y z) by from = omega (arith, free-lift x by from, free-lift y by from, free-lift z by from)

-- putting in: where the body's free indices but one are below k, and the term's, seen from
-- inside, are too, the result's are
free-put_var : (u : Tree) (at n k : ℕ) → n ≤ k → at ≤ k → free_below u + at ≤ k → free_below (put_var u at n) ≤ k
free-put_var u at n k h a f = elim (cases_lt n at) [
  | inl x ↦ rw (put_var_below u at n x) (omega (arith, x, a))
  | inr x ↦ elim (cases_lt at n) [
    | inl y ↦ rw (put_var_above u at n y) (omega (arith, y, h))
    | inr y ↦
        let e : n ≡ at = omega (arith, x, y) in
        rw (e, put_var_at u at) (omega (arith, free-lift u at 0, f))
  ]
]

pub free-put_at : (t u : Tree) (at k : ℕ) → free_below t ≤ suc k → at ≤ k → free_below u + at ≤ k → free_below (put_at t u at) ≤ k
free-put_at (Leaf o) u at k h a f = omega arith
free-put_at (Var n) u at k h a f = free-put_var u at n k (omega (arith, h)) a f
free-put_at (Name s r) u at k h a f = omega arith
free-put_at (Bind o x y) u at k h a f = omega (arith, free-put_at x u at k (omega (arith, h)) a f, free-put_at y u (suc at) (suc k) (omega (arith, h)) (omega (arith, a)) (omega (arith, f)))
free-put_at (Join o x y) u at k h a f = omega (arith, free-put_at x u at k (omega (arith, h)) a f, free-put_at y u at k (omega (arith, h)) a f)
free-put_at (Project o x) u at k h a f = free-put_at x u at k h a f
free-put_at (If x y z) u at k h a f = omega (arith, free-put_at x u at k (omega (arith, h)) a f, free-put_at y u at k (omega (arith, h)) a f, free-put_at z u at k (omega (arith, h)) a f)

pub free-put_in : (t u : Tree) (k : ℕ) → free_below t ≤ suc k → free_below u ≤ k → free_below (put_in t u) ≤ k
free-put_in t u k h f = free-put_at t u 0 k h (omega arith) (omega (arith, f))

-- putting in makes no tree smaller, and none larger than the product of both
pub size-put_at : (t u : Tree) (at : ℕ) → size t ≤ size (put_at t u at)
size-put_at (Leaf o) u at = omega arith
size-put_at (Var n) u at = size-positive (put_var u at n)
size-put_at (Name s r) u at = omega arith
size-put_at (Bind o x y) u at = omega (arith, size-put_at x u at, size-put_at y u (suc at))
size-put_at (Join o x y) u at = omega (arith, size-put_at x u at, size-put_at y u at)
size-put_at (Project o x) u at = omega (arith, size-put_at x u at)
size-put_at (If x y z) u at = omega (arith, size-put_at x u at, size-put_at y u at, size-put_at z u at)

size-put_var : (u : Tree) (at n : ℕ) → size (put_var u at n) ≤ size u
size-put_var u zero zero = omega arith
size-put_var u zero (suc n) = size-positive u
size-put_var u (suc at) zero = size-positive u
size-put_var u (suc at) (suc n) = omega (arith, size-lift (put_var u at n) 1 0, size-put_var u at n)

depth-put_var : (u : Tree) (at n : ℕ) → depth (put_var u at n) ≤ depth u
depth-put_var u zero zero = omega arith
depth-put_var u zero (suc n) = depth-positive u
depth-put_var u (suc at) zero = depth-positive u
depth-put_var u (suc at) (suc n) = omega (arith, depth-lift (put_var u at n) 1 0, depth-put_var u at n)

pub size-put_at_most : (t u : Tree) (at : ℕ) → size (put_at t u at) ≤ size t * size u
size-put_at_most (Leaf o) u at = omega (arith, size-positive u)
size-put_at_most (Var n) u at = omega (arith, size-put_var u at n)
size-put_at_most (Name s r) u at = more_than (ref_size r) (size u) (size-positive u)
  where
    more_than : (m n : ℕ) → 1 ≤ n → 1 + m ≤ (1 + m) * n
    more_than m n h = grind arith
size-put_at_most (Bind o x y) u at =
    let a = size-put_at_most x u at in
    let b = size-put_at_most y u (suc at) in
    let c = size-positive u in grind arith
size-put_at_most (Join o x y) u at =
    let a = size-put_at_most x u at in
    let b = size-put_at_most y u at in
    let c = size-positive u in grind arith
size-put_at_most (Project o x) u at =
    let a = size-put_at_most x u at in
    let c = size-positive u in grind arith
size-put_at_most (If x y z) u at =
    let a = size-put_at_most x u at in
    let b = size-put_at_most y u at in
    let d = size-put_at_most z u at in
    let c = size-positive u in grind arith

pub depth-put_at : (t u : Tree) (at : ℕ) → depth t ≤ depth (put_at t u at)
depth-put_at (Leaf o) u at = omega arith
depth-put_at (Var n) u at = depth-positive (put_var u at n)
depth-put_at (Name s r) u at = omega arith
depth-put_at (Bind o x y) u at = omega (arith, depth-put_at x u at, depth-put_at y u (suc at))
depth-put_at (Join o x y) u at = omega (arith, depth-put_at x u at, depth-put_at y u at)
depth-put_at (Project o x) u at = omega (arith, depth-put_at x u at)
depth-put_at (If x y z) u at = omega (arith, depth-put_at x u at, depth-put_at y u at, depth-put_at z u at)

pub depth-put_at_most : (t u : Tree) (at : ℕ) → depth (put_at t u at) < depth t + depth u
depth-put_at_most (Leaf o) u at = omega (arith, depth-positive u)
depth-put_at_most (Var n) u at = omega (arith, depth-put_var u at n)
depth-put_at_most (Name s r) u at = omega (arith, depth-positive u)
depth-put_at_most (Bind o x y) u at = omega (arith, depth-put_at_most x u at, depth-put_at_most y u (suc at))
depth-put_at_most (Join o x y) u at = omega (arith, depth-put_at_most x u at, depth-put_at_most y u at)
depth-put_at_most (Project o x) u at = omega (arith, depth-put_at_most x u at)
depth-put_at_most (If x y z) u at = omega (arith, depth-put_at_most x u at, depth-put_at_most y u at, depth-put_at_most z u at)

-- an instance is not smaller than the tree, and not deeper than the tree with the actuals below it
mutual
  pub size-instantiate : (t : Tree) (th : Text) (acts : Trees) → size t ≤ size (instantiate t th acts)
  size-instantiate (Leaf o) th acts = omega arith
  size-instantiate (Var n) th acts = omega arith
  size-instantiate (Name s (Own n)) th acts = omega arith
  size-instantiate (Name s (Formal n)) th acts = size-positive (actual acts n (Name s (Formal n)))
  size-instantiate (Name s (Inst a n xs)) th acts = omega (arith, size-instantiate_all xs th acts)
  size-instantiate (Bind o x y) th acts = omega (arith, size-instantiate x th acts, size-instantiate y th acts)
  size-instantiate (Join o x y) th acts = omega (arith, size-instantiate x th acts, size-instantiate y th acts)
  size-instantiate (Project o x) th acts = omega (arith, size-instantiate x th acts)
  size-instantiate (If x y z) th acts = omega (arith, size-instantiate x th acts, size-instantiate y th acts, size-instantiate z th acts)

  pub size-instantiate_all : (xs : Trees) (th : Text) (acts : Trees) → trees_size xs ≤ trees_size (instantiate_all xs th acts)
  size-instantiate_all none th acts = omega arith
  size-instantiate_all (more x xs) th acts = omega (arith, size-instantiate x th acts, size-instantiate_all xs th acts)

mutual
  pub depth-instantiate : (t : Tree) (th : Text) (acts : Trees) → depth t ≤ depth (instantiate t th acts)
  depth-instantiate (Leaf o) th acts = omega arith
  depth-instantiate (Var n) th acts = omega arith
  depth-instantiate (Name s (Own n)) th acts = omega arith
  depth-instantiate (Name s (Formal n)) th acts = depth-positive (actual acts n (Name s (Formal n)))
  depth-instantiate (Name s (Inst a n xs)) th acts = omega (arith, depth-instantiate_all xs th acts)
  depth-instantiate (Bind o x y) th acts = omega (arith, depth-instantiate x th acts, depth-instantiate y th acts)
  depth-instantiate (Join o x y) th acts = omega (arith, depth-instantiate x th acts, depth-instantiate y th acts)
  depth-instantiate (Project o x) th acts = omega (arith, depth-instantiate x th acts)
  depth-instantiate (If x y z) th acts = omega (arith, depth-instantiate x th acts, depth-instantiate y th acts, depth-instantiate z th acts)

  pub depth-instantiate_all : (xs : Trees) (th : Text) (acts : Trees) → trees_depth xs ≤ trees_depth (instantiate_all xs th acts)
  depth-instantiate_all none th acts = omega arith
  depth-instantiate_all (more x xs) th acts = omega (arith, depth-instantiate x th acts, depth-instantiate_all xs th acts)

actual-depth : (acts : Trees) (n : ℕ) (other : Tree) → depth (actual acts n other) ≤ depth other + trees_depth acts
actual-depth none n other = omega arith
actual-depth (more x xs) zero other = omega arith
actual-depth (more x xs) (suc n) other = omega (arith, actual-depth xs n other)

mutual
  pub depth-instantiate_most : (t : Tree) (th : Text) (acts : Trees) → depth (instantiate t th acts) ≤ depth t + trees_depth acts
  depth-instantiate_most (Leaf o) th acts = omega arith
  depth-instantiate_most (Var n) th acts = omega arith
  depth-instantiate_most (Name s (Own n)) th acts = omega arith
  depth-instantiate_most (Name s (Formal n)) th acts = actual-depth acts n (Name s (Formal n))
  depth-instantiate_most (Name s (Inst a n xs)) th acts = omega (arith, depth-instantiate_all_most xs th acts)
  depth-instantiate_most (Bind o x y) th acts = omega (arith, depth-instantiate_most x th acts, depth-instantiate_most y th acts)
  depth-instantiate_most (Join o x y) th acts = omega (arith, depth-instantiate_most x th acts, depth-instantiate_most y th acts)
  depth-instantiate_most (Project o x) th acts = omega (arith, depth-instantiate_most x th acts)
  depth-instantiate_most (If x y z) th acts = omega (arith, depth-instantiate_most x th acts, depth-instantiate_most y th acts, depth-instantiate_most z th acts)

  pub depth-instantiate_all_most : (xs : Trees) (th : Text) (acts : Trees) → trees_depth (instantiate_all xs th acts) ≤ trees_depth xs + trees_depth acts
  depth-instantiate_all_most none th acts = omega arith
  depth-instantiate_all_most (more x xs) th acts = omega (arith, depth-instantiate_most x th acts, depth-instantiate_all_most xs th acts)

actual-size : (acts : Trees) (n : ℕ) (other : Tree) → size (actual acts n other) ≤ size other + trees_size acts
actual-size none n other = omega arith
actual-size (more x xs) zero other = omega arith
actual-size (more x xs) (suc n) other = omega (arith, actual-size xs n other)

mutual
  pub size-instantiate_most : (t : Tree) (th : Text) (acts : Trees) → size (instantiate t th acts) ≤ size t * (1 + trees_size acts)
  size-instantiate_most (Leaf o) th acts = omega arith
  size-instantiate_most (Var n) th acts = omega arith
  size-instantiate_most (Name s (Own n)) th acts = omega arith
  size-instantiate_most (Name s (Formal n)) th acts = omega (arith, actual-size acts n (Name s (Formal n)))
  size-instantiate_most (Name s (Inst a n xs)) th acts = let h = size-instantiate_all_most xs th acts in grind arith
  size-instantiate_most (Bind o x y) th acts = let a = size-instantiate_most x th acts in let b = size-instantiate_most y th acts in grind arith
  size-instantiate_most (Join o x y) th acts = let a = size-instantiate_most x th acts in let b = size-instantiate_most y th acts in grind arith
  size-instantiate_most (Project o x) th acts = let a = size-instantiate_most x th acts in grind arith
  size-instantiate_most (If x y z) th acts = let a = size-instantiate_most x th acts in let b = size-instantiate_most y th acts in let c = size-instantiate_most z th acts in grind arith

  pub size-instantiate_all_most : (xs : Trees) (th : Text) (acts : Trees) → trees_size (instantiate_all xs th acts) ≤ trees_size xs * (1 + trees_size acts)
  size-instantiate_all_most none th acts = omega arith
  size-instantiate_all_most (more x xs) th acts = let a = size-instantiate_most x th acts in let b = size-instantiate_all_most xs th acts in grind arith
