-- A variable above the free indices of a tree does not occur in it.
use Rattle.std.proofs.Common.{◌≡◌, ℕ, suc, ◌≤◌, Bool, true, false, ◌||◌, eqb, refl, arith}
use Rattle.std.proofs.lemmas.Bool.{eqb-true}
use Rattle.pvs_terms.specs.Tree.{Tree, Leaf, Var, Name, Bind, Join, Project, If, free_below}
use Rattle.pvs_types.specs.Forms.{mentions}

either_false : (a b : Bool) → a ≡ false → b ≡ false → (a || b) ≡ false
either_false a b h k = rw (h, k) refl

not_index : (n k : ℕ) → suc k ≤ n → eqb n k ≡ false
not_index n k h = go (eqb n k) refl
  where
    go : (b : Bool) → eqb n k ≡ b → eqb n k ≡ false
    go true e = absurd (let q = eqb-true n k e in omega arith)
    go false e = e

pub not_mentioned : (n : ℕ) (t : Tree) → free_below t ≤ n → mentions n t ≡ false
not_mentioned n (Leaf o) h = refl
not_mentioned n (Var k) h = not_index n k h
not_mentioned n (Name s r) h = refl
not_mentioned n (Bind o a b) h = either_false (mentions n a) (mentions (suc n) b) (not_mentioned n a (omega arith)) (not_mentioned (suc n) b (omega arith))
not_mentioned n (Join o a b) h = either_false (mentions n a) (mentions n b) (not_mentioned n a (omega arith)) (not_mentioned n b (omega arith))
not_mentioned n (Project o a) h = not_mentioned n a h
not_mentioned n (If c a b) h = either_false (mentions n c) (mentions n a || mentions n b) (not_mentioned n c (omega arith))
    (either_false (mentions n a) (mentions n b) (not_mentioned n a (omega arith)) (not_mentioned n b (omega arith)))
