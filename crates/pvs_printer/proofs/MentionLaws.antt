-- Which variables are mentioned.
use Rattle.std.proofs.Common.{◌≡◌, ℕ, suc, ◌-◌, ◌≤◌, Bool, true, false, ◌||◌, nat_eq, nat_le, ◌∷◌, refl, ap, ap₂, arith, eqb-true}
use Rattle.pvs_terms.specs.Tree as t
use Rattle.pvs_terms.specs.Tree.{Tree, free_below}
use Rattle.pvs_printer.specs.Mentions.{mentions, mentioned}
use Rattle.pvs_printer.specs.code.Steps.{component_list, listed_by}

not_same : (m n : ℕ) → suc m ≤ n → nat_eq m n ≡ false
not_same m n h = by (nat_eq m n) refl
  where
    by : (b : Bool) → nat_eq m n ≡ b → nat_eq m n ≡ false
    by true e = let same : m ≡ n = eqb-true m n e in absurd (omega (arith, h, same))
    by false e = e

-- a variable that is not below the bound of the free ones
pub not_free : (n : ℕ) (x : Tree) → free_below x ≤ n → mentions n x ≡ false
not_free n (t.Leaf o) h = refl
not_free n (t.Var m) h = not_same m n h
not_free n (t.Name s q) h = refl
not_free n (t.Bind o a b) h = ap₂ (λ (p q : Bool). p || q) (not_free n a (omega (arith, h))) (not_free (suc n) b (omega (arith, h)))
not_free n (t.Join o a b) h = ap₂ (λ (p q : Bool). p || q) (not_free n a (omega (arith, h))) (not_free n b (omega (arith, h)))
not_free n (t.Project o a) h = not_free n a h
not_free n (t.If a b c) h = ap₂ (λ (p q : Bool). p || q) (not_free n a (omega (arith, h))) (ap₂ (λ (p q : Bool). p || q) (not_free n b (omega (arith, h))) (not_free n c (omega (arith, h))))

or_false : (b : Bool) → b || false ≡ b
or_false true = refl
or_false false = refl

by_count : (b : Bool) (n j k : ℕ) (a c : Tree) → nat_le 2 k ≡ b → mentioned (suc n) (component_list (k - 1) c) ≡ mentions (suc n) c
    → mentioned n (listed_by b (t.TPair j a c) (a ∷ component_list (k - 1) c)) ≡ mentions n (t.TPair j a c)
by_count true n j k a c e h = ap (λ (b : Bool). mentions n a || b) h
by_count false n j k a c e h = or_false (mentions n (t.TPair j a c))

-- in the components of a tuple type is in the type
pub mentioned_listed : (n k : ℕ) (x : Tree) → mentioned n (component_list k x) ≡ mentions n x
mentioned_listed n k (t.TPair j a c) = by_count (nat_le 2 k) n j k a c refl (mentioned_listed (suc n) (k - 1) c)
mentioned_listed n k (t.TSub a c) = or_false (mentions n (t.TSub a c))
mentioned_listed n k (t.TFun a c) = or_false (mentions n (t.TFun a c))
mentioned_listed n k (t.Lam a c) = or_false (mentions n (t.Lam a c))
mentioned_listed n k (t.Leaf o) = refl
mentioned_listed n k (t.Var m) = or_false (nat_eq m n)
mentioned_listed n k (t.Name s q) = refl
mentioned_listed n k (t.Join o a b) = or_false (mentions n (t.Join o a b))
mentioned_listed n k (t.Project o a) = or_false (mentions n (t.Project o a))
mentioned_listed n k (t.If a b c) = or_false (mentions n (t.If a b c))
