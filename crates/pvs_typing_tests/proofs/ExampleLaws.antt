-- The theories for tests stay what they are where the store grows.
use Rattle.std.proofs.Common.{◌<◌, arith, zero, suc, List, [], ◌∷◌, ◌++◌, get_or, ◌≡◌, ℕ, Bool, true, false, cond, Some, Ok, refl, ap, ◌∙◌, sym, subst}
use Rattle.pvs_terms.specs.Tree.{Tree, Leaf, Var, Name, Bind, Join, Project, If, Ref, Own, Formal, Inst, TName, IsWithinLimits, ref_eq}
use Rattle.pvs_terms.specs.Sorts.{IsType, sort_of}
use Rattle.pvs_terms.specs.declared.shape.Sort.{Sort}
use Rattle.pvs_terms.specs.Stored.{Stored, tree_at, ref_at, Extends, Stands}
use Rattle.pvs_sig.specs.Lookups.{type_size, IsOrdered}
use Rattle.pvs_types.specs.Forms.{body, small_body}
use Rattle.pvs_types.proofs.LimitsLaws.{limits_decided}
use Rattle.pvs_typing.specs.Growth.{EachName, IsKnown, Keeps}
use Rattle.pvs_typing_tests.specs.Example.{AllOf, example_lookups, example_rank, previous, IsDeclared, IsExample, IsOf}

pub all_declared : (t : Tree) → EachName IsDeclared t
all_declared (Leaf o) = tt
all_declared (Var n) = tt
all_declared (Name o r) = tt
all_declared (Bind o a b) = (all_declared a, all_declared b)
all_declared (Join o a b) = (all_declared a, all_declared b)
all_declared (Project o a) = all_declared a
all_declared (If a b c) = (all_declared a, all_declared b, all_declared c)

pub example_kept : {s t : Stored} {a d b : ℕ} → Extends s t → IsExample s a d b → IsExample t a d b
example_kept {a = a} {d = d} {b = b} k h = record {
  node = k.nodes a h.node;
  sort = subst IsType (sym (k.trees a h.node)) h.sort;
  defined = k.refs d h.defined;
  body = k.nodes b h.body;
  body_sort = subst IsType (sym (k.trees b h.body)) h.body_sort;
  small = ap (type_size example_rank) (k.trees b h.body) ∙ h.small;
}

pub lookups_kept : {s t : Stored} {a d b : ℕ} → Extends s t → IsExample s a d b → Keeps s IsDeclared (example_lookups s a d b) t IsDeclared (example_lookups t a d b) [] []
lookups_kept {a = a} {d = d} {b = b} k h = record {
  stored = k;
  declared = λ o r x. tt;
  lookups = rw (k.trees a h.node, k.references d h.defined, k.trees b h.body) refl;
  theories = refl;
}

at_least : (r : Ref) → 2 < suc (example_rank r)
at_least (Own n) = omega arith
at_least (Formal n) = omega arith
at_least (Inst a n xs) = omega arith

previous_smaller : (r : Ref) (t : Tree) → previous r ≡ Some t → type_size example_rank t < suc (example_rank r)
previous_smaller (Own zero) t e = absurd (cc)
previous_smaller (Own (suc n)) t e = let k : TName (Own n) ≡ t = cc in rw (← k) (omega arith)
previous_smaller (Formal n) t e = absurd (cc)
previous_smaller (Inst a n xs) t e = absurd (cc)

pub example_ordered : {s : Stored} {a d b : ℕ} → IsExample s a d b → IsOrdered (example_lookups s a d b)
example_ordered {s} {a} {d} {b} h r t e = go (ref_eq r (ref_at s d)) e
  where
    go : (x : Bool) → cond x (Some (tree_at s b)) (previous r) ≡ Some t → type_size example_rank t < suc (example_rank r)
    go true e = let k : tree_at s b ≡ t = cc in rw (← k, h.small) (at_least r)
    go false e = previous_smaller r t e

pub body_found : (s : Stored) (a d b : ℕ) (r : Ref) → ref_eq r (ref_at s d) ≡ true → IsWithinLimits (tree_at s b) → body (example_lookups s a d b) r ≡ Ok (Some (tree_at s b))
body_found s a d b r e h = rw (e, (limits_decided (tree_at s b)).1 h) refl

pub name_small : (r : Ref) → (n : ℕ) → r ≡ Own n → IsWithinLimits (TName r)
name_small r n e = rw e (record { deep = omega arith; large = omega arith; index = omega arith })

pub previous_small : (r : Ref) → small_body (previous r) ≡ Ok (previous r)
previous_small (Own zero) = refl
previous_small (Own (suc n)) = refl
previous_small (Formal n) = refl
previous_small (Inst a n xs) = refl

pub body_previous : (s : Stored) (a d b : ℕ) (r : Ref) → ref_eq r (ref_at s d) ≡ false → body (example_lookups s a d b) r ≡ Ok (previous r)
body_previous s a d b r e = rw e (previous_small r)

pub known_of : (s : Stored) (o : Sort) (i : ℕ) → IsOf s o i → IsKnown s IsDeclared o i
known_of s o i h = record { node = h.node; sort = h.sort; names = all_declared (tree_at s i) }

pub all_of_kept : (s t : Stored) (o : Sort) (is : List ℕ) → Extends s t → AllOf s o is → AllOf t o is
all_of_kept s t o is k h n l = let x = h n l in record { node = k.nodes (get_or is n 0) x.node; sort = ap sort_of (k.trees (get_or is n 0) x.node) ∙ x.sort }

pub all_of-push : (s : Stored) (o : Sort) (is : List ℕ) (i : ℕ) → AllOf s o is → IsOf s o i → AllOf s o (is ++ i ∷ [])
all_of-push s o [] i h k zero l = k
all_of-push s o [] i h k (suc n) l = absurd (omega arith)
all_of-push s o (x ∷ is) i h k zero l = h zero (omega arith)
all_of-push s o (x ∷ is) i h k (suc n) l = all_of-push s o is i (λ m j. h (suc m) (omega arith)) k n (omega arith)

pub all_of-after : (s : Stored) (o : Sort) (is : List ℕ) (i : ℕ) (b : Bool) → AllOf s o is → IsOf s o i → AllOf s o (cond b (is ++ i ∷ []) is)
all_of-after s o is i true h k = all_of-push s o is i h k
all_of-after s o is i false h k = h

pub made_of : (s : Stored) (t : Tree) (o : Sort) (i : ℕ) → Stands s t i → sort_of t ≡ o → IsOf s o i
made_of s t o i h e = record { node = h.node; sort = ap sort_of h.tree ∙ e }
