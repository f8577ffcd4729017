-- What tests made stays where the store grows.
use Rattle.std.proofs.Common.{◌≡◌, ℕ, zero, suc, ◌<◌, ◌≤◌, Bool, true, false, cond, length, map, List, [], ◌∷◌, ◌++◌, get_or, refl, ap, ◌∙◌, sym, arith}
use Rattle.std.proofs.lemmas.List.{length-map}
use Rattle.pvs_terms.specs.Tree.{Tree}
use Rattle.pvs_terms.specs.Sorts.{sort_of}
use Rattle.pvs_terms.specs.declared.shape.Sort.{Sort}
use Rattle.pvs_terms.specs.Stored.{Stored, tree_at, Extends, Stands}
use Rattle.pvs_sequent.specs.Numbered.{Numbered}
use Rattle.pvs_sequent.specs.Numbers.{StandsFor}
use Rattle.pvs_sequent.specs.Sequents.{Sequent}
use Rattle.pvs_printer_tests.specs.Known.{AllOf, IsOf, IsSequentOf}

pub all_of_kept : (s t : Stored) (o : Sort) (is : List ℕ) → Extends s t → AllOf s o is → AllOf t o is
all_of_kept s t o is k h n l = let x = h n l in record { node = k.nodes (get_or is n 0) x.node; sort = ap sort_of (k.trees (get_or is n 0) x.node) ∙ x.sort }

pub all_of-push : (s : Stored) (o : Sort) (is : List ℕ) (i : ℕ) → AllOf s o is → IsOf s o i → AllOf s o (is ++ i ∷ [])
all_of-push s o [] i h k zero l = k
all_of-push s o [] i h k (suc n) l = absurd (omega arith)
all_of-push s o (x ∷ is) i h k zero l = h zero (omega arith)
all_of-push s o (x ∷ is) i h k (suc n) l = all_of-push s o is i (λ m j. h (suc m) (omega arith)) k n (omega arith)

pub all_of-after : (s : Stored) (o : Sort) (is : List ℕ) (i : ℕ) (b : Bool) → AllOf s o is → IsOf s o i → AllOf s o (cond b (is ++ i ∷ []) is)
all_of-after s o is i true h k = all_of-push s o is i h k
all_of-after s o is i false h k = h

pub made_of : (s : Stored) (t : Tree) (o : Sort) (i : ℕ) → Stands s t i → sort_of t ≡ o → IsOf s o i
made_of s t o i h e = record { node = h.node; sort = ap sort_of h.tree ∙ e }

-- ---- Sequents.

pub as_many_variables : (s : Stored) (r : Sequent) (q : Numbered) → StandsFor s r q → r.variables ≡ [] → length q.variables ≡ 0
as_many_variables s r q h e = sym (length-map q.variables (tree_at s)) ∙ ap (λ z. length z.variables) h.is ∙ ap length e
