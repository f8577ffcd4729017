-- The visible instances of a place, by number.
use Rattle.std.specs.Prelude.{◌≡◌, ℕ, Bool, true, eqb, List}
use Rattle.std.specs.List.{list_any}
use Rattle.pvs_terms.specs.Tree.{Text, Trees, Const, Inst, IsWithinLimits}
use Rattle.pvs_terms.specs.Stored.{Stored, IsName, IsRef, text_at, ref_at, Extends}
use Rattle.pvs_sig.specs.Signature.{Import}
use Rattle.pvs_sig.specs.Instances.{lists_instance}
use Rattle.pvs_names.specs.Resolve.{lists_theory}
use Rattle.pvs_names.specs.code.Index.{IsFirst, IsDistinct}

-- the names of the theories, and the first references of the instances
pub record Seen : Type 0 where
  pub theories : List ℕ
  pub instances : List ℕ

abbrev pub sees_theory : Seen → ℕ → Bool
sees_theory v n = list_any (eqb n) v.theories

abbrev pub sees_instance : Seen → ℕ → Bool
sees_instance v r = list_any (eqb r) v.instances

-- in this store, they are these instances
pub record Sees (s : Stored) (v : Seen) (xs : List Import) : Type 0 where
  pub theories : (n : ℕ) → IsName s n → sees_theory v n ≡ lists_theory (text_at s n) xs
  pub instances : (r : ℕ) (h : IsFirst s r) → sees_instance v r ≡ lists_instance h.theory h.actuals xs

-- in this store and later ones
abbrev pub IndexesInstances : Stored → Seen → List Import → Type 0
IndexesInstances s v xs = (t : Stored) → Extends s t → IsDistinct t → Sees t v xs

-- a reference to an entry of each instance is within the limits
abbrev pub HasWithinLimits : List Import → Type 0
HasWithinLimits xs = (th : Text) (acts : Trees) → lists_instance th acts xs ≡ true → IsWithinLimits (Const (Inst th 0 acts))

-- an importing by number: its theory, and the first reference of its instance
pub record IsImportOf (s : Stored) (theory first : ℕ) (x : Import) : Type 0 where
  pub theory_in : IsName s theory
  pub theory_is : x.theory ≡ text_at s theory
  pub first_in : IsRef s first
  pub first_is : ref_at s first ≡ Inst x.theory 0 x.actuals
