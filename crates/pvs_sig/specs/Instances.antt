-- The visible instances at a place of a theory: of which instances entries are in its scope.
use Rattle.std.specs.Prelude.{◌≡◌, ◌⊎◌, ℕ, ◌<◌, Bool, true, false, ◌&&◌, ◌||◌, Option, Some, None, List, [], ◌∷◌, ◌++◌, length, bytes_eq, nat_lt, if◌then◌else◌}
use Rattle.pvs_terms.specs.Tree.{Text, Own, Trees, trees_eq}
use Rattle.pvs_subst.specs.Instance.{instantiate_all}
use Rattle.pvs_sig.specs.Signature.{Signature, Import}
use Rattle.pvs_sig.specs.Development.{Development}
use Rattle.pvs_sig.specs.Scope.{is_exported}

-- whether the importing is of this instance, at whatever place
abbrev pub is_instance_of : Text → Trees → Import → Bool
is_instance_of th xs x = bytes_eq th x.theory && trees_eq xs x.actuals

abbrev pub lists_instance : Text → Trees → List Import → Bool
lists_instance th xs [] = false
lists_instance th xs (x ∷ rest) = is_instance_of th xs x || lists_instance th xs rest

-- each instance only where it comes first, and none of those before
abbrev pub first_instances : List Import → List Import → List Import
first_instances before [] = []
first_instances before (x ∷ xs) = if lists_instance x.theory x.actuals before then first_instances before xs else x ∷ first_instances (x ∷ before) xs

-- the instances that the importing x brings of those that its theory sees, at its place
abbrev pub instances_by : Import → List Import → List Import
instances_by x [] = []
instances_by x (y ∷ ys) = record { theory = y.theory; actuals = instantiate_all y.actuals x.theory x.actuals; place = x.place } ∷ instances_by x ys

-- what the importings up to place i bring, each after itself
abbrev pub instances_up_to : (Text → List Import) → List Import → ℕ → List Import
instances_up_to seen [] i = []
instances_up_to seen (x ∷ xs) i = (if nat_lt i x.place then [] else x ∷ instances_by x (seen x.theory)) ++ instances_up_to seen xs i

-- the visible instances at the end of the theory of this name
abbrev pub all_instances : Development → Text → List Import
all_instances [] th = []
all_instances (s ∷ d) th = if bytes_eq s.name th then first_instances [] (instances_up_to (all_instances d) s.imports (length s.entries)) else all_instances d th

-- the visible instances at place i of s, each at the place of the importing of s that brings it first
abbrev pub instances : Development → Signature → ℕ → List Import
instances d s i = first_instances [] (instances_up_to (all_instances d) s.imports i)

-- the instance is in the list
abbrev pub Lists : Text → Trees → List Import → Type 0
Lists th xs [] = ⊥
Lists th xs (x ∷ rest) = ((th ≡ x.theory) × (xs ≡ x.actuals)) ⊎ Lists th xs rest

-- the theory stands, and the entry of this number is one of it and no VAR
abbrev pub Exports : Option Signature → ℕ → Type 0
Exports None n = ⊥
Exports (Some s) n = (n < length s.entries) × (is_exported (Some s) (Own n) ≡ true)
