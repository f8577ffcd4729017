-- What an entry may rest on: its scope, and for an assumption that an importing owes also what that assumption sees.
use Rattle.std.specs.Prelude.{◌≡◌, ℕ, zero, suc, Bool, false, Option, Some, None, List, [], ◌∷◌, ◌++◌, nat_eq, if◌then◌else◌}
use Rattle.pvs_terms.specs.Tree.{Text, Tree, Ref, Trees, tree_eq}
use Rattle.pvs_subst.specs.Instance.{instantiate}
use Rattle.pvs_sig.specs.declared.signature.Class.TheVariants.{Assumption, ImportCondition}
use Rattle.pvs_sig.specs.Signature.{Signature, Entry, Import, Kind, FormulaSig, kind_at}
use Rattle.pvs_sig.specs.Development.{Development, theory_named, In}
use Rattle.pvs_sig.specs.Scope.{imported_refs, scope}

-- whether an assumption of which this tree is the instance
abbrev pub has_instance : Kind → Text → Trees → Tree → Bool
has_instance (FormulaSig Assumption u o) th acts t = tree_eq (instantiate u th acts) t
has_instance _ th acts t = false

abbrev pub next_number : Option ℕ → Option ℕ
next_number None = None
next_number (Some n) = Some (suc n)

-- the first assumption that has this instance, by its number
abbrev pub owed_assumption : List Entry → Text → Trees → Tree → Option ℕ
owed_assumption [] th acts t = None
owed_assumption (e ∷ es) th acts t = if has_instance e.kind th acts t then Some zero else next_number (owed_assumption es th acts t)

-- the first importing at this place
abbrev pub first_import_at : List Import → ℕ → Option Import
first_import_at [] p = None
first_import_at (x ∷ xs) p = if nat_eq x.place p then Some x else first_import_at xs p

-- what the assumption of this number of b sees, as the importing x of b brings it
abbrev pub seen_by_assumption : Development → Import → Signature → Option ℕ → List Ref
seen_by_assumption d x b None = []
seen_by_assumption d x b (Some n) = imported_refs (Some b) x.theory x.actuals (scope d b n)

abbrev pub assumption_refs_in : Development → Import → Tree → Option Signature → List Ref
assumption_refs_in d x t None = []
assumption_refs_in d x t (Some b) = seen_by_assumption d x b (owed_assumption b.entries x.theory x.actuals t)

abbrev pub assumption_refs : Development → Tree → Option Import → List Ref
assumption_refs d t None = []
assumption_refs d t (Some x) = assumption_refs_in d x t (theory_named d x.theory)

-- what the assumption sees of which an entry of this kind is the instance
abbrev pub reach_beyond : Development → Signature → Option Kind → List Ref
reach_beyond d s (Some (FormulaSig ImportCondition t o)) = assumption_refs d t (first_import_at s.imports o)
reach_beyond d s _ = []

-- what entry i of s may rest on
abbrev pub reach : Development → Signature → ℕ → List Ref
reach d s i = scope d s i ++ reach_beyond d s (kind_at s i)

-- entry i of s is the instance of assumption n of b, which the importing x owes
pub record Owes (d : Development) (s : Signature) (i : ℕ) (x : Import) (b : Signature) (n : ℕ) : Type 0 where
  pub listed : In x s.imports
  pub named : theory_named d x.theory ≡ Some b
  pub tree : Tree
  pub owner : ℕ
  pub assumption : kind_at b n ≡ Some (FormulaSig Assumption tree owner)
  pub entry : kind_at s i ≡ Some (FormulaSig ImportCondition (instantiate tree x.theory x.actuals) x.place)
  pub found : owed_assumption b.entries x.theory x.actuals (instantiate tree x.theory x.actuals) ≡ Some n
  pub first : first_import_at s.imports x.place ≡ Some x
