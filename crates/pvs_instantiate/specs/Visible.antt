-- The instances that are visible at a place of a theory that stands.
use Rattle.std.specs.Prelude.{◌≡◌, ℕ, Option, Some, None, List, []}
use Rattle.pvs_terms.specs.Tree.{Text}
use Rattle.pvs_sig.specs.Signature.{Signature, Import}
use Rattle.pvs_sig.specs.Development.{Development, theory_named}
use Rattle.pvs_sig.specs.Instances.{instances}

abbrev pub visible_in : Development → Option Signature → ℕ → List Import
visible_in d None i = []
visible_in d (Some s) i = instances d s i

abbrev pub visible : Development → Text → ℕ → List Import
visible d th i = visible_in d (theory_named d th) i

-- the theory stands and has no importings
abbrev pub LacksImports : Option Signature → Type 0
LacksImports None = ⊥
LacksImports (Some s) = s.imports ≡ []

abbrev pub HasNoImports : Development → Text → Type 0
HasNoImports d th = LacksImports (theory_named d th)
