-- What a name stands for at a place of a theory (PVS Language Reference, names; without its overloading).
use Rattle.std.specs.Prelude.{ℕ, zero, suc, Bool, true, false, ◌&&◌, Option, Some, None, List, [], ◌∷◌, ◌++◌, length, bytes_eq, codes, if◌then◌else◌, Result, Err}
use Rattle.std.specs.List.{list_any}
use Rattle.pvs_base.specs.declared.code.Code.{Code}
use Rattle.pvs_base.specs.declared.code.Code.TheVariants.{Unknown, NotImported, OutOfProfile}
use Rattle.pvs_terms.specs.Tree.{Text, Ref, Own, Formal, Inst, Trees, trees_eq}
use Rattle.pvs_sig.specs.Signature.{Signature, Import}
use Rattle.pvs_sig.specs.Development.{Development}
use Rattle.pvs_sig.specs.Scope.{scope}
use Rattle.pvs_sig.specs.Instances.{instances, lists_instance}
use Rattle.pvs_names.specs.declared.kind.NameKind.{NameKind}
use Rattle.pvs_names.specs.declared.kind.NameKind.TheVariants.{FormulaName}
use Rattle.pvs_names.specs.Members.{Member, members, find}

-- what a name is qualified by: a theory, as in `th.x`, or an instance of it, as in `th[a].x`
pub record Qualifier : Type 0 where
  pub theory : Text
  pub actuals : Option Trees

-- entries and formals of the theory itself
abbrev pub is_own : Ref → Bool
is_own (Own n) = true
is_own (Formal n) = true
is_own (Inst th n xs) = false

-- what importings bring
abbrev pub is_imported : Ref → Bool
is_imported (Inst th n xs) = true
is_imported _ = false

-- formals are no entries
abbrev pub is_own_entry : Ref → Bool
is_own_entry (Own n) = true
is_own_entry _ = false

-- entries of any instance of the theory
abbrev pub is_entry_of : Text → Ref → Bool
is_entry_of th (Inst a n xs) = bytes_eq th a
is_entry_of th _ = false

-- entries of this instance
abbrev pub is_entry_at : Text → Trees → Ref → Bool
is_entry_at th acts (Inst a n xs) = bytes_eq th a && trees_eq acts xs
is_entry_at th acts _ = false

-- whether some instance of the theory is visible
abbrev pub lists_theory : Text → List Import → Bool
lists_theory th xs = list_any (λ (x : Import). bytes_eq th x.theory) xs

-- the second answer where the first is that there is none
abbrev pub or_else : Result Ref Code → Result Ref Code → Result Ref Code
or_else (Err Unknown) r = r
or_else q r = q

-- what the place sees
abbrev pub visible_members : Development → Signature → ℕ → List Member
visible_members d s i = members d s (scope d s i)

abbrev pub own_refs_below : ℕ → List Ref
own_refs_below zero = []
own_refs_below (suc n) = own_refs_below n ++ Own n ∷ []

-- the own formula of this name, wherever it stands; there is none of another kind
abbrev pub any_formula : Development → Signature → NameKind → Text → Result Ref Code
any_formula d s FormulaName name = find is_own_entry FormulaName name (members d s (own_refs_below (length s.entries)))
any_formula d s _ name = Err Unknown

-- by itself: an own entry or formal comes before what importings bring
abbrev pub find_plain : NameKind → Text → List Member → Result Ref Code
find_plain kind name ms = or_else (find is_own kind name ms) (find is_imported kind name ms)

-- what is asked of instances, where one is visible
abbrev pub if_visible : Bool → Result Ref Code → Result Ref Code
if_visible b r = if b then r else Err NotImported

-- by a theory: the own entries where it is this one, and else the entries of its visible instances
abbrev pub resolve_by_theory : Development → Signature → ℕ → NameKind → Text → Text → Result Ref Code
resolve_by_theory d s i kind th name =
    if bytes_eq th s.name then or_else (find is_own_entry kind name (visible_members d s i)) (any_formula d s kind name)
    else if_visible (lists_theory th (instances d s i)) (find (is_entry_of th) kind name (visible_members d s i))

-- by an instance: its entries, where it is visible. A theory is no visible instance of itself
abbrev pub resolve_by_instance : Development → Signature → ℕ → NameKind → Text → Trees → Text → Result Ref Code
resolve_by_instance d s i kind th acts name = if_visible (lists_instance th acts (instances d s i)) (find (is_entry_at th acts) kind name (visible_members d s i))

abbrev pub resolve_qualified : Development → Signature → ℕ → NameKind → Text → Option Trees → Text → Result Ref Code
resolve_qualified d s i kind th None name = resolve_by_theory d s i kind th name
resolve_qualified d s i kind th (Some acts) name = resolve_by_instance d s i kind th acts name

-- What a name of this kind stands for, as entry i of s sees it where the theories of d stand. Unknown: nothing that the
-- name may stand for has it. Ambiguous: several have it. NotImported: no instance of the theory that qualifies it is
-- visible, or not this one. A formula's name that nothing else has is the own formula that stands here or later.
abbrev pub resolve : Development → Signature → ℕ → NameKind → Option Qualifier → Text → Result Ref Code
resolve d s i kind None name = or_else (find_plain kind name (visible_members d s i)) (any_formula d s kind name)
resolve d s i kind (Some q) name = resolve_qualified d s i kind q.theory q.actuals name

-- names that PVS has and this profile lacks
abbrev pub is_outside : Text → Bool
is_outside name = list_any (bytes_eq name) (codes "nat" ∷ codes "naturalnumber" ∷ codes "posnat" ∷ codes "int" ∷ codes "integer" ∷ codes "rat" ∷ codes "rational" ∷ codes "real" ∷ codes "number" ∷ [])

-- such a name by itself is OutOfProfile where it would be Unknown
abbrev pub in_profile : Text → Result Ref Code → Result Ref Code
in_profile name r = or_else r (if is_outside name then Err OutOfProfile else Err Unknown)

-- a name by itself in a text
abbrev pub resolve_plain : Development → Signature → ℕ → NameKind → Text → Result Ref Code
resolve_plain d s i kind name = in_profile name (resolve d s i kind None name)
