-- The tree of a reference that is asked for: its type, its body or its formula, by what the reference is (CSL-97-2,
-- where a formal in an instance of a theory is replaced by its actual).
use Rattle.std.specs.Prelude.{Option, Some, None, ℕ}
use Rattle.pvs_terms.specs.Tree.{Text, Tree, Ref, Trees, IsWithinLimits}
use Rattle.pvs_terms.specs.Stored.{Stored, Stands}
use Rattle.pvs_terms.specs.declared.shape.Sort.TheVariants.{OfTerm}
use Rattle.pvs_cache.specs.declared.key.Part.{Part}
use Rattle.pvs_cache.specs.declared.key.Part.TheVariants as part
use Rattle.pvs_sig.specs.Signature.{Signature, Kind, TypeSig, ConstSig, FormulaSig, kind_in, instantiate_found}
use Rattle.pvs_sig.specs.Development.{Development, theory_named, kind_of, IsRefOver, HasSort}
use Rattle.pvs_sig.specs.LookupsOf.{constant_type}

-- the body of a defined type or constant
abbrev pub definition : Option Kind → Option Tree
definition (Some (TypeSig b body)) = body
definition (Some (ConstSig t body)) = body
definition _ = None

abbrev pub formula : Option Kind → Option Tree
formula (Some (FormulaSig c t o)) = Some t
formula _ = None

-- the tree of this part
abbrev pub part_tree : Part → Option Kind → Option Tree
part_tree part.TypeOf k = constant_type k
part_tree part.BodyOf k = definition k
part_tree part.FormulaOf k = formula k

-- what a reference is in the terms of the theory of this name
abbrev pub kind_by : Development → Option Signature → Ref → Option Kind
kind_by d None r = None
kind_by d (Some s) r = kind_of d s r

abbrev pub kind_from : Development → Text → Ref → Option Kind
kind_from d th r = kind_by d (theory_named d th) r

-- what an entry of an instance of the theory of this name is
abbrev pub instance_kind : Development → Text → ℕ → Trees → Option Kind
instance_kind d th n xs = instantiate_found (kind_in (theory_named d th) n) th xs

-- the theory of this name stands; in its terms the reference is an own one, a formal, or one of a theory that stands, with
-- one actual of the right sort per formal
abbrev pub IsRefBy : Development → Option Signature → Ref → Type 0
IsRefBy d None r = ⊥
IsRefBy d (Some s) r = IsRefOver d s r

abbrev pub IsRefFrom : Development → Text → Ref → Type 0
IsRefFrom d th r = IsRefBy d (theory_named d th) r

-- what has a type: a constant
abbrev pub IsConstant : Option Kind → Type 0
IsConstant k = HasSort OfTerm k

abbrev pub IsFormula : Option Kind → Type 0
IsFormula (Some (FormulaSig c t o)) = Unit {0}
IsFormula _ = ⊥

-- the number stands for this tree
abbrev pub GivesTree : Stored → Option Tree → ℕ → Type 0
GivesTree s None i = ⊥
GivesTree s (Some t) i = Stands s t i

-- the number stands for this tree, or there is neither
abbrev pub GivesOption : Stored → Option Tree → Option ℕ → Type 0
GivesOption s (Some t) (Some i) = Stands s t i
GivesOption s None None = Unit {0}
GivesOption s _ _ = ⊥

-- the tree passes a limit
abbrev pub PassesLimit : Option Tree → Type 0
PassesLimit None = ⊥
PassesLimit (Some t) = ¬ IsWithinLimits t
