-- What an index of names says.
use Rattle.std.specs.Prelude.{◌≡◌, ℕ, List, Option, is_some}
use Rattle.std.specs.BTreeMap.{get_by}
use Rattle.std.specs.Cmp.Lexicographic.{slice_cmp}
use Rattle.std.specs.Ordering.{nat_cmp, ordering_then}
use Rattle.pvs_theory.specs.declared.index.Index.{Index}
use Rattle.pvs_theory.specs.declared.index.FormulaIndex.{FormulaIndex}
use Rattle.pvs_theory.specs.Names.{FormulaName, is_listed}
use Rattle.pvs_theory.specs.Theories.{has_name}

-- the value of a name
abbrev pub value_of : {V : Type 0} → Index V → List ℕ → Option V
value_of i name = get_by (λ k. slice_cmp nat_cmp name k.now) i.values

-- the value of a formula
abbrev pub formula_value : {V : Type 0} → FormulaIndex V → FormulaName → Option V
formula_value i n = get_by (λ k. ordering_then (slice_cmp nat_cmp n.theory k.0.now) (slice_cmp nat_cmp n.formula k.1.now)) i.values

-- an index has the value that f gives a name, for each name
abbrev pub Indexes : {V : Type 0} → Index V → (List ℕ → Option V) → Type 0
Indexes i f = (name : List ℕ) → value_of i name ≡ f name

-- the names of an index are these
abbrev pub HasNames : {V : Type 0} → Index V → List (List ℕ) → Type 0
HasNames i names = (name : List ℕ) → is_some (value_of i name) ≡ has_name name names

-- the formulas of an index are these
abbrev pub HasFormulas : {V : Type 0} → FormulaIndex V → List FormulaName → Type 0
HasFormulas i names = (n : FormulaName) → is_some (formula_value i n) ≡ is_listed n names
