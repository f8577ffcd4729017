-- Names by their bytes.
use Rattle.std.specs.Prelude.{◌&&◌, Bool, bytes_eq, List}
use Rattle.std.specs.List.{list_any}
use Rattle.pvs_syntax.specs.Words.{spelling}
use Rattle.pvs_syntax.specs.declared.unit.Proof.{Proof}
use Rattle.pvs_terms.specs.Tree.{Text}

-- a formula, by the names of its theory and its own
pub record FormulaName : Type 0 where
  pub theory : Text
  pub formula : Text

abbrev pub is_same : FormulaName → FormulaName → Bool
is_same a b = bytes_eq a.theory b.theory && bytes_eq a.formula b.formula

-- whether a formula is in a list
abbrev pub is_listed : FormulaName → List FormulaName → Bool
is_listed n ns = list_any (is_same n) ns

-- the formula that a proof names
abbrev pub named_by : Text → Proof → FormulaName
named_by text p = record { theory = spelling text p.theory; formula = spelling text p.formula }
