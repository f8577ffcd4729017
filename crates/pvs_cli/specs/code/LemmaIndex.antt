-- What an index of lemmas says.
use Rattle.std.specs.Prelude.{◌≡◌, ℕ, if◌then◌else◌, is_some, List, Option, Some, None}
use Rattle.std.specs.Option.{option_map}
use Rattle.pvs_terms.specs.Tree.{Tree}
use Rattle.pvs_terms.specs.Stored.{Stored, tree_at, IsNode}
use Rattle.pvs_report.specs.Lines.{LineWord, CompleteWord, OpenWord}
use Rattle.pvs_theory.specs.declared.index.FormulaIndex.{FormulaIndex}
use Rattle.pvs_theory.specs.code.Index.{formula_value}
use Rattle.pvs_theory.specs.Names.{FormulaName}
use Rattle.pvs_theory.specs.Theories.{Part}
use Rattle.pvs_cli.specs.Verdicts.{lemma_in}

-- the tree that an index has for a formula
abbrev pub lemma_tree : Stored → FormulaIndex ℕ → FormulaName → Option Tree
lemma_tree s i n = option_map (tree_at s) (formula_value i n)

-- an index has the formula of each lemma of these parts
abbrev pub HasLemmas : Stored → FormulaIndex ℕ → List Part → Type 0
HasLemmas s i parts = (n : FormulaName) → lemma_tree s i n ≡ lemma_in parts n

-- the number, where there is one, is of the store
abbrev pub IsOptional : Stored → Option ℕ → Type 0
IsOptional s None = Unit {0}
IsOptional s (Some i) = IsNode s i

-- the numbers of an index are of the store
abbrev pub HasNodes : Stored → FormulaIndex ℕ → Type 0
HasNodes s i = (n : FormulaName) → IsOptional s (formula_value i n)

-- the word for a lemma where the formulas of an index are proved
abbrev pub word_in : {V : Type 0} → FormulaIndex V → FormulaName → LineWord
word_in i n = if is_some (formula_value i n) then CompleteWord else OpenWord
