-- The lines that show trees: the line of a condition in a report, and those of a sequent. Each ends with one line feed.
use Rattle.std.specs.Prelude.{◌≡◌, ℕ, suc, ◌+◌, List, [], ◌∷◌, ◌++◌, codes, reverse, length}
use Rattle.std.specs.Fmt.{decimal}
use Rattle.pvs_terms.specs.Tree.{Text, Tree}
use Rattle.pvs_sig.specs.Development.{Development}
use Rattle.pvs_printer.specs.Text.{printed}
use Rattle.pvs_sequent.specs.Sequents.{Sequent}

-- the text of a tree in the terms of a theory, for a sequent with so many variables, and a line feed
abbrev pub tree_line : Development → Text → ℕ → Tree → Text
tree_line d th vars x = printed d th vars x ++ 10 ∷ []

-- the line below that of a condition: two blanks and its text
abbrev pub term_line : Development → Text → Tree → Text
term_line d th x = codes "  " ++ tree_line d th 0 x

-- ---- The lines of a sequent.

-- what stands before a tree that is numbered
abbrev pub label : Text → ℕ → Text
label sign n = sign ++ (decimal n ++ codes ": ")

-- `s!n: TYPE`, where so many variables stand before this one: only they occur in its type
abbrev pub variable_line : Development → Text → ℕ → Tree → Text
variable_line d th before ty = label (codes "s!") (before + 1) ++ tree_line d th before ty

-- `-n: TERM` and `n: TERM`, where so many formulas of the side stand before this one, by the sign before the number
abbrev pub formula_line : Development → Text → ℕ → Text → ℕ → Tree → Text
formula_line d th vars sign before x = label sign (before + 1) ++ tree_line d th vars x

-- the lines of trees of which so many stand before the first
abbrev pub lines_from : (ℕ → Tree → Text) → ℕ → List Tree → Text
lines_from line before [] = []
lines_from line before (x ∷ xs) = line before x ++ lines_from line (suc before) xs

abbrev pub turnstile_line : Text
turnstile_line = codes "|-" ++ 10 ∷ []

-- A line for each variable, the first one first, for each antecedent, the line `|-`, and a line for each consequent.
abbrev pub sequent_text : Development → Text → Sequent → Text
sequent_text d th q =
    lines_from (variable_line d th) 0 (reverse q.variables)
    ++ (lines_from (formula_line d th (length q.variables) (codes "-")) 0 q.antecedents
    ++ (turnstile_line ++ lines_from (formula_line d th (length q.variables) []) 0 q.consequents))
