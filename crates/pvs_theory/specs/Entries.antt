-- The entries of a theory, and the core trees of its formulas.
use Rattle.std.specs.Prelude.{◌&&◌, ℕ, ◌+◌, Bool, true, false, bytes_eq, if◌then◌else◌, List, [], ◌∷◌, ◌++◌, Option, Some, None, Result, Ok, Err, ⊤}
use Rattle.pvs_base.specs.declared.place.Pos.{Pos}
use Rattle.pvs_base.specs.Answers.{◌>>=◌}
use Rattle.pvs_base.specs.declared.code.Fault.{Fault}
use Rattle.pvs_base.specs.declared.code.Code.TheVariants as code
use Rattle.pvs_syntax.specs.declared.word.Word.{Word}
use Rattle.pvs_syntax.specs.declared.expression.Expr.{Expr}
use Rattle.pvs_syntax.specs.declared.expression.InfixWord.{InfixWord}
use Rattle.pvs_syntax.specs.declared.expression.InfixWord.TheVariants as infix_word
use Rattle.pvs_syntax.specs.declared.expression.Actual.TheOpen.{Expr-F}
use Rattle.pvs_syntax.specs.declared.expression.Actual.TheFolds.{fold-Expr}
use Rattle.pvs_syntax.specs.declared.unit.Decl.{Decl}
use Rattle.pvs_syntax.specs.declared.unit.Decl.TheVariants as decl
use Rattle.pvs_syntax.specs.declared.unit.FormulaWord.{FormulaWord}
use Rattle.pvs_terms.specs.Tree.{Tree, Own, True, False, Const, If}
use Rattle.pvs_types.specs.Limits.{is_within_limits}
use Rattle.pvs_syntax.specs.Words.{spelling}
use Rattle.pvs_theory.specs.Forms.{name_step, no_step}

-- a boolean constant, or an axiom or a lemma with its formula
pub data EntryKind : Type 0 where
  Constant : EntryKind
  Formula : FormulaWord → Tree → EntryKind

-- an entry of a theory, by the bytes of its name
pub record Entry : Type 0 where
  pub name : List ℕ
  pub kind : EntryKind

-- the fault of a form that is not built: its place is that of the name of the theory
abbrev pub out_of_profile : Pos → Fault
out_of_profile at = record { pos = at; code = code.OutOfProfile }

-- a core tree, with the place of the first token of its expression
pub record Placed : Type 0 where
  pub at : Pos
  pub tree : Tree

-- the tree of an expression that begins at this place, or TooLarge there where the tree passes a limit
abbrev pub limited : Pos → Tree → Result Placed Fault
limited at t = if is_within_limits t then Ok (record { at = at; tree = t }) else Err (record { pos = at; code = code.TooLarge })

-- NOT a
abbrev pub negation : Tree → Tree
negation a = If a False True

-- a AND b, a OR b, a IMPLIES b, in a theory whose name has this place
abbrev pub connective : Pos → InfixWord → Placed → Placed → Result Placed Fault
connective at infix_word.And a b = limited a.at (If a.tree b.tree False)
connective at infix_word.Or a b = limited a.at (If a.tree True b.tree)
connective at infix_word.Implies a b = limited a.at (If a.tree b.tree True)
connective at _ a b = Err (out_of_profile at)

abbrev pub is_constant_kind : EntryKind → Bool
is_constant_kind Constant = true
is_constant_kind (Formula w t) = false

-- whether an entry is the constant of this name
abbrev pub is_constant : List ℕ → Entry → Bool
is_constant name e = is_constant_kind e.kind && bytes_eq e.name name

-- the number of the first entry that passes, counted on from n
abbrev pub number_from : (Entry → Bool) → ℕ → List Entry → Option ℕ
number_from p n [] = None
number_from p n (e ∷ es) = if p e then Some n else number_from p (n + 1) es

-- the constant that a name stands for among these entries, by its number
abbrev pub resolve : List Entry → List ℕ → Option ℕ
resolve es name = number_from (is_constant name) 0 es

-- the number of the constant of each name, where there is one
abbrev pub Constants : Type 0
Constants = List ℕ → Option ℕ

-- the constant of this number, or Unknown at the name
abbrev pub constant : Pos → Option ℕ → Result Placed Fault
constant at None = Err (record { pos = at; code = code.Unknown })
constant at (Some n) = Ok (record { at = at; tree = Const (Own n) })

-- the constant that a plain name stands for
abbrev pub named_constant : List ℕ → Pos → Constants → Option Word → Result Placed Fault
named_constant text at constants None = Err (out_of_profile at)
named_constant text at constants (Some w) = constant w.pos (constants (spelling text w))

-- The core tree of one layer of an expression, or the first fault, where the same of its parts stands in place of them. The faults of parts
-- come first, from the left, and then that of the whole.
abbrev pub core_step : List ℕ → Pos → Constants → Expr-F ⊤ (Result Placed Fault) ⊤ ⊤ ⊤ ⊤ (Option Word) → Result Placed Fault
core_step text at constants (Expr-F.Truth b pos) = Ok (record { at = pos; tree = if b then True else False })
core_step text at constants (Expr-F.NameTerm w) = named_constant text at constants w
core_step text at constants (Expr-F.Paren x pos) = x >>= λ a. Ok (record { at = pos; tree = a.tree })
core_step text at constants (Expr-F.Cond c x y pos) = c >>= λ t. x >>= λ a. y >>= λ b. limited pos (If t.tree a.tree b.tree)
core_step text at constants (Expr-F.Not x pos) = x >>= λ a. limited pos (negation a.tree)
core_step text at constants (Expr-F.Infix o x y) = x >>= λ a. y >>= λ b. connective at o a b
core_step text at constants _ = Err (out_of_profile at)

-- The core tree of an expression over these constants, or the first fault in it: a name that is unknown, or a tree that is too large.
-- Parentheses leave no trace but the place.
abbrev pub core : List ℕ → Pos → Constants → Expr → Result Placed Fault
core text at constants =
    fold-Expr ⊤ (Result Placed Fault) ⊤ ⊤ ⊤ ⊤ (Option Word) no_step (core_step text at constants) no_step no_step no_step no_step name_step

abbrev pub named : List ℕ → Word → EntryKind → Entry
named text w kind = record { name = spelling text w; kind = kind }

-- the entry of a declaration over these constants, or the first fault in it
abbrev pub entry_of : List ℕ → Pos → Constants → Decl → Result Entry Fault
entry_of text at constants (decl.ConstDecl w params ty body) = Ok (named text w Constant)
entry_of text at constants (decl.Formula w word x) = core text at constants x >>= λ p. Ok (named text w (Formula word p.tree))
entry_of text at constants _ = Err (out_of_profile at)

-- these entries and those of the declarations that follow them, or the first fault
abbrev pub entries_after : List ℕ → Pos → List Entry → List Decl → Result (List Entry) Fault
entries_after text at es [] = Ok es
entries_after text at es (d ∷ ds) = entry_of text at (resolve es) d >>= λ e. entries_after text at (es ++ e ∷ []) ds

-- the entries of a theory, or the first fault in it
abbrev pub entries_of : List ℕ → Pos → List Decl → Result (List Entry) Fault
entries_of text at ds = entries_after text at [] ds
