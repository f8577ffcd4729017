-- A unit whose one lemma is printed open and is not true: p is a constant, and the lemma l says p.
use Rattle.std.specs.Prelude.{ℕ, List, [], ◌∷◌, codes, None}
use Rattle.pvs_syntax.specs.declared.word.Word.{Word}
use Rattle.pvs_syntax.specs.declared.expression.Expr.{Expr}
use Rattle.pvs_syntax.specs.declared.expression.Expr.TheVariants as expr
use Rattle.pvs_syntax.specs.declared.expression.NameExpr.{NameExpr, roll-NameExpr}
use Rattle.pvs_syntax.specs.declared.expression.TypeExpr.TheVariants as type_expr
use Rattle.pvs_syntax.specs.declared.unit.Decl.{Decl}
use Rattle.pvs_syntax.specs.declared.unit.Decl.TheVariants as decl
use Rattle.pvs_syntax.specs.declared.unit.FormulaWord.TheVariants as formula_word
use Rattle.pvs_syntax.specs.declared.unit.Theory.{Theory}
use Rattle.pvs_syntax.specs.declared.unit.Item.TheVariants as item
use Rattle.pvs_syntax.specs.declared.unit.Unit as unit

abbrev pub bytes : List ℕ
bytes = codes "p: THEORY BEGIN p: bool l: LEMMA p END p"

-- a word of the text, which is one line, from one offset up to another
abbrev pub word : ℕ → ℕ → ℕ → Word
word from to col = record { start = from; end = to; pos = record { line = 1; col = col } }

abbrev pub plain : Word → NameExpr
plain w = roll-NameExpr (record { qualifier = None; word = w })

abbrev pub p_decl : Decl
p_decl = decl.ConstDecl (word 16 17 17) [] (type_expr.NameType (plain (word 19 23 20))) None

abbrev pub says_p : Expr
says_p = expr.NameTerm (plain (word 33 34 34))

abbrev pub l_decl : Decl
l_decl = decl.Formula (word 24 25 25) formula_word.Lemma says_p

abbrev pub small : Theory
small = record { name = word 0 1 1; formals = []; assuming = []; decls = p_decl ∷ l_decl ∷ []; end = 40 }

-- the unit that the text reads as
abbrev pub whole : unit.Unit
whole = record { items = item.Theory small ∷ [] }
