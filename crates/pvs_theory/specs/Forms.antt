-- Which forms are built. A theory with another form is refused.
use Rattle.std.specs.Prelude.{◌&&◌, ◌||◌, ◌==◌, ℕ, Bool, true, false, bytes_eq, codes, List, length, Option, Some, None, is_some, is_none, ⊤}
use Rattle.std.specs.List.{list_all}
use Rattle.pvs_syntax.specs.declared.word.Word.{Word}
use Rattle.pvs_syntax.specs.declared.expression.Expr.{Expr}
use Rattle.pvs_syntax.specs.declared.expression.TypeExpr.{TypeExpr}
use Rattle.pvs_syntax.specs.declared.expression.NameExpr.{NameExpr}
use Rattle.pvs_syntax.specs.declared.expression.InfixWord.{InfixWord}
use Rattle.pvs_syntax.specs.declared.expression.InfixWord.TheVariants as infix_word
use Rattle.pvs_syntax.specs.declared.expression.Actual.TheOpen.{Expr-F, TypeExpr-F, NameExpr-F}
use Rattle.pvs_syntax.specs.declared.expression.Actual.TheFolds.{fold-Expr, fold-NameExpr, fold-TypeExpr}
use Rattle.pvs_syntax.specs.declared.unit.Decl.{Decl}
use Rattle.pvs_syntax.specs.declared.unit.Decl.TheVariants as decl
use Rattle.pvs_syntax.specs.declared.unit.FormulaWord.{FormulaWord}
use Rattle.pvs_syntax.specs.declared.unit.FormulaWord.TheVariants as formula_word
use Rattle.pvs_syntax.specs.declared.unit.Theory.{Theory}
use Rattle.pvs_syntax.specs.Words.{spelling}

-- the word of a name that no theory qualifies
abbrev pub plain : Option ⊤ → Word → Option Word
plain None w = Some w
plain (Some i) w = None

-- Each step gives what a layer of a tree comes to, where the same of its parts stands in place of them: of an expression whether it is built,
-- of a type and of a name the word where it is a plain name, and nothing of the rest.
abbrev pub name_step : {E T : Type 0} → NameExpr-F ⊤ E T ⊤ ⊤ ⊤ (Option Word) → Option Word
name_step n = plain n.qualifier n.word

abbrev pub type_step : TypeExpr-F ⊤ Bool (Option Word) ⊤ ⊤ ⊤ (Option Word) → Option Word
type_step (TypeExpr-F.NameType w) = w
type_step _ = None

abbrev pub no_step : {X : Type 0} → X → ⊤
no_step x = tt

-- AND, OR and IMPLIES
abbrev pub is_connective : InfixWord → Bool
is_connective infix_word.And = true
is_connective infix_word.Or = true
is_connective infix_word.Implies = true
is_connective _ = false

abbrev pub expr_step : Expr-F ⊤ Bool (Option Word) ⊤ ⊤ ⊤ (Option Word) → Bool
expr_step (Expr-F.Truth b pos) = true
expr_step (Expr-F.NameTerm w) = is_some w
expr_step (Expr-F.Paren x pos) = x
expr_step (Expr-F.Cond c x y pos) = c && x && y
expr_step (Expr-F.Not x pos) = x
expr_step (Expr-F.Infix o x y) = is_connective o && x && y
expr_step _ = false

-- whether an expression is built
abbrev pub is_built : Expr → Bool
is_built = fold-Expr ⊤ Bool (Option Word) ⊤ ⊤ ⊤ (Option Word) no_step expr_step type_step no_step no_step no_step name_step

-- the word of a name that no theory qualifies
abbrev pub plain_name : NameExpr → Option Word
plain_name = fold-NameExpr ⊤ Bool (Option Word) ⊤ ⊤ ⊤ (Option Word) no_step expr_step type_step no_step no_step no_step name_step

-- the word of a type that is such a name
abbrev pub plain_type : TypeExpr → Option Word
plain_type = fold-TypeExpr ⊤ Bool (Option Word) ⊤ ⊤ ⊤ (Option Word) no_step expr_step type_step no_step no_step no_step name_step

-- whether a word is the name of the type of truth values
abbrev pub is_boolean : List ℕ → Option Word → Bool
is_boolean text None = false
is_boolean text (Some w) = bytes_eq (spelling text w) (codes "bool") || bytes_eq (spelling text w) (codes "boolean")

-- an axiom, or a formula that is to be proved
abbrev pub is_built_word : FormulaWord → Bool
is_built_word formula_word.Axiom = true
is_built_word formula_word.Assumption = false
is_built_word formula_word.Lemma = true

-- whether a declaration is built: a boolean constant without parameters and body, or a formula
abbrev pub is_built_decl : List ℕ → Decl → Bool
is_built_decl text (decl.ConstDecl name params ty body) = (length params == 0) && is_none body && is_boolean text (plain_type ty)
is_built_decl text (decl.Formula name word body) = is_built_word word && is_built body
is_built_decl text _ = false

-- whether a theory is built: it has no formals and no assuming part, and each declaration is built
abbrev pub is_built_theory : List ℕ → Theory → Bool
is_built_theory text t = (length t.formals == 0) && (length t.assuming == 0) && list_all (is_built_decl text) t.decls
