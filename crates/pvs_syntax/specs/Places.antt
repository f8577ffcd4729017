-- Where a tree begins: the place of its first token.
--
-- Each step gives the place of one layer of a tree, where the places of its parts stand in place of them.
use Rattle.std.specs.Prelude.{Option, Some, None}
use Rattle.pvs_base.specs.declared.place.Pos.{Pos}
use Rattle.pvs_syntax.specs.declared.expression.Expr.{Expr}
use Rattle.pvs_syntax.specs.declared.expression.InstExpr.{InstExpr}
use Rattle.pvs_syntax.specs.declared.expression.NameExpr.{NameExpr}
use Rattle.pvs_syntax.specs.declared.expression.TypeExpr.{TypeExpr}
use Rattle.pvs_syntax.specs.declared.expression.Actual.TheOpen.{Actual-F, Expr-F, TypeExpr-F, Binding-F, InstExpr-F, LetPart-F, NameExpr-F}
use Rattle.pvs_syntax.specs.declared.expression.Actual.TheFolds.{fold-Expr, fold-InstExpr, fold-NameExpr, fold-TypeExpr}

abbrev pub Step : (Type 0 → Type 0 → Type 0 → Type 0 → Type 0 → Type 0 → Type 0 → Type 0) → Type 0
Step F = F Pos Pos Pos Pos Pos Pos Pos → Pos

abbrev pub actual_step : Step Actual-F
actual_step (Actual-F.ExprActual pos) = pos
actual_step (Actual-F.TypeActual pos) = pos

abbrev pub expr_step : Step Expr-F
expr_step (Expr-F.Truth b pos) = pos
expr_step (Expr-F.NameTerm pos) = pos
expr_step (Expr-F.Apply pos arguments) = pos
expr_step (Expr-F.Project pos word) = pos
expr_step (Expr-F.Paren inner pos) = pos
expr_step (Expr-F.TupleTerm parts pos) = pos
expr_step (Expr-F.Cond c a b pos) = pos
expr_step (Expr-F.Binder word bindings body pos) = pos
expr_step (Expr-F.Let parts body pos) = pos
expr_step (Expr-F.Not operand pos) = pos
expr_step (Expr-F.Infix word left right) = left

abbrev pub type_step : Step TypeExpr-F
type_step (TypeExpr-F.NameType pos) = pos
type_step (TypeExpr-F.FunType bindings result pos) = pos
type_step (TypeExpr-F.TupleType bindings pos) = pos
type_step (TypeExpr-F.SubType word base test pos) = pos
type_step (TypeExpr-F.PredType test pos) = pos

abbrev pub binding_step : Step Binding-F
binding_step b = b.word.pos

abbrev pub inst_step : Step InstExpr-F
inst_step i = i.theory.pos

abbrev pub part_step : Step LetPart-F
part_step p = p.word.pos

-- the place of what qualifies a name, where something does
abbrev pub first_of : Option Pos → Pos → Pos
first_of None pos = pos
first_of (Some pos) other = pos

abbrev pub name_step : Step NameExpr-F
name_step n = first_of n.qualifier n.word.pos

-- the place of an expression
abbrev pub place_of : Expr → Pos
place_of = fold-Expr Pos Pos Pos Pos Pos Pos Pos actual_step expr_step type_step binding_step inst_step part_step name_step

-- the place of a type
abbrev pub place_of_type : TypeExpr → Pos
place_of_type = fold-TypeExpr Pos Pos Pos Pos Pos Pos Pos actual_step expr_step type_step binding_step inst_step part_step name_step

-- the place of a name
abbrev pub place_of_name : NameExpr → Pos
place_of_name = fold-NameExpr Pos Pos Pos Pos Pos Pos Pos actual_step expr_step type_step binding_step inst_step part_step name_step

-- the place of an instance of a theory
abbrev pub place_of_inst : InstExpr → Pos
place_of_inst = fold-InstExpr Pos Pos Pos Pos Pos Pos Pos actual_step expr_step type_step binding_step inst_step part_step name_step
