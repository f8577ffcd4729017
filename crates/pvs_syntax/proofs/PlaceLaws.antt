-- The place of each form of a tree.
use Rattle.std.proofs.Common.{◌≡◌, ◌∙◌, sym, ap, Bool, List, Some, None}
use Rattle.pvs_base.specs.declared.place.Pos.{Pos}
use Rattle.pvs_syntax.specs.declared.word.Word.{Word}
use Rattle.pvs_syntax.specs.declared.expression.Actual.{Actual}
use Rattle.pvs_syntax.specs.declared.expression.BinderWord.{BinderWord}
use Rattle.pvs_syntax.specs.declared.expression.Binding.{Binding}
use Rattle.pvs_syntax.specs.declared.expression.Expr.{Expr}
use Rattle.pvs_syntax.specs.declared.expression.Expr.TheVariants as expr
use Rattle.pvs_syntax.specs.declared.expression.InfixWord.{InfixWord}
use Rattle.pvs_syntax.specs.declared.expression.InstExpr.{InstExpr, roll-InstExpr}
use Rattle.pvs_syntax.specs.declared.expression.LetPart.{LetPart}
use Rattle.pvs_syntax.specs.declared.expression.NameExpr.{NameExpr, roll-NameExpr}
use Rattle.pvs_syntax.specs.declared.expression.TypeExpr.{TypeExpr}
use Rattle.pvs_syntax.specs.declared.expression.TypeExpr.TheVariants as type_expr
use Rattle.pvs_syntax.specs.declared.expression.Actual.TheOpen.{Expr-F, TypeExpr-F}
use Rattle.pvs_syntax.specs.declared.expression.Actual.TheFolds.{fold-roll-Expr, fold-roll-InstExpr, fold-roll-NameExpr, fold-roll-TypeExpr}
use Rattle.pvs_syntax.specs.Places.{actual_step, expr_step, type_step, binding_step, inst_step, part_step, name_step, place_of, place_of_type, place_of_inst, place_of_name}

pub truth_place : (b : Bool) (pos : Pos) → place_of (expr.Truth b pos) ≡ pos
truth_place b pos =
    ap place_of (sym (expr.rolls-Truth b pos))
    ∙ fold-roll-Expr Pos Pos Pos Pos Pos Pos Pos actual_step expr_step type_step binding_step inst_step part_step name_step (Expr-F.Truth b pos)

pub name_term_place : (n : NameExpr) → place_of (expr.NameTerm n) ≡ place_of_name n
name_term_place n =
    ap place_of (sym (expr.rolls-NameTerm n))
    ∙ fold-roll-Expr Pos Pos Pos Pos Pos Pos Pos actual_step expr_step type_step binding_step inst_step part_step name_step (Expr-F.NameTerm n)

pub apply_place : (f : Expr) (xs : List Expr) → place_of (expr.Apply f xs) ≡ place_of f
apply_place f xs =
    ap place_of (sym (expr.rolls-Apply f xs))
    ∙ fold-roll-Expr Pos Pos Pos Pos Pos Pos Pos actual_step expr_step type_step binding_step inst_step part_step name_step (Expr-F.Apply f xs)

pub project_place : (x : Expr) (w : Word) → place_of (expr.Project x w) ≡ place_of x
project_place x w =
    ap place_of (sym (expr.rolls-Project x w))
    ∙ fold-roll-Expr Pos Pos Pos Pos Pos Pos Pos actual_step expr_step type_step binding_step inst_step part_step name_step (Expr-F.Project x w)

pub paren_place : (x : Expr) (pos : Pos) → place_of (expr.Paren x pos) ≡ pos
paren_place x pos =
    ap place_of (sym (expr.rolls-Paren x pos))
    ∙ fold-roll-Expr Pos Pos Pos Pos Pos Pos Pos actual_step expr_step type_step binding_step inst_step part_step name_step (Expr-F.Paren x pos)

pub tuple_place : (xs : List Expr) (pos : Pos) → place_of (expr.TupleTerm xs pos) ≡ pos
tuple_place xs pos =
    ap place_of (sym (expr.rolls-TupleTerm xs pos))
    ∙ fold-roll-Expr Pos Pos Pos Pos Pos Pos Pos actual_step expr_step type_step binding_step inst_step part_step name_step (Expr-F.TupleTerm xs pos)

pub cond_place : (c x y : Expr) (pos : Pos) → place_of (expr.Cond c x y pos) ≡ pos
cond_place c x y pos =
    ap place_of (sym (expr.rolls-Cond c x y pos))
    ∙ fold-roll-Expr Pos Pos Pos Pos Pos Pos Pos actual_step expr_step type_step binding_step inst_step part_step name_step (Expr-F.Cond c x y pos)

pub binder_place : (w : BinderWord) (bs : List Binding) (x : Expr) (pos : Pos) → place_of (expr.Binder w bs x pos) ≡ pos
binder_place w bs x pos =
    ap place_of (sym (expr.rolls-Binder w bs x pos))
    ∙ fold-roll-Expr Pos Pos Pos Pos Pos Pos Pos actual_step expr_step type_step binding_step inst_step part_step name_step (Expr-F.Binder w bs x pos)

pub let_place : (ps : List LetPart) (x : Expr) (pos : Pos) → place_of (expr.Let ps x pos) ≡ pos
let_place ps x pos =
    ap place_of (sym (expr.rolls-Let ps x pos))
    ∙ fold-roll-Expr Pos Pos Pos Pos Pos Pos Pos actual_step expr_step type_step binding_step inst_step part_step name_step (Expr-F.Let ps x pos)

pub not_place : (x : Expr) (pos : Pos) → place_of (expr.Not x pos) ≡ pos
not_place x pos =
    ap place_of (sym (expr.rolls-Not x pos))
    ∙ fold-roll-Expr Pos Pos Pos Pos Pos Pos Pos actual_step expr_step type_step binding_step inst_step part_step name_step (Expr-F.Not x pos)

pub infix_place : (w : InfixWord) (x y : Expr) → place_of (expr.Infix w x y) ≡ place_of x
infix_place w x y =
    ap place_of (sym (expr.rolls-Infix w x y))
    ∙ fold-roll-Expr Pos Pos Pos Pos Pos Pos Pos actual_step expr_step type_step binding_step inst_step part_step name_step (Expr-F.Infix w x y)

pub name_type_place : (n : NameExpr) → place_of_type (type_expr.NameType n) ≡ place_of_name n
name_type_place n =
    ap place_of_type (sym (type_expr.rolls-NameType n))
    ∙ fold-roll-TypeExpr Pos Pos Pos Pos Pos Pos Pos actual_step expr_step type_step binding_step inst_step part_step name_step (TypeExpr-F.NameType n)

pub fun_type_place : (bs : List Binding) (a : TypeExpr) (pos : Pos) → place_of_type (type_expr.FunType bs a pos) ≡ pos
fun_type_place bs a pos =
    ap place_of_type (sym (type_expr.rolls-FunType bs a pos))
    ∙ fold-roll-TypeExpr Pos Pos Pos Pos Pos Pos Pos actual_step expr_step type_step binding_step inst_step part_step name_step (TypeExpr-F.FunType bs a pos)

pub tuple_type_place : (bs : List Binding) (pos : Pos) → place_of_type (type_expr.TupleType bs pos) ≡ pos
tuple_type_place bs pos =
    ap place_of_type (sym (type_expr.rolls-TupleType bs pos))
    ∙ fold-roll-TypeExpr Pos Pos Pos Pos Pos Pos Pos actual_step expr_step type_step binding_step inst_step part_step name_step (TypeExpr-F.TupleType bs pos)

pub sub_type_place : (w : Word) (a : TypeExpr) (x : Expr) (pos : Pos) → place_of_type (type_expr.SubType w a x pos) ≡ pos
sub_type_place w a x pos =
    ap place_of_type (sym (type_expr.rolls-SubType w a x pos))
    ∙ fold-roll-TypeExpr Pos Pos Pos Pos Pos Pos Pos actual_step expr_step type_step binding_step inst_step part_step name_step (TypeExpr-F.SubType w a x pos)

pub pred_type_place : (x : Expr) (pos : Pos) → place_of_type (type_expr.PredType x pos) ≡ pos
pred_type_place x pos =
    ap place_of_type (sym (type_expr.rolls-PredType x pos))
    ∙ fold-roll-TypeExpr Pos Pos Pos Pos Pos Pos Pos actual_step expr_step type_step binding_step inst_step part_step name_step (TypeExpr-F.PredType x pos)

pub inst_place : (w : Word) (xs : List Actual) → place_of_inst (roll-InstExpr (record { theory = w; actuals = xs })) ≡ w.pos
inst_place w xs =
    fold-roll-InstExpr Pos Pos Pos Pos Pos Pos Pos actual_step expr_step type_step binding_step inst_step part_step name_step (record { theory = w; actuals = xs })

pub simple_name_place : (w : Word) → place_of_name (roll-NameExpr (record { qualifier = None; word = w })) ≡ w.pos
simple_name_place w =
    fold-roll-NameExpr Pos Pos Pos Pos Pos Pos Pos actual_step expr_step type_step binding_step inst_step part_step name_step (record { qualifier = None; word = w })

pub name_with_theory_place : (i : InstExpr) (w : Word)
    → place_of_name (roll-NameExpr (record { qualifier = Some i; word = w })) ≡ place_of_inst i
name_with_theory_place i w =
    fold-roll-NameExpr Pos Pos Pos Pos Pos Pos Pos actual_step expr_step type_step binding_step inst_step part_step name_step (record { qualifier = Some i; word = w })
