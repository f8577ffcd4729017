-- Which forms are built, form by form.
use Rattle.std.proofs.Common.{◌≡◌, ◌∙◌, sym, ap, ◌&&◌, ◌==◌, Bool, true, false, not, List, [], ◌∷◌, map, Some, None}
use Rattle.std.specs.Prelude.{⊤}
use Rattle.pvs_base.specs.declared.place.Pos.{Pos}
use Rattle.pvs_syntax.specs.declared.word.Word.{Word}
use Rattle.pvs_syntax.specs.declared.expression.Binding.{Binding, roll-Binding}
use Rattle.pvs_syntax.specs.declared.expression.Expr.{Expr}
use Rattle.pvs_syntax.specs.declared.expression.Expr.TheVariants as expr
use Rattle.pvs_syntax.specs.declared.expression.NameExpr.{NameExpr, roll-NameExpr}
use Rattle.pvs_syntax.specs.declared.expression.TypeExpr.{TypeExpr}
use Rattle.pvs_syntax.specs.declared.expression.TypeExpr.TheVariants as type_expr
use Rattle.pvs_syntax.specs.declared.expression.Actual.TheOpen.{Expr-F, TypeExpr-F}
use Rattle.pvs_syntax.specs.declared.expression.Actual.TheFolds.{fold-NameExpr, fold-roll-Binding, fold-roll-Expr, fold-roll-NameExpr, fold-roll-TypeExpr}
use Rattle.pvs_verdicts.specs.Forms.{BindingForm, binding_form, binding_step, expr_step, is_built, is_built_type, is_component, name_step, no_step, type_step}

abbrev pub plain : Word → NameExpr
plain w = roll-NameExpr (record { qualifier = None; word = w })

name_built : (w : Word) → fold-NameExpr ⊤ Bool Bool BindingForm ⊤ ⊤ Bool no_step expr_step type_step binding_step no_step no_step name_step (plain w) ≡ true
name_built w = fold-roll-NameExpr ⊤ Bool Bool BindingForm ⊤ ⊤ Bool no_step expr_step type_step binding_step no_step no_step name_step (record { qualifier = None; word = w })

pub type_name_built : (w : Word) → is_built_type (type_expr.NameType (plain w)) ≡ true
type_name_built w =
    ap is_built_type (sym (type_expr.rolls-NameType (plain w)))
    ∙ fold-roll-TypeExpr ⊤ Bool Bool BindingForm ⊤ ⊤ Bool no_step expr_step type_step binding_step no_step no_step name_step (TypeExpr-F.NameType (plain w))
    ∙ name_built w

pub name_term_built : (w : Word) → is_built (expr.NameTerm (plain w)) ≡ true
name_term_built w =
    ap is_built (sym (expr.rolls-NameTerm (plain w)))
    ∙ fold-roll-Expr ⊤ Bool Bool BindingForm ⊤ ⊤ Bool no_step expr_step type_step binding_step no_step no_step name_step (Expr-F.NameTerm (plain w))
    ∙ name_built w

-- a component of a type, or a variable with a type
pub typed_form : (w : Word) (a : TypeExpr) → binding_form (roll-Binding (record { word = w; ty = Some a })) ≡ record { is_named = not (w.start == w.end); is_built = is_built_type a }
typed_form w a = fold-roll-Binding ⊤ Bool Bool BindingForm ⊤ ⊤ Bool no_step expr_step type_step binding_step no_step no_step name_step (record { word = w; ty = Some a })

pub function_type_built : (bs : List Binding) (a : TypeExpr) (pos : Pos) → is_built_type (type_expr.FunType bs a pos) ≡ is_component (map binding_form bs) && is_built_type a
function_type_built bs a pos =
    ap is_built_type (sym (type_expr.rolls-FunType bs a pos))
    ∙ fold-roll-TypeExpr ⊤ Bool Bool BindingForm ⊤ ⊤ Bool no_step expr_step type_step binding_step no_step no_step name_step (TypeExpr-F.FunType bs a pos)

pub application_built : (f x : Expr) → is_built (expr.Apply f (x ∷ [])) ≡ is_built f && is_built x
application_built f x =
    ap is_built (sym (expr.rolls-Apply f (x ∷ [])))
    ∙ fold-roll-Expr ⊤ Bool Bool BindingForm ⊤ ⊤ Bool no_step expr_step type_step binding_step no_step no_step name_step (Expr-F.Apply f (x ∷ []))

-- ---- Forms that are not built.

pub several_arguments_not_built : (f x y : Expr) (xs : List Expr) → is_built (expr.Apply f (x ∷ y ∷ xs)) ≡ false
several_arguments_not_built f x y xs =
    ap is_built (sym (expr.rolls-Apply f (x ∷ y ∷ xs)))
    ∙ fold-roll-Expr ⊤ Bool Bool BindingForm ⊤ ⊤ Bool no_step expr_step type_step binding_step no_step no_step name_step (Expr-F.Apply f (x ∷ y ∷ xs))

pub subtype_not_built : (w : Word) (a : TypeExpr) (x : Expr) (pos : Pos) → is_built_type (type_expr.SubType w a x pos) ≡ false
subtype_not_built w a x pos =
    ap is_built_type (sym (type_expr.rolls-SubType w a x pos))
    ∙ fold-roll-TypeExpr ⊤ Bool Bool BindingForm ⊤ ⊤ Bool no_step expr_step type_step binding_step no_step no_step name_step (TypeExpr-F.SubType w a x pos)

pub predicate_type_not_built : (x : Expr) (pos : Pos) → is_built_type (type_expr.PredType x pos) ≡ false
predicate_type_not_built x pos =
    ap is_built_type (sym (type_expr.rolls-PredType x pos))
    ∙ fold-roll-TypeExpr ⊤ Bool Bool BindingForm ⊤ ⊤ Bool no_step expr_step type_step binding_step no_step no_step name_step (TypeExpr-F.PredType x pos)

pub tuple_type_not_built : (bs : List Binding) (pos : Pos) → is_built_type (type_expr.TupleType bs pos) ≡ false
tuple_type_not_built bs pos =
    ap is_built_type (sym (type_expr.rolls-TupleType bs pos))
    ∙ fold-roll-TypeExpr ⊤ Bool Bool BindingForm ⊤ ⊤ Bool no_step expr_step type_step binding_step no_step no_step name_step (TypeExpr-F.TupleType bs pos)
