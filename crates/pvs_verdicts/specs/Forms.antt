-- Which forms are built: a theory of simple types (PVS Language Reference, Declarations, Types, Expressions and Names).
--
-- A type is a name, or `[A -> B]` from one component without a name. An expression is TRUE or FALSE, a name, an application to one argument, an
-- expression in parentheses, IF, LAMBDA over one variable, FORALL or EXISTS, NOT, or an operator. A declaration is that of a type, with or without a
-- definition, of a VAR, of a constant with at most one parameter, with or without a definition, of an axiom, or of a formula that is to be proved.
-- A theory with another form is refused: one with formals, an assuming part, an importing, a qualified name, a predicate subtype, a tuple, a
-- projection, several arguments or a LET.
use Rattle.std.specs.Prelude.{◌&&◌, ◌==◌, Bool, true, false, List, [], ◌∷◌, length, map, Option, Some, None, is_none, not, ⊤}
use Rattle.std.specs.List.{list_all}
use Rattle.pvs_syntax.specs.declared.expression.Expr.{Expr}
use Rattle.pvs_syntax.specs.declared.expression.TypeExpr.{TypeExpr}
use Rattle.pvs_syntax.specs.declared.expression.Binding.{Binding}
use Rattle.pvs_syntax.specs.declared.expression.BinderWord.{BinderWord}
use Rattle.pvs_syntax.specs.declared.expression.BinderWord.TheVariants as binder_word
use Rattle.pvs_syntax.specs.declared.expression.Actual.TheOpen.{Expr-F, TypeExpr-F, Binding-F, NameExpr-F}
use Rattle.pvs_syntax.specs.declared.expression.Actual.TheFolds.{fold-Binding, fold-Expr, fold-TypeExpr}
use Rattle.pvs_syntax.specs.declared.unit.Decl.{Decl}
use Rattle.pvs_syntax.specs.declared.unit.Decl.TheVariants as decl
use Rattle.pvs_syntax.specs.declared.unit.FormulaWord.{FormulaWord}
use Rattle.pvs_syntax.specs.declared.unit.FormulaWord.TheVariants as formula_word
use Rattle.pvs_syntax.specs.declared.unit.Theory.{Theory}

-- A variable that is bound, or a component of a type: whether it has a name, and whether its type is built where one is written. A component without
-- a name has an empty word.
pub record BindingForm : Type 0 where
  pub is_named : Bool
  pub is_built : Bool

-- Each step says whether a layer of a tree is built, where the same of its parts stands in place of them.
abbrev pub no_step : {X : Type 0} → X → ⊤
no_step x = tt

abbrev pub is_built_option : Option Bool → Bool
is_built_option None = true
is_built_option (Some b) = b

abbrev pub binding_step : Binding-F ⊤ Bool Bool BindingForm ⊤ ⊤ Bool → BindingForm
binding_step b = record { is_named = not (b.word.start == b.word.end); is_built = is_built_option b.ty }

-- a name that no theory qualifies
abbrev pub name_step : NameExpr-F ⊤ Bool Bool BindingForm ⊤ ⊤ Bool → Bool
name_step n = is_none n.qualifier

-- one component without a name
abbrev pub is_component : List BindingForm → Bool
is_component (b ∷ []) = not b.is_named && b.is_built
is_component _ = false

-- at most one parameter
abbrev pub is_built_params : List BindingForm → Bool
is_built_params [] = true
is_built_params (b ∷ []) = b.is_built
is_built_params _ = false

-- one variable for LAMBDA, and any number of them for FORALL and EXISTS
abbrev pub binds : BinderWord → List BindingForm → Bool
binds binder_word.Lambda bs = (length bs == 1) && list_all (λ b. b.is_built) bs
binds _ bs = list_all (λ b. b.is_built) bs

abbrev pub type_step : TypeExpr-F ⊤ Bool Bool BindingForm ⊤ ⊤ Bool → Bool
type_step (TypeExpr-F.NameType n) = n
type_step (TypeExpr-F.FunType bs a pos) = is_component bs && a
type_step _ = false

abbrev pub expr_step : Expr-F ⊤ Bool Bool BindingForm ⊤ ⊤ Bool → Bool
expr_step (Expr-F.Truth b pos) = true
expr_step (Expr-F.NameTerm n) = n
expr_step (Expr-F.Apply f (x ∷ [])) = f && x
expr_step (Expr-F.Paren x pos) = x
expr_step (Expr-F.Cond c x y pos) = c && x && y
expr_step (Expr-F.Binder word bs x pos) = binds word bs && x
expr_step (Expr-F.Not x pos) = x
expr_step (Expr-F.Infix o x y) = x && y
expr_step _ = false

-- whether an expression is built
abbrev pub is_built : Expr → Bool
is_built = fold-Expr ⊤ Bool Bool BindingForm ⊤ ⊤ Bool no_step expr_step type_step binding_step no_step no_step name_step

-- whether a type is built
abbrev pub is_built_type : TypeExpr → Bool
is_built_type = fold-TypeExpr ⊤ Bool Bool BindingForm ⊤ ⊤ Bool no_step expr_step type_step binding_step no_step no_step name_step

abbrev pub binding_form : Binding → BindingForm
binding_form = fold-Binding ⊤ Bool Bool BindingForm ⊤ ⊤ Bool no_step expr_step type_step binding_step no_step no_step name_step

abbrev pub is_built_body : Option Expr → Bool
is_built_body None = true
is_built_body (Some x) = is_built x

-- an axiom, or a formula that is to be proved
abbrev pub is_built_word : FormulaWord → Bool
is_built_word formula_word.Axiom = true
is_built_word formula_word.Assumption = false
is_built_word formula_word.Lemma = true

-- whether a declaration is built
abbrev pub is_built_decl : Decl → Bool
is_built_decl (decl.Importing i) = false
is_built_decl (decl.TypeDecl w nonempty) = true
is_built_decl (decl.TypeDef w a) = is_built_type a
is_built_decl (decl.VarDecl w a) = is_built_type a
is_built_decl (decl.ConstDecl w bs a e) = is_built_params (map binding_form bs) && is_built_type a && is_built_body e
is_built_decl (decl.Formula w word e) = is_built_word word && is_built e

-- whether a theory is built: it has no formals and no assuming part, and each declaration is built
abbrev pub is_built_theory : Theory → Bool
is_built_theory t = (length t.formals == 0) && (length t.assuming == 0) && list_all is_built_decl t.decls
