-- What it is for each form of a tree to be of a text.
use Rattle.std.proofs.Common.{◌≡◌, ◌∙◌, sym, ap, ap₂, ◌&&◌, ◌||◌, ℕ, Bool, true, false, List, length, map, Some, None}
use Rattle.std.specs.List.{list_all}
use Rattle.std.proofs.lemmas.List.Folds.{list_all-map}
use Rattle.std.proofs.lemmas.List.{length-map}
use Rattle.pvs_base.specs.declared.place.Pos.{Pos}
use Rattle.pvs_syntax.specs.declared.word.Word.{Word}
use Rattle.pvs_syntax.specs.declared.expression.Actual.{Actual}
use Rattle.pvs_syntax.specs.declared.expression.Actual.TheVariants as actual
use Rattle.pvs_syntax.specs.declared.expression.BinderWord.{BinderWord}
use Rattle.pvs_syntax.specs.declared.expression.Binding.{Binding, roll-Binding}
use Rattle.pvs_syntax.specs.declared.expression.Expr.{Expr}
use Rattle.pvs_syntax.specs.declared.expression.Expr.TheVariants as expr
use Rattle.pvs_syntax.specs.declared.expression.InfixWord.{InfixWord}
use Rattle.pvs_syntax.specs.declared.expression.InstExpr.{InstExpr, roll-InstExpr}
use Rattle.pvs_syntax.specs.declared.expression.LetPart.{LetPart, roll-LetPart}
use Rattle.pvs_syntax.specs.declared.expression.NameExpr.{NameExpr, roll-NameExpr}
use Rattle.pvs_syntax.specs.declared.expression.TypeExpr.{TypeExpr}
use Rattle.pvs_syntax.specs.declared.expression.TypeExpr.TheVariants as type_expr
use Rattle.pvs_syntax.specs.declared.expression.Actual.TheOpen.{Actual-F, Expr-F, TypeExpr-F}
use Rattle.pvs_syntax.specs.declared.expression.Actual.TheFolds.{fold-roll-Actual, fold-roll-Binding, fold-roll-Expr, fold-roll-InstExpr, fold-roll-LetPart, fold-roll-NameExpr, fold-roll-TypeExpr}
use Rattle.pvs_syntax.specs.Trees.{Origin, has_entries, actual_step, expr_step, type_step, binding_step, inst_step, part_step, name_step, is_actual_in, is_expr_in, type_in, binding_in, inst_in, is_part_in, name_in, is_identifier_in, is_number_in, is_missing_name_in}

-- a list of parts, and the answers for them
list_is : {A B : Type 0} (least : ℕ) (g : A → B) (h : B → Bool) (xs : List A)
    → (has_entries least (length (map g xs)) && list_all h (map g xs)) ≡ (has_entries least (length xs) && list_all (λ x. h (g x)) xs)
list_is least g h xs = ap₂ (λ n b. has_entries least n && b) (length-map xs g) (list_all-map h g xs)

module _ (o : Origin) where
  pub truth_is : (b : Bool) (pos : Pos) → is_expr_in o (expr.Truth b pos) ≡ true
  truth_is b pos =
      ap (is_expr_in o) (sym (expr.rolls-Truth b pos))
      ∙ fold-roll-Expr Bool Bool (Bool × Pos) (Bool × Bool) (Bool × Pos) Bool (Bool × Pos)
      actual_step (expr_step o) (type_step o) (binding_step o) (inst_step o) (part_step o) (name_step o) (Expr-F.Truth b pos)

  pub name_term_is : (n : NameExpr) → is_expr_in o (expr.NameTerm n) ≡ (name_in o n).0
  name_term_is n =
      ap (is_expr_in o) (sym (expr.rolls-NameTerm n))
      ∙ fold-roll-Expr Bool Bool (Bool × Pos) (Bool × Bool) (Bool × Pos) Bool (Bool × Pos)
      actual_step (expr_step o) (type_step o) (binding_step o) (inst_step o) (part_step o) (name_step o) (Expr-F.NameTerm n)

  pub apply_is : (f : Expr) (xs : List Expr)
      → is_expr_in o (expr.Apply f xs) ≡ (is_expr_in o f && (has_entries 1 (length xs) && list_all (is_expr_in o) xs))
  apply_is f xs =
      ap (is_expr_in o) (sym (expr.rolls-Apply f xs))
      ∙ fold-roll-Expr Bool Bool (Bool × Pos) (Bool × Bool) (Bool × Pos) Bool (Bool × Pos)
      actual_step (expr_step o) (type_step o) (binding_step o) (inst_step o) (part_step o) (name_step o) (Expr-F.Apply f xs)
      ∙ ap (λ b. is_expr_in o f && b) (list_is 1 (is_expr_in o) (λ b. b) xs)

  pub project_is : (x : Expr) (w : Word) → is_expr_in o (expr.Project x w) ≡ (is_expr_in o x && is_number_in o w)
  project_is x w =
      ap (is_expr_in o) (sym (expr.rolls-Project x w))
      ∙ fold-roll-Expr Bool Bool (Bool × Pos) (Bool × Bool) (Bool × Pos) Bool (Bool × Pos)
      actual_step (expr_step o) (type_step o) (binding_step o) (inst_step o) (part_step o) (name_step o) (Expr-F.Project x w)

  pub paren_is : (x : Expr) (pos : Pos) → is_expr_in o (expr.Paren x pos) ≡ is_expr_in o x
  paren_is x pos =
      ap (is_expr_in o) (sym (expr.rolls-Paren x pos))
      ∙ fold-roll-Expr Bool Bool (Bool × Pos) (Bool × Bool) (Bool × Pos) Bool (Bool × Pos)
      actual_step (expr_step o) (type_step o) (binding_step o) (inst_step o) (part_step o) (name_step o) (Expr-F.Paren x pos)

  pub tuple_is : (xs : List Expr) (pos : Pos)
      → is_expr_in o (expr.TupleTerm xs pos) ≡ (has_entries 2 (length xs) && list_all (is_expr_in o) xs)
  tuple_is xs pos =
      ap (is_expr_in o) (sym (expr.rolls-TupleTerm xs pos))
      ∙ fold-roll-Expr Bool Bool (Bool × Pos) (Bool × Bool) (Bool × Pos) Bool (Bool × Pos)
      actual_step (expr_step o) (type_step o) (binding_step o) (inst_step o) (part_step o) (name_step o) (Expr-F.TupleTerm xs pos)
      ∙ list_is 2 (is_expr_in o) (λ b. b) xs

  pub cond_is : (c x y : Expr) (pos : Pos) → is_expr_in o (expr.Cond c x y pos) ≡ (is_expr_in o c && (is_expr_in o x && is_expr_in o y))
  cond_is c x y pos =
      ap (is_expr_in o) (sym (expr.rolls-Cond c x y pos))
      ∙ fold-roll-Expr Bool Bool (Bool × Pos) (Bool × Bool) (Bool × Pos) Bool (Bool × Pos)
      actual_step (expr_step o) (type_step o) (binding_step o) (inst_step o) (part_step o) (name_step o) (Expr-F.Cond c x y pos)

  pub binder_is : (w : BinderWord) (bs : List Binding) (x : Expr) (pos : Pos)
      → is_expr_in o (expr.Binder w bs x pos) ≡ ((has_entries 1 (length bs) && list_all (λ b. (binding_in o b).1) bs) && is_expr_in o x)
  binder_is w bs x pos =
      ap (is_expr_in o) (sym (expr.rolls-Binder w bs x pos))
      ∙ fold-roll-Expr Bool Bool (Bool × Pos) (Bool × Bool) (Bool × Pos) Bool (Bool × Pos)
      actual_step (expr_step o) (type_step o) (binding_step o) (inst_step o) (part_step o) (name_step o) (Expr-F.Binder w bs x pos)
      ∙ ap (λ b. b && is_expr_in o x) (list_is 1 (binding_in o) (λ b. b.1) bs)

  pub let_is : (ps : List LetPart) (x : Expr) (pos : Pos)
      → is_expr_in o (expr.Let ps x pos) ≡ ((has_entries 1 (length ps) && list_all (is_part_in o) ps) && is_expr_in o x)
  let_is ps x pos =
      ap (is_expr_in o) (sym (expr.rolls-Let ps x pos))
      ∙ fold-roll-Expr Bool Bool (Bool × Pos) (Bool × Bool) (Bool × Pos) Bool (Bool × Pos)
      actual_step (expr_step o) (type_step o) (binding_step o) (inst_step o) (part_step o) (name_step o) (Expr-F.Let ps x pos)
      ∙ ap (λ b. b && is_expr_in o x) (list_is 1 (is_part_in o) (λ b. b) ps)

  pub not_is : (x : Expr) (pos : Pos) → is_expr_in o (expr.Not x pos) ≡ is_expr_in o x
  not_is x pos =
      ap (is_expr_in o) (sym (expr.rolls-Not x pos))
      ∙ fold-roll-Expr Bool Bool (Bool × Pos) (Bool × Bool) (Bool × Pos) Bool (Bool × Pos)
      actual_step (expr_step o) (type_step o) (binding_step o) (inst_step o) (part_step o) (name_step o) (Expr-F.Not x pos)

  pub infix_is : (w : InfixWord) (x y : Expr) → is_expr_in o (expr.Infix w x y) ≡ (is_expr_in o x && is_expr_in o y)
  infix_is w x y =
      ap (is_expr_in o) (sym (expr.rolls-Infix w x y))
      ∙ fold-roll-Expr Bool Bool (Bool × Pos) (Bool × Bool) (Bool × Pos) Bool (Bool × Pos)
      actual_step (expr_step o) (type_step o) (binding_step o) (inst_step o) (part_step o) (name_step o) (Expr-F.Infix w x y)

  pub name_type_is : (n : NameExpr) → type_in o (type_expr.NameType n) ≡ name_in o n
  name_type_is n =
      ap (type_in o) (sym (type_expr.rolls-NameType n))
      ∙ fold-roll-TypeExpr Bool Bool (Bool × Pos) (Bool × Bool) (Bool × Pos) Bool (Bool × Pos)
      actual_step (expr_step o) (type_step o) (binding_step o) (inst_step o) (part_step o) (name_step o) (TypeExpr-F.NameType n)

  pub fun_type_is : (bs : List Binding) (a : TypeExpr) (pos : Pos)
      → type_in o (type_expr.FunType bs a pos) ≡ ((has_entries 1 (length bs) && list_all (λ b. (binding_in o b).0) bs) && (type_in o a).0, pos)
  fun_type_is bs a pos =
      ap (type_in o) (sym (type_expr.rolls-FunType bs a pos))
      ∙ fold-roll-TypeExpr Bool Bool (Bool × Pos) (Bool × Bool) (Bool × Pos) Bool (Bool × Pos)
      actual_step (expr_step o) (type_step o) (binding_step o) (inst_step o) (part_step o) (name_step o) (TypeExpr-F.FunType bs a pos)
      ∙ ap (λ b. (b && (type_in o a).0, pos)) (list_is 1 (binding_in o) (λ b. b.0) bs)

  pub tuple_type_is : (bs : List Binding) (pos : Pos)
      → type_in o (type_expr.TupleType bs pos) ≡ (has_entries 2 (length bs) && list_all (λ b. (binding_in o b).0) bs, pos)
  tuple_type_is bs pos =
      ap (type_in o) (sym (type_expr.rolls-TupleType bs pos))
      ∙ fold-roll-TypeExpr Bool Bool (Bool × Pos) (Bool × Bool) (Bool × Pos) Bool (Bool × Pos)
      actual_step (expr_step o) (type_step o) (binding_step o) (inst_step o) (part_step o) (name_step o) (TypeExpr-F.TupleType bs pos)
      ∙ ap (λ b. (b, pos)) (list_is 2 (binding_in o) (λ b. b.0) bs)

  pub sub_type_is : (w : Word) (a : TypeExpr) (x : Expr) (pos : Pos)
      → type_in o (type_expr.SubType w a x pos) ≡ (is_identifier_in o w && ((type_in o a).0 && is_expr_in o x), pos)
  sub_type_is w a x pos =
      ap (type_in o) (sym (type_expr.rolls-SubType w a x pos))
      ∙ fold-roll-TypeExpr Bool Bool (Bool × Pos) (Bool × Bool) (Bool × Pos) Bool (Bool × Pos)
      actual_step (expr_step o) (type_step o) (binding_step o) (inst_step o) (part_step o) (name_step o) (TypeExpr-F.SubType w a x pos)

  pub pred_type_is : (x : Expr) (pos : Pos) → type_in o (type_expr.PredType x pos) ≡ (is_expr_in o x, pos)
  pred_type_is x pos =
      ap (type_in o) (sym (type_expr.rolls-PredType x pos))
      ∙ fold-roll-TypeExpr Bool Bool (Bool × Pos) (Bool × Bool) (Bool × Pos) Bool (Bool × Pos)
      actual_step (expr_step o) (type_step o) (binding_step o) (inst_step o) (part_step o) (name_step o) (TypeExpr-F.PredType x pos)

  pub expr_actual_is : (x : Expr) → is_actual_in o (actual.ExprActual x) ≡ is_expr_in o x
  expr_actual_is x =
      ap (is_actual_in o) (sym (actual.rolls-ExprActual x))
      ∙ fold-roll-Actual Bool Bool (Bool × Pos) (Bool × Bool) (Bool × Pos) Bool (Bool × Pos)
      actual_step (expr_step o) (type_step o) (binding_step o) (inst_step o) (part_step o) (name_step o) (Actual-F.ExprActual x)

  pub type_actual_is : (a : TypeExpr) → is_actual_in o (actual.TypeActual a) ≡ (type_in o a).0
  type_actual_is a =
      ap (is_actual_in o) (sym (actual.rolls-TypeActual a))
      ∙ fold-roll-Actual Bool Bool (Bool × Pos) (Bool × Bool) (Bool × Pos) Bool (Bool × Pos)
      actual_step (expr_step o) (type_step o) (binding_step o) (inst_step o) (part_step o) (name_step o) (Actual-F.TypeActual a)

  pub untyped_is : (w : Word) → binding_in o (roll-Binding (record { word = w; ty = None })) ≡ (false, is_identifier_in o w && true)
  untyped_is w =
      fold-roll-Binding Bool Bool (Bool × Pos) (Bool × Bool) (Bool × Pos) Bool (Bool × Pos)
      actual_step (expr_step o) (type_step o) (binding_step o) (inst_step o) (part_step o) (name_step o) (record { word = w; ty = None })

  pub typed_is : (w : Word) (a : TypeExpr)
      → binding_in o (roll-Binding (record { word = w; ty = Some a })) ≡ ((is_identifier_in o w || is_missing_name_in o w (type_in o a).1) && (type_in o a).0, is_identifier_in o w && (type_in o a).0)
  typed_is w a =
      fold-roll-Binding Bool Bool (Bool × Pos) (Bool × Bool) (Bool × Pos) Bool (Bool × Pos)
      actual_step (expr_step o) (type_step o) (binding_step o) (inst_step o) (part_step o) (name_step o) (record { word = w; ty = Some a })

  pub inst_is : (w : Word) (xs : List Actual)
      → inst_in o (roll-InstExpr (record { theory = w; actuals = xs })) ≡ (is_identifier_in o w && (has_entries 0 (length xs) && list_all (is_actual_in o) xs), w.pos)
  inst_is w xs =
      fold-roll-InstExpr Bool Bool (Bool × Pos) (Bool × Bool) (Bool × Pos) Bool (Bool × Pos)
      actual_step (expr_step o) (type_step o) (binding_step o) (inst_step o) (part_step o) (name_step o) (record { theory = w; actuals = xs })
      ∙ ap (λ b. (is_identifier_in o w && b, w.pos)) (list_is 0 (is_actual_in o) (λ b. b) xs)

  pub untyped_part_is : (w : Word) (x : Expr)
      → is_part_in o (roll-LetPart (record { word = w; ty = None; value = x })) ≡ (is_identifier_in o w && (true && is_expr_in o x))
  untyped_part_is w x =
      fold-roll-LetPart Bool Bool (Bool × Pos) (Bool × Bool) (Bool × Pos) Bool (Bool × Pos)
      actual_step (expr_step o) (type_step o) (binding_step o) (inst_step o) (part_step o) (name_step o) (record { word = w; ty = None; value = x })

  pub typed_part_is : (w : Word) (a : TypeExpr) (x : Expr)
      → is_part_in o (roll-LetPart (record { word = w; ty = Some a; value = x })) ≡ (is_identifier_in o w && ((type_in o a).0 && is_expr_in o x))
  typed_part_is w a x =
      fold-roll-LetPart Bool Bool (Bool × Pos) (Bool × Bool) (Bool × Pos) Bool (Bool × Pos)
      actual_step (expr_step o) (type_step o) (binding_step o) (inst_step o) (part_step o) (name_step o) (record { word = w; ty = Some a; value = x })

  pub simple_name_is : (w : Word)
      → name_in o (roll-NameExpr (record { qualifier = None; word = w })) ≡ (true && is_identifier_in o w, w.pos)
  simple_name_is w =
      fold-roll-NameExpr Bool Bool (Bool × Pos) (Bool × Bool) (Bool × Pos) Bool (Bool × Pos)
      actual_step (expr_step o) (type_step o) (binding_step o) (inst_step o) (part_step o) (name_step o) (record { qualifier = None; word = w })

  pub name_with_theory_is : (i : InstExpr) (w : Word)
      → name_in o (roll-NameExpr (record { qualifier = Some i; word = w })) ≡ ((inst_in o i).0 && is_identifier_in o w, (inst_in o i).1)
  name_with_theory_is i w =
      fold-roll-NameExpr Bool Bool (Bool × Pos) (Bool × Bool) (Bool × Pos) Bool (Bool × Pos)
      actual_step (expr_step o) (type_step o) (binding_step o) (inst_step o) (part_step o) (name_step o) (record { qualifier = Some i; word = w })
