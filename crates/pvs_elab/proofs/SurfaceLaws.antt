-- What each form of a surface tree says.
use Rattle.std.proofs.Common.{◌≡◌, ◌∙◌, sym, ap, Bool, true, List, map, Some, None}
use Rattle.std.specs.Prelude.{⊤}
use Rattle.pvs_base.specs.declared.place.Pos.{Pos}
use Rattle.pvs_terms.specs.Tree.{Text}
use Rattle.pvs_syntax.specs.declared.word.Word.{Word}
use Rattle.pvs_syntax.specs.declared.expression.Actual.{Actual}
use Rattle.pvs_syntax.specs.declared.expression.BinderWord.{BinderWord}
use Rattle.pvs_syntax.specs.declared.expression.Binding.{Binding, roll-Binding}
use Rattle.pvs_syntax.specs.declared.expression.Expr.{Expr}
use Rattle.pvs_syntax.specs.declared.expression.Expr.TheVariants as expr
use Rattle.pvs_syntax.specs.declared.expression.InfixWord.{InfixWord}
use Rattle.pvs_syntax.specs.declared.expression.InstExpr.{roll-InstExpr}
use Rattle.pvs_syntax.specs.declared.expression.LetPart.{LetPart, roll-LetPart}
use Rattle.pvs_syntax.specs.declared.expression.NameExpr.{NameExpr, roll-NameExpr}
use Rattle.pvs_syntax.specs.declared.expression.TypeExpr.{TypeExpr}
use Rattle.pvs_syntax.specs.declared.expression.TypeExpr.TheVariants as type_expr
use Rattle.pvs_syntax.specs.declared.expression.Actual.TheOpen.{Expr-F, TypeExpr-F}
use Rattle.pvs_syntax.specs.declared.expression.Actual.TheFolds.{fold-roll-Binding, fold-roll-Expr, fold-roll-InstExpr, fold-roll-LetPart, fold-roll-NameExpr, fold-roll-TypeExpr}
use Rattle.pvs_syntax.specs.Words.{spelling}
use Rattle.pvs_elab.specs.Phrase.{Phrase, Name, Truth, Part, Group, Choice, Not, Sub, Predicate, Function, Other, place}
use Rattle.pvs_elab.specs.Desugar.{Bound, Value, decimal, domain, names, quantified, tuple_term, arguments, lets_term, operator, actual_step, expr_step, type_step, binding_step, inst_step, part_step, name_step, phrase, type_phrase, bound_of, value_of, name_phrase}
use Rattle.pvs_elab.specs.Surface.{IsByForms}

module _ (text : Text) where
  pub truth_is : (b : Bool) (pos : Pos) → phrase text (expr.Truth b pos) ≡ Truth b pos
  truth_is b pos =
      ap (phrase text) (sym (expr.rolls-Truth b pos))
      ∙ fold-roll-Expr ⊤ Phrase Phrase Bound Pos Value Phrase
      actual_step (expr_step text) (type_step text) (binding_step text) inst_step (part_step text) (name_step text) (Expr-F.Truth b pos)

  pub name_is : (n : NameExpr) → phrase text (expr.NameTerm n) ≡ name_phrase text n
  name_is n =
      ap (phrase text) (sym (expr.rolls-NameTerm n))
      ∙ fold-roll-Expr ⊤ Phrase Phrase Bound Pos Value Phrase
      actual_step (expr_step text) (type_step text) (binding_step text) inst_step (part_step text) (name_step text) (Expr-F.NameTerm n)

  pub apply_is : (f : Expr) (xs : List Expr) → phrase text (expr.Apply f xs) ≡ arguments (map (phrase text) xs) (phrase text f)
  apply_is f xs =
      ap (phrase text) (sym (expr.rolls-Apply f xs))
      ∙ fold-roll-Expr ⊤ Phrase Phrase Bound Pos Value Phrase
      actual_step (expr_step text) (type_step text) (binding_step text) inst_step (part_step text) (name_step text) (Expr-F.Apply f xs)

  pub project_is : (x : Expr) (w : Word) → phrase text (expr.Project x w) ≡ Part (phrase text x) (decimal 0 (spelling text w)) w.pos
  project_is x w =
      ap (phrase text) (sym (expr.rolls-Project x w))
      ∙ fold-roll-Expr ⊤ Phrase Phrase Bound Pos Value Phrase
      actual_step (expr_step text) (type_step text) (binding_step text) inst_step (part_step text) (name_step text) (Expr-F.Project x w)

  pub paren_is : (x : Expr) (pos : Pos) → phrase text (expr.Paren x pos) ≡ Group (phrase text x) pos
  paren_is x pos =
      ap (phrase text) (sym (expr.rolls-Paren x pos))
      ∙ fold-roll-Expr ⊤ Phrase Phrase Bound Pos Value Phrase
      actual_step (expr_step text) (type_step text) (binding_step text) inst_step (part_step text) (name_step text) (Expr-F.Paren x pos)

  pub tuple_is : (xs : List Expr) (pos : Pos) → phrase text (expr.TupleTerm xs pos) ≡ tuple_term pos (map (phrase text) xs)
  tuple_is xs pos =
      ap (phrase text) (sym (expr.rolls-TupleTerm xs pos))
      ∙ fold-roll-Expr ⊤ Phrase Phrase Bound Pos Value Phrase
      actual_step (expr_step text) (type_step text) (binding_step text) inst_step (part_step text) (name_step text) (Expr-F.TupleTerm xs pos)

  pub conditional_is : (c x y : Expr) (pos : Pos) → phrase text (expr.Cond c x y pos) ≡ Choice true (phrase text c) (phrase text x) (phrase text y) (place (phrase text y)) pos
  conditional_is c x y pos =
      ap (phrase text) (sym (expr.rolls-Cond c x y pos))
      ∙ fold-roll-Expr ⊤ Phrase Phrase Bound Pos Value Phrase
      actual_step (expr_step text) (type_step text) (binding_step text) inst_step (part_step text) (name_step text) (Expr-F.Cond c x y pos)

  pub binder_is : (w : BinderWord) (bs : List Binding) (x : Expr) (pos : Pos) → phrase text (expr.Binder w bs x pos) ≡ quantified w (map (bound_of text) bs) (phrase text x) pos
  binder_is w bs x pos =
      ap (phrase text) (sym (expr.rolls-Binder w bs x pos))
      ∙ fold-roll-Expr ⊤ Phrase Phrase Bound Pos Value Phrase
      actual_step (expr_step text) (type_step text) (binding_step text) inst_step (part_step text) (name_step text) (Expr-F.Binder w bs x pos)

  pub lets_is : (ps : List LetPart) (x : Expr) (pos : Pos) → phrase text (expr.Let ps x pos) ≡ lets_term pos (phrase text x) (map (value_of text) ps)
  lets_is ps x pos =
      ap (phrase text) (sym (expr.rolls-Let ps x pos))
      ∙ fold-roll-Expr ⊤ Phrase Phrase Bound Pos Value Phrase
      actual_step (expr_step text) (type_step text) (binding_step text) inst_step (part_step text) (name_step text) (Expr-F.Let ps x pos)

  pub not_is : (x : Expr) (pos : Pos) → phrase text (expr.Not x pos) ≡ Not (phrase text x) pos
  not_is x pos =
      ap (phrase text) (sym (expr.rolls-Not x pos))
      ∙ fold-roll-Expr ⊤ Phrase Phrase Bound Pos Value Phrase
      actual_step (expr_step text) (type_step text) (binding_step text) inst_step (part_step text) (name_step text) (Expr-F.Not x pos)

  pub infix_operator_is : (w : InfixWord) (x y : Expr) → phrase text (expr.Infix w x y) ≡ operator w (phrase text x) (phrase text y)
  infix_operator_is w x y =
      ap (phrase text) (sym (expr.rolls-Infix w x y))
      ∙ fold-roll-Expr ⊤ Phrase Phrase Bound Pos Value Phrase
      actual_step (expr_step text) (type_step text) (binding_step text) inst_step (part_step text) (name_step text) (Expr-F.Infix w x y)

  pub name_type_is : (n : NameExpr) → type_phrase text (type_expr.NameType n) ≡ name_phrase text n
  name_type_is n =
      ap (type_phrase text) (sym (type_expr.rolls-NameType n))
      ∙ fold-roll-TypeExpr ⊤ Phrase Phrase Bound Pos Value Phrase
      actual_step (expr_step text) (type_step text) (binding_step text) inst_step (part_step text) (name_step text) (TypeExpr-F.NameType n)

  pub function_type_is : (bs : List Binding) (a : TypeExpr) (pos : Pos) → type_phrase text (type_expr.FunType bs a pos) ≡ Function (domain pos (map (bound_of text) bs)) (names (map (bound_of text) bs)) (type_phrase text a) pos
  function_type_is bs a pos =
      ap (type_phrase text) (sym (type_expr.rolls-FunType bs a pos))
      ∙ fold-roll-TypeExpr ⊤ Phrase Phrase Bound Pos Value Phrase
      actual_step (expr_step text) (type_step text) (binding_step text) inst_step (part_step text) (name_step text) (TypeExpr-F.FunType bs a pos)

  pub tuple_type_is : (bs : List Binding) (pos : Pos) → type_phrase text (type_expr.TupleType bs pos) ≡ domain pos (map (bound_of text) bs)
  tuple_type_is bs pos =
      ap (type_phrase text) (sym (type_expr.rolls-TupleType bs pos))
      ∙ fold-roll-TypeExpr ⊤ Phrase Phrase Bound Pos Value Phrase
      actual_step (expr_step text) (type_step text) (binding_step text) inst_step (part_step text) (name_step text) (TypeExpr-F.TupleType bs pos)

  pub subtype_is : (w : Word) (a : TypeExpr) (x : Expr) (pos : Pos) → type_phrase text (type_expr.SubType w a x pos) ≡ Sub (spelling text w) (type_phrase text a) (phrase text x) pos
  subtype_is w a x pos =
      ap (type_phrase text) (sym (type_expr.rolls-SubType w a x pos))
      ∙ fold-roll-TypeExpr ⊤ Phrase Phrase Bound Pos Value Phrase
      actual_step (expr_step text) (type_step text) (binding_step text) inst_step (part_step text) (name_step text) (TypeExpr-F.SubType w a x pos)

  pub predicate_type_is : (x : Expr) (pos : Pos) → type_phrase text (type_expr.PredType x pos) ≡ Predicate (phrase text x) pos
  predicate_type_is x pos =
      ap (type_phrase text) (sym (type_expr.rolls-PredType x pos))
      ∙ fold-roll-TypeExpr ⊤ Phrase Phrase Bound Pos Value Phrase
      actual_step (expr_step text) (type_step text) (binding_step text) inst_step (part_step text) (name_step text) (TypeExpr-F.PredType x pos)

  pub untyped_is : (w : Word) → bound_of text (roll-Binding (record { word = w; ty = None })) ≡ record { name = spelling text w; pos = w.pos; ty = None }
  untyped_is w =
      fold-roll-Binding ⊤ Phrase Phrase Bound Pos Value Phrase
      actual_step (expr_step text) (type_step text) (binding_step text) inst_step (part_step text) (name_step text) (record { word = w; ty = None })

  pub typed_is : (w : Word) (a : TypeExpr) → bound_of text (roll-Binding (record { word = w; ty = Some a })) ≡ record { name = spelling text w; pos = w.pos; ty = Some (type_phrase text a) }
  typed_is w a =
      fold-roll-Binding ⊤ Phrase Phrase Bound Pos Value Phrase
      actual_step (expr_step text) (type_step text) (binding_step text) inst_step (part_step text) (name_step text) (record { word = w; ty = Some a })

  pub untyped_part_is : (w : Word) (x : Expr) → value_of text (roll-LetPart (record { word = w; ty = None; value = x })) ≡ record { name = spelling text w; ty = None; value = phrase text x }
  untyped_part_is w x =
      fold-roll-LetPart ⊤ Phrase Phrase Bound Pos Value Phrase
      actual_step (expr_step text) (type_step text) (binding_step text) inst_step (part_step text) (name_step text) (record { word = w; ty = None; value = x })

  pub typed_part_is : (w : Word) (a : TypeExpr) (x : Expr) → value_of text (roll-LetPart (record { word = w; ty = Some a; value = x })) ≡ record { name = spelling text w; ty = Some (type_phrase text a); value = phrase text x }
  typed_part_is w a x =
      fold-roll-LetPart ⊤ Phrase Phrase Bound Pos Value Phrase
      actual_step (expr_step text) (type_step text) (binding_step text) inst_step (part_step text) (name_step text) (record { word = w; ty = Some a; value = x })

  pub plain_name_is : (w : Word) → name_phrase text (roll-NameExpr (record { qualifier = None; word = w })) ≡ Name (spelling text w) w.pos
  plain_name_is w =
      fold-roll-NameExpr ⊤ Phrase Phrase Bound Pos Value Phrase
      actual_step (expr_step text) (type_step text) (binding_step text) inst_step (part_step text) (name_step text) (record { qualifier = None; word = w })

  pub qualified_name_is : (th w : Word) (xs : List Actual) → name_phrase text (roll-NameExpr (record { qualifier = Some (roll-InstExpr (record { theory = th; actuals = xs })); word = w })) ≡ Other th.pos
  qualified_name_is th w xs =
      fold-roll-NameExpr ⊤ Phrase Phrase Bound Pos Value Phrase
      actual_step (expr_step text) (type_step text) (binding_step text) inst_step (part_step text) (name_step text) (record { qualifier = Some (roll-InstExpr (record { theory = th; actuals = xs })); word = w })
      ∙ ap Other (fold-roll-InstExpr ⊤ Phrase Phrase Bound Pos Value Phrase
      actual_step (expr_step text) (type_step text) (binding_step text) inst_step (part_step text) (name_step text) (record { theory = th; actuals = xs }))

  pub by_forms : IsByForms text
  by_forms = record {
    truth = truth_is;
    name = name_is;
    apply = apply_is;
    project = project_is;
    paren = paren_is;
    tuple = tuple_is;
    conditional = conditional_is;
    binder = binder_is;
    lets = lets_is;
    not = not_is;
    infix_operator = infix_operator_is;
    name_type = name_type_is;
    function_type = function_type_is;
    tuple_type = tuple_type_is;
    subtype = subtype_is;
    predicate_type = predicate_type_is;
    untyped = untyped_is;
    typed = typed_is;
    untyped_part = untyped_part_is;
    typed_part = typed_part_is;
    plain_name = plain_name_is;
    qualified_name = qualified_name_is;
  }
