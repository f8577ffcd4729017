-- What each form of a surface tree says: `phrase` and its like, form by form (PVS Language Reference, expressions and
-- types).
use Rattle.std.specs.Prelude.{◌≡◌, Bool, true, List, map, Some, None}
use Rattle.pvs_base.specs.declared.place.Pos.{Pos}
use Rattle.pvs_terms.specs.Tree.{Text}
use Rattle.pvs_syntax.specs.declared.word.Word.{Word}
use Rattle.pvs_syntax.specs.declared.expression.Actual.{Actual}
use Rattle.pvs_syntax.specs.declared.expression.BinderWord.{BinderWord}
use Rattle.pvs_syntax.specs.declared.expression.Binding.{Binding, roll-Binding}
use Rattle.pvs_syntax.specs.declared.expression.Expr.{Expr}
use Rattle.pvs_syntax.specs.declared.expression.Expr.TheVariants as expr
use Rattle.pvs_syntax.specs.declared.expression.InfixWord.{InfixWord}
use Rattle.pvs_syntax.specs.declared.expression.InstExpr.{roll-InstExpr}
use Rattle.pvs_syntax.specs.declared.expression.LetPart.{LetPart, roll-LetPart}
use Rattle.pvs_syntax.specs.declared.expression.NameExpr.{NameExpr, roll-NameExpr}
use Rattle.pvs_syntax.specs.declared.expression.TypeExpr.{TypeExpr}
use Rattle.pvs_syntax.specs.declared.expression.TypeExpr.TheVariants as type_expr
use Rattle.pvs_syntax.specs.Words.{spelling}
use Rattle.pvs_elab.specs.Phrase.{Name, Truth, Part, Group, Choice, Not, Sub, Predicate, Function, Other, place}
use Rattle.pvs_elab.specs.Desugar.{decimal, domain, names, quantified, tuple_term, arguments, lets_term, operator, phrase, type_phrase, bound_of, value_of, name_phrase}

pub record IsByForms (text : Text) : Type 0 where
  pub truth : (b : Bool) (pos : Pos) → phrase text (expr.Truth b pos) ≡ Truth b pos
  pub name : (n : NameExpr) → phrase text (expr.NameTerm n) ≡ name_phrase text n
  pub apply : (f : Expr) (xs : List Expr) → phrase text (expr.Apply f xs) ≡ arguments (map (phrase text) xs) (phrase text f)
  pub project : (x : Expr) (w : Word) → phrase text (expr.Project x w) ≡ Part (phrase text x) (decimal 0 (spelling text w)) w.pos
  pub paren : (x : Expr) (pos : Pos) → phrase text (expr.Paren x pos) ≡ Group (phrase text x) pos
  pub tuple : (xs : List Expr) (pos : Pos) → phrase text (expr.TupleTerm xs pos) ≡ tuple_term pos (map (phrase text) xs)
  pub conditional : (c x y : Expr) (pos : Pos) → phrase text (expr.Cond c x y pos) ≡ Choice true (phrase text c) (phrase text x) (phrase text y) (place (phrase text y)) pos
  pub binder : (w : BinderWord) (bs : List Binding) (x : Expr) (pos : Pos) → phrase text (expr.Binder w bs x pos) ≡ quantified w (map (bound_of text) bs) (phrase text x) pos
  pub lets : (ps : List LetPart) (x : Expr) (pos : Pos) → phrase text (expr.Let ps x pos) ≡ lets_term pos (phrase text x) (map (value_of text) ps)
  pub not : (x : Expr) (pos : Pos) → phrase text (expr.Not x pos) ≡ Not (phrase text x) pos
  pub infix_operator : (w : InfixWord) (x y : Expr) → phrase text (expr.Infix w x y) ≡ operator w (phrase text x) (phrase text y)
  pub name_type : (n : NameExpr) → type_phrase text (type_expr.NameType n) ≡ name_phrase text n
  pub function_type : (bs : List Binding) (a : TypeExpr) (pos : Pos) → type_phrase text (type_expr.FunType bs a pos) ≡ Function (domain pos (map (bound_of text) bs)) (names (map (bound_of text) bs)) (type_phrase text a) pos
  pub tuple_type : (bs : List Binding) (pos : Pos) → type_phrase text (type_expr.TupleType bs pos) ≡ domain pos (map (bound_of text) bs)
  pub subtype : (w : Word) (a : TypeExpr) (x : Expr) (pos : Pos) → type_phrase text (type_expr.SubType w a x pos) ≡ Sub (spelling text w) (type_phrase text a) (phrase text x) pos
  pub predicate_type : (x : Expr) (pos : Pos) → type_phrase text (type_expr.PredType x pos) ≡ Predicate (phrase text x) pos
  pub untyped : (w : Word) → bound_of text (roll-Binding (record { word = w; ty = None })) ≡ record { name = spelling text w; pos = w.pos; ty = None }
  pub typed : (w : Word) (a : TypeExpr) → bound_of text (roll-Binding (record { word = w; ty = Some a })) ≡ record { name = spelling text w; pos = w.pos; ty = Some (type_phrase text a) }
  pub untyped_part : (w : Word) (x : Expr) → value_of text (roll-LetPart (record { word = w; ty = None; value = x })) ≡ record { name = spelling text w; ty = None; value = phrase text x }
  pub typed_part : (w : Word) (a : TypeExpr) (x : Expr) → value_of text (roll-LetPart (record { word = w; ty = Some a; value = x })) ≡ record { name = spelling text w; ty = Some (type_phrase text a); value = phrase text x }
  pub plain_name : (w : Word) → name_phrase text (roll-NameExpr (record { qualifier = None; word = w })) ≡ Name (spelling text w) w.pos
  -- at the place of the theory
  pub qualified_name : (th w : Word) (xs : List Actual) → name_phrase text (roll-NameExpr (record { qualifier = Some (roll-InstExpr (record { theory = th; actuals = xs })); word = w })) ≡ Other th.pos

abbrev pub PhrasesAreByForms : Type 0
PhrasesAreByForms = (text : Text) → IsByForms text
