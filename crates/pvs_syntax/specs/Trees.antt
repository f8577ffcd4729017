-- Which trees are trees of a text: each word is a token of the text, of the kind that the grammar has there, and each list has a
-- length that the grammar allows.
use Rattle.std.specs.Prelude.{◌==◌, ◌&&◌, ◌||◌, ◌≡◌, ◌≤◌, ℕ, nat_le, nat_lt, Bool, true, false, IsTrue, List, length, Option, Some, None, is_none, All, ⊤}
use Rattle.std.specs.List.{list_all}
use Rattle.pvs_base.specs.declared.place.Pos.{Pos}
use Rattle.pvs_base.specs.Place.{place_after, place_at}
use Rattle.pvs_base.specs.Spans.{span_of}
use Rattle.pvs_lexer.specs.Keywords.{keyword_of}
use Rattle.pvs_lexer.specs.Tokens.{is_word, is_bang, is_number}
use Rattle.pvs_syntax.specs.declared.word.Word.{Word}
use Rattle.pvs_syntax.specs.declared.expression.Actual.{Actual}
use Rattle.pvs_syntax.specs.declared.expression.Binding.{Binding}
use Rattle.pvs_syntax.specs.declared.expression.Expr.{Expr}
use Rattle.pvs_syntax.specs.declared.expression.InstExpr.{InstExpr}
use Rattle.pvs_syntax.specs.declared.expression.LetPart.{LetPart}
use Rattle.pvs_syntax.specs.declared.expression.NameExpr.{NameExpr}
use Rattle.pvs_syntax.specs.declared.expression.TypeExpr.{TypeExpr}
use Rattle.pvs_syntax.specs.declared.expression.Actual.TheOpen.{Actual-F, Expr-F, TypeExpr-F, Binding-F, InstExpr-F, LetPart-F, NameExpr-F}
use Rattle.pvs_syntax.specs.declared.expression.Actual.TheFolds.{fold-Actual, fold-Binding, fold-Expr, fold-InstExpr, fold-LetPart, fold-NameExpr, fold-TypeExpr}
use Rattle.pvs_syntax.specs.declared.unit.Decl.{Decl}
use Rattle.pvs_syntax.specs.declared.unit.Decl.TheVariants as decl
use Rattle.pvs_syntax.specs.declared.unit.Formal.{Formal}
use Rattle.pvs_syntax.specs.declared.unit.Formal.TheVariants as formal
use Rattle.pvs_syntax.specs.declared.unit.FormulaWord.TheVariants as formula_word
use Rattle.pvs_syntax.specs.declared.unit.Item.{Item}
use Rattle.pvs_syntax.specs.declared.unit.Item.TheVariants as item
use Rattle.pvs_syntax.specs.declared.unit.Proof.{Proof}
use Rattle.pvs_syntax.specs.declared.unit.Theory.{Theory}
use Rattle.pvs_syntax.specs.declared.unit.Unit as tree
use Rattle.pvs_syntax.specs.Words.{spelling}

-- ---- Words.

-- What a tree is read from: a text, whether the tree stands in a quoted term of it, and the place of each byte.
pub record Origin : Type 0 where
  pub text : List ℕ
  pub quoted : Bool
  pub place : ℕ → Pos

-- a whole text
abbrev pub whole_text : List ℕ → Origin
whole_text text = record { text = text; quoted = false; place = place_at text }

-- a quoted term of a text that begins at an offset and a place
abbrev pub quoted_term : List ℕ → ℕ → Pos → Origin
quoted_term text start pos = record { text = text; quoted = true; place = λ at. place_after pos (span_of text start at) }

abbrev pub same_place : Pos → Pos → Bool
same_place p q = p.line == q.line && p.col == q.col

-- an identifier: a word that is no keyword; in a quoted term also a variable of a sequent
abbrev pub is_identifier : Bool → List ℕ → Bool
is_identifier quoted bytes = (is_word bytes && is_none (keyword_of bytes)) || (quoted && is_bang bytes)

-- a word that is not empty and lies in the text, with the place of its first byte
abbrev pub is_word_in : Origin → Word → Bool
is_word_in o w = (nat_lt w.start w.end && nat_le w.end (length o.text)) && same_place w.pos (o.place w.start)

abbrev pub is_identifier_in : Origin → Word → Bool
is_identifier_in o w = is_word_in o w && is_identifier o.quoted (spelling o.text w)

abbrev pub is_number_in : Origin → Word → Bool
is_number_in o w = is_word_in o w && is_number (spelling o.text w)

-- The word of a component without a name, whose first token has a place: the word is empty, and stands before that token.
abbrev pub is_missing_name_in : Origin → Word → Pos → Bool
is_missing_name_in o w first =
    ((w.start == w.end) && nat_lt w.end (length o.text)) && (same_place w.pos (o.place w.start) && same_place w.pos first)

-- ---- Expressions and types.

-- a list of at least so many entries, and at most 200
abbrev pub has_entries : ℕ → ℕ → Bool
has_entries least size = nat_le least size && nat_le size 200

abbrev pub are_true : List Bool → Bool
are_true bs = list_all (λ b. b) bs

-- Each step says of one layer of a tree whether it is of the text, where the answers for its parts stand in place of them. Of a
-- type, an instance and a name it also gives the place of the first token, and a binding has two answers: as a component of a
-- type, and as a variable.
abbrev pub Step : (Type 0 → Type 0 → Type 0 → Type 0 → Type 0 → Type 0 → Type 0 → Type 0) → Type 0 → Type 0
Step F X = F Bool Bool (Bool × Pos) (Bool × Bool) (Bool × Pos) Bool (Bool × Pos) → X

abbrev pub actual_step : Step Actual-F Bool
actual_step (Actual-F.ExprActual x) = x
actual_step (Actual-F.TypeActual a) = a.0

abbrev pub expr_step : Origin → Step Expr-F Bool
expr_step o (Expr-F.Truth b pos) = true
expr_step o (Expr-F.NameTerm n) = n.0
expr_step o (Expr-F.Apply f xs) = f && (has_entries 1 (length xs) && are_true xs)
expr_step o (Expr-F.Project x w) = x && is_number_in o w
expr_step o (Expr-F.Paren x pos) = x
expr_step o (Expr-F.TupleTerm xs pos) = has_entries 2 (length xs) && are_true xs
expr_step o (Expr-F.Cond c x y pos) = c && (x && y)
expr_step o (Expr-F.Binder w bs x pos) = (has_entries 1 (length bs) && list_all (λ b. b.1) bs) && x
expr_step o (Expr-F.Let ps x pos) = (has_entries 1 (length ps) && are_true ps) && x
expr_step o (Expr-F.Not x pos) = x
expr_step o (Expr-F.Infix w x y) = x && y

abbrev pub type_step : Origin → Step TypeExpr-F (Bool × Pos)
type_step o (TypeExpr-F.NameType n) = n
type_step o (TypeExpr-F.FunType bs a pos) = ((has_entries 1 (length bs) && list_all (λ b. b.0) bs) && a.0, pos)
type_step o (TypeExpr-F.TupleType bs pos) = (has_entries 2 (length bs) && list_all (λ b. b.0) bs, pos)
type_step o (TypeExpr-F.SubType w a x pos) = (is_identifier_in o w && (a.0 && x), pos)
type_step o (TypeExpr-F.PredType x pos) = (x, pos)

-- a component has a type
abbrev pub is_component : Origin → Word → Option (Bool × Pos) → Bool
is_component o w None = false
is_component o w (Some a) = (is_identifier_in o w || is_missing_name_in o w a.1) && a.0

-- no type, or one of the text
abbrev pub is_annotation : Option (Bool × Pos) → Bool
is_annotation None = true
is_annotation (Some a) = a.0

abbrev pub binding_step : Origin → Step Binding-F (Bool × Bool)
binding_step o b = (is_component o b.word b.ty, is_identifier_in o b.word && is_annotation b.ty)

abbrev pub inst_step : Origin → Step InstExpr-F (Bool × Pos)
inst_step o i = (is_identifier_in o i.theory && (has_entries 0 (length i.actuals) && are_true i.actuals), i.theory.pos)

abbrev pub part_step : Origin → Step LetPart-F Bool
part_step o p = is_identifier_in o p.word && (is_annotation p.ty && p.value)

abbrev pub qualifier_place : Option (Bool × Pos) → Pos → Pos
qualifier_place None pos = pos
qualifier_place (Some i) pos = i.1

abbrev pub name_step : Origin → Step NameExpr-F (Bool × Pos)
name_step o n = (is_annotation n.qualifier && is_identifier_in o n.word, qualifier_place n.qualifier n.word.pos)

-- an actual of the text
abbrev pub is_actual_in : Origin → Actual → Bool
is_actual_in o =
    fold-Actual Bool Bool (Bool × Pos) (Bool × Bool) (Bool × Pos) Bool (Bool × Pos) actual_step (expr_step o) (type_step o)
    (binding_step o) (inst_step o) (part_step o) (name_step o)

-- an expression of the text
abbrev pub is_expr_in : Origin → Expr → Bool
is_expr_in o =
    fold-Expr Bool Bool (Bool × Pos) (Bool × Bool) (Bool × Pos) Bool (Bool × Pos) actual_step (expr_step o) (type_step o)
    (binding_step o) (inst_step o) (part_step o) (name_step o)

-- whether a type is of the text, and the place of its first token
abbrev pub type_in : Origin → TypeExpr → Bool × Pos
type_in o =
    fold-TypeExpr Bool Bool (Bool × Pos) (Bool × Bool) (Bool × Pos) Bool (Bool × Pos) actual_step (expr_step o) (type_step o)
    (binding_step o) (inst_step o) (part_step o) (name_step o)

-- whether a binding is a component of the text, and whether it is a variable of the text
abbrev pub binding_in : Origin → Binding → Bool × Bool
binding_in o =
    fold-Binding Bool Bool (Bool × Pos) (Bool × Bool) (Bool × Pos) Bool (Bool × Pos) actual_step (expr_step o) (type_step o)
    (binding_step o) (inst_step o) (part_step o) (name_step o)

-- whether an instance is of the text, and the place of its first token
abbrev pub inst_in : Origin → InstExpr → Bool × Pos
inst_in o =
    fold-InstExpr Bool Bool (Bool × Pos) (Bool × Bool) (Bool × Pos) Bool (Bool × Pos) actual_step (expr_step o) (type_step o)
    (binding_step o) (inst_step o) (part_step o) (name_step o)

-- a part of a LET of the text
abbrev pub is_part_in : Origin → LetPart → Bool
is_part_in o =
    fold-LetPart Bool Bool (Bool × Pos) (Bool × Bool) (Bool × Pos) Bool (Bool × Pos) actual_step (expr_step o) (type_step o)
    (binding_step o) (inst_step o) (part_step o) (name_step o)

-- whether a name is of the text, and the place of its first token
abbrev pub name_in : Origin → NameExpr → Bool × Pos
name_in o =
    fold-NameExpr Bool Bool (Bool × Pos) (Bool × Bool) (Bool × Pos) Bool (Bool × Pos) actual_step (expr_step o) (type_step o)
    (binding_step o) (inst_step o) (part_step o) (name_step o)

abbrev pub IsIdentifierOf : Origin → Word → Type 0
IsIdentifierOf o w = IsTrue (is_identifier_in o w)

abbrev pub IsExprOf : Origin → Expr → Type 0
IsExprOf o x = IsTrue (is_expr_in o x)

abbrev pub IsTypeOf : Origin → TypeExpr → Type 0
IsTypeOf o a = IsTrue (type_in o a).0

abbrev pub IsInstOf : Origin → InstExpr → Type 0
IsInstOf o i = IsTrue (inst_in o i).0

abbrev pub IsNameOf : Origin → NameExpr → Type 0
IsNameOf o n = IsTrue (name_in o n).0

-- a variable of a binder or a parameter of a declaration
abbrev pub IsVariableOf : Origin → Binding → Type 0
IsVariableOf o b = IsTrue (binding_in o b).1

-- ---- Units.

abbrev pub IsFormalOf : Origin → Formal → Type 0
IsFormalOf o (formal.TypeFormal w nonempty) = IsIdentifierOf o w
IsFormalOf o (formal.ConstFormal w a) = IsIdentifierOf o w × IsTypeOf o a

-- no definition, or one of the text
abbrev pub IsBodyOf : Origin → Option Expr → Type 0
IsBodyOf o None = ⊤
IsBodyOf o (Some x) = IsExprOf o x

abbrev pub IsDeclOf : Origin → Decl → Type 0
IsDeclOf o (decl.Importing i) = IsInstOf o i
IsDeclOf o (decl.TypeDecl w nonempty) = IsIdentifierOf o w
IsDeclOf o (decl.TypeDef w a) = IsIdentifierOf o w × IsTypeOf o a
IsDeclOf o (decl.VarDecl w a) = IsIdentifierOf o w × IsTypeOf o a
IsDeclOf o (decl.ConstDecl w bs a x) = IsIdentifierOf o w × (length bs ≤ 200) × All (IsVariableOf o) bs × IsTypeOf o a × IsBodyOf o x
IsDeclOf o (decl.Formula w f x) = IsIdentifierOf o w × IsExprOf o x

-- the declarations of an assuming part: importings, variables and assumptions
abbrev pub may_be_assumed : Decl → Bool
may_be_assumed (decl.Importing i) = true
may_be_assumed (decl.VarDecl w a) = true
may_be_assumed (decl.Formula w formula_word.Assumption x) = true
may_be_assumed d = false

-- the declarations after it: all but assumptions
abbrev pub may_be_declared : Decl → Bool
may_be_declared (decl.Formula w formula_word.Assumption x) = false
may_be_declared d = true

pub record IsTheoryOf (o : Origin) (t : Theory) : Type 0 where
  pub name : IsIdentifierOf o t.name
  pub formals : All (IsFormalOf o) t.formals
  pub assuming : All (λ d. IsDeclOf o d × IsTrue (may_be_assumed d)) t.assuming
  pub decls : All (λ d. IsDeclOf o d × IsTrue (may_be_declared d)) t.decls
  pub order : t.name.end ≤ t.end
  pub end : t.end ≤ length o.text

pub record IsProofOf (o : Origin) (p : Proof) : Type 0 where
  pub theory : IsIdentifierOf o p.theory
  pub formula : IsIdentifierOf o p.formula
  pub order : p.start ≤ p.end
  pub end : p.end ≤ length o.text
  pub pos : p.pos ≡ o.place p.start

abbrev pub IsItemOf : Origin → Item → Type 0
IsItemOf o (item.Theory t) = IsTheoryOf o t
IsItemOf o (item.Proof p) = IsProofOf o p

-- a unit of a text
abbrev pub IsTreeOf : List ℕ → tree.Unit → Type 0
IsTreeOf text u = All (IsItemOf (whole_text text)) u.items

-- an expression of a quoted term of a text, whose first byte has an offset and a place
abbrev pub IsTreeOfTerm : List ℕ → ℕ → Pos → Expr → Type 0
IsTreeOfTerm text start pos x = IsExprOf (quoted_term text start pos) x
