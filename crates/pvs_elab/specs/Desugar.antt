-- Surface trees with their abbreviations written out (PVS Language Reference, expressions and types): a fold of surface
-- trees into phrases. Each variable that is bound gets its type, and operators become IF, `=` and FORALL.
use Rattle.std.specs.Prelude.{ℕ, ◌+◌, ◌-◌, ◌*◌, true, false, List, [], ◌∷◌, map, length, Option, Some, None, ⊤}
use Rattle.pvs_base.specs.declared.place.Pos.{Pos}
use Rattle.pvs_syntax.specs.Words.{spelling}
use Rattle.pvs_syntax.specs.declared.expression.Expr.{Expr}
use Rattle.pvs_syntax.specs.declared.expression.LetPart.{LetPart}
use Rattle.pvs_syntax.specs.declared.expression.NameExpr.{NameExpr}
use Rattle.pvs_syntax.specs.declared.expression.TypeExpr.{TypeExpr}
use Rattle.pvs_syntax.specs.declared.expression.Binding.{Binding}
use Rattle.pvs_syntax.specs.declared.expression.BinderWord.{BinderWord}
use Rattle.pvs_syntax.specs.declared.expression.BinderWord.TheVariants as binder_word
use Rattle.pvs_syntax.specs.declared.expression.InfixWord.{InfixWord}
use Rattle.pvs_syntax.specs.declared.expression.InfixWord.TheVariants as infix_word
use Rattle.pvs_syntax.specs.declared.expression.Actual.TheOpen.{Actual-F, Expr-F, TypeExpr-F, Binding-F, InstExpr-F, LetPart-F, NameExpr-F}
use Rattle.pvs_syntax.specs.declared.expression.Actual.TheFolds.{fold-Binding, fold-Expr, fold-LetPart, fold-NameExpr, fold-TypeExpr}
use Rattle.pvs_terms.specs.Tree.{Text}
use Rattle.pvs_elab.specs.Phrase.{Phrase, Name, Truth, Apply, Tuple, Part, Group, Choice, Not, Equal, Iff, All, Lambda, Let, LetAs, TypeOf, Sub, Predicate, Function, Product, Other, place}

-- the number that these decimal digits go on with
abbrev pub decimal : ℕ → Text → ℕ
decimal n [] = n
decimal n (b ∷ bs) = decimal (n * 10 + (b - 48)) bs

-- a variable that is bound, or a component of a type, with its type where one is written
pub record Bound : Type 0 where
  pub name : Text
  pub pos : Pos
  pub ty : Option Phrase

-- a part of a LET
pub record Value : Type 0 where
  pub name : Text
  pub ty : Option Phrase
  pub value : Phrase

-- the type that is written, or another
abbrev pub type_or : Phrase → Option Phrase → Phrase
type_or other (Some a) = a
type_or other None = other

-- the type that is written next in these bindings; that of the VAR of the name where there is none
abbrev pub type_from : Text → Pos → List Bound → Phrase
type_from x pos [] = TypeOf x pos
type_from x pos (b ∷ bs) = type_or (type_from x pos bs) b.ty

abbrev pub type_of : Bound → List Bound → Phrase
type_of b bs = type_from b.name b.pos (b ∷ bs)

-- a quantifier over several variables is one over the first, of the rest
abbrev pub all_of : Pos → Phrase → List Bound → Phrase
all_of pos body [] = body
all_of pos body (b ∷ bs) = All b.name (type_of b bs) (all_of pos body bs) pos

abbrev pub some_of : Pos → Phrase → List Bound → Phrase
some_of pos body [] = body
some_of pos body (b ∷ bs) = Not (All b.name (type_of b bs) (Not (some_of pos body bs) pos) pos) pos

-- the type of one variable, or of the tuple of several
abbrev pub domain : Pos → List Bound → Phrase
domain pos [] = Other pos
domain pos (b ∷ []) = type_of b []
domain pos (b ∷ c ∷ bs) = Product (length bs) b.name (type_of b (c ∷ bs)) (domain pos (c ∷ bs)) pos

abbrev pub names : List Bound → List Text
names bs = map (λ b. b.name) bs

abbrev pub quantified : BinderWord → List Bound → Phrase → Pos → Phrase
quantified word [] body pos = Group body pos
quantified binder_word.Forall (b ∷ bs) body pos = all_of pos body (b ∷ bs)
quantified binder_word.Exists (b ∷ bs) body pos = some_of pos body (b ∷ bs)
quantified binder_word.Lambda (b ∷ bs) body pos = Lambda (domain pos (b ∷ bs)) (names (b ∷ bs)) body pos

-- one argument, or the tuple of several
abbrev pub tuple : Pos → List Phrase → Phrase
tuple pos [] = Other pos
tuple pos (x ∷ []) = x
tuple pos (x ∷ y ∷ xs) = Tuple (length xs) x (tuple pos (y ∷ xs)) pos

-- the same where it is written with parentheses of its own
abbrev pub tuple_term : Pos → List Phrase → Phrase
tuple_term pos [] = Other pos
tuple_term pos (x ∷ []) = Group x pos
tuple_term pos (x ∷ y ∷ xs) = tuple pos (x ∷ y ∷ xs)

-- several arguments have the place of the first
abbrev pub arguments : List Phrase → Phrase → Phrase
arguments [] f = f
arguments (x ∷ xs) f = Apply f (tuple (place x) (x ∷ xs))

abbrev pub let_part : Value → Phrase → Pos → Phrase
let_part v body pos = with_type v.name v.ty v.value body pos where
  with_type : Text → Option Phrase → Phrase → Phrase → Pos → Phrase
  with_type x None v body pos = Let x v body pos
  with_type x (Some a) v body pos = LetAs x a v body pos

abbrev pub lets : Pos → Phrase → List Value → Phrase
lets pos body [] = body
lets pos body (v ∷ vs) = let_part v (lets pos body vs) pos

abbrev pub lets_term : Pos → Phrase → List Value → Phrase
lets_term pos body [] = Group body pos
lets_term pos body (v ∷ vs) = lets pos body (v ∷ vs)

abbrev pub operator : InfixWord → Phrase → Phrase → Phrase
operator infix_word.And x y = Choice false x y (Truth false (place y)) (place y) (place x)
operator infix_word.Or x y = Choice false x (Truth true (place y)) y (place y) (place x)
operator infix_word.Implies x y = Choice false x y (Truth true (place y)) (place y) (place x)
operator infix_word.Iff x y = Iff x y
operator infix_word.Equal x y = Equal x y
operator infix_word.Differs x y = Not (Equal x y) (place x)

-- Each step writes out one layer of a tree, where what its parts say stands in place of them.
abbrev pub Step : (Type 0 → Type 0 → Type 0 → Type 0 → Type 0 → Type 0 → Type 0 → Type 0) → Type 0 → Type 0
Step F X = F ⊤ Phrase Phrase Bound Pos Value Phrase → X

abbrev pub expr_step : Text → Step Expr-F Phrase
expr_step text (Expr-F.Truth b pos) = Truth b pos
expr_step text (Expr-F.NameTerm x) = x
expr_step text (Expr-F.Apply f xs) = arguments xs f
expr_step text (Expr-F.Project x w) = Part x (decimal 0 (spelling text w)) w.pos
expr_step text (Expr-F.Paren x pos) = Group x pos
expr_step text (Expr-F.TupleTerm xs pos) = tuple_term pos xs
expr_step text (Expr-F.Cond c x y pos) = Choice true c x y (place y) pos
expr_step text (Expr-F.Binder word bs body pos) = quantified word bs body pos
expr_step text (Expr-F.Let vs body pos) = lets_term pos body vs
expr_step text (Expr-F.Not x pos) = Not x pos
expr_step text (Expr-F.Infix o x y) = operator o x y

abbrev pub type_step : Text → Step TypeExpr-F Phrase
type_step text (TypeExpr-F.NameType x) = x
type_step text (TypeExpr-F.FunType bs b pos) = Function (domain pos bs) (names bs) b pos
type_step text (TypeExpr-F.TupleType bs pos) = domain pos bs
type_step text (TypeExpr-F.SubType w a p pos) = Sub (spelling text w) a p pos
type_step text (TypeExpr-F.PredType q pos) = Predicate q pos

abbrev pub actual_step : Step Actual-F ⊤
actual_step a = tt

-- the place of an instance
abbrev pub inst_step : Step InstExpr-F Pos
inst_step i = i.theory.pos

abbrev pub binding_step : Text → Step Binding-F Bound
binding_step text b = record { name = spelling text b.word; pos = b.word.pos; ty = b.ty }

abbrev pub part_step : Text → Step LetPart-F Value
part_step text p = record { name = spelling text p.word; ty = p.ty; value = p.value }

-- qualified names are not built
abbrev pub name_step : Text → Step NameExpr-F Phrase
name_step text n = plain n.qualifier (spelling text n.word) n.word.pos where
  plain : Option Pos → Text → Pos → Phrase
  plain None x pos = Name x pos
  plain (Some first) x pos = Other first

-- what an expression, a type, a binding, a part of a LET and a name of this text say
abbrev pub phrase : Text → Expr → Phrase
phrase text = fold-Expr ⊤ Phrase Phrase Bound Pos Value Phrase actual_step (expr_step text) (type_step text) (binding_step text) inst_step (part_step text) (name_step text)

abbrev pub type_phrase : Text → TypeExpr → Phrase
type_phrase text = fold-TypeExpr ⊤ Phrase Phrase Bound Pos Value Phrase actual_step (expr_step text) (type_step text) (binding_step text) inst_step (part_step text) (name_step text)

abbrev pub bound_of : Text → Binding → Bound
bound_of text = fold-Binding ⊤ Phrase Phrase Bound Pos Value Phrase actual_step (expr_step text) (type_step text) (binding_step text) inst_step (part_step text) (name_step text)

abbrev pub value_of : Text → LetPart → Value
value_of text = fold-LetPart ⊤ Phrase Phrase Bound Pos Value Phrase actual_step (expr_step text) (type_step text) (binding_step text) inst_step (part_step text) (name_step text)

abbrev pub name_phrase : Text → NameExpr → Phrase
name_phrase text = fold-NameExpr ⊤ Phrase Phrase Bound Pos Value Phrase actual_step (expr_step text) (type_step text) (binding_step text) inst_step (part_step text) (name_step text)
