-- Small lists of tokens with their trees.
use Rattle.std.proofs.Common.{◌≡◌, ℕ, [], ◌∷◌, Some, None, Ok, Err, refl}
use Rattle.pvs_parser.specs.declared.failure.Reason.{Reason}
use Rattle.pvs_parser.specs.declared.failure.Reason.TheVariants as reason
use Rattle.pvs_parser.specs.declared.terminal.Terminal.{Terminal}
use Rattle.pvs_parser.specs.declared.terminal.TerminalKind.{TerminalKind}
use Rattle.pvs_parser.specs.declared.terminal.TerminalKind.TheVariants as kind
use Rattle.pvs_syntax.specs.declared.word.Word.{Word}
use Rattle.pvs_syntax.specs.declared.expression.BinderWord.TheVariants as binders
use Rattle.pvs_syntax.specs.declared.expression.Expr.{Expr}
use Rattle.pvs_syntax.specs.declared.expression.Expr.TheVariants as expr
use Rattle.pvs_syntax.specs.declared.expression.InfixWord.TheVariants as words
use Rattle.pvs_parser.specs.Terminals.{same_kind}
use Rattle.pvs_parser.specs.Language.{language_limit, simple_name, untyped_binding}
use Rattle.pvs_parser.specs.code.Descent.{Answer, expression, reader, list_from, term_from, compared_from}

abbrev word : ℕ → Word
word n = record { start = n; end = n; pos = record { line = 1; col = 1 } }

abbrev reads : Expr → Answer Expr
reads a = Ok a

abbrev stops : ℕ → Reason → Answer Expr
stops n r = Err (record { left = n; reason = r })

-- a terminal, and an identifier with a number
abbrev t : TerminalKind → Terminal
t k = record { kind = k; word = word 0 }

abbrev i : ℕ → Terminal
i n = record { kind = kind.Id; word = word n }

abbrev x : ℕ → Expr
x n = expr.NameTerm (simple_name (word n))

abbrev no : Expr → Expr
no a = expr.Not a (word 0).pos

-- a = NOT b = c
not_reaches_over_equality : expression language_limit (i 1 ∷ t kind.Equal ∷ t kind.Not ∷ i 2 ∷ t kind.Equal ∷ i 3 ∷ []) ≡ reads (expr.Infix words.Equal (x 1) (no (expr.Infix words.Equal (x 2) (x 3))))
unfolding reader list_from term_from compared_from same_kind
not_reaches_over_equality = refl

-- a = NOT b AND c
not_stops_at_and : expression language_limit (i 1 ∷ t kind.Equal ∷ t kind.Not ∷ i 2 ∷ t kind.And ∷ i 3 ∷ []) ≡ reads (expr.Infix words.And (expr.Infix words.Equal (x 1) (no (x 2))) (x 3))
unfolding reader list_from term_from compared_from same_kind
not_stops_at_and = refl

-- a = b /= c
equality_goes_left : expression language_limit (i 1 ∷ t kind.Equal ∷ i 2 ∷ t kind.Differs ∷ i 3 ∷ []) ≡ reads (expr.Infix words.Differs (expr.Infix words.Equal (x 1) (x 2)) (x 3))
unfolding reader list_from term_from compared_from same_kind
equality_goes_left = refl

-- a IMPLIES b IMPLIES c OR d
implies_goes_right : expression language_limit (i 1 ∷ t kind.Implies ∷ i 2 ∷ t kind.Implies ∷ i 3 ∷ t kind.Or ∷ i 4 ∷ []) ≡ reads (expr.Infix words.Implies (x 1) (expr.Infix words.Implies (x 2) (expr.Infix words.Or (x 3) (x 4))))
unfolding reader list_from term_from compared_from same_kind
implies_goes_right = refl

-- a AND FORALL b, c: d IFF a
binder_reaches : expression language_limit (i 1 ∷ t kind.And ∷ t kind.Forall ∷ i 2 ∷ t kind.Comma ∷ i 3 ∷ t kind.Colon ∷ i 4 ∷ t kind.Iff ∷ i 1 ∷ [])
    ≡ reads (expr.Infix words.And (x 1) (expr.Binder binders.Forall (untyped_binding (word 2) ∷ untyped_binding (word 3) ∷ []) (expr.Infix words.Iff (x 4) (x 1)) (word 0).pos))
unfolding reader list_from term_from compared_from same_kind
binder_reaches = refl

-- f(a, b)`1(c)
calls_and_projections : expression language_limit (i 1 ∷ t kind.Open ∷ i 2 ∷ t kind.Comma ∷ i 3 ∷ t kind.Close ∷ t kind.Backquote ∷ t kind.Number ∷ t kind.Open ∷ i 4 ∷ t kind.Close ∷ [])
    ≡ reads (expr.Apply (expr.Project (expr.Apply (x 1) (x 2 ∷ x 3 ∷ [])) (word 0)) (x 4 ∷ []))
unfolding reader list_from term_from compared_from same_kind
calls_and_projections = refl

-- (a)   (a, b)
parentheses : expression language_limit (t kind.Open ∷ i 1 ∷ t kind.Close ∷ []) ≡ reads (expr.Paren (x 1) (word 0).pos)
unfolding reader list_from term_from compared_from same_kind
parentheses = refl

tuple : expression language_limit (t kind.Open ∷ i 1 ∷ t kind.Comma ∷ i 2 ∷ t kind.Close ∷ []) ≡ reads (expr.TupleTerm (x 1 ∷ x 2 ∷ []) (word 0).pos)
unfolding reader list_from term_from compared_from same_kind
tuple = refl

-- IF a THEN b ELSIF c THEN d ELSE a ENDIF
elsif : expression language_limit (t kind.If ∷ i 1 ∷ t kind.Then ∷ i 2 ∷ t kind.Elsif ∷ i 3 ∷ t kind.Then ∷ i 4 ∷ t kind.Else ∷ i 1 ∷ t kind.EndIf ∷ [])
    ≡ reads (expr.Cond (x 1) (x 2) (expr.Cond (x 3) (x 4) (x 1) (word 0).pos) (word 0).pos)
unfolding reader list_from term_from compared_from same_kind
elsif = refl

-- ()
empty_parentheses : expression language_limit (t kind.Open ∷ t kind.Close ∷ []) ≡ stops 1 reason.Unexpected
unfolding reader list_from term_from compared_from same_kind
empty_parentheses = refl

-- a b
two_names : expression language_limit (i 1 ∷ i 2 ∷ []) ≡ stops 1 reason.Unexpected
unfolding reader list_from term_from compared_from same_kind
two_names = refl

-- ((a)), with one level: the second parenthesis is too deep
too_deep : expression (Some 1) (t kind.Open ∷ t kind.Open ∷ i 1 ∷ t kind.Close ∷ t kind.Close ∷ []) ≡ stops 4 reason.TooNested
unfolding reader list_from term_from compared_from same_kind
too_deep = refl

-- (a, b), with one entry: b is one too many
too_many : expression (Some 1) (t kind.Open ∷ i 1 ∷ t kind.Comma ∷ i 2 ∷ t kind.Close ∷ []) ≡ stops 2 reason.TooNested
unfolding reader list_from term_from compared_from same_kind
too_many = refl

-- ((a), b), with no limit
unbounded : expression None (t kind.Open ∷ t kind.Open ∷ i 1 ∷ t kind.Close ∷ t kind.Comma ∷ i 2 ∷ t kind.Close ∷ []) ≡ reads (expr.TupleTerm (expr.Paren (x 1) (word 0).pos ∷ x 2 ∷ []) (word 0).pos)
unfolding reader list_from term_from compared_from same_kind
unbounded = refl
