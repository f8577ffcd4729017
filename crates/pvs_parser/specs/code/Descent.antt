-- Reading expressions and types from left to right. Where the tokens do not begin so, or nest too deep, reading stops.
use Rattle.std.specs.Prelude.{◌≡◌, ℕ, zero, suc, ◌+◌, ◌||◌, nat_lt, Bool, true, false, if◌then◌else◌, List, [], ◌∷◌, ◌++◌, length, Option, Some, None, Result, Ok, Err, ⊤}
use Rattle.pvs_base.specs.Answers.{◌>>=◌}
use Rattle.pvs_parser.specs.declared.failure.Failure.{Failure}
use Rattle.pvs_parser.specs.declared.failure.Failure.TheVariants as failure
use Rattle.pvs_parser.specs.declared.failure.Reason.TheVariants as reason
use Rattle.pvs_parser.specs.declared.failure.Stop.{Stop}
use Rattle.pvs_parser.specs.declared.nesting.Nesting.{Nesting}
use Rattle.pvs_parser.specs.declared.start.Start.{Start}
use Rattle.pvs_parser.specs.declared.start.Start.TheVariants as start
use Rattle.pvs_parser.specs.declared.terminal.Connective.{Connective}
use Rattle.pvs_parser.specs.declared.terminal.Connective.TheVariants as connective
use Rattle.pvs_parser.specs.declared.terminal.Terminal.{Terminal}
use Rattle.pvs_parser.specs.declared.terminal.TerminalKind.{TerminalKind}
use Rattle.pvs_parser.specs.declared.terminal.TerminalKind.TheVariants as kind
use Rattle.pvs_parser.specs.declared.terminal.Prefix.{Prefix}
use Rattle.pvs_parser.specs.declared.terminal.Prefix.TheVariants as prefixes
use Rattle.pvs_syntax.specs.declared.word.Word.{Word}
use Rattle.pvs_syntax.specs.declared.expression.Actual.{Actual}
use Rattle.pvs_syntax.specs.declared.expression.Actual.TheVariants as actuals
use Rattle.pvs_syntax.specs.declared.expression.BinderWord.{BinderWord}
use Rattle.pvs_syntax.specs.declared.expression.Binding.{Binding}
use Rattle.pvs_syntax.specs.declared.expression.Expr.{Expr}
use Rattle.pvs_syntax.specs.declared.expression.Expr.TheVariants as expr
use Rattle.pvs_syntax.specs.declared.expression.InfixWord.{InfixWord}
use Rattle.pvs_syntax.specs.declared.expression.LetPart.{LetPart}
use Rattle.pvs_syntax.specs.declared.expression.NameExpr.{NameExpr}
use Rattle.pvs_syntax.specs.declared.expression.TypeExpr.{TypeExpr}
use Rattle.pvs_syntax.specs.declared.expression.TypeExpr.TheVariants as type_expr
use Rattle.pvs_parser.specs.Terminals.{is_id, same_kind}
use Rattle.pvs_parser.specs.Language.{Limit, outermost, level, with_mark, with_lasting_mark, in_frame, without_marks, simple_name, name_with_theory, instance, untyped_binding, typed_binding, equation, empty_word, group_tree, sign, operator, comparison, binder_word, begins_type, Item, Expression, Parameter, Component, Variable, BareVariable, Definition, ItemTree, Tokens}

-- what is read, or where reading stops
abbrev pub Answer : Type 0 → Type 0
Answer A = Result A Stop

-- what a value that may be there leads to, or else another answer
abbrev pub either : {A B : Type 0} → Option A → (A → B) → B → B
either (Some x) f d = f x
either None f d = d

-- a tree, with the nesting after it and the tokens after it
abbrev pub Read : Type 0 → Type 0
Read A = Answer (A × Nesting × Tokens)

-- What a function returned, seen by view, is what reading gives, unless memory ran out.
abbrev pub Fails : {Y : Type 0} → Failure → Answer Y → Type 0
Fails failure.Memory read = ⊤
Fails (failure.At s) read = read ≡ Err s

abbrev pub Gives : {X Y : Type 0} → (X → Y) → Result X Failure → Answer Y → Type 0
Gives view (Ok x) read = read ≡ Ok (view x)
Gives view (Err e) read = Fails e read

-- ---- Tokens.

-- reading stops at the first of these tokens, or at their end
abbrev pub stop : {A : Type 0} → Tokens → Answer A
stop ts = Err (record { left = length ts; reason = reason.Unexpected })

-- the first of these tokens is one too many
abbrev pub too_many : {A : Type 0} → Tokens → Answer A
too_many ts = Err (record { left = length ts; reason = reason.TooNested })

-- the token before these nests too deep
abbrev pub too_deep : {A : Type 0} → Tokens → Answer A
too_deep ts = Err (record { left = length ts + 1; reason = reason.TooNested })

-- the tokens after one of this kind, where it comes next
abbrev pub after : TerminalKind → Tokens → Option Tokens
after k [] = None
after k (t ∷ ts) = if same_kind t.kind k then Some ts else None

-- the tokens after one of this kind, which has to come next
abbrev pub expect : TerminalKind → Tokens → Answer Tokens
expect k [] = stop []
expect k (t ∷ ts) = if same_kind t.kind k then Ok ts else stop (t ∷ ts)

-- an identifier, which has to come next, and the tokens after it
abbrev pub id : Tokens → Answer (Word × Tokens)
id [] = stop []
id (t ∷ ts) = if is_id t.kind then Ok (t.word, ts) else stop (t ∷ ts)

abbrev pub number : Tokens → Answer (Word × Tokens)
number [] = stop []
number (t ∷ ts) = if same_kind t.kind kind.Number then Ok (t.word, ts) else stop (t ∷ ts)

-- an = or /= that comes next, and the tokens after it
abbrev pub compares_of : Option InfixWord → Tokens → Option (InfixWord × Tokens)
compares_of None ts = None
compares_of (Some w) ts = Some (w, ts)

abbrev pub compares : Tokens → Option (InfixWord × Tokens)
compares [] = None
compares (t ∷ ts) = compares_of (comparison t.kind) ts

-- the identifier and the colon that come next, and the tokens after them
abbrev pub label_of : Word → Option Tokens → Option (Word × Tokens)
label_of w None = None
label_of w (Some ts) = Some (w, ts)

abbrev pub label : Tokens → Option (Word × Tokens)
label [] = None
label (t ∷ ts) = if is_id t.kind then label_of t.word (after kind.Colon ts) else None

-- ---- Levels, after the token that opens a frame or sets a mark.

abbrev pub is_below : Limit → ℕ → Bool
is_below (Some most) n = nat_lt n most
is_below None n = true

abbrev pub with_room : Limit → Nesting → Nesting → Tokens → Answer Nesting
with_room limit n m ts = if is_below limit (level n) then Ok m else too_deep ts

abbrev pub mark : Limit → Nesting → Tokens → Answer Nesting
mark limit n ts = with_room limit n (with_mark n) ts

abbrev pub hold : Limit → Nesting → Tokens → Answer Nesting
hold limit n ts = with_room limit n (with_lasting_mark n) ts

abbrev pub enter : Limit → Nesting → Tokens → Answer Nesting
enter limit n ts = with_room limit n (in_frame n) ts

-- ---- What is read deeper.

-- how expressions and types that stand deeper are read, and the limit
pub record Readers : Type 0 where
  pub limit : Limit
  pub expr : Start → Nesting → Tokens → Read Expr
  pub type : Nesting → Tokens → Read TypeExpr

-- a whole expression
abbrev pub nested_expr : Readers → Nesting → Tokens → Read Expr
nested_expr go l ts = go.expr (start.Chain connective.Iff) l ts

-- ---- Items.

-- an actual, whose first terminal may begin a type
abbrev pub parameter_of : Readers → Nesting → Tokens → Bool → Read Actual
parameter_of go l ts true = go.type l ts >>= λ p. Ok (actuals.TypeActual p.0, p.1, p.2)
parameter_of go l ts false = nested_expr go l ts >>= λ p. Ok (actuals.ExprActual p.0, p.1, p.2)

abbrev pub comes_type : Tokens → Bool
comes_type [] = false
comes_type (t ∷ ts) = begins_type t.kind

abbrev pub parameter_with : Readers → Nesting → Tokens → Read Actual
parameter_with go l ts = parameter_of go l ts (comes_type ts)

-- a component without a name
abbrev pub unnamed_with : Readers → Nesting → Tokens → Read Binding
unnamed_with go l [] = stop []
unnamed_with go l (t ∷ ts) = go.type l (t ∷ ts) >>= λ q. Ok (typed_binding (empty_word t.word) q.0, q.1, q.2)

-- a name, and its type after the colon
abbrev pub typed_with : Readers → Word → Nesting → Tokens → Read Binding
typed_with go w l ts = go.type l ts >>= λ q. Ok (typed_binding w q.0, q.1, q.2)

abbrev pub component_with : Readers → Nesting → Tokens → Read Binding
component_with go l ts = either (label ts) (λ p. typed_with go p.0 l p.1) (unnamed_with go l ts)

abbrev pub variable_with : Readers → Nesting → Tokens → Read Binding
variable_with go l ts = id ts >>= λ p. either (after kind.Colon p.1) (λ us. typed_with go p.0 l us) (Ok (untyped_binding p.0, l, p.1))

abbrev pub bare_variable : Nesting → Tokens → Read Binding
bare_variable l ts = id ts >>= λ p. Ok (untyped_binding p.0, l, p.1)

-- the value of a part, with the type that is written
abbrev pub value_with : Readers → Word → Option TypeExpr → Nesting → Tokens → Read LetPart
value_with go w a l ts = expect kind.Equal ts >>= λ us. nested_expr go l us >>= λ q. Ok (equation w a q.0, q.1, q.2)

abbrev pub definition_with : Readers → Nesting → Tokens → Read LetPart
definition_with go l ts = id ts >>= λ p. either (after kind.Colon p.1) (λ us. go.type l us >>= λ q. value_with go p.0 (Some q.0) q.1 q.2) (value_with go p.0 None l p.1)

abbrev pub item_with : Readers → (i : Item) → Nesting → Tokens → Read (ItemTree i)
item_with go Expression l ts = nested_expr go l ts
item_with go Parameter l ts = parameter_with go l ts
item_with go Component l ts = component_with go l ts
item_with go Variable l ts = variable_with go l ts
item_with go BareVariable l ts = bare_variable l ts
item_with go Definition l ts = definition_with go l ts

-- ---- Lists.

-- After the most entries that a list may have: a terminal that may begin one more is one too many.
abbrev pub end_of_list : {A : Type 0} → (TerminalKind → Bool) → Tokens → Answer A
end_of_list starts [] = stop []
end_of_list starts (t ∷ ts) = if starts t.kind then too_many (t ∷ ts) else stop (t ∷ ts)

-- items with commas between them, after those found; at most so many
unfoldable pub list_from : {A : Type 0} → (TerminalKind → Bool) → (Nesting → Tokens → Read A) → ℕ → List A → Nesting → Tokens → Read (List A)
list_from starts reads zero found l ts = end_of_list starts ts
list_from starts reads (suc room) found l ts = reads l ts >>= λ p. either (after kind.Comma p.2) (λ us. list_from starts reads room (found ++ p.0 ∷ []) (without_marks p.1) us) (Ok (found ++ p.0 ∷ [], p.1, p.2))

-- the terminals that may begin an expression, a type, and an item of a list
abbrev pub starts_expr : TerminalKind → Bool
starts_expr kind.Not = true
starts_expr kind.Forall = true
starts_expr kind.Exists = true
starts_expr kind.Lambda = true
starts_expr kind.Let = true
starts_expr kind.True = true
starts_expr kind.False = true
starts_expr kind.Id = true
starts_expr kind.Proof = true
starts_expr kind.Open = true
starts_expr kind.If = true
starts_expr _ = false

abbrev pub starts_type : TerminalKind → Bool
starts_type kind.Id = true
starts_type kind.Proof = true
starts_type kind.Open = true
starts_type kind.OpenBracket = true
starts_type kind.OpenBrace = true
starts_type _ = false

abbrev pub starts_item : Item → TerminalKind → Bool
starts_item Expression k = starts_expr k
starts_item Parameter k = starts_expr k || begins_type k
starts_item Component k = starts_type k
starts_item Variable k = is_id k
starts_item BareVariable k = is_id k
starts_item Definition k = is_id k

-- how many entries a list of these tokens may have
abbrev pub entries : Limit → Tokens → ℕ
entries (Some most) ts = most
entries None ts = length ts

abbrev pub list_with : Readers → (i : Item) → Nesting → Tokens → Read (List (ItemTree i))
list_with go i l ts = list_from (starts_item i) (item_with go i) (entries go.limit ts) [] l ts

-- a list in a frame, up to the sign that ends it
abbrev pub framed_with : Readers → (i : Item) → TerminalKind → Nesting → Tokens → Answer (List (ItemTree i) × Tokens)
framed_with go i end l ts = enter go.limit l ts >>= λ m. list_with go i m ts >>= λ p. expect end p.2 >>= λ us. Ok (p.0, us)

-- ---- Names.

abbrev pub name_of : Word → List Actual → Tokens → Answer (NameExpr × Tokens)
name_of w xs ts = id ts >>= λ p. Ok (name_with_theory (instance w xs) p.0, p.1)

-- after an identifier and a bracket
abbrev pub instance_name_with : Readers → Word → Nesting → Tokens → Answer (NameExpr × Tokens)
instance_name_with go w l ts = framed_with go Parameter kind.CloseBracket l ts >>= λ p. expect kind.Dot p.1 >>= λ us. name_of w p.0 us

-- after an identifier
abbrev pub name_after : Readers → Word → Nesting → Tokens → Answer (NameExpr × Tokens)
name_after go w l ts = either (after kind.OpenBracket ts) (λ us. instance_name_with go w l us)
    (either (after kind.Dot ts) (λ us. name_of w [] us) (Ok (simple_name w, ts)))

-- ---- Terms.

-- a term that was read, and whether a parenthesis after it sets a mark
abbrev pub First : Type 0
First = Answer (Expr × Bool × Tokens)

abbrev pub group_with : Readers → Nesting → Word → Tokens → First
group_with go l w ts = framed_with go Expression kind.Close l ts >>= λ p. Ok (group_tree w.pos p.0, true, p.1)

-- the expression after IF or ELSIF, up to THEN
abbrev pub condition_with : Readers → Nesting → Tokens → Read Expr
condition_with go l ts = nested_expr go l ts >>= λ p. expect kind.Then p.2 >>= λ us. Ok (p.0, without_marks p.1, us)

-- what stands after IF or ELSIF
abbrev pub cond_with : Readers → Word → Nesting → Tokens → Read Expr
cond_with go w l ts = condition_with go l ts >>= λ p. nested_expr go p.1 p.2 >>= λ q. go.expr start.Otherwise q.1 q.2 >>= λ r. Ok (expr.Cond p.0 q.0 r.0 w.pos, r.1, r.2)

abbrev pub if_with : Readers → Nesting → Word → Tokens → First
if_with go l w ts = enter go.limit l ts >>= λ m. cond_with go w m ts >>= λ p. Ok (p.0, true, p.2)

abbrev pub name_term_with : Readers → Nesting → Word → Tokens → First
name_term_with go l w ts = name_after go w l ts >>= λ p. Ok (expr.NameTerm p.0, false, p.1)

abbrev pub first_of : Readers → Nesting → Terminal → Tokens → TerminalKind → First
first_of go l t ts kind.True = Ok (expr.Truth true t.word.pos, false, ts)
first_of go l t ts kind.False = Ok (expr.Truth false t.word.pos, false, ts)
first_of go l t ts kind.Id = name_term_with go l t.word ts
first_of go l t ts kind.Proof = name_term_with go l t.word ts
first_of go l t ts kind.Open = group_with go l t.word ts
first_of go l t ts kind.If = if_with go l t.word ts
first_of go l t ts _ = stop (t ∷ ts)

abbrev pub first_with : Readers → Nesting → Tokens → First
first_with go l [] = stop []
first_with go l (t ∷ ts) = first_of go l t ts t.kind

-- before a parenthesis after a term
abbrev pub call_mark : Limit → Bool → Nesting → Tokens → Answer Nesting
call_mark limit true n ts = mark limit n ts
call_mark limit false n ts = Ok n

abbrev pub call_with : Readers → Bool → Expr → Nesting → Tokens → Read Expr
call_with go b x l ts = call_mark go.limit b l ts >>= λ m. framed_with go Expression kind.Close m ts >>= λ p. Ok (expr.Apply x p.0, m, p.1)

abbrev pub project : Limit → Expr → Nesting → Tokens → Read Expr
project limit x l ts = mark limit l ts >>= λ m. number ts >>= λ p. Ok (expr.Project x p.0, m, p.1)

-- arguments and projections after a term; the number bounds the turns, and each turn takes a token
unfoldable pub term_from : Readers → ℕ → Bool → Expr → Nesting → Tokens → Read Expr
term_from go zero b x l ts = Ok (x, l, ts)
term_from go (suc n) b x l ts = either (after kind.Open ts) (λ us. call_with go b x l us >>= λ p. term_from go n true p.0 p.1 p.2)
    (either (after kind.Backquote ts) (λ us. project go.limit x l us >>= λ p. term_from go n true p.0 p.1 p.2) (Ok (x, l, ts)))

abbrev pub term_with : Readers → Nesting → Tokens → Read Expr
term_with go l ts = first_with go l ts >>= λ p. term_from go (length ts) p.1 p.0 l p.2

-- ---- NOT, binders and LET.

abbrev pub body_with : Readers → (List Binding) → BinderWord → Word → Nesting → Tokens → Read Expr
body_with go bs b w l ts = expect kind.Colon ts >>= λ us. nested_expr go l us >>= λ p. Ok (expr.Binder b bs p.0 w.pos, p.1, p.2)

-- bindings in parentheses, and the body
abbrev pub bindings_with : Readers → BinderWord → Word → Nesting → Tokens → Read Expr
bindings_with go b w l ts = framed_with go Variable kind.Close l ts >>= λ p. body_with go p.0 b w l p.1

-- identifiers, and the body
abbrev pub bare_bindings_with : Readers → BinderWord → Word → Nesting → Tokens → Read Expr
bare_bindings_with go b w l ts = list_with go BareVariable l ts >>= λ p. body_with go p.0 b w p.1 p.2

abbrev pub binder_with : Readers → BinderWord → Word → Nesting → Tokens → Read Expr
binder_with go b w l ts = hold go.limit l ts >>= λ m. either (after kind.Open ts) (λ us. bindings_with go b w m us) (bare_bindings_with go b w m ts)

abbrev pub let_with : Readers → Word → Nesting → Tokens → Read Expr
let_with go w l ts = hold go.limit l ts >>= λ m. list_with go Definition m ts >>= λ p. expect kind.In p.2 >>= λ us. nested_expr go p.1 us >>= λ q. Ok (expr.Let p.0 q.0 w.pos, q.1, q.2)

abbrev pub not_with : Readers → Word → Nesting → Tokens → Read Expr
not_with go w l ts = mark go.limit l ts >>= λ m. go.expr start.Operand m ts >>= λ p. Ok (expr.Not p.0 w.pos, p.1, p.2)

-- what NOT, a binder or LET begins
abbrev pub prefix_of_binder : Option BinderWord → Option Prefix
prefix_of_binder (Some b) = Some (prefixes.Binder b)
prefix_of_binder None = None

abbrev pub prefix : TerminalKind → Option Prefix
prefix kind.Not = Some prefixes.Negation
prefix kind.Let = Some prefixes.Local
prefix k = prefix_of_binder (binder_word k)

abbrev pub begins_of : Option Prefix → Word → Tokens → Option (Prefix × Word × Tokens)
begins_of None w ts = None
begins_of (Some p) w ts = Some (p, w, ts)

abbrev pub begins : Tokens → Option (Prefix × Word × Tokens)
begins [] = None
begins (t ∷ ts) = begins_of (prefix t.kind) t.word ts

abbrev pub prefixed_with : Readers → Nesting → Prefix → Word → Tokens → Read Expr
prefixed_with go l prefixes.Negation w ts = not_with go w l ts
prefixed_with go l (prefixes.Binder b) w ts = binder_with go b w l ts
prefixed_with go l prefixes.Local w ts = let_with go w l ts

-- ---- Operands and chains.

-- what NOT, a binder or LET begins, after an = or /=
abbrev pub last_with : Readers → InfixWord → Expr → Nesting → Prefix → Word → Tokens → Read Expr
last_with go o x l p w ts = prefixed_with go l p w ts >>= λ r. Ok (expr.Infix o x r.0, r.1, r.2)

-- what stands after a term; the number bounds the turns, and each turn takes a token
unfoldable pub compared_from : Readers → ℕ → Expr → Nesting → Tokens → Read Expr
compared_from go zero x l ts = Ok (x, l, ts)
compared_from go (suc n) x l ts = either (compares ts)
    (λ p. mark go.limit l p.1 >>= λ m. either (begins p.1) (λ q. last_with go p.0 x m q.0 q.1 q.2)
    (term_with go m p.1 >>= λ r. compared_from go n (expr.Infix p.0 x r.0) r.1 r.2))
    (Ok (x, l, ts))

-- a term, and what it is compared with
abbrev pub comparison_with : Readers → Nesting → Tokens → Read Expr
comparison_with go l ts = term_with go l ts >>= λ p. compared_from go (length ts) p.0 p.1 p.2

abbrev pub operand_with : Readers → Nesting → Tokens → Read Expr
operand_with go l ts = either (begins ts) (λ p. prefixed_with go l p.0 p.1 p.2) (comparison_with go l ts)

-- after a left operand
abbrev pub chain_after : Readers → Connective → Expr → Nesting → Tokens → Read Expr
chain_after go c x l ts = either (after (sign c) ts) (λ us. mark go.limit l us >>= λ m. go.expr (start.Chain c) m us >>= λ q. Ok (expr.Infix (operator c) x q.0, q.1, q.2)) (Ok (x, l, ts))

abbrev pub chain_on : Readers → Connective → Read Expr → Read Expr
chain_on go c r = r >>= λ p. chain_after go c p.0 p.1 p.2

-- what stands between connectives of this kind
abbrev pub between_with : Readers → Connective → Nesting → Tokens → Read Expr
between_with go connective.And l ts = operand_with go l ts
between_with go connective.Or l ts = chain_on go connective.And (operand_with go l ts)
between_with go connective.Implies l ts = chain_on go connective.Or (chain_on go connective.And (operand_with go l ts))
between_with go connective.Iff l ts = chain_on go connective.Implies (chain_on go connective.Or (chain_on go connective.And (operand_with go l ts)))

abbrev pub chain_with : Readers → Connective → Nesting → Tokens → Read Expr
chain_with go c l ts = chain_on go c (between_with go c l ts)

-- after ELSE
abbrev pub else_with : Readers → Nesting → Tokens → Read Expr
else_with go l ts = nested_expr go (without_marks l) ts >>= λ p. expect kind.EndIf p.2 >>= λ us. Ok (p.0, p.1, us)

-- after ELSIF
abbrev pub elsif_with : Readers → Word → Nesting → Tokens → Read Expr
elsif_with go w l ts = hold go.limit (without_marks l) ts >>= λ m. cond_with go w m ts

abbrev pub otherwise_of : Readers → Nesting → Terminal → Tokens → TerminalKind → Read Expr
otherwise_of go l t ts kind.Else = else_with go l ts
otherwise_of go l t ts kind.Elsif = elsif_with go t.word l ts
otherwise_of go l t ts _ = stop (t ∷ ts)

-- what stands after THEN and an expression
abbrev pub otherwise_with : Readers → Nesting → Tokens → Read Expr
otherwise_with go l [] = stop []
otherwise_with go l (t ∷ ts) = otherwise_of go l t ts t.kind

-- ---- Types.

abbrev pub pred_type_with : Readers → Nesting → Word → Tokens → Read TypeExpr
pred_type_with go l w ts = enter go.limit l ts >>= λ m. nested_expr go m ts >>= λ p. expect kind.Close p.2 >>= λ us. Ok (type_expr.PredType p.0 w.pos, l, us)

-- an identifier, and a type after a colon, up to the bar
abbrev pub base_with : Readers → Nesting → Tokens → Answer (Word × TypeExpr × Nesting × Tokens)
base_with go l ts = id ts >>= λ p. expect kind.Colon p.1 >>= λ us. go.type l us >>= λ q. expect kind.Bar q.2 >>= λ vs. Ok (p.0, q.0, q.1, vs)

abbrev pub sub_type_with : Readers → Nesting → Word → Tokens → Read TypeExpr
sub_type_with go l w ts = enter go.limit l ts >>= λ m. base_with go m ts >>= λ p. nested_expr go p.2 p.3 >>= λ q. expect kind.CloseBrace q.2 >>= λ vs. Ok (type_expr.SubType p.0 p.1 q.0 w.pos, l, vs)

-- after the components of a domain and the arrow; the nesting is that outside the bracket, and that here
abbrev pub fun_type_with : Readers → Nesting → Word → List Binding → Nesting → Tokens → Read TypeExpr
fun_type_with go l w bs m ts = go.type m ts >>= λ p. expect kind.CloseBracket p.2 >>= λ us. Ok (type_expr.FunType bs p.0 w.pos, l, us)

-- after the components of a tuple
abbrev pub tuple_type : Nesting → Word → List Binding → Tokens → Read TypeExpr
tuple_type l w (b ∷ c ∷ bs) ts = expect kind.CloseBracket ts >>= λ us. Ok (type_expr.TupleType (b ∷ c ∷ bs) w.pos, l, us)
tuple_type l w _ ts = stop ts

abbrev pub bracket_type_with : Readers → Nesting → Word → Tokens → Read TypeExpr
bracket_type_with go l w ts = enter go.limit l ts >>= λ m. list_with go Component m ts >>= λ p. either (after kind.Arrow p.2) (λ us. fun_type_with go l w p.0 p.1 us) (tuple_type l w p.0 p.2)

abbrev pub name_type_with : Readers → Nesting → Word → Tokens → Read TypeExpr
name_type_with go l w ts = name_after go w l ts >>= λ p. Ok (type_expr.NameType p.0, l, p.1)

abbrev pub type_of : Readers → Nesting → Terminal → Tokens → TerminalKind → Read TypeExpr
type_of go l t ts kind.Id = name_type_with go l t.word ts
type_of go l t ts kind.Proof = name_type_with go l t.word ts
type_of go l t ts kind.Open = pred_type_with go l t.word ts
type_of go l t ts kind.OpenBrace = sub_type_with go l t.word ts
type_of go l t ts kind.OpenBracket = bracket_type_with go l t.word ts
type_of go l t ts _ = stop (t ∷ ts)

abbrev pub type_with : Readers → Nesting → Tokens → Read TypeExpr
type_with go l [] = stop []
type_with go l (t ∷ ts) = type_of go l t ts t.kind

-- ---- The whole.

abbrev pub expr_with : Readers → Start → Nesting → Tokens → Read Expr
expr_with go (start.Chain c) l ts = chain_with go c l ts
expr_with go start.Operand l ts = operand_with go l ts
expr_with go start.Otherwise l ts = otherwise_with go l ts

abbrev pub no_readers : Limit → Readers
no_readers limit = record { limit = limit; expr = λ s l ts. stop ts; type = λ l ts. stop ts }

abbrev pub next_readers : Readers → Readers
next_readers go = record { limit = go.limit; expr = expr_with go; type = type_with go }

-- with so many forms inside one another at most
unfoldable pub reader : Limit → ℕ → Readers
reader limit zero = no_readers limit
reader limit (suc a) = next_readers (reader limit a)

-- a tree after which no token is left
abbrev pub at_end : {A : Type 0} → A → Tokens → Answer A
at_end x [] = Ok x
at_end x (t ∷ ts) = stop (t ∷ ts)

-- all the tokens as one expression
abbrev pub expression : Limit → Tokens → Answer Expr
expression limit ts = nested_expr (reader limit (length ts + 1)) outermost ts >>= λ p. at_end p.0 p.2
