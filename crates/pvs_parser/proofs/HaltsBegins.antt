-- Tokens that can be completed to a form of the grammar, by the shortest sentences of the parts that are left.
use Rattle.std.proofs.Common.{◌≡◌, ◌∙◌, ℕ, suc, ◌+◌, ◌≤◌, ◌||◌, Bool, true, false, List, [], ◌∷◌, ◌++◌, length, Some, None, refl, sym, ap, subst, append_assoc, append-nil, arith}
use Rattle.pvs_parser.specs.declared.nesting.Nesting.{Nesting}
use Rattle.pvs_parser.specs.declared.start.Start.{Start}
use Rattle.pvs_parser.specs.declared.start.Start.TheVariants as start
use Rattle.pvs_parser.specs.declared.terminal.Connective.{Connective}
use Rattle.pvs_parser.specs.declared.terminal.Connective.TheVariants as connective
use Rattle.pvs_parser.specs.declared.terminal.Terminal.{Terminal}
use Rattle.pvs_parser.specs.declared.terminal.TerminalKind.{TerminalKind}
use Rattle.pvs_parser.specs.declared.terminal.TerminalKind.TheVariants as kind
use Rattle.pvs_syntax.specs.declared.expression.Binding.{Binding}
use Rattle.pvs_syntax.specs.declared.expression.BinderWord.{BinderWord}
use Rattle.pvs_syntax.specs.declared.expression.BinderWord.TheVariants as binders
use Rattle.pvs_syntax.specs.declared.expression.Expr.{Expr}
use Rattle.pvs_syntax.specs.declared.expression.Expr.TheVariants as expr
use Rattle.pvs_syntax.specs.declared.expression.InfixWord.{InfixWord}
use Rattle.pvs_syntax.specs.declared.expression.InstExpr.{InstExpr}
use Rattle.pvs_syntax.specs.declared.expression.LetPart.{LetPart}
use Rattle.pvs_syntax.specs.declared.expression.TypeExpr.{TypeExpr}
use Rattle.pvs_syntax.specs.declared.expression.TypeExpr.TheVariants as type_expr
use Rattle.pvs_parser.specs.Terminals.{Is, IsId, is_id}
use Rattle.pvs_parser.specs.Language.{Limit, Tokens, IsBelow, HasRoom, level, Derives, Ending, Plain, Bound, Form, Item, Nonterminal, form, item, list, name, inst, type_, TreeOf, ItemTree, in_frame, without_marks, with_mark, with_lasting_mark, before_call, simple_name, operand_form, sign, comparison, binder_word, begins_type, whole}
use Rattle.pvs_parser.specs.code.Descent.{starts_expr, starts_type, starts_item}
use Rattle.pvs_parser.proofs.Nonempty.{nonempty}
use Rattle.pvs_parser.proofs.Gets.{both}
use Rattle.pvs_parser.proofs.DescentSteps.{Splits, glue, put, alone, nothing}
use Rattle.pvs_parser.proofs.Halts.{any}

-- ---- what is said of tokens

-- the tokens p can be completed to such a form
pub record Completes (w : Limit) (s : Nonterminal) (l : Nesting) (p : Tokens) : Type 0 where
  pub all : Tokens
  pub more : Tokens
  pub split : Splits all p more
  pub tree : TreeOf s
  pub behind : Nesting
  pub derives : Derives w s l all tree behind

-- to such an expression with some ending
abbrev pub Begun : Limit → (Ending → Form) → Nesting → Tokens → Type 0
Begun w F l p = (e : Ending) × Completes w (form (F e)) l p

-- to a term
abbrev pub TermBegun : Limit → Nesting → Tokens → Type 0
TermBegun w l p = (b : Bool) × Completes w (form (Form.Term b)) l p

-- to what is read from such a start
abbrev pub StartBegun : Limit → Start → Nesting → Tokens → Type 0
StartBegun w (start.Chain c) l p = Begun w (λ e. Form.Chain c e) l p
StartBegun w start.Operand l p = Begun w (λ e. Form.Operand e) l p
StartBegun w start.Otherwise l p = Completes w (form Form.Otherwise) l p

-- to a list that has no more entries than it may, after so many
pub record ListBegun (w : Limit) (i : Item) (found : ℕ) (l : Nesting) (p : Tokens) : Type 0 where
  pub all : Tokens
  pub more : Tokens
  pub split : Splits all p more
  pub x : ItemTree i
  pub xs : List (ItemTree i)
  pub behind : Nesting
  pub derives : Derives w (list i) l all (x ∷ xs) behind
  pub fits : IsBelow w (found + length xs)

pub made : {w : Limit} {s : Nonterminal} {l m : Nesting} {all p more : Tokens} {x : TreeOf s} → Splits all p more → Derives w s l all x m → Completes w s l p
made {m = m} {all = all} {more = more} {x = x} s d = record { all = all; more = more; split = s; tree = x; behind = m; derives = d }

pub completed : {w : Limit} {s : Nonterminal} {l m : Nesting} {ts : Tokens} {x : TreeOf s} → Derives w s l ts x m → Completes w s l ts
completed {ts = ts} d = made (record { same = sym (append-nil ts) }) d

-- the tokens that complete them, what they are completed to, and the nesting after it
pub completion : {w : Limit} {s : Nonterminal} {l : Nesting} {p : Tokens} → Completes w s l p → (c : Tokens) × (x : TreeOf s) × (m : Nesting) × Derives w s l (p ++ c) x m
completion {w = w} {s = s} {l = l} c = (c.more, c.tree, c.behind, subst (λ z. Derives w s l z c.tree c.behind) c.split.same c.derives)

-- with more after them
pub extend : {all p more : Tokens} (us : Tokens) → Splits all p more → Splits (all ++ us) p (more ++ us)
extend {p = p} {more = more} us s = record { same = ap (λ z. z ++ us) s.same ∙ append_assoc p more us }

-- ---- the shortest sentences

abbrev pub tok : TerminalKind → Terminal
tok k = record { kind = k; word = record { start = 0; end = 0; pos = record { line = 1; col = 1 } } }

abbrev pub true_tokens : Tokens
true_tokens = tok kind.True ∷ []

abbrev pub true_tree : Expr
true_tree = expr.Truth true (tok kind.True).word.pos

abbrev pub id_tokens : Tokens
id_tokens = tok kind.Id ∷ []

abbrev pub id_tree : TypeExpr
id_tree = type_expr.NameType (simple_name (tok kind.Id).word)

true_term : (w : Limit) (l : Nesting) → Derives w (form (Form.Term false)) l true_tokens true_tree l
true_term w l = Derives.truth l (tok kind.True) refl

true_operand : (w : Limit) (l : Nesting) → Derives w (form (Form.Operand Plain)) l true_tokens true_tree l
true_operand w l = Derives.compared l l true_tokens true_tree (Derives.term false l l true_tokens true_tree (true_term w l))

true_and : (w : Limit) (l : Nesting) → Derives w (form (Form.Chain connective.And Plain)) l true_tokens true_tree l
true_and w l = Derives.alone connective.And Plain l l true_tokens true_tree (true_operand w l)

true_or : (w : Limit) (l : Nesting) → Derives w (form (Form.Chain connective.Or Plain)) l true_tokens true_tree l
true_or w l = Derives.alone connective.Or Plain l l true_tokens true_tree (true_and w l)

true_implies : (w : Limit) (l : Nesting) → Derives w (form (Form.Chain connective.Implies Plain)) l true_tokens true_tree l
true_implies w l = Derives.alone connective.Implies Plain l l true_tokens true_tree (true_or w l)

pub true_whole : (w : Limit) (l : Nesting) → Derives w (whole Plain) l true_tokens true_tree l
true_whole w l = Derives.alone connective.Iff Plain l l true_tokens true_tree (true_implies w l)

true_chain : (w : Limit) (c : Connective) (l : Nesting) → Derives w (form (Form.Chain c Plain)) l true_tokens true_tree l
true_chain w connective.Iff l = true_whole w l
true_chain w connective.Implies l = true_implies w l
true_chain w connective.Or l = true_or w l
true_chain w connective.And l = true_and w l

pub true_item : (w : Limit) (l : Nesting) → Derives w (item Item.Expression) l true_tokens true_tree l
true_item w l = Derives.expression Plain l l true_tokens true_tree (true_whole w l)

pub id_type : (w : Limit) (l : Nesting) → Derives w type_ l id_tokens id_tree l
id_type w l = Derives.name_type l l id_tokens (simple_name (tok kind.Id).word) (Derives.plain_name l (tok kind.Id) refl)

true_otherwise : (w : Limit) (l : Nesting) → Derives w (form Form.Otherwise) l (tok kind.Else ∷ (true_tokens ++ tok kind.EndIf ∷ [])) true_tree (without_marks l)
true_otherwise w l = Derives.else_ l (without_marks l) true_tokens true_tree (tok kind.Else) (tok kind.EndIf) refl (true_item w (without_marks l)) refl

-- TRUE, as each form of an expression
pub some_term : {w : Limit} {l : Nesting} → TermBegun w l []
some_term {w = w} {l = l} = (false, made nothing (true_term w l))

pub some_operand : {w : Limit} {l : Nesting} → Begun w (λ e. Form.Operand e) l []
some_operand {w = w} {l = l} = (Plain, made nothing (true_operand w l))

pub some_chain : {w : Limit} (c : Connective) {l : Nesting} → Begun w (λ e. Form.Chain c e) l []
some_chain {w = w} c {l = l} = (Plain, made nothing (true_chain w c l))

pub some_expr : {w : Limit} {l : Nesting} → Completes w (item Item.Expression) l []
some_expr {w = w} {l = l} = made nothing (true_item w l)

pub some_otherwise : {w : Limit} {l : Nesting} → Completes w (form Form.Otherwise) l []
some_otherwise {w = w} {l = l} = made nothing (true_otherwise w l)

-- an identifier, as a type
pub some_type : {w : Limit} {l : Nesting} → Completes w type_ l []
some_type {w = w} {l = l} = made nothing (id_type w l)

-- an identifier or TRUE, as an item
pub some_item : {w : Limit} (i : Item) {l : Nesting} → Completes w (item i) l []
some_item Item.Expression = some_expr
some_item {w = w} Item.Parameter {l = l} = made nothing (Derives.expr_actual Plain l l true_tokens true_tree (true_whole w l))
some_item {w = w} Item.Component {l = l} = made nothing (Derives.component l l [] id_tree (tok kind.Id) (id_type w l))
some_item {w = w} Item.Variable {l = l} = made nothing (Derives.untyped_variable l (tok kind.Id) refl)
some_item {w = w} Item.BareVariable {l = l} = made nothing (Derives.bare_variable l (tok kind.Id) refl)
some_item {w = w} Item.Definition {l = l} = made nothing (Derives.untyped_part Plain l l true_tokens true_tree (tok kind.Id) (tok kind.Equal) refl refl (true_whole w l))

-- ---- items

pub expression_begun : {w : Limit} {l : Nesting} {p : Tokens} → Begun w (λ e. Form.Chain connective.Iff e) l p → Completes w (item Item.Expression) l p
expression_begun {l = l} g = let c = g.1 in made c.split (Derives.expression g.0 l c.behind c.all c.tree c.derives)

pub actual_begun : {w : Limit} {l : Nesting} {p : Tokens} → Begun w (λ e. Form.Chain connective.Iff e) l p → Completes w (item Item.Parameter) l p
actual_begun {l = l} g = let c = g.1 in made c.split (Derives.expr_actual g.0 l c.behind c.all c.tree c.derives)

pub type_actual_begun : {w : Limit} {l : Nesting} {p : Tokens} {t : Terminal} → begins_type t.kind ≡ true → Completes w type_ l (t ∷ p) → Completes w (item Item.Parameter) l (t ∷ p)
type_actual_begun {w = w} {l = l} {p = p} {t = t} is c = made (record { same = refl }) (Derives.type_actual l c.behind (p ++ c.more) c.tree t is (subst (λ z. Derives w type_ l z c.tree c.behind) c.split.same c.derives))

pub component_begun : {w : Limit} {l : Nesting} {p : Tokens} → Completes w type_ l p → Completes w (item Item.Component) l p
component_begun {w = w} {l = l} c =
    let n = nonempty type_ l c.all c.tree c.behind c.derives in
    made (record { same = sym n.2 ∙ c.split.same }) (Derives.component l c.behind n.1 c.tree n.0 (subst (λ z. Derives w type_ l z c.tree c.behind) n.2 c.derives))

pub named_component_begun : {w : Limit} {l : Nesting} {p : Tokens} {t u : Terminal} → IsId t → Is kind.Colon u → Completes w type_ l p → Completes w (item Item.Component) l (t ∷ u ∷ p)
named_component_begun {l = l} {t = t} {u = u} is colon c = made (put refl (put refl c.split)) (Derives.named_component l c.behind c.all c.tree t u is colon c.derives)

pub typed_variable_begun : {w : Limit} {l : Nesting} {p : Tokens} {t u : Terminal} → IsId t → Is kind.Colon u → Completes w type_ l p → Completes w (item Item.Variable) l (t ∷ u ∷ p)
typed_variable_begun {l = l} {t = t} {u = u} is colon c = made (put refl (put refl c.split)) (Derives.typed_variable l c.behind c.all c.tree t u is colon c.derives)

-- id : type, before the sign
pub typed_part_begun : {w : Limit} {l : Nesting} {p : Tokens} {t u : Terminal} → IsId t → Is kind.Colon u → Completes w type_ l p → Completes w (item Item.Definition) l (t ∷ u ∷ p)
typed_part_begun {w = w} {l = l} {t = t} {u = u} is colon c =
    made (put refl (put refl (extend (tok kind.Equal ∷ true_tokens) c.split))) (Derives.typed_part Plain l c.behind c.behind c.all true_tokens c.tree true_tree t u (tok kind.Equal) is colon c.derives refl (true_whole w c.behind))

pub typed_value_begun : {w : Limit} {l k : Nesting} {vs p : Tokens} {a : TypeExpr} {t u : Terminal} (v : Terminal) → IsId t → Is kind.Colon u → Derives w type_ l vs a k → Is kind.Equal v → Begun w (λ e. Form.Chain connective.Iff e) k p
    → Completes w (item Item.Definition) l (t ∷ u ∷ (vs ++ v ∷ p))
typed_value_begun {l = l} {k = k} {vs = vs} {a = a} {t = t} {u = u} v is colon d equal g =
    let c = g.1 in made (put refl (put refl (glue both (put refl c.split)))) (Derives.typed_part g.0 l k c.behind vs c.all a c.tree t u v is colon d equal c.derives)

-- id, before the sign
pub part_begun : {w : Limit} {l : Nesting} {t : Terminal} → IsId t → Completes w (item Item.Definition) l (t ∷ [])
part_begun {w = w} {l = l} {t = t} is = made (put refl nothing) (Derives.untyped_part Plain l l true_tokens true_tree t (tok kind.Equal) is refl (true_whole w l))

pub value_begun : {w : Limit} {l : Nesting} {p : Tokens} {t u : Terminal} → IsId t → Is kind.Equal u → Begun w (λ e. Form.Chain connective.Iff e) l p → Completes w (item Item.Definition) l (t ∷ u ∷ p)
value_begun {l = l} {t = t} {u = u} is equal g = let c = g.1 in made (put refl (put refl c.split)) (Derives.untyped_part g.0 l c.behind c.all c.tree t u is equal c.derives)

-- ---- lists

pub below_le : (w : Limit) (m n : ℕ) → IsBelow w n → m ≤ n → IsBelow w m
below_le (Some most) m n lt le = omega (arith, lt, le)
below_le None m n lt le = lt

pub one_begun : {w : Limit} (i : Item) {l : Nesting} {p : Tokens} (found : ℕ) → IsBelow w found → Completes w (item i) l p → ListBegun w i found l p
one_begun {w = w} i {l = l} found lt c = record {
  all = c.all;
  more = c.more;
  split = c.split;
  x = c.tree;
  xs = [];
  behind = c.behind;
  derives = Derives.one i l c.behind c.all c.tree c.derives;
  fits = below_le w (found + 0) found lt (omega arith);
}

pub more_begun : {w : Limit} (i : Item) {l k : Nesting} {vs p : Tokens} {x : ItemTree i} (t : Terminal) (found : ℕ) → Derives w (item i) l vs x k → Is kind.Comma t → ListBegun w i (suc found) (without_marks k) p → ListBegun w i found l (vs ++ t ∷ p)
more_begun {w = w} i {l = l} {k = k} {vs = vs} {x = x} t found d is g = record {
  all = vs ++ t ∷ g.all;
  more = g.more;
  split = glue both (put refl g.split);
  x = x;
  xs = g.x ∷ g.xs;
  behind = g.behind;
  derives = Derives.more i l k g.behind vs g.all x (g.x ∷ g.xs) t d is g.derives (below_le w (suc (length g.xs)) (suc found + length g.xs) g.fits (omega arith));
  fits = below_le w (found + suc (length g.xs)) (suc found + length g.xs) g.fits (omega arith);
}

pub list_of : {w : Limit} {i : Item} {found : ℕ} {l : Nesting} {p : Tokens} → ListBegun w i found l p → Completes w (list i) l p
list_of g = made g.split g.derives

pub one_list : {w : Limit} (i : Item) {l : Nesting} {p : Tokens} → Completes w (item i) l p → Completes w (list i) l p
one_list i {l = l} c = made c.split (Derives.one i l c.behind c.all c.tree c.derives)

pub some_list : {w : Limit} (i : Item) {l : Nesting} → Completes w (list i) l []
some_list i = one_list i (some_item i)

-- to a list in a frame, and the sign that ends it
pub record FramedBegun (w : Limit) (i : Item) (end : TerminalKind) (l : Nesting) (p : Tokens) : Type 0 where
  pub all : Tokens
  pub more : Tokens
  pub close : Terminal
  pub split : Splits (all ++ close ∷ []) p more
  pub tree : List (ItemTree i)
  pub behind : Nesting
  pub room : HasRoom w l
  pub derives : Derives w (list i) (in_frame l) all tree behind
  pub is : Is end close

pub framed_begun : {w : Limit} {i : Item} (end : TerminalKind) {l : Nesting} {p : Tokens} → HasRoom w l → Completes w (list i) (in_frame l) p → FramedBegun w i end l p
framed_begun end lt c = record {
  all = c.all;
  more = c.more ++ tok end ∷ [];
  close = tok end;
  split = extend (tok end ∷ []) c.split;
  tree = c.tree;
  behind = c.behind;
  room = lt;
  derives = c.derives;
  is = refl;
}

-- ---- names

pub name_begun : {w : Limit} {l : Nesting} {t : Terminal} → IsId t → Completes w name l (t ∷ [])
name_begun {l = l} {t = t} is = made (alone refl) (Derives.plain_name l t is)

-- an instance, before the dot
pub instance_begun : {w : Limit} {l m : Nesting} {vs : Tokens} {i : InstExpr} → Derives w inst l vs i m → Completes w name l vs
instance_begun {l = l} {m = m} {vs = vs} {i = i} d = made both (Derives.qualified_name l m vs i (tok kind.Dot) (tok kind.Id) d refl refl)

pub dot_begun : {w : Limit} {l m : Nesting} {vs : Tokens} {i : InstExpr} (t : Terminal) → Derives w inst l vs i m → Is kind.Dot t → Completes w name l (vs ++ t ∷ [])
dot_begun {l = l} {m = m} {vs = vs} {i = i} t d dot = made (glue both (alone refl)) (Derives.qualified_name l m vs i t (tok kind.Id) d dot refl)

pub actuals_begun : {w : Limit} {l : Nesting} {p : Tokens} {t u : Terminal} → IsId t → Is kind.OpenBracket u → HasRoom w l → Completes w (list Item.Parameter) (in_frame l) p → Completes w name l (t ∷ u ∷ p)
actuals_begun {l = l} {t = t} {u = u} is opened lt c =
    made (extend (tok kind.Dot ∷ id_tokens) (put refl (put refl (extend (tok kind.CloseBracket ∷ []) c.split))))
    (Derives.qualified_name l l _ _ (tok kind.Dot) (tok kind.Id) (Derives.inst_with l c.behind c.all c.tree t u (tok kind.CloseBracket) is opened lt c.derives refl) refl refl)

-- ---- terms

pub name_term_begun : {w : Limit} {l : Nesting} {p : Tokens} → Completes w name l p → TermBegun w l p
name_term_begun {l = l} c = (false, made c.split (Derives.name_term l c.behind c.all c.tree c.derives))

pub group_begun : {w : Limit} {l : Nesting} {p : Tokens} {t : Terminal} → Is kind.Open t → HasRoom w l → Completes w (list Item.Expression) (in_frame l) p → TermBegun w l (t ∷ p)
group_begun {l = l} {t = t} is lt c = (true, made (put refl (extend (tok kind.Close ∷ []) c.split)) (Derives.group l c.behind c.all c.tree t (tok kind.Close) is lt c.derives refl))

-- what can be completed to an expression, THEN, an expression and what follows it
pub record CondBegun (w : Limit) (l : Nesting) (p : Tokens) : Type 0 where
  pub vs : Tokens
  pub us : Tokens
  pub ws : Tokens
  pub u : Terminal
  pub more : Tokens
  pub split : Splits (vs ++ u ∷ (us ++ ws)) p more
  pub c : Expr
  pub x : Expr
  pub y : Expr
  pub k : Nesting
  pub j : Nesting
  pub m : Nesting
  pub test : Derives w (item Item.Expression) l vs c k
  pub behind : Is kind.Then u
  pub holds : Derives w (item Item.Expression) (without_marks k) us x j
  pub fails : Derives w (form Form.Otherwise) j ws y m

pub test_begun : {w : Limit} {l : Nesting} {p : Tokens} → Completes w (item Item.Expression) l p → CondBegun w l p
test_begun {w = w} c = record {
  vs = c.all;
  us = true_tokens;
  ws = _;
  u = tok kind.Then;
  more = _;
  split = extend _ c.split;
  c = c.tree;
  x = true_tree;
  y = true_tree;
  k = c.behind;
  j = without_marks c.behind;
  m = without_marks (without_marks c.behind);
  test = c.derives;
  behind = refl;
  holds = true_item w (without_marks c.behind);
  fails = true_otherwise w (without_marks c.behind);
}

pub then_begun : {w : Limit} {l k : Nesting} {vs p : Tokens} {x : Expr} (u : Terminal) → Derives w (item Item.Expression) l vs x k → Is kind.Then u → Completes w (item Item.Expression) (without_marks k) p → CondBegun w l (vs ++ u ∷ p)
then_begun {w = w} {k = k} {vs = vs} {x = x} u d is c = record {
  vs = vs;
  us = c.all;
  ws = _;
  u = u;
  more = _;
  split = glue both (put refl (extend _ c.split));
  c = x;
  x = c.tree;
  y = true_tree;
  k = k;
  j = c.behind;
  m = without_marks c.behind;
  test = d;
  behind = is;
  holds = c.derives;
  fails = true_otherwise w c.behind;
}

pub rest_begun : {w : Limit} {l k j : Nesting} {vs us p : Tokens} {x y : Expr} (u : Terminal) → Derives w (item Item.Expression) l vs x k → Is kind.Then u → Derives w (item Item.Expression) (without_marks k) us y j → Completes w (form Form.Otherwise) j p
    → CondBegun w l (vs ++ u ∷ (us ++ p))
rest_begun {k = k} {j = j} {vs = vs} {us = us} {x = x} {y = y} u d is e c = record {
  vs = vs;
  us = us;
  ws = c.all;
  u = u;
  more = c.more;
  split = glue both (put refl (glue both c.split));
  c = x;
  x = y;
  y = c.tree;
  k = k;
  j = j;
  m = c.behind;
  test = d;
  behind = is;
  holds = e;
  fails = c.derives;
}

pub if_begun : {w : Limit} {l : Nesting} {p : Tokens} {t : Terminal} → Is kind.If t → HasRoom w l → CondBegun w (in_frame l) p → TermBegun w l (t ∷ p)
if_begun {l = l} {t = t} is lt g = (true, made (put refl g.split) (Derives.cond l g.k g.j g.m g.vs g.us g.ws g.c g.x g.y t g.u is lt g.test g.behind g.holds g.fails))

pub elsif_begun : {w : Limit} {l : Nesting} {p : Tokens} {t : Terminal} → Is kind.Elsif t → HasRoom w (without_marks l) → CondBegun w (with_lasting_mark (without_marks l)) p → Completes w (form Form.Otherwise) l (t ∷ p)
elsif_begun {l = l} {t = t} is lt g = made (put refl g.split) (Derives.elsif l g.k g.j g.m g.vs g.us g.ws g.c g.x g.y t g.u is lt g.test g.behind g.holds g.fails)

pub else_begun : {w : Limit} {l : Nesting} {p : Tokens} {t : Terminal} → Is kind.Else t → Completes w (item Item.Expression) (without_marks l) p → Completes w (form Form.Otherwise) l (t ∷ p)
else_begun {l = l} {t = t} is c = made (put refl (extend (tok kind.EndIf ∷ []) c.split)) (Derives.else_ l c.behind c.all c.tree t (tok kind.EndIf) is c.derives refl)

pub call_begun : {w : Limit} {b : Bool} {l k : Nesting} {vs p : Tokens} {x : Expr} (t : Terminal) → Derives w (form (Form.Term b)) l vs x k → Is kind.Open t → HasRoom w (before_call b k) → Completes w (list Item.Expression) (in_frame (before_call b k)) p
    → TermBegun w l (vs ++ t ∷ p)
call_begun {b = b} {l = l} {k = k} {vs = vs} {x = x} t d is lt c =
    (true, made (glue both (put refl (extend (tok kind.Close ∷ []) c.split))) (Derives.call b l k c.behind vs c.all x c.tree t (tok kind.Close) d is lt c.derives refl))

pub project_begun : {w : Limit} {b : Bool} {l k : Nesting} {vs : Tokens} {x : Expr} (t : Terminal) → Derives w (form (Form.Term b)) l vs x k → Is kind.Backquote t → HasRoom w k → TermBegun w l (vs ++ t ∷ [])
project_begun {b = b} {l = l} {k = k} {vs = vs} {x = x} t d is lt = (true, made (glue both (alone refl)) (Derives.project b l k vs x t (tok kind.Number) d is lt refl))

-- ---- NOT, binders and LET

pub not_begun : {w : Limit} {l : Nesting} {p : Tokens} {t : Terminal} → Is kind.Not t → HasRoom w l → Begun w (λ e. Form.Operand e) (with_mark l) p → Begun w (λ e. Form.Prefixed e) l (t ∷ p)
not_begun {l = l} {t = t} is lt g = let c = g.1 in (g.0, made (put refl c.split) (Derives.not g.0 l c.behind c.all c.tree t is lt c.derives))

pub bindings_begun : {w : Limit} {l : Nesting} {p : Tokens} {b : BinderWord} {t u : Terminal} → binder_word t.kind ≡ Some b → HasRoom w l → Is kind.Open u → HasRoom w (with_lasting_mark l) → Completes w (list Item.Variable) (in_frame (with_lasting_mark l)) p
    → Begun w (λ e. Form.Prefixed e) l (t ∷ u ∷ p)
bindings_begun {w = w} {l = l} {b = b} {t = t} {u = u} is lt opened has c = (
  Bound,
  made (put refl (put refl (extend (tok kind.Close ∷ tok kind.Colon ∷ true_tokens) c.split)))
      (Derives.binder Plain l c.behind (with_lasting_mark l) c.all true_tokens c.tree true_tree b t u (tok kind.Close) (tok kind.Colon) is lt opened has c.derives refl refl (true_whole w (with_lasting_mark l))),
)

-- before the colon
pub bound_begun : {w : Limit} {l k : Nesting} {vs : Tokens} {bs : List Binding} {b : BinderWord} {t u : Terminal} (v : Terminal) → binder_word t.kind ≡ Some b → HasRoom w l → Is kind.Open u → HasRoom w (with_lasting_mark l) → Derives w (list Item.Variable) (in_frame (with_lasting_mark l)) vs bs k
    → Is kind.Close v → Begun w (λ e. Form.Prefixed e) l (t ∷ u ∷ (vs ++ v ∷ []))
bound_begun {w = w} {l = l} {k = k} {vs = vs} {bs = bs} {b = b} {t = t} {u = u} v is lt opened has d close = (
  Bound,
  made (put refl (put refl (glue both (alone refl))))
      (Derives.binder Plain l k (with_lasting_mark l) vs true_tokens bs true_tree b t u v (tok kind.Colon) is lt opened has d close refl (true_whole w (with_lasting_mark l))),
)

pub binder_begun : {w : Limit} {l k : Nesting} {vs p : Tokens} {bs : List Binding} {b : BinderWord} {t u : Terminal} (v c : Terminal) → binder_word t.kind ≡ Some b → HasRoom w l → Is kind.Open u → HasRoom w (with_lasting_mark l) → Derives w (list Item.Variable) (in_frame (with_lasting_mark l)) vs bs k
    → Is kind.Close v → Is kind.Colon c → Begun w (λ e. Form.Chain connective.Iff e) (with_lasting_mark l) p → Begun w (λ e. Form.Prefixed e) l (t ∷ u ∷ (vs ++ v ∷ c ∷ p))
binder_begun {l = l} {k = k} {vs = vs} {bs = bs} {b = b} {t = t} {u = u} v c is lt opened has d close colon g =
    let z = g.1 in (Bound, made (put refl (put refl (glue both (put refl (put refl z.split))))) (Derives.binder g.0 l k z.behind vs z.all bs z.tree b t u v c is lt opened has d close colon z.derives))

pub bare_begun : {w : Limit} {l : Nesting} {p : Tokens} {b : BinderWord} {t : Terminal} → binder_word t.kind ≡ Some b → HasRoom w l → Completes w (list Item.BareVariable) (with_lasting_mark l) p → Begun w (λ e. Form.Prefixed e) l (t ∷ p)
bare_begun {w = w} {l = l} {b = b} {t = t} is lt c = (
  Bound,
  made (put refl (extend (tok kind.Colon ∷ true_tokens) c.split))
      (Derives.bare_binder Plain l c.behind c.behind c.all true_tokens c.tree true_tree b t (tok kind.Colon) is lt c.derives refl (true_whole w c.behind)),
)

pub bare_binder_begun : {w : Limit} {l k : Nesting} {vs p : Tokens} {bs : List Binding} {b : BinderWord} {t : Terminal} (c : Terminal) → binder_word t.kind ≡ Some b → HasRoom w l → Derives w (list Item.BareVariable) (with_lasting_mark l) vs bs k
    → Is kind.Colon c → Begun w (λ e. Form.Chain connective.Iff e) k p → Begun w (λ e. Form.Prefixed e) l (t ∷ (vs ++ c ∷ p))
bare_binder_begun {l = l} {k = k} {vs = vs} {bs = bs} {b = b} {t = t} c is lt d colon g =
    let z = g.1 in (Bound, made (put refl (glue both (put refl z.split))) (Derives.bare_binder g.0 l k z.behind vs z.all bs z.tree b t c is lt d colon z.derives))

pub let_begun : {w : Limit} {l : Nesting} {p : Tokens} {t : Terminal} → Is kind.Let t → HasRoom w l → Completes w (list Item.Definition) (with_lasting_mark l) p → Begun w (λ e. Form.Prefixed e) l (t ∷ p)
let_begun {w = w} {l = l} {t = t} is lt c = (
  Bound,
  made (put refl (extend (tok kind.In ∷ true_tokens) c.split))
      (Derives.let_in Plain l c.behind c.behind c.all true_tokens c.tree true_tree t (tok kind.In) is lt c.derives refl (true_whole w c.behind)),
)

pub in_begun : {w : Limit} {l k : Nesting} {vs p : Tokens} {ps : List LetPart} {t : Terminal} (u : Terminal) → Is kind.Let t → HasRoom w l → Derives w (list Item.Definition) (with_lasting_mark l) vs ps k → Is kind.In u → Begun w (λ e. Form.Chain connective.Iff e) k p
    → Begun w (λ e. Form.Prefixed e) l (t ∷ (vs ++ u ∷ p))
in_begun {l = l} {k = k} {vs = vs} {ps = ps} {t = t} u is lt d in_ g =
    let z = g.1 in (Bound, made (put refl (glue both (put refl z.split))) (Derives.let_in g.0 l k z.behind vs z.all ps z.tree t u is lt d in_ z.derives))

-- ---- operands and chains

pub prefixed_begun : {w : Limit} {l : Nesting} {p : Tokens} → Begun w (λ e. Form.Prefixed e) l p → Begun w (λ e. Form.Operand e) l p
prefixed_begun {l = l} g = let c = g.1 in (g.0, made c.split (Derives.prefixed g.0 l c.behind c.all c.tree c.derives))

pub compared_begun : {w : Limit} {l : Nesting} {p : Tokens} → Completes w (form Form.Comparisons) l p → Begun w (λ e. Form.Operand e) l p
compared_begun {l = l} c = (Plain, made c.split (Derives.compared l c.behind c.all c.tree c.derives))

pub term_begun : {w : Limit} {l : Nesting} {p : Tokens} → TermBegun w l p → Begun w (λ e. Form.Operand e) l p
term_begun {l = l} g = let c = g.1 in compared_begun (made c.split (Derives.term g.0 l c.behind c.all c.tree c.derives))

pub compares_begun : {w : Limit} {l k : Nesting} {vs p : Tokens} {x : Expr} {o : InfixWord} (t : Terminal) → Derives w (form Form.Comparisons) l vs x k → comparison t.kind ≡ Some o → HasRoom w k → TermBegun w (with_mark k) p → Begun w (λ e. Form.Operand e) l (vs ++ t ∷ p)
compares_begun {l = l} {k = k} {vs = vs} {x = x} {o = o} t d is lt g =
    let c = g.1 in compared_begun (made (glue both (put refl c.split)) (Derives.compares g.0 l k c.behind vs c.all x c.tree o t d is lt c.derives))

pub compared_prefixed_begun : {w : Limit} {l k : Nesting} {vs p : Tokens} {x : Expr} {o : InfixWord} (t : Terminal) → Derives w (form Form.Comparisons) l vs x k → comparison t.kind ≡ Some o → HasRoom w k → Begun w (λ e. Form.Prefixed e) (with_mark k) p
    → Begun w (λ e. Form.Operand e) l (vs ++ t ∷ p)
compared_prefixed_begun {l = l} {k = k} {vs = vs} {x = x} {o = o} t d is lt g =
    let c = g.1 in (g.0, made (glue both (put refl c.split)) (Derives.compared_prefixed g.0 l k c.behind vs c.all x c.tree o t d is lt c.derives))

pub alone_begun : {w : Limit} (c : Connective) {l : Nesting} {p : Tokens} → Begun w (λ e. operand_form c e) l p → Begun w (λ e. Form.Chain c e) l p
alone_begun c {l = l} g = let z = g.1 in (g.0, made z.split (Derives.alone c g.0 l z.behind z.all z.tree z.derives))

pub joined_begun : {w : Limit} (c : Connective) {l k : Nesting} {vs p : Tokens} {x : Expr} (t : Terminal) → Derives w (form (operand_form c Plain)) l vs x k → Is (sign c) t → HasRoom w k → Begun w (λ e. Form.Chain c e) (with_mark k) p
    → Begun w (λ e. Form.Chain c e) l (vs ++ t ∷ p)
joined_begun c {l = l} {k = k} {vs = vs} {x = x} t d is lt g =
    let z = g.1 in (g.0, made (glue both (put refl z.split)) (Derives.joined c g.0 l k z.behind vs z.all x z.tree t d is lt z.derives))

-- ---- types

pub name_type_begun : {w : Limit} {l : Nesting} {p : Tokens} → Completes w name l p → Completes w type_ l p
name_type_begun {l = l} c = made c.split (Derives.name_type l c.behind c.all c.tree c.derives)

pub pred_begun : {w : Limit} {l : Nesting} {p : Tokens} {t : Terminal} → Is kind.Open t → HasRoom w l → Completes w (item Item.Expression) (in_frame l) p → Completes w type_ l (t ∷ p)
pred_begun {l = l} {t = t} is lt c = made (put refl (extend (tok kind.Close ∷ []) c.split)) (Derives.pred_type l c.behind c.all c.tree t (tok kind.Close) is lt c.derives refl)

-- { id : type
pub base_begun : {w : Limit} {l : Nesting} {p : Tokens} {t u v : Terminal} → Is kind.OpenBrace t → HasRoom w l → IsId u → Is kind.Colon v → Completes w type_ (in_frame l) p → Completes w type_ l (t ∷ u ∷ v ∷ p)
base_begun {w = w} {l = l} {t = t} {u = u} {v = v} is lt id colon c =
    made (put refl (put refl (put refl (extend (tok kind.Bar ∷ (true_tokens ++ tok kind.CloseBrace ∷ [])) c.split))))
    (Derives.sub_type l c.behind c.behind c.all true_tokens c.tree true_tree t u v (tok kind.Bar) (tok kind.CloseBrace) is lt id colon c.derives refl (true_item w c.behind) refl)

pub brace_begun : {w : Limit} {l : Nesting} {t : Terminal} → Is kind.OpenBrace t → HasRoom w l → Completes w type_ l (t ∷ [])
brace_begun {w = w} {l = l} {t = t} is lt =
    made (put refl nothing) (Derives.sub_type l (in_frame l) (in_frame l) id_tokens true_tokens id_tree true_tree t (tok kind.Id) (tok kind.Colon) (tok kind.Bar) (tok kind.CloseBrace) is lt refl refl (id_type w (in_frame l)) refl (true_item w (in_frame l)) refl)

pub brace_id_begun : {w : Limit} {l : Nesting} {t u : Terminal} → Is kind.OpenBrace t → HasRoom w l → IsId u → Completes w type_ l (t ∷ u ∷ [])
brace_id_begun {w = w} {l = l} {t = t} {u = u} is lt id =
    made (put refl (put refl nothing)) (Derives.sub_type l (in_frame l) (in_frame l) id_tokens true_tokens id_tree true_tree t u (tok kind.Colon) (tok kind.Bar) (tok kind.CloseBrace) is lt id refl (id_type w (in_frame l)) refl (true_item w (in_frame l)) refl)

pub sub_begun : {w : Limit} {l k : Nesting} {vs p : Tokens} {a : TypeExpr} {t u v : Terminal} (y : Terminal) → Is kind.OpenBrace t → HasRoom w l → IsId u → Is kind.Colon v → Derives w type_ (in_frame l) vs a k → Is kind.Bar y → Completes w (item Item.Expression) k p
    → Completes w type_ l (t ∷ u ∷ v ∷ (vs ++ y ∷ p))
sub_begun {l = l} {k = k} {vs = vs} {a = a} {t = t} {u = u} {v = v} y is lt id colon d bar c =
    made (put refl (put refl (put refl (glue both (put refl (extend (tok kind.CloseBrace ∷ []) c.split))))))
    (Derives.sub_type l k c.behind vs c.all a c.tree t u v y (tok kind.CloseBrace) is lt id colon d bar c.derives refl)

pub domain_begun : {w : Limit} {l : Nesting} {p : Tokens} {t : Terminal} → Is kind.OpenBracket t → HasRoom w l → Completes w (list Item.Component) (in_frame l) p → Completes w type_ l (t ∷ p)
domain_begun {w = w} {l = l} {t = t} is lt c =
    made (put refl (extend (tok kind.Arrow ∷ (id_tokens ++ tok kind.CloseBracket ∷ [])) c.split))
    (Derives.fun_type l c.behind c.behind c.all id_tokens c.tree id_tree t (tok kind.Arrow) (tok kind.CloseBracket) is lt c.derives refl (id_type w c.behind) refl)

pub range_begun : {w : Limit} {l k : Nesting} {vs p : Tokens} {bs : List Binding} {t : Terminal} (u : Terminal) → Is kind.OpenBracket t → HasRoom w l → Derives w (list Item.Component) (in_frame l) vs bs k → Is kind.Arrow u → Completes w type_ k p
    → Completes w type_ l (t ∷ (vs ++ u ∷ p))
range_begun {l = l} {k = k} {vs = vs} {bs = bs} {t = t} u is lt d arrow c =
    made (put refl (glue both (put refl (extend (tok kind.CloseBracket ∷ []) c.split))))
    (Derives.fun_type l k c.behind vs c.all bs c.tree t u (tok kind.CloseBracket) is lt d arrow c.derives refl)

-- ---- the first terminal of an item, without a limit

prefix_first : {l : Nesting} {t : Terminal} → Begun None (λ e. Form.Prefixed e) l (t ∷ []) → Begun None (λ e. Form.Chain connective.Iff e) l (t ∷ [])
prefix_first g = alone_begun connective.Iff (alone_begun connective.Implies (alone_begun connective.Or (alone_begun connective.And (prefixed_begun g))))

term_first : {l : Nesting} {t : Terminal} → TermBegun None l (t ∷ []) → Begun None (λ e. Form.Chain connective.Iff e) l (t ∷ [])
term_first g = alone_begun connective.Iff (alone_begun connective.Implies (alone_begun connective.Or (alone_begun connective.And (term_begun g))))

binder_first : (l : Nesting) (t : Terminal) (b : BinderWord) → binder_word t.kind ≡ Some b → Begun None (λ e. Form.Chain connective.Iff e) l (t ∷ [])
binder_first l t b is = prefix_first (bare_begun is (any (level l)) (some_list Item.BareVariable))

expr_first : (l : Nesting) (t : Terminal) (k : TerminalKind) → t.kind ≡ k → starts_expr k ≡ true → Begun None (λ e. Form.Chain connective.Iff e) l (t ∷ [])
expr_first l t kind.Not is e = prefix_first (not_begun is (any (level l)) some_operand)
expr_first l t kind.Forall is e = binder_first l t binders.Forall (ap binder_word is)
expr_first l t kind.Exists is e = binder_first l t binders.Exists (ap binder_word is)
expr_first l t kind.Lambda is e = binder_first l t binders.Lambda (ap binder_word is)
expr_first l t kind.Let is e = prefix_first (let_begun is (any (level l)) (some_list Item.Definition))
expr_first l t kind.True is e = term_first (false, completed (Derives.truth l t is))
expr_first l t kind.False is e = term_first (false, completed (Derives.falsity l t is))
expr_first l t kind.Id is e = term_first (name_term_begun (name_begun (ap is_id is)))
expr_first l t kind.Proof is e = term_first (name_term_begun (name_begun (ap is_id is)))
expr_first l t kind.Open is e = term_first (group_begun is (any (level l)) (some_list Item.Expression))
expr_first l t kind.If is e = term_first (if_begun is (any (level l)) (test_begun some_expr))
expr_first l t _ is e = cc

type_first : (l : Nesting) (t : Terminal) (k : TerminalKind) → t.kind ≡ k → starts_type k ≡ true → Completes None type_ l (t ∷ [])
type_first l t kind.Id is e = name_type_begun (name_begun (ap is_id is))
type_first l t kind.Proof is e = name_type_begun (name_begun (ap is_id is))
type_first l t kind.Open is e = pred_begun is (any (level l)) some_expr
type_first l t kind.OpenBracket is e = domain_begun is (any (level l)) (some_list Item.Component)
type_first l t kind.OpenBrace is e = brace_begun is (any (level l))
type_first l t _ is e = cc

parameter_first : (l : Nesting) (t : Terminal) (k : TerminalKind) → t.kind ≡ k → starts_expr k || begins_type k ≡ true → Completes None (item Item.Parameter) l (t ∷ [])
parameter_first l t kind.OpenBracket is e = type_actual_begun (ap begins_type is) (type_first l t kind.OpenBracket is refl)
parameter_first l t kind.OpenBrace is e = type_actual_begun (ap begins_type is) (type_first l t kind.OpenBrace is refl)
parameter_first l t kind.Not is e = actual_begun (expr_first l t kind.Not is refl)
parameter_first l t kind.Forall is e = actual_begun (expr_first l t kind.Forall is refl)
parameter_first l t kind.Exists is e = actual_begun (expr_first l t kind.Exists is refl)
parameter_first l t kind.Lambda is e = actual_begun (expr_first l t kind.Lambda is refl)
parameter_first l t kind.Let is e = actual_begun (expr_first l t kind.Let is refl)
parameter_first l t kind.True is e = actual_begun (expr_first l t kind.True is refl)
parameter_first l t kind.False is e = actual_begun (expr_first l t kind.False is refl)
parameter_first l t kind.Id is e = actual_begun (expr_first l t kind.Id is refl)
parameter_first l t kind.Proof is e = actual_begun (expr_first l t kind.Proof is refl)
parameter_first l t kind.Open is e = actual_begun (expr_first l t kind.Open is refl)
parameter_first l t kind.If is e = actual_begun (expr_first l t kind.If is refl)
parameter_first l t _ is e = cc

-- an item begins with each terminal that may begin one
pub item_first : (i : Item) (l : Nesting) (t : Terminal) → starts_item i t.kind ≡ true → Completes None (item i) l (t ∷ [])
item_first Item.Expression l t e = expression_begun (expr_first l t t.kind refl e)
item_first Item.Parameter l t e = parameter_first l t t.kind refl e
item_first Item.Component l t e = component_begun (type_first l t t.kind refl e)
item_first Item.Variable l t e = completed (Derives.untyped_variable l t e)
item_first Item.BareVariable l t e = completed (Derives.bare_variable l t e)
item_first Item.Definition l t e = part_begun e
