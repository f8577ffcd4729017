-- What is read of expressions and types is in the grammar.
use Rattle.std.proofs.Common.{◌≡◌, ◌∙◌, ℕ, zero, suc, ◌<◌, ◌≤◌, Bool, true, false, if◌then◌else◌, List, [], ◌∷◌, ◌++◌, length, Option, Some, None, refl, sym, ap, subst, append_assoc, length-append, arith}
use Rattle.pvs_parser.specs.declared.nesting.Nesting.{Nesting}
use Rattle.pvs_parser.specs.declared.start.Start.{Start}
use Rattle.pvs_parser.specs.declared.start.Start.TheVariants as start
use Rattle.pvs_parser.specs.declared.terminal.Connective.{Connective}
use Rattle.pvs_parser.specs.declared.terminal.Connective.TheVariants as connective
use Rattle.pvs_parser.specs.declared.terminal.Prefix.{Prefix}
use Rattle.pvs_parser.specs.declared.terminal.Prefix.TheVariants as prefixes
use Rattle.pvs_parser.specs.declared.terminal.Terminal.{Terminal}
use Rattle.pvs_parser.specs.declared.terminal.TerminalKind.{TerminalKind}
use Rattle.pvs_parser.specs.declared.terminal.TerminalKind.TheVariants as kind
use Rattle.pvs_syntax.specs.declared.word.Word.{Word}
use Rattle.pvs_syntax.specs.declared.expression.Actual.{Actual}
use Rattle.pvs_syntax.specs.declared.expression.Binding.{Binding}
use Rattle.pvs_syntax.specs.declared.expression.BinderWord.{BinderWord}
use Rattle.pvs_syntax.specs.declared.expression.BinderWord.TheVariants as binders
use Rattle.pvs_syntax.specs.declared.expression.InfixWord.{InfixWord}
use Rattle.pvs_syntax.specs.declared.expression.Expr.{Expr}
use Rattle.pvs_syntax.specs.declared.expression.Expr.TheVariants as expr
use Rattle.pvs_syntax.specs.declared.expression.NameExpr.{NameExpr}
use Rattle.pvs_syntax.specs.declared.expression.TypeExpr.{TypeExpr}
use Rattle.pvs_syntax.specs.declared.expression.TypeExpr.TheVariants as type_expr
use Rattle.pvs_parser.specs.Terminals.{Is, IsId, is_id, same_kind}
use Rattle.pvs_parser.specs.Language.{Limit, Tokens, HasRoom, Derives, Ending, Plain, Bound, Form, Item, Nonterminal, form, item, list, name, inst, type_, TreeOf, ItemTree, in_frame, without_marks, with_mark, with_lasting_mark, operand_form, sign, operator, instance, before_call, comparison, binder_word, begins_type, typed_binding}
use Rattle.pvs_parser.specs.code.Descent.{Answer, Read, Readers, stop, too_many, starts_item, after, end_of_list, entries, nested_expr, list_from, list_with, framed_with, name_of, name_after, condition_with, cond_with, first_of, first_with, call_mark, call_with, project, term_from, term_with, body_with, binder_with, let_with, not_with, prefix, prefix_of_binder, prefixed_with, compares, compares_of, compared_from, operand_with, chain_on, between_with, chain_with, otherwise_of, otherwise_with, tuple_type, fun_type_with, base_with, sub_type_with, type_of, type_with, parameter_of, parameter_with, unnamed_with, component_with, variable_with, definition_with, item_with, next_readers, expr_with, reader}
use Rattle.pvs_base.specs.Answers.{◌>>=◌}
use Rattle.pvs_parser.proofs.Yields.{Yields, here, none, bind, cases, weaken}
use Rattle.pvs_parser.proofs.Follows.{pull, pull_of, power, reach}
use Rattle.pvs_parser.proofs.Nonempty.{nonempty}
use Rattle.pvs_parser.proofs.DescentSteps.{Comes, after_yields, expect_yields, room, id_bind, labels_yields, begins_cases, compares_yields, number_yields, AtMost, below_at_most, fewer, entries_at_most, Splits, glue, put, alone}

-- ---- what is said of an answer

-- a prefix of the tokens derives the tree
abbrev pub Front : Limit → (s : Nonterminal) → Nesting → Tokens → TreeOf s × Nesting × Tokens → Type 0
Front limit s l ts p = (vs : Tokens) × Splits ts vs p.2 × Derives limit s l vs p.0 p.1

-- a prefix of the tokens derives the expression, and what follows does not go on with it
abbrev pub Formed : Limit → (Ending → Form) → Nesting → Tokens → Expr × Nesting × Tokens → Type 0
Formed limit F l ts p = (e : Ending) × (vs : Tokens) × Splits ts vs p.2 × Derives limit (form (F e)) l vs p.0 p.1 × (pull_of p.2 < reach (F e))

abbrev pub ExprFront : Limit → Start → Nesting → Tokens → Expr × Nesting × Tokens → Type 0
ExprFront limit (start.Chain c) l ts p = Formed limit (λ e. Form.Chain c e) l ts p
ExprFront limit start.Operand l ts p = Formed limit (λ e. Form.Operand e) l ts p
ExprFront limit start.Otherwise l ts p = Front limit (form Form.Otherwise) l ts p

-- what is read deeper is in the grammar
pub record Sound (go : Readers) : Type 0 where
  pub expr : (s : Start) (l : Nesting) (ts : Tokens) → Yields (go.expr s l ts) (ExprFront go.limit s l ts)
  pub type : (l : Nesting) (ts : Tokens) → Yields (go.type l ts) (Front go.limit type_ l ts)

-- ---- items

abbrev pub ItemFront : Limit → (i : Item) → Nesting → Tokens → ItemTree i × Nesting × Tokens → Type 0
ItemFront limit i l ts p = Front limit (item i) l ts p

head_same : (t u : Terminal) (ts us : Tokens) → t ∷ ts ≡ u ∷ us → t ≡ u
head_same t u ts us e = cc

headed : (t u : Terminal) (ts us vs rest : Tokens) → Splits (t ∷ ts) vs rest → vs ≡ u ∷ us → vs ≡ t ∷ us
headed t u ts us vs rest s e = let same : t ∷ ts ≡ u ∷ (us ++ rest) = s.same ∙ ap (λ z. z ++ rest) e in e ∙ ap (λ z. z ∷ us) (sym (head_same t u ts (us ++ rest) same))

-- what is read begins with the first token
abbrev TypeHeaded : Limit → Nesting → Terminal → Tokens → TypeExpr × Nesting × Tokens → Type 0
TypeHeaded limit l t ts p = (vs : Tokens) × Splits (t ∷ ts) (t ∷ vs) p.2 × Derives limit type_ l (t ∷ vs) p.0 p.1

type_headed : (go : Readers) → Sound go → (l : Nesting) (t : Terminal) (ts : Tokens) → Yields (go.type l (t ∷ ts)) (TypeHeaded go.limit l t ts)
type_headed go sound l t ts = weaken (λ p f.
    let n = nonempty type_ l f.0 p.0 p.1 f.2 in
    let e = headed t n.0 ts n.1 f.0 p.2 f.1 n.2 in
    (n.1, subst (λ z. Splits (t ∷ ts) z p.2) e f.1, subst (λ z. Derives go.limit type_ l z p.0 p.1) e f.2)) (sound.type l (t ∷ ts))

pub expression_sound : (go : Readers) → Sound go → (l : Nesting) (ts : Tokens) → Yields (nested_expr go l ts) (ItemFront go.limit Item.Expression l ts)
expression_sound go sound l ts = weaken (λ p f. (f.1, f.2, Derives.expression f.0 l p.1 f.1 p.0 f.3)) (sound.expr (start.Chain connective.Iff) l ts)

parameter_of_sound : (go : Readers) → Sound go → (l : Nesting) (t : Terminal) (ts : Tokens) (b : Bool) → begins_type t.kind ≡ b → Yields (parameter_of go l (t ∷ ts) b) (ItemFront go.limit Item.Parameter l (t ∷ ts))
parameter_of_sound go sound l t ts true is = bind (type_headed go sound l t ts) (λ p f. here (t ∷ f.0, f.1, Derives.type_actual l p.1 f.0 p.0 t is f.2))
parameter_of_sound go sound l t ts false is = bind (sound.expr (start.Chain connective.Iff) l (t ∷ ts)) (λ p f. here (f.1, f.2, Derives.expr_actual f.0 l p.1 f.1 p.0 f.3))

parameter_sound : (go : Readers) → Sound go → (l : Nesting) (ts : Tokens) → Yields (parameter_with go l ts) (ItemFront go.limit Item.Parameter l ts)
parameter_sound go sound l [] = bind (sound.expr (start.Chain connective.Iff) l []) (λ p f. here (f.1, f.2, Derives.expr_actual f.0 l p.1 f.1 p.0 f.3))
parameter_sound go sound l (t ∷ ts) = parameter_of_sound go sound l t ts (begins_type t.kind) refl

unnamed_sound : (go : Readers) → Sound go → (l : Nesting) (ts : Tokens) → Yields (unnamed_with go l ts) (ItemFront go.limit Item.Component l ts)
unnamed_sound go sound l [] = none
unnamed_sound go sound l (t ∷ ts) = bind (type_headed go sound l t ts) (λ q f. here (t ∷ f.0, f.1, Derives.component l q.1 f.0 q.0 t f.2))

component_sound : (go : Readers) → Sound go → (l : Nesting) (ts : Tokens) → Yields (component_with go l ts) (ItemFront go.limit Item.Component l ts)
component_sound go sound l ts = cases
    (λ p a. let c = (labels_yields ts).holds p a in
    bind (sound.type l p.1) (λ q f. here (
      c.0 ∷ c.1 ∷ f.0,
      put c.2 (put refl f.1),
      subst (λ z. Derives go.limit (item Item.Component) l (c.0 ∷ c.1 ∷ f.0) (typed_binding z q.0) q.1) c.5 (Derives.named_component l q.1 f.0 q.0 c.0 c.1 c.3 c.4 f.2),
    )))
    (λ a. unnamed_sound go sound l ts)

variable_sound : (go : Readers) → Sound go → (l : Nesting) (ts : Tokens) → Yields (variable_with go l ts) (ItemFront go.limit Item.Variable l ts)
variable_sound go sound l ts = id_bind ts _ (λ t us e is. cases
    (λ vs a. let c = (after_yields kind.Colon us).holds vs a in
    bind (sound.type l vs) (λ q f. here (t ∷ c.0 ∷ f.0, put e (put c.1 f.1), Derives.typed_variable l q.1 f.0 q.0 t c.0 is c.2 f.2)))
    (λ a. here (t ∷ [], alone e, Derives.untyped_variable l t is)))

definition_sound : (go : Readers) → Sound go → (l : Nesting) (ts : Tokens) → Yields (definition_with go l ts) (ItemFront go.limit Item.Definition l ts)
definition_sound go sound l ts = id_bind ts _ (λ t us e is. cases
    (λ vs a. let c = (after_yields kind.Colon us).holds vs a in
    bind (sound.type l vs) (λ p f. bind (expect_yields kind.Equal p.2) (λ ws b. bind (sound.expr (start.Chain connective.Iff) p.1 ws) (λ q g. here (
      t ∷ c.0 ∷ (f.0 ++ b.0 ∷ g.1),
      put e (put c.1 (glue f.1 (put b.1 g.2))),
      Derives.typed_part g.0 l p.1 q.1 f.0 g.1 p.0 q.0 t c.0 b.0 is c.2 f.2 b.2 g.3,
    )))))
    (λ a. bind (expect_yields kind.Equal us) (λ ws b. bind (sound.expr (start.Chain connective.Iff) l ws) (λ q g. here (
      t ∷ b.0 ∷ g.1,
      put e (put b.1 g.2),
      Derives.untyped_part g.0 l q.1 g.1 q.0 t b.0 is b.2 g.3,
    )))))

pub item_sound : (go : Readers) → Sound go → (i : Item) (l : Nesting) (ts : Tokens) → Yields (item_with go i l ts) (ItemFront go.limit i l ts)
item_sound go sound Item.Expression l ts = expression_sound go sound l ts
item_sound go sound Item.Parameter l ts = parameter_sound go sound l ts
item_sound go sound Item.Component l ts = component_sound go sound l ts
item_sound go sound Item.Variable l ts = variable_sound go sound l ts
item_sound go sound Item.BareVariable l ts = id_bind ts _ (λ t us e is. here (t ∷ [], alone e, Derives.bare_variable l t is))
item_sound go sound Item.Definition l ts = definition_sound go sound l ts

-- ---- lists

-- a prefix of the tokens derives a list, which comes after what was found
abbrev ListFront : Limit → (i : Item) → ℕ → List (ItemTree i) → Nesting → Tokens → List (ItemTree i) × Nesting × Tokens → Type 0
ListFront limit i n found l ts p = (xs : List (ItemTree i)) × (vs : Tokens) × Splits ts vs p.2 × (p.0 ≡ found ++ xs) × (length xs ≤ n) × Derives limit (list i) l vs xs p.1

list_one : {limit : Limit} (i : Item) (n : ℕ) (found : List (ItemTree i)) (l : Nesting) (ts : Tokens) (p : ItemTree i × Nesting × Tokens) → Front limit (item i) l ts p → ListFront limit i (suc n) found l ts (found ++ p.0 ∷ [], p.1, p.2)
list_one i n found l ts p f = (p.0 ∷ [], f.0, f.1, refl, omega arith, Derives.one i l p.1 f.0 p.0 f.2)

list_more : {limit : Limit} (i : Item) (n : ℕ) → AtMost limit (suc n) → (found : List (ItemTree i)) (l : Nesting) (ts : Tokens) (p : ItemTree i × Nesting × Tokens) → Front limit (item i) l ts p → (us : Tokens) → Comes kind.Comma p.2 us
    → (q : List (ItemTree i) × Nesting × Tokens) → ListFront limit i n (found ++ p.0 ∷ []) (without_marks p.1) us q → ListFront limit i (suc n) found l ts q
list_more {limit = limit} i n most found l ts p f us c q g = (
  p.0 ∷ g.0,
  f.0 ++ c.0 ∷ g.1,
  glue f.1 (put c.1 g.2),
  g.3 ∙ append_assoc found (p.0 ∷ []) g.0,
  omega (arith, g.4),
  Derives.more i l p.1 q.1 f.0 g.1 p.0 g.0 c.0 f.2 c.2 g.5 (below_at_most limit n (length g.0) most g.4),
)

-- one entry too many is no list
crowded_of : {B : Type 0} (ts : Tokens) (b : Bool) {Q : B → Type 0} → Yields (if b then too_many ts else stop ts) Q
crowded_of ts true = none
crowded_of ts false = none

pub crowded_yields : {B : Type 0} (starts : TerminalKind → Bool) (ts : Tokens) {Q : B → Type 0} → Yields (end_of_list starts ts) Q
crowded_yields starts [] = none
crowded_yields starts (t ∷ ts) = crowded_of (t ∷ ts) (starts t.kind)

list_sound : {limit : Limit} (i : Item) (starts : TerminalKind → Bool) (reads : Nesting → Tokens → Read (ItemTree i)) → ((l : Nesting) (ts : Tokens) → Yields (reads l ts) (Front limit (item i) l ts))
    → (n : ℕ) → AtMost limit n → (found : List (ItemTree i)) (l : Nesting) (ts : Tokens) → Yields (list_from starts reads n found l ts) (ListFront limit i n found l ts)
unfolding list_from
list_sound i starts reads sound zero most found l ts = crowded_yields starts ts
list_sound {limit = limit} i starts reads sound (suc n) most found l ts =
    bind (sound l ts) (λ p f. cases
    (λ us a. weaken (λ q g. list_more i n most found l ts p f us ((after_yields kind.Comma p.2).holds us a) q g) (list_sound i starts reads sound n (fewer limit n most) (found ++ p.0 ∷ []) (without_marks p.1) us))
    (λ a. here (list_one i n found l ts p f)))

pub list_with_sound : (go : Readers) → Sound go → (i : Item) (l : Nesting) (ts : Tokens) → Yields (list_with go i l ts) (Front go.limit (list i) l ts)
list_with_sound go sound i l ts =
    weaken (λ p f. (f.1, f.2, subst (λ z. Derives go.limit (list i) l f.1 z p.1) (sym f.3) f.5))
    (list_sound i (starts_item i) (item_with go i) (λ l ts. item_sound go sound i l ts) (entries go.limit ts) (entries_at_most go.limit ts) [] l ts)

-- a list, and the sign that ends its frame
abbrev pub Framed : Limit → (i : Item) → TerminalKind → Nesting → Tokens → List (ItemTree i) × Tokens → Type 0
Framed limit i end l ts p = (vs : Tokens) × (u : Terminal) × (k : Nesting) × Splits ts (vs ++ u ∷ []) p.1 × HasRoom limit l × Derives limit (list i) (in_frame l) vs p.0 k × Is end u

pub framed_sound : (go : Readers) → Sound go → (i : Item) (end : TerminalKind) (l : Nesting) (ts : Tokens) → Yields (framed_with go i end l ts) (Framed go.limit i end l ts)
framed_sound go sound i end l ts =
    room go.limit l (in_frame l) ts _ (λ lt. bind (list_with_sound go sound i (in_frame l) ts) (λ p f. bind (expect_yields end p.2) (λ us a. here (f.0, a.0, p.1, glue f.1 (alone a.1), lt, f.2, a.2))))

-- ---- names

abbrev NameFront : Limit → Nesting → Tokens → NameExpr × Tokens → Type 0
NameFront limit l ts p = (vs : Tokens) × Splits ts vs p.1 × Derives limit name l vs p.0 l

qualified_sound : {limit : Limit} (l : Nesting) (ts us rest : Tokens) (w : Word) (xs : List Actual) (d : Terminal) → Splits ts us (d ∷ rest) → Derives limit inst l us (instance w xs) l → Is kind.Dot d
    → Yields (name_of w xs rest) (NameFront limit l ts)
qualified_sound l ts us rest w xs d split i is =
    id_bind rest _ (λ t vs e id_is. here (us ++ d ∷ t ∷ [], glue split (put refl (alone e)), Derives.qualified_name l l us (instance w xs) d t i is id_is))

pub moved : {ts us vs rest : Tokens} → Splits ts us vs → vs ≡ rest → Splits ts us rest
moved {ts = ts} {us = us} s e = subst (λ z. Splits ts us z) e s

-- after an identifier
name_after_sound : (go : Readers) → Sound go → (l : Nesting) (t : Terminal) (us : Tokens) → IsId t → Yields (name_after go t.word l us) (NameFront go.limit l (t ∷ us))
name_after_sound go sound l t us is = cases
    (λ vs a. let c = (after_yields kind.OpenBracket us).holds vs a in
    bind (framed_sound go sound Item.Parameter kind.CloseBracket l vs) (λ p f. bind (expect_yields kind.Dot p.1) (λ ws d.
    qualified_sound l (t ∷ us) (t ∷ c.0 ∷ (f.0 ++ f.1 ∷ [])) ws t.word p.0 d.0 (moved (put refl (put c.1 f.3)) d.1)
    (Derives.inst_with l f.2 f.0 p.0 t c.0 f.1 is c.2 f.4 f.5 f.6) d.2)))
    (λ a. cases
    (λ vs b. let d = (after_yields kind.Dot us).holds vs b in qualified_sound l (t ∷ us) (t ∷ []) vs t.word [] d.0 (moved (alone refl) d.1) (Derives.plain_inst l t is) d.2)
    (λ b. here (t ∷ [], alone refl, Derives.plain_name l t is)))

-- ---- terms

abbrev pub FirstFront : Limit → Nesting → Tokens → Expr × Bool × Tokens → Type 0
FirstFront limit l ts p = (vs : Tokens) × Splits ts vs p.2 × Derives limit (form (Form.Term p.1)) l vs p.0 l

-- what stands after IF or ELSIF
record CondFront (limit : Limit) (w : Word) (l : Nesting) (ts : Tokens) (p : Expr × Nesting × Tokens) : Type 0 where
  c : Expr
  x : Expr
  y : Expr
  k : Nesting
  j : Nesting
  vs : Tokens
  us : Tokens
  ws : Tokens
  u : Terminal
  split : Splits ts (vs ++ u ∷ (us ++ ws)) p.2
  test : Derives limit (item Item.Expression) l vs c k
  behind : Is kind.Then u
  holds : Derives limit (item Item.Expression) (without_marks k) us x j
  fails : Derives limit (form Form.Otherwise) j ws y p.1
  is : expr.Cond c x y w.pos ≡ p.0

-- an expression up to THEN
abbrev pub ConditionFront : Limit → Nesting → Tokens → Expr × Nesting × Tokens → Type 0
ConditionFront limit l ts p = (vs : Tokens) × (u : Terminal) × (k : Nesting) × Splits ts (vs ++ u ∷ []) p.2 × Derives limit (item Item.Expression) l vs p.0 k × Is kind.Then u × (p.1 ≡ without_marks k)

pub condition_sound : (go : Readers) → Sound go → (l : Nesting) (ts : Tokens) → Yields (condition_with go l ts) (ConditionFront go.limit l ts)
condition_sound go sound l ts =
    bind (expression_sound go sound l ts) (λ p f. bind (expect_yields kind.Then p.2) (λ us a. here (f.0, a.0, p.1, glue f.1 (alone a.1), f.2, a.2, refl)))

cond_sound : (go : Readers) → Sound go → (w : Word) (l : Nesting) (ts : Tokens) → Yields (cond_with go w l ts) (CondFront go.limit w l ts)
cond_sound go sound w l ts =
    bind (condition_sound go sound l ts) (λ p f. bind (expression_sound go sound p.1 p.2) (λ q g. bind (sound.expr start.Otherwise q.1 q.2) (λ r h. here (record {
      c = p.0;
      x = q.0;
      y = r.0;
      k = f.2;
      j = q.1;
      vs = f.0;
      us = g.0;
      ws = h.0;
      u = f.1;
      split = record { same = (glue f.3 (glue g.1 h.1)).same ∙ ap (λ z. z ++ r.2) (append_assoc f.0 (f.1 ∷ []) (g.0 ++ h.0)) };
      test = f.4;
      behind = f.5;
      holds = subst (λ z. Derives go.limit (item Item.Expression) z g.0 q.0 q.1) f.6 g.2;
      fails = h.2;
      is = refl;
    }))))

first_of_sound : (go : Readers) → Sound go → (l : Nesting) (t : Terminal) (ts : Tokens) (k : TerminalKind) → t.kind ≡ k → Yields (first_of go l t ts k) (FirstFront go.limit l (t ∷ ts))
first_of_sound go sound l t ts kind.True is = here (t ∷ [], alone refl, Derives.truth l t is)
first_of_sound go sound l t ts kind.False is = here (t ∷ [], alone refl, Derives.falsity l t is)
first_of_sound go sound l t ts kind.Id is = bind (name_after_sound go sound l t ts (ap is_id is)) (λ p f. here (f.0, f.1, Derives.name_term l l f.0 p.0 f.2))
first_of_sound go sound l t ts kind.Proof is = bind (name_after_sound go sound l t ts (ap is_id is)) (λ p f. here (f.0, f.1, Derives.name_term l l f.0 p.0 f.2))
first_of_sound go sound l t ts kind.Open is =
    bind (framed_sound go sound Item.Expression kind.Close l ts) (λ p f. here (t ∷ (f.0 ++ f.1 ∷ []), put refl f.3, Derives.group l f.2 f.0 p.0 t f.1 is f.4 f.5 f.6))
first_of_sound go sound l t ts kind.If is =
    room go.limit l (in_frame l) ts _ (λ lt. bind (cond_sound go sound t.word (in_frame l) ts) (λ p f. here (
      t ∷ (f.vs ++ f.u ∷ (f.us ++ f.ws)),
      put refl f.split,
      subst (λ z. Derives go.limit (form (Form.Term true)) l (t ∷ (f.vs ++ f.u ∷ (f.us ++ f.ws))) z l) f.is (Derives.cond l f.k f.j p.1 f.vs f.us f.ws f.c f.x f.y t f.u is lt f.test f.behind f.holds f.fails),
    )))
first_of_sound go sound l t ts _ is = none

pub first_sound : (go : Readers) → Sound go → (l : Nesting) (ts : Tokens) → Yields (first_with go l ts) (FirstFront go.limit l ts)
first_sound go sound l [] = none
first_sound go sound l (t ∷ ts) = first_of_sound go sound l t ts t.kind refl

-- ---- what follows

not_called_kind : (k : TerminalKind) → same_kind k kind.Open ≡ false → same_kind k kind.Backquote ≡ false → pull k < 6
unfolding same_kind
not_called_kind kind.Open e f = cc
not_called_kind kind.Backquote e f = cc
not_called_kind kind.Iff e f = omega arith
not_called_kind kind.Implies e f = omega arith
not_called_kind kind.Or e f = omega arith
not_called_kind kind.And e f = omega arith
not_called_kind kind.Equal e f = omega arith
not_called_kind kind.Differs e f = omega arith
not_called_kind _ e f = omega arith

after_none_of : (k : TerminalKind) (t : Terminal) (ts : Tokens) (b : Bool) → same_kind t.kind k ≡ b → (if b then Some ts else None) ≡ None → same_kind t.kind k ≡ false
after_none_of k t ts true is e = cc
after_none_of k t ts false is e = is

after_none : (k : TerminalKind) (t : Terminal) (ts : Tokens) → after k (t ∷ ts) ≡ None → same_kind t.kind k ≡ false
after_none k t ts e = after_none_of k t ts (same_kind t.kind k) refl e

not_called : (ts : Tokens) → after kind.Open ts ≡ None → after kind.Backquote ts ≡ None → pull_of ts < 6
not_called [] e f = omega arith
not_called (t ∷ ts) e f = not_called_kind t.kind (after_none kind.Open t ts e) (after_none kind.Backquote t ts f)

empty_ends : (ts : Tokens) (n : ℕ) → length ts ≤ zero → pull_of ts < suc n
empty_ends [] n e = omega arith
empty_ends (t ∷ ts) n e = absurd (omega (arith, e))

-- a term, and what is read after it
abbrev pub TermFront : Limit → Nesting → Tokens → Tokens → Expr × Nesting × Tokens → Type 0
TermFront limit l all ts p = (b : Bool) × (vs : Tokens) × Splits all vs p.2 × Derives limit (form (Form.Term b)) l vs p.0 p.1 × (pull_of p.2 < 6)

call_mark_sound : {B : Type 0} (limit : Limit) (b : Bool) (l : Nesting) (ts : Tokens) (f : Nesting → Answer B) (Q : B → Type 0) → Yields (f (before_call b l)) Q → Yields (call_mark limit b l ts >>= f) Q
call_mark_sound limit true l ts f Q g = room limit l (with_mark l) ts f (λ lt. g)
call_mark_sound limit false l ts f Q g = g

pub splits_shorter : {ts us vs : Tokens} → Splits ts us vs → length vs ≤ length ts
splits_shorter {ts = ts} {us = us} {vs = vs} s = let e : length ts ≡ length (us ++ vs) = ap length s.same in omega (arith, e, length-append us vs)

-- after a token, a part is shorter than the whole
shorter : {ts us vs rest : Tokens} {t : Terminal} (n : ℕ) → ts ≡ t ∷ us → Splits us vs rest → length ts ≤ suc n → length rest ≤ n
shorter {ts = ts} {us = us} n e s g = let h : length ts ≡ suc (length us) = ap length e in omega (arith, g, h, splits_shorter s)

abbrev pub CallFront : Limit → Nesting → Tokens → Tokens → Expr × Nesting × Tokens → Type 0
CallFront limit l0 all us p = (vs : Tokens) × Splits all vs p.2 × Derives limit (form (Form.Term true)) l0 vs p.0 p.1 × ((ws : Tokens) × Splits us ws p.2)

pub call_sound : (go : Readers) → Sound go → (b : Bool) (x : Expr) (l0 l : Nesting) (all vs ts us : Tokens) → Splits all vs ts → Derives go.limit (form (Form.Term b)) l0 vs x l → Comes kind.Open ts us
    → Yields (call_with go b x l us) (CallFront go.limit l0 all us)
call_sound go sound b x l0 l all vs ts us s d c =
    call_mark_sound go.limit b l us _ (CallFront go.limit l0 all us) (bind (framed_sound go sound Item.Expression kind.Close (before_call b l) us) (λ p f. here (
      vs ++ c.0 ∷ (f.0 ++ f.1 ∷ []),
      glue s (put c.1 f.3),
      Derives.call b l0 l f.2 vs f.0 x p.0 c.0 f.1 d c.2 f.4 f.5 f.6,
      (f.0 ++ f.1 ∷ [], f.3),
    )))

pub project_sound : {limit : Limit} (b : Bool) (x : Expr) (l0 l : Nesting) (all vs ts us : Tokens) → Splits all vs ts → Derives limit (form (Form.Term b)) l0 vs x l → Comes kind.Backquote ts us
    → Yields (project limit x l us) (CallFront limit l0 all us)
project_sound {limit = limit} b x l0 l all vs ts us s d c =
    room limit l (with_mark l) us _ (λ lt. bind (number_yields us) (λ p f. here (
      vs ++ c.0 ∷ f.0 ∷ [],
      glue s (put c.1 (alone f.1)),
      subst (λ z. Derives limit (form (Form.Term true)) l0 (vs ++ c.0 ∷ f.0 ∷ []) (expr.Project x z) (with_mark l)) f.3 (Derives.project b l0 l vs x c.0 f.0 d c.2 lt f.2),
      (f.0 ∷ [], alone f.1),
    )))

term_from_sound : (go : Readers) → Sound go → (n : ℕ) (b : Bool) (x : Expr) (l0 l : Nesting) (all vs ts : Tokens) → Splits all vs ts → Derives go.limit (form (Form.Term b)) l0 vs x l → length ts ≤ n
    → Yields (term_from go n b x l ts) (TermFront go.limit l0 all ts)
unfolding term_from
term_from_sound go sound zero b x l0 l all vs ts s d small = here (b, vs, s, d, empty_ends ts 5 small)
term_from_sound go sound (suc n) b x l0 l all vs ts s d small = cases
    (λ us a. let c = (after_yields kind.Open ts).holds us a in
    bind (call_sound go sound b x l0 l all vs ts us s d c) (λ p f. term_from_sound go sound n true p.0 l0 p.1 all f.0 p.2 f.1 f.2 (shorter n c.1 f.3.1 small)))
    (λ a. cases
    (λ us e. let c = (after_yields kind.Backquote ts).holds us e in
    bind (project_sound b x l0 l all vs ts us s d c) (λ p f. term_from_sound go sound n true p.0 l0 p.1 all f.0 p.2 f.1 f.2 (shorter n c.1 f.3.1 small)))
    (λ e. here (b, vs, s, d, not_called ts a e)))

pub term_sound : (go : Readers) → Sound go → (l : Nesting) (ts : Tokens) → Yields (term_with go l ts) (TermFront go.limit l ts ts)
term_sound go sound l ts =
    bind (first_sound go sound l ts) (λ p f. weaken (λ q g. g) (term_from_sound go sound (length ts) p.1 p.0 l l ts f.0 p.2 f.1 f.2 (splits_shorter f.1)))

-- ---- NOT, binders and LET

reach_not : (e : Ending) → reach (Form.Operand e) ≡ reach (Form.Prefixed e)
reach_not Plain = refl
reach_not Bound = refl

reach_whole : (e : Ending) → reach (Form.Chain connective.Iff e) ≡ 1
reach_whole Plain = refl
reach_whole Bound = refl

pub whole_ends : (e : Ending) (us : Tokens) → pull_of us < reach (Form.Chain connective.Iff e) → pull_of us < 1
whole_ends e us lt = subst (λ z. pull_of us < z) (reach_whole e) lt

abbrev PrefixedFront : Limit → Nesting → Tokens → Expr × Nesting × Tokens → Type 0
PrefixedFront limit l ts p = Formed limit (λ e. Form.Prefixed e) l ts p

-- a colon and a body
record BodyFront (limit : Limit) (bs : List Binding) (b : BinderWord) (w : Word) (l : Nesting) (ts : Tokens) (p : Expr × Nesting × Tokens) : Type 0 where
  e : Ending
  x : Expr
  c : Terminal
  us : Tokens
  split : Splits ts (c ∷ us) p.2
  colon : Is kind.Colon c
  body : Derives limit (form (Form.Chain connective.Iff e)) l us x p.1
  ends : pull_of p.2 < 1
  is : expr.Binder b bs x w.pos ≡ p.0

body_sound : (go : Readers) → Sound go → (bs : List Binding) (b : BinderWord) (w : Word) (l : Nesting) (ts : Tokens) → Yields (body_with go bs b w l ts) (BodyFront go.limit bs b w l ts)
body_sound go sound bs b w l ts =
    bind (expect_yields kind.Colon ts) (λ us a. bind (sound.expr (start.Chain connective.Iff) l us) (λ p f. here (record {
      e = f.0;
      x = p.0;
      c = a.0;
      us = f.1;
      split = put a.1 f.2;
      colon = a.2;
      body = f.3;
      ends = whole_ends f.0 p.2 f.4;
      is = refl;
    })))

binder_made : {limit : Limit} {b : BinderWord} (l : Nesting) (t u : Terminal) (ts us vs : Tokens) → ts ≡ t ∷ us → binder_word t.kind ≡ Some b → HasRoom limit l → us ≡ u ∷ vs → Is kind.Open u
    → (p : List Binding × Tokens) → Framed limit Item.Variable kind.Close (with_lasting_mark l) vs p → (q : Expr × Nesting × Tokens) → BodyFront limit p.0 b t.word (with_lasting_mark l) p.1 q → PrefixedFront limit l ts q
binder_made {limit = limit} {b = b} l t u ts us vs e is lt c open_is p f q g = (
  Bound,
  t ∷ u ∷ (f.0 ++ f.1 ∷ g.c ∷ g.us),
  record { same = (put e (put c (glue f.3 g.split))).same ∙ ap (λ z. t ∷ u ∷ (z ++ q.2)) (append_assoc f.0 (f.1 ∷ []) (g.c ∷ g.us)) },
  subst (λ z. Derives limit (form (Form.Prefixed Bound)) l (t ∷ u ∷ (f.0 ++ f.1 ∷ g.c ∷ g.us)) z q.1) g.is
      (Derives.binder g.e l f.2 q.1 f.0 g.us p.0 g.x b t u f.1 g.c is lt open_is f.4 f.5 f.6 g.colon g.body),
  g.ends,
)

bare_binder_made : {limit : Limit} {b : BinderWord} (l : Nesting) (t : Terminal) (ts us : Tokens) → ts ≡ t ∷ us → binder_word t.kind ≡ Some b → HasRoom limit l
    → (p : List Binding × Nesting × Tokens) → Front limit (list Item.BareVariable) (with_lasting_mark l) us p → (q : Expr × Nesting × Tokens) → BodyFront limit p.0 b t.word p.1 p.2 q → PrefixedFront limit l ts q
bare_binder_made {limit = limit} {b = b} l t ts us e is lt p f q g = (
  Bound,
  t ∷ (f.0 ++ g.c ∷ g.us),
  put e (glue f.1 g.split),
  subst (λ z. Derives limit (form (Form.Prefixed Bound)) l (t ∷ (f.0 ++ g.c ∷ g.us)) z q.1) g.is
      (Derives.bare_binder g.e l p.1 q.1 f.0 g.us p.0 g.x b t g.c is lt f.2 g.colon g.body),
  g.ends,
)

binder_sound : (go : Readers) → Sound go → (b : BinderWord) (l : Nesting) (t : Terminal) (ts us : Tokens) → ts ≡ t ∷ us → binder_word t.kind ≡ Some b → Yields (binder_with go b t.word l us) (PrefixedFront go.limit l ts)
binder_sound go sound b l t ts us e is =
    room go.limit l (with_lasting_mark l) us _ (λ lt. cases
    (λ vs a. let c = (after_yields kind.Open us).holds vs a in
    bind (framed_sound go sound Item.Variable kind.Close (with_lasting_mark l) vs) (λ p f. weaken (λ q g. binder_made l t c.0 ts us vs e is lt c.1 c.2 p f q g) (body_sound go sound p.0 b t.word (with_lasting_mark l) p.1)))
    (λ a. bind (list_with_sound go sound Item.BareVariable (with_lasting_mark l) us) (λ p f. weaken (λ q g. bare_binder_made l t ts us e is lt p f q g) (body_sound go sound p.0 b t.word p.1 p.2))))

let_sound : (go : Readers) → Sound go → (l : Nesting) (t : Terminal) (ts us : Tokens) → ts ≡ t ∷ us → Is kind.Let t → Yields (let_with go t.word l us) (PrefixedFront go.limit l ts)
let_sound go sound l t ts us e is =
    room go.limit l (with_lasting_mark l) us _ (λ lt. bind (list_with_sound go sound Item.Definition (with_lasting_mark l) us) (λ p f. bind (expect_yields kind.In p.2) (λ vs a. bind (sound.expr (start.Chain connective.Iff) p.1 vs) (λ q g. here (
      Bound,
      t ∷ (f.0 ++ a.0 ∷ g.1),
      put e (glue f.1 (put a.1 g.2)),
      Derives.let_in g.0 l p.1 q.1 f.0 g.1 p.0 q.0 t a.0 is lt f.2 a.2 g.3,
      whole_ends g.0 q.2 g.4,
    )))))

not_sound : (go : Readers) → Sound go → (l : Nesting) (t : Terminal) (ts us : Tokens) → ts ≡ t ∷ us → Is kind.Not t → Yields (not_with go t.word l us) (PrefixedFront go.limit l ts)
not_sound go sound l t ts us e is =
    room go.limit l (with_mark l) us _ (λ lt. bind (sound.expr start.Operand (with_mark l) us) (λ p f. here (
      f.0,
      t ∷ f.1,
      put e f.2,
      Derives.not f.0 l p.1 f.1 p.0 t is lt f.3,
      subst (λ z. pull_of p.2 < z) (reach_not f.0) f.4,
    )))

-- what a prefix says of its terminal
abbrev pub IsPrefix : Terminal → Prefix → Type 0
IsPrefix t prefixes.Negation = Is kind.Not t
IsPrefix t (prefixes.Binder b) = binder_word t.kind ≡ Some b
IsPrefix t prefixes.Local = Is kind.Let t

is_prefix_of_binder : (t : Terminal) (o : Option BinderWord) → binder_word t.kind ≡ o → (p : Prefix) → prefix_of_binder o ≡ Some p → IsPrefix t p
is_prefix_of_binder t (Some b) is p e = let same : prefixes.Binder b ≡ p = cc in subst (λ z. IsPrefix t z) same is
is_prefix_of_binder t None is p e = cc

pub is_prefix_kind : (t : Terminal) (k : TerminalKind) → t.kind ≡ k → (p : Prefix) → prefix k ≡ Some p → IsPrefix t p
is_prefix_kind t kind.Not is p e = let same : prefixes.Negation ≡ p = cc in subst (λ z. IsPrefix t z) same is
is_prefix_kind t kind.Let is p e = let same : prefixes.Local ≡ p = cc in subst (λ z. IsPrefix t z) same is
is_prefix_kind t kind.Forall is p e = is_prefix_of_binder t (Some binders.Forall) (ap binder_word is) p e
is_prefix_kind t kind.Exists is p e = is_prefix_of_binder t (Some binders.Exists) (ap binder_word is) p e
is_prefix_kind t kind.Lambda is p e = is_prefix_of_binder t (Some binders.Lambda) (ap binder_word is) p e
is_prefix_kind t _ is p e = cc

prefixed_of_sound : (go : Readers) → Sound go → (l : Nesting) (t : Terminal) (ts us : Tokens) → ts ≡ t ∷ us → (p : Prefix) → IsPrefix t p → Yields (prefixed_with go l p t.word us) (PrefixedFront go.limit l ts)
prefixed_of_sound go sound l t ts us e prefixes.Negation is = not_sound go sound l t ts us e is
prefixed_of_sound go sound l t ts us e (prefixes.Binder b) is = binder_sound go sound b l t ts us e is
prefixed_of_sound go sound l t ts us e prefixes.Local is = let_sound go sound l t ts us e is

prefixed_sound : (go : Readers) → Sound go → (l : Nesting) (t : Terminal) (ts us : Tokens) → ts ≡ t ∷ us → (p : Prefix) → prefix t.kind ≡ Some p → Yields (prefixed_with go l p t.word us) (PrefixedFront go.limit l ts)
prefixed_sound go sound l t ts us e p is = prefixed_of_sound go sound l t ts us e p (is_prefix_kind t t.kind refl p is)

-- ---- operands and chains

abbrev OperandFront : Limit → Nesting → Tokens → Expr × Nesting × Tokens → Type 0
OperandFront limit l ts p = Formed limit (λ e. Form.Operand e) l ts p

not_compared_kind : (k : TerminalKind) → comparison k ≡ None → pull k < 6 → pull k < 5
not_compared_kind kind.Equal e f = cc
not_compared_kind kind.Differs e f = cc
not_compared_kind kind.Iff e f = omega arith
not_compared_kind kind.Implies e f = omega arith
not_compared_kind kind.Or e f = omega arith
not_compared_kind kind.And e f = omega arith
not_compared_kind kind.Open e f = absurd (omega (arith, f))
not_compared_kind kind.Backquote e f = absurd (omega (arith, f))
not_compared_kind _ e f = omega arith

compares_none : (ts : Tokens) (t : Terminal) (o : Option InfixWord) → comparison t.kind ≡ o → compares_of o ts ≡ None → comparison t.kind ≡ None
compares_none ts t None is e = is
compares_none ts t (Some w) is e = cc

not_compared : (ts : Tokens) → compares ts ≡ None → pull_of ts < 6 → pull_of ts < 5
not_compared [] e f = omega arith
not_compared (t ∷ ts) e f = not_compared_kind t.kind (compares_none ts t (comparison t.kind) refl e) f

as_operand : (e : Ending) (us : Tokens) → pull_of us < reach (Form.Prefixed e) → pull_of us < reach (Form.Operand e)
as_operand Plain us lt = lt
as_operand Bound us lt = lt

compared_sound : (go : Readers) → Sound go → (n : ℕ) (x : Expr) (l0 l : Nesting) (all vs ts : Tokens) → Splits all vs ts → Derives go.limit (form Form.Comparisons) l0 vs x l → pull_of ts < 6 → length ts ≤ n
    → Yields (compared_from go n x l ts) (OperandFront go.limit l0 all)
unfolding compared_from
compared_sound go sound zero x l0 l all vs ts s d lt small = here (Plain, vs, s, Derives.compared l0 l vs x d, empty_ends ts 4 small)
compared_sound go sound (suc n) x l0 l all vs ts s d lt small = cases
    (λ p a. let c = (compares_yields ts).holds p a in
    room go.limit l (with_mark l) p.1 _ (λ has. begins_cases p.1 _ _
    (λ t us q e is. bind (prefixed_sound go sound (with_mark l) t p.1 us e q is) (λ r f. here (
      f.0,
      vs ++ c.0 ∷ f.1,
      glue s (put c.1 f.2),
      Derives.compared_prefixed f.0 l0 l r.1 vs f.1 x r.0 p.0 c.0 d c.2 has f.3,
      as_operand f.0 r.2 f.4,
    )))
    (bind (term_sound go sound (with_mark l) p.1) (λ r f. compared_sound go sound n (expr.Infix p.0 x r.0) l0 r.1 all (vs ++ c.0 ∷ f.1) r.2 (glue s (put c.1 f.2))
    (Derives.compares f.0 l0 l r.1 vs f.1 x r.0 p.0 c.0 d c.2 has f.3) f.4 (shorter n c.1 f.2 small)))))
    (λ a. here (Plain, vs, s, Derives.compared l0 l vs x d, not_compared ts a lt))

pub operand_sound : (go : Readers) → Sound go → (l : Nesting) (ts : Tokens) → Yields (operand_with go l ts) (OperandFront go.limit l ts)
operand_sound go sound l ts = begins_cases ts _ _
    (λ t us q e is. weaken (λ r f. (f.0, f.1, f.2, Derives.prefixed f.0 l r.1 f.1 r.0 f.3, as_operand f.0 r.2 f.4)) (prefixed_sound go sound l t ts us e q is))
    (bind (term_sound go sound l ts) (λ p f. compared_sound go sound (length ts) p.0 l p.1 ts f.1 p.2 f.2 (Derives.term f.0 l p.1 f.1 p.0 f.3) f.4 (splits_shorter f.2)))

reach_tighter : (c : Connective) → reach (operand_form c Plain) ≡ suc (power c)
reach_tighter connective.Iff = refl
reach_tighter connective.Implies = refl
reach_tighter connective.Or = refl
reach_tighter connective.And = refl

reach_bound : (c : Connective) → reach (operand_form c Bound) ≡ 1
reach_bound connective.Iff = refl
reach_bound connective.Implies = refl
reach_bound connective.Or = refl
reach_bound connective.And = refl

pull_sign : (c : Connective) → 1 ≤ pull (sign c)
pull_sign connective.Iff = omega arith
pull_sign connective.Implies = omega arith
pull_sign connective.Or = omega arith
pull_sign connective.And = omega arith

-- no connective follows a binder or a LET
pub bound_stops : (c : Connective) (us vs : Tokens) (t : Terminal) → pull_of us < reach (operand_form c Bound) → us ≡ t ∷ vs → Is (sign c) t → ⊥
bound_stops c us vs t lt e is =
    let here_is : pull_of us ≡ pull (sign c) = ap pull_of e ∙ ap pull is in
    omega (arith, subst (λ z. pull_of us < z) (reach_bound c) lt, here_is, pull_sign c)

not_signed_kind : (c : Connective) (k : TerminalKind) → same_kind k (sign c) ≡ false → pull k < suc (power c) → pull k < power c
unfolding same_kind
not_signed_kind connective.Iff kind.Iff e f = cc
not_signed_kind connective.Implies kind.Implies e f = cc
not_signed_kind connective.Or kind.Or e f = cc
not_signed_kind connective.And kind.And e f = cc
not_signed_kind connective.Iff kind.Implies e f = absurd (omega (arith, f))
not_signed_kind connective.Iff kind.Or e f = absurd (omega (arith, f))
not_signed_kind connective.Iff kind.And e f = absurd (omega (arith, f))
not_signed_kind connective.Implies kind.Iff e f = omega arith
not_signed_kind connective.Implies kind.Or e f = absurd (omega (arith, f))
not_signed_kind connective.Implies kind.And e f = absurd (omega (arith, f))
not_signed_kind connective.Or kind.Iff e f = omega arith
not_signed_kind connective.Or kind.Implies e f = omega arith
not_signed_kind connective.Or kind.And e f = absurd (omega (arith, f))
not_signed_kind connective.And kind.Iff e f = omega arith
not_signed_kind connective.And kind.Implies e f = omega arith
not_signed_kind connective.And kind.Or e f = omega arith
not_signed_kind connective.Iff _ e f = omega (arith, f)
not_signed_kind connective.Implies _ e f = omega (arith, f)
not_signed_kind connective.Or _ e f = omega (arith, f)
not_signed_kind connective.And _ e f = omega (arith, f)

not_signed : (c : Connective) (ts : Tokens) → after (sign c) ts ≡ None → pull_of ts < suc (power c) → pull_of ts < power c
not_signed connective.Iff [] e f = omega arith
not_signed connective.Implies [] e f = omega arith
not_signed connective.Or [] e f = omega arith
not_signed connective.And [] e f = omega arith
not_signed c (t ∷ ts) e f = not_signed_kind c t.kind (after_none (sign c) t ts e) f

abbrev ChainFront : Limit → Connective → Nesting → Tokens → Expr × Nesting × Tokens → Type 0
ChainFront limit c l ts p = Formed limit (λ e. Form.Chain c e) l ts p

alone_ends : (c : Connective) (e : Ending) (ts : Tokens) → after (sign c) ts ≡ None → pull_of ts < reach (operand_form c e) → pull_of ts < reach (Form.Chain c e)
alone_ends c Plain ts a lt = not_signed c ts a (subst (λ z. pull_of ts < z) (reach_tighter c) lt)
alone_ends c Bound ts a lt = subst (λ z. pull_of ts < z) (reach_bound c) lt

joined_made : {limit : Limit} (c : Connective) (l : Nesting) (ts : Tokens) (p : Expr × Nesting × Tokens) → HasRoom limit p.1 → (e : Ending) (vs : Tokens) → Splits ts vs p.2 → Derives limit (form (operand_form c e)) l vs p.0 p.1 → pull_of p.2 < reach (operand_form c e)
    → (us : Tokens) → Comes (sign c) p.2 us → (q : Expr × Nesting × Tokens) → ChainFront limit c (with_mark p.1) us q → ChainFront limit c l ts (expr.Infix (operator c) p.0 q.0, q.1, q.2)
joined_made c l ts p has Plain vs s d lt us a q g = (
  g.0,
  vs ++ a.0 ∷ g.1,
  glue s (put a.1 g.2),
  Derives.joined c g.0 l p.1 q.1 vs g.1 p.0 q.0 a.0 d a.2 has g.3,
  g.4,
)
joined_made c l ts p has Bound vs s d lt us a q g = absurd (bound_stops c p.2 us a.0 lt a.1 a.2)

pub chain_on_sound : (go : Readers) → Sound go → (c : Connective) (l : Nesting) (ts : Tokens) (r : Read Expr) → Yields r (Formed go.limit (λ e. operand_form c e) l ts) → Yields (chain_on go c r) (ChainFront go.limit c l ts)
chain_on_sound go sound c l ts r f = bind f (λ p f. cases
    (λ us a. room go.limit p.1 (with_mark p.1) us _ (λ has. bind (sound.expr (start.Chain c) (with_mark p.1) us) (λ q g. here (joined_made c l ts p has f.0 f.1 f.2 f.3 f.4 us ((after_yields (sign c) p.2).holds us a) q g))))
    (λ a. here (f.0, f.1, f.2, Derives.alone c f.0 l p.1 f.1 p.0 f.3, alone_ends c f.0 p.2 a f.4)))

pub between_sound : (go : Readers) → Sound go → (c : Connective) (l : Nesting) (ts : Tokens) → Yields (between_with go c l ts) (Formed go.limit (λ e. operand_form c e) l ts)
between_sound go sound connective.And l ts = operand_sound go sound l ts
between_sound go sound connective.Or l ts = chain_on_sound go sound connective.And l ts (operand_with go l ts) (operand_sound go sound l ts)
between_sound go sound connective.Implies l ts =
    chain_on_sound go sound connective.Or l ts (chain_on go connective.And (operand_with go l ts)) (chain_on_sound go sound connective.And l ts (operand_with go l ts) (operand_sound go sound l ts))
between_sound go sound connective.Iff l ts =
    chain_on_sound go sound connective.Implies l ts (chain_on go connective.Or (chain_on go connective.And (operand_with go l ts)))
    (chain_on_sound go sound connective.Or l ts (chain_on go connective.And (operand_with go l ts)) (chain_on_sound go sound connective.And l ts (operand_with go l ts) (operand_sound go sound l ts)))

chain_sound : (go : Readers) → Sound go → (c : Connective) (l : Nesting) (ts : Tokens) → Yields (chain_with go c l ts) (ChainFront go.limit c l ts)
chain_sound go sound c l ts = chain_on_sound go sound c l ts (between_with go c l ts) (between_sound go sound c l ts)

-- ---- the end of an IF

otherwise_of_sound : (go : Readers) → Sound go → (l : Nesting) (t : Terminal) (ts : Tokens) (k : TerminalKind) → t.kind ≡ k → Yields (otherwise_of go l t ts k) (Front go.limit (form Form.Otherwise) l (t ∷ ts))
otherwise_of_sound go sound l t ts kind.Else is =
    bind (expression_sound go sound (without_marks l) ts) (λ p f. bind (expect_yields kind.EndIf p.2) (λ us a. here (t ∷ (f.0 ++ a.0 ∷ []), put refl (glue f.1 (alone a.1)), Derives.else_ l p.1 f.0 p.0 t a.0 is f.2 a.2)))
otherwise_of_sound go sound l t ts kind.Elsif is =
    room go.limit (without_marks l) (with_lasting_mark (without_marks l)) ts _ (λ lt. weaken (λ p f. (
      t ∷ (f.vs ++ f.u ∷ (f.us ++ f.ws)),
      put refl f.split,
      subst (λ z. Derives go.limit (form Form.Otherwise) l (t ∷ (f.vs ++ f.u ∷ (f.us ++ f.ws))) z p.1) f.is (Derives.elsif l f.k f.j p.1 f.vs f.us f.ws f.c f.x f.y t f.u is lt f.test f.behind f.holds f.fails),
    )) (cond_sound go sound t.word (with_lasting_mark (without_marks l)) ts))
otherwise_of_sound go sound l t ts _ is = none

otherwise_sound : (go : Readers) → Sound go → (l : Nesting) (ts : Tokens) → Yields (otherwise_with go l ts) (Front go.limit (form Form.Otherwise) l ts)
otherwise_sound go sound l [] = none
otherwise_sound go sound l (t ∷ ts) = otherwise_of_sound go sound l t ts t.kind refl

-- ---- types

abbrev TypeFront : Limit → Nesting → Tokens → TypeExpr × Nesting × Tokens → Type 0
TypeFront limit l ts p = Front limit type_ l ts p

-- components between brackets, of which a tuple has two or more
tuple_sound : {limit : Limit} (l k : Nesting) (t : Terminal) (ts vs : Tokens) (bs : List Binding) (rest : Tokens) → Splits ts vs rest → Is kind.OpenBracket t → HasRoom limit l → Derives limit (list Item.Component) (in_frame l) vs bs k
    → Yields (tuple_type l t.word bs rest) (TypeFront limit l (t ∷ ts))
tuple_sound l k t ts vs [] rest s is lt d = none
tuple_sound l k t ts vs (b ∷ []) rest s is lt d = none
tuple_sound l k t ts vs (b ∷ c ∷ bs) rest s is lt d =
    bind (expect_yields kind.CloseBracket rest) (λ us a. here (t ∷ (vs ++ a.0 ∷ []), put refl (glue s (alone a.1)), Derives.tuple_type l k vs b c bs t a.0 is lt d a.2))

fun_sound : (go : Readers) → Sound go → (l k : Nesting) (t u : Terminal) (ts vs : Tokens) (bs : List Binding) (rest us : Tokens) → Splits ts vs rest → Is kind.OpenBracket t → HasRoom go.limit l → Derives go.limit (list Item.Component) (in_frame l) vs bs k
    → rest ≡ u ∷ us → Is kind.Arrow u → Yields (fun_type_with go l t.word bs k us) (TypeFront go.limit l (t ∷ ts))
fun_sound go sound l k t u ts vs bs rest us s is lt d e arrow =
    bind (sound.type k us) (λ p f. bind (expect_yields kind.CloseBracket p.2) (λ ws a. here (
      t ∷ (vs ++ u ∷ (f.0 ++ a.0 ∷ [])),
      put refl (glue s (put e (glue f.1 (alone a.1)))),
      Derives.fun_type l k p.1 vs f.0 bs p.0 t u a.0 is lt d arrow f.2 a.2,
    )))

-- an identifier, and a type after a colon, up to the bar
pub record BaseFront (limit : Limit) (l : Nesting) (ts : Tokens) (p : Word × TypeExpr × Nesting × Tokens) : Type 0 where
  pub t : Terminal
  pub u : Terminal
  pub w : Terminal
  pub vs : Tokens
  pub split : Splits ts (t ∷ u ∷ (vs ++ w ∷ [])) p.3
  pub id : IsId t
  pub colon : Is kind.Colon u
  pub type : Derives limit type_ l vs p.1 p.2
  pub bar : Is kind.Bar w
  pub is : t.word ≡ p.0

pub base_sound : (go : Readers) → Sound go → (l : Nesting) (ts : Tokens) → Yields (base_with go l ts) (BaseFront go.limit l ts)
base_sound go sound l ts =
    id_bind ts _ (λ t us e is. bind (expect_yields kind.Colon us) (λ vs a. bind (sound.type l vs) (λ q f. bind (expect_yields kind.Bar q.2) (λ ws b. here (record {
      t = t;
      u = a.0;
      w = b.0;
      vs = f.0;
      split = put e (put a.1 (glue f.1 (alone b.1)));
      id = is;
      colon = a.2;
      type = f.2;
      bar = b.2;
      is = refl;
    })))))

sub_sound : (go : Readers) → Sound go → (l : Nesting) (t : Terminal) (ts : Tokens) → Is kind.OpenBrace t → Yields (sub_type_with go l t.word ts) (TypeFront go.limit l (t ∷ ts))
sub_sound go sound l t ts is =
    room go.limit l (in_frame l) ts _ (λ lt. bind (base_sound go sound (in_frame l) ts) (λ p f. bind (expression_sound go sound p.2 p.3) (λ q g. bind (expect_yields kind.CloseBrace q.2) (λ vs b. here (
      t ∷ f.t ∷ f.u ∷ (f.vs ++ f.w ∷ (g.0 ++ b.0 ∷ [])),
      record { same = (put refl (glue f.split (glue g.1 (alone b.1)))).same ∙ ap (λ z. t ∷ f.t ∷ f.u ∷ (z ++ vs)) (append_assoc f.vs (f.w ∷ []) (g.0 ++ b.0 ∷ [])) },
      subst (λ z. Derives go.limit type_ l (t ∷ f.t ∷ f.u ∷ (f.vs ++ f.w ∷ (g.0 ++ b.0 ∷ []))) (type_expr.SubType z p.1 q.0 t.word.pos) l) f.is
          (Derives.sub_type l p.2 q.1 f.vs g.0 p.1 q.0 t f.t f.u f.w b.0 is lt f.id f.colon f.type f.bar g.2 b.2),
    )))))

type_of_sound : (go : Readers) → Sound go → (l : Nesting) (t : Terminal) (ts : Tokens) (k : TerminalKind) → t.kind ≡ k → Yields (type_of go l t ts k) (TypeFront go.limit l (t ∷ ts))
type_of_sound go sound l t ts kind.Id is = bind (name_after_sound go sound l t ts (ap is_id is)) (λ p f. here (f.0, f.1, Derives.name_type l l f.0 p.0 f.2))
type_of_sound go sound l t ts kind.Proof is = bind (name_after_sound go sound l t ts (ap is_id is)) (λ p f. here (f.0, f.1, Derives.name_type l l f.0 p.0 f.2))
type_of_sound go sound l t ts kind.Open is =
    room go.limit l (in_frame l) ts _ (λ lt. bind (expression_sound go sound (in_frame l) ts) (λ p f. bind (expect_yields kind.Close p.2) (λ us a. here (
      t ∷ (f.0 ++ a.0 ∷ []),
      put refl (glue f.1 (alone a.1)),
      Derives.pred_type l p.1 f.0 p.0 t a.0 is lt f.2 a.2,
    ))))
type_of_sound go sound l t ts kind.OpenBrace is = sub_sound go sound l t ts is
type_of_sound go sound l t ts kind.OpenBracket is =
    room go.limit l (in_frame l) ts _ (λ lt. bind (list_with_sound go sound Item.Component (in_frame l) ts) (λ p f. cases
    (λ us a. let c = (after_yields kind.Arrow p.2).holds us a in fun_sound go sound l p.1 t c.0 ts f.0 p.0 p.2 us f.1 is lt f.2 c.1 c.2)
    (λ a. tuple_sound l p.1 t ts f.0 p.0 p.2 f.1 is lt f.2)))
type_of_sound go sound l t ts _ is = none

type_sound : (go : Readers) → Sound go → (l : Nesting) (ts : Tokens) → Yields (type_with go l ts) (TypeFront go.limit l ts)
type_sound go sound l [] = none
type_sound go sound l (t ∷ ts) = type_of_sound go sound l t ts t.kind refl

-- ---- the whole

step_expr_sound : (go : Readers) → Sound go → (s : Start) (l : Nesting) (ts : Tokens) → Yields (expr_with go s l ts) (ExprFront go.limit s l ts)
step_expr_sound go sound (start.Chain c) l ts = chain_sound go sound c l ts
step_expr_sound go sound start.Operand l ts = operand_sound go sound l ts
step_expr_sound go sound start.Otherwise l ts = otherwise_sound go sound l ts

pub step_sound : (go : Readers) → Sound go → Sound (next_readers go)
step_sound go sound = record { expr = step_expr_sound go sound; type = type_sound go sound }

-- what is read is in the grammar
pub sound_reader : (limit : Limit) (a : ℕ) → Sound (reader limit a)
unfolding reader
sound_reader limit zero = record { expr = λ s l ts. none; type = λ l ts. none }
sound_reader limit (suc a) = step_sound (reader limit a) (sound_reader limit a)

pub reader_limit : (limit : Limit) (a : ℕ) → (reader limit a).limit ≡ limit
unfolding reader
reader_limit limit zero = refl
reader_limit limit (suc a) = reader_limit limit a

pub reader_sound : (limit : Limit) (a : ℕ) (s : Start) (l : Nesting) (ts : Tokens) → Yields ((reader limit a).expr s l ts) (ExprFront limit s l ts)
reader_sound limit a s l ts = subst (λ z. Yields ((reader limit a).expr s l ts) (ExprFront z s l ts)) (reader_limit limit a) ((sound_reader limit a).expr s l ts)

pub reader_type_sound : (limit : Limit) (a : ℕ) (l : Nesting) (ts : Tokens) → Yields ((reader limit a).type l ts) (Front limit type_ l ts)
reader_type_sound limit a l ts = subst (λ z. Yields ((reader limit a).type l ts) (Front z type_ l ts)) (reader_limit limit a) ((sound_reader limit a).type l ts)
