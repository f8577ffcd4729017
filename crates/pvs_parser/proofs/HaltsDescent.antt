-- Where the reading of expressions and types stops, the tokens before the stop can be completed.
use Rattle.std.proofs.Common.{◌≡◌, ◌∙◌, ◌⊎◌, inl, inr, ℕ, zero, suc, ◌+◌, ◌<◌, ◌≤◌, Bool, true, false, if◌then◌else◌, List, [], ◌∷◌, ◌++◌, length, Some, None, Ok, refl, sym, ap, subst, append_assoc, append-nil, arith}
use Rattle.pvs_parser.specs.declared.failure.Reason.{Reason}
use Rattle.pvs_parser.specs.declared.failure.Reason.TheVariants as reason
use Rattle.pvs_parser.specs.declared.nesting.Nesting.{Nesting}
use Rattle.pvs_parser.specs.declared.start.Start.{Start}
use Rattle.pvs_parser.specs.declared.start.Start.TheVariants as start
use Rattle.pvs_parser.specs.declared.terminal.Connective.{Connective}
use Rattle.pvs_parser.specs.declared.terminal.Connective.TheVariants as connective
use Rattle.pvs_parser.specs.declared.terminal.Prefix.{Prefix}
use Rattle.pvs_parser.specs.declared.terminal.Prefix.TheVariants as prefixes
use Rattle.pvs_parser.specs.declared.terminal.Terminal.{Terminal}
use Rattle.pvs_parser.specs.declared.terminal.TerminalKind.{TerminalKind}
use Rattle.pvs_parser.specs.declared.terminal.TerminalKind.TheVariants as kind
use Rattle.pvs_syntax.specs.declared.word.Word.{Word}
use Rattle.pvs_syntax.specs.declared.expression.Actual.{Actual}
use Rattle.pvs_syntax.specs.declared.expression.Binding.{Binding}
use Rattle.pvs_syntax.specs.declared.expression.BinderWord.{BinderWord}
use Rattle.pvs_syntax.specs.declared.expression.Expr.{Expr}
use Rattle.pvs_syntax.specs.declared.expression.Expr.TheVariants as expr
use Rattle.pvs_syntax.specs.declared.expression.InfixWord.{InfixWord}
use Rattle.pvs_parser.specs.Terminals.{Is, IsId, is_id}
use Rattle.pvs_parser.specs.Language.{Limit, Tokens, IsBelow, HasRoom, level, Derives, Ending, Plain, Bound, Form, Item, form, item, list, name, inst, type_, ItemTree, in_frame, without_marks, with_mark, with_lasting_mark, operand_form, sign, operator, instance, before_call, comparison, binder_word, begins_type}
use Rattle.pvs_parser.specs.code.Descent.{Read, Readers, stop, expect, too_many, starts_item, end_of_list, entries, nested_expr, list_from, list_with, framed_with, mark, name_of, name_after, cond_with, first_of, first_with, call_with, project, term_from, term_with, body_with, binder_with, let_with, not_with, prefix, prefixed_with, compared_from, operand_with, chain_on, between_with, chain_with, otherwise_of, otherwise_with, tuple_type, fun_type_with, base_with, sub_type_with, type_of, type_with, parameter_of, parameter_with, unnamed_with, component_with, variable_with, definition_with, item_with, next_readers, expr_with, reader}
use Rattle.pvs_base.specs.Answers.{◌>>=◌}
use Rattle.pvs_parser.proofs.Yields.{Yields}
use Rattle.pvs_parser.proofs.Follows.{pull_of, reach}
use Rattle.pvs_parser.proofs.Gets.{unglue}
use Rattle.pvs_parser.proofs.DescentSteps.{Comes, after_yields, labels_yields, compares_yields, AtMost, Splits, glue, put, alone, nothing}
use Rattle.pvs_parser.proofs.DescentSound.{Formed, Front, Sound, expression_sound, item_sound, list_with_sound, framed_sound, condition_sound, first_sound, call_sound, project_sound, term_sound, operand_sound, between_sound, base_sound, bound_stops, IsPrefix, is_prefix_kind, splits_shorter, moved, sound_reader}
use Rattle.pvs_parser.proofs.Halts.{Stops, goes, stopped, bind, then_, cases, deep, expect_then, number_stops, id_then, room_then, call_mark_then, begins_then, Wider, any, no_limit, NoComma, no_comma, Why, Halts, unexpected, nested, Place, first, behind, past, upto, onto, same_place, into, known}
use Rattle.pvs_parser.proofs.HaltsWiden.{wider}
use Rattle.pvs_parser.proofs.HaltsBegins.{Completes, Begun, TermBegun, StartBegun, ListBegun, CondBegun, completed, some_term, some_operand, some_chain, some_expr, some_otherwise, some_type, some_item, some_list, expression_begun, actual_begun, type_actual_begun, component_begun, named_component_begun, typed_variable_begun, typed_part_begun, typed_value_begun, part_begun, value_begun, one_begun, more_begun, list_of, name_begun, instance_begun, dot_begun, actuals_begun, name_term_begun, group_begun, test_begun, then_begun, rest_begun, if_begun, elsif_begun, else_begun, call_begun, project_begun, not_begun, bindings_begun, bound_begun, binder_begun, bare_begun, bare_binder_begun, let_begun, in_begun, prefixed_begun, compared_begun, term_begun, compares_begun, compared_prefixed_begun, alone_begun, joined_begun, name_type_begun, pred_begun, base_begun, brace_begun, brace_id_begun, sub_begun, domain_begun, range_begun, item_first}

-- where what is read deeper stops, in fewer tokens than so many
pub record Halting (go : Readers) (a : ℕ) : Type 0 where
  pub expr : (s : Start) (l : Nesting) (ts : Tokens) → length ts < a → Stops (go.expr s l ts) (Halts go.limit (λ w p. StartBegun w s l p) ts)
  pub type : (l : Nesting) (ts : Tokens) → length ts < a → Stops (go.type l ts) (Halts go.limit (λ w p. Completes w type_ l p) ts)

-- ---- numbers of tokens

pub next : {us vs : Tokens} {t : Terminal} (a : ℕ) → us ≡ t ∷ vs → length us < a → length vs < a
next {us = us} {vs = vs} a e small = let h : length us ≡ suc (length vs) = ap length e in omega (arith, h, small)

next_le : {us vs : Tokens} {t : Terminal} (a : ℕ) → us ≡ t ∷ vs → length us ≤ a → length vs < a
next_le {us = us} {vs = vs} a e small = let h : length us ≡ suc (length vs) = ap length e in omega (arith, h, small)

pub rest : {us vs ws : Tokens} (a : ℕ) → Splits us vs ws → length us < a → length ws < a
rest a s small = omega (arith, splits_shorter s, small)

rest_le : {us vs ws : Tokens} (a : ℕ) → Splits us vs ws → length us ≤ a → length ws ≤ a
rest_le a s small = omega (arith, splits_shorter s, small)

fewer_le : (ts : Tokens) (a : ℕ) → length ts < a → length ts ≤ a
fewer_le ts a small = omega (arith, small)

-- ---- parts that are read with nothing deeper

-- an actual whose first terminal begins a type
actual_typed : (w : Limit) (l : Nesting) (t : Terminal) (ts p r : Tokens) → begins_type t.kind ≡ true → Splits (t ∷ ts) p r → Completes w type_ l p → Completes w (item Item.Parameter) l p
actual_typed w l t ts [] r is s c = some_item Item.Parameter
actual_typed w l t ts (u ∷ p) r is s c = let same : t ≡ u = (let e = s.same in cc) in type_actual_begun (subst (λ z. begins_type z.kind ≡ true) same is) c

qualified_stops : {limit : Limit} (l : Nesting) (ts us vs : Tokens) (w : Word) (xs : List Actual) (d : Terminal) → Splits ts us (d ∷ vs) → Derives limit inst l us (instance w xs) l → Is kind.Dot d
    → Stops (name_of w xs vs) (Halts limit (λ v p. Completes v name l p) ts)
qualified_stops l ts us vs w xs d split i is = id_then vs _ (unexpected (glue split (alone refl)) (λ v wide. dot_begun d (wider wide i) is)) (λ t ws e id. goes)

-- ---- lists

pub at_most_below : (limit : Limit) (n k : ℕ) → AtMost limit (suc n + k) → IsBelow limit k
at_most_below (Some most) n k le = omega (arith, le)
at_most_below None n k le = any k

pub at_most_next : (limit : Limit) (n k : ℕ) → AtMost limit (suc (suc n) + k) → AtMost limit (suc n + suc k)
at_most_next (Some most) n k le = omega (arith, le)
at_most_next None n k le = le

pub at_most_zero : (limit : Limit) (n : ℕ) → AtMost limit (suc n) → AtMost limit (suc n + 0)
at_most_zero (Some most) n le = omega (arith, le)
at_most_zero None n le = le

-- after the comma that follows the last entry that a list may have
comma_halts : {limit : Limit} (i : Item) (k : ℕ) {l j : Nesting} {x : ItemTree i} (ts vs rest us : Tokens) → Splits ts vs rest → (c : Comes kind.Comma rest us) → Derives limit (item i) l vs x j → IsBelow limit k → (r : Reason)
    → Why (λ w p. ListBegun w i k l p) (vs ++ c.0 ∷ []) us r → Halts limit (λ w p. ListBegun w i k l p) ts (record { left = length us; reason = r })
comma_halts i k ts vs rest us s c d lt r y = record {
  before = vs ++ c.0 ∷ [];
  rest = us;
  split = glue s (alone c.1);
  left = refl;
  begun = more_begun i c.0 k (wider no_limit d) c.2 (one_begun i (suc k) (any 0) (some_item i));
  within = inr (record {
    front = vs;
    comma = c.0;
    same = refl;
    is = c.2;
    begun = one_begun i k lt (completed d);
  });
  why = y;
}

starts_comma : (i : Item) → starts_item i kind.Comma ≡ false
starts_comma Item.Expression = refl
starts_comma Item.Parameter = refl
starts_comma Item.Component = refl
starts_comma Item.Variable = refl
starts_comma Item.BareVariable = refl
starts_comma Item.Definition = refl

-- no item begins with a comma
starts_no_comma : (i : Item) (t : Terminal) → starts_item i t.kind ≡ true → NoComma t
starts_no_comma i t is comma = let e : starts_item i t.kind ≡ false = ap (starts_item i) comma ∙ starts_comma i in cc

crowded_one : {B : Type 0} {limit : Limit} (i : Item) (k : ℕ) {l j : Nesting} {x : ItemTree i} (ts vs rest us : Tokens) (t : Terminal) → Splits ts vs rest → (c : Comes kind.Comma rest (t ∷ us)) → Derives limit (item i) l vs x j → IsBelow limit k
    → (b : Bool) → starts_item i t.kind ≡ b → Stops {A = B} (if b then too_many (t ∷ us) else stop (t ∷ us)) (Halts limit (λ w p. ListBegun w i k l p) ts)
crowded_one i k {l = l} {j = j} ts vs rest us t s c d lt true is = stopped (comma_halts i k ts vs rest (t ∷ us) s c d lt reason.TooNested (
  t,
  us,
  refl,
  starts_no_comma i t is,
  subst (λ z. ListBegun None i k l z) (sym (append_assoc vs (c.0 ∷ []) (t ∷ []))) (more_begun i c.0 k (wider no_limit d) c.2 (one_begun i (suc k) (any 0) (item_first i (without_marks j) t is))),
))
crowded_one i k ts vs rest us t s c d lt false is = stopped (comma_halts i k ts vs rest (t ∷ us) s c d lt reason.Unexpected tt)

crowded_stops : {B : Type 0} {limit : Limit} (i : Item) (k : ℕ) {l j : Nesting} {x : ItemTree i} (ts vs rest us : Tokens) → Splits ts vs rest → Comes kind.Comma rest us → Derives limit (item i) l vs x j → IsBelow limit k
    → Stops {A = B} (end_of_list (starts_item i) us) (Halts limit (λ w p. ListBegun w i k l p) ts)
crowded_stops i k ts vs rest [] s c d lt = stopped (comma_halts i k ts vs rest [] s c d lt reason.Unexpected tt)
crowded_stops i k ts vs rest (t ∷ us) s c d lt = crowded_one i k ts vs rest us t s c d lt (starts_item i t.kind) refl

module _ {limit : Limit} (i : Item) (reads : Nesting → Tokens → Read (ItemTree i)) (sound : (l : Nesting) (ts : Tokens) → Yields (reads l ts) (Front limit (item i) l ts)) (a : ℕ)
    (stops : (l : Nesting) (ts : Tokens) → length ts < a → Stops (reads l ts) (Halts limit (λ w p. Completes w (item i) l p) ts)) where
  item_in_list : (n k : ℕ) → AtMost limit (suc n + k) → (l : Nesting) (ts : Tokens) → length ts < a → Stops (reads l ts) (Halts limit (λ w p. ListBegun w i k l p) ts)
  item_in_list n k most l ts small = into (stops l ts small) first (λ w wide p g. one_begun i k (wide.below k (at_most_below limit n k most)) g)

  list_from_stops : (n k : ℕ) → AtMost limit (suc n + k) → (found : List (ItemTree i)) (l : Nesting) (ts : Tokens) → length ts < a
      → Stops (list_from (starts_item i) reads (suc n) found l ts) (Halts limit (λ w p. ListBegun w i k l p) ts)
  unfolding list_from
  list_from_stops zero k most found l ts small = bind (sound l ts) (item_in_list zero k most l ts small) (λ p f. cases
      (λ us e. crowded_stops i k ts f.0 p.2 us f.1 ((after_yields kind.Comma p.2).holds us e) f.2 (at_most_below limit zero k most))
      (λ e. goes))
  list_from_stops (suc n) k most found l ts small = bind (sound l ts) (item_in_list (suc n) k most l ts small) (λ p f. cases
      (λ us e. let c = (after_yields kind.Comma p.2).holds us e in
      into (list_from_stops n (suc k) (at_most_next limit n k most) (found ++ p.0 ∷ []) (without_marks p.1) us (next a c.1 (rest a f.1 small))) (past f.1 (behind c.1 first))
      (λ w wide q g. more_begun i c.0 k (wider wide f.2) c.2 g))
      (λ e. goes))

  -- from the first entry on, of as many as a list may have
  from_first : (n : ℕ) → AtMost limit n → 1 ≤ n → (l : Nesting) (ts : Tokens) → length ts < a → Stops (list_from (starts_item i) reads n [] l ts) (Halts limit (λ w p. Completes w (list i) l p) ts)
  from_first zero most le l ts small = absurd (omega (arith, le))
  from_first (suc n) most le l ts small = into (list_from_stops n 0 (at_most_zero limit n most) [] l ts small) first (λ w wide p g. list_of g)

-- a list of no tokens
no_tokens : {A : Type 0} {limit : Limit} (i : Item) (starts : TerminalKind → Bool) (reads : Nesting → Tokens → Read A) (l : Nesting) → Stops (list_from starts reads 0 [] l []) (Halts limit (λ w p. Completes w (list i) l p) [])
unfolding list_from
no_tokens i starts reads l = stopped (unexpected nothing (λ w wide. some_list i))

entries_stops : (limit : Limit) (i : Item) (reads : Nesting → Tokens → Read (ItemTree i)) → ((l : Nesting) (ts : Tokens) → Yields (reads l ts) (Front limit (item i) l ts)) → (a : ℕ)
    → ((l : Nesting) (ts : Tokens) → length ts < a → Stops (reads l ts) (Halts limit (λ w p. Completes w (item i) l p) ts)) → IsBelow limit 0 → (l : Nesting) (ts : Tokens) → length ts < a
    → Stops (list_from (starts_item i) reads (entries limit ts) [] l ts) (Halts limit (λ w p. Completes w (list i) l p) ts)
entries_stops (Some most) i reads sound a stops lt l ts small = from_first i reads sound a stops most (omega arith) (omega (arith, lt)) l ts small
entries_stops None i reads sound a stops lt l [] small = no_tokens i (starts_item i) reads l
entries_stops None i reads sound a stops lt l (t ∷ ts) small = from_first i reads sound a stops (suc (length ts)) (any 0) (omega arith) l (t ∷ ts) small

below_zero : (limit : Limit) (n : ℕ) → IsBelow limit n → IsBelow limit 0
below_zero (Some most) n lt = omega (arith, lt)
below_zero None n lt = lt

-- ---- what a prefix begins

-- tokens that can be completed to what NOT, a binder or a LET begins, where there are any
abbrev PrefixBegun : Limit → Nesting → Tokens → Type 0
PrefixBegun w l p = (p ≡ []) ⊎ Begun w (λ e. Form.Prefixed e) l p

prefix_operand : {w : Limit} {l : Nesting} (p : Tokens) → PrefixBegun w l p → Begun w (λ e. Form.Operand e) l p
prefix_operand {w = w} {l = l} p (inl e) = subst (λ z. Begun w (λ e. Form.Operand e) l z) (sym e) some_operand
prefix_operand p (inr g) = prefixed_begun g

compared_prefix : {w : Limit} {l k : Nesting} {vs : Tokens} {x : Expr} {o : InfixWord} (t : Terminal) → Derives w (form Form.Comparisons) l vs x k → comparison t.kind ≡ Some o → HasRoom w k → (p : Tokens) → PrefixBegun w (with_mark k) p
    → Begun w (λ e. Form.Operand e) l (vs ++ t ∷ p)
compared_prefix {w = w} {l = l} {vs = vs} t d is lt p (inl e) = subst (λ z. Begun w (λ e. Form.Operand e) l (vs ++ t ∷ z)) (sym e) (compares_begun t d is lt some_term)
compared_prefix t d is lt p (inr g) = compared_prefixed_begun t d is lt g

binder_no_comma : {b : BinderWord} (t : Terminal) → binder_word t.kind ≡ Some b → NoComma t
binder_no_comma t is comma = let e : binder_word t.kind ≡ None = ap binder_word comma in cc

comparison_no_comma : {o : InfixWord} (t : Terminal) → comparison t.kind ≡ Some o → NoComma t
comparison_no_comma t is comma = let e : comparison t.kind ≡ None = ap comparison comma in cc

sign_no_comma : (c : Connective) (t : Terminal) → Is (sign c) t → NoComma t
sign_no_comma connective.Iff t is = no_comma t refl is
sign_no_comma connective.Implies t is = no_comma t refl is
sign_no_comma connective.Or t is = no_comma t refl is
sign_no_comma connective.And t is = no_comma t refl is

-- ---- what stands in braces

within_brace : {ts us : Tokens} (t u : Terminal) (vs : Tokens) (w : Terminal) → Splits ts (t ∷ u ∷ (vs ++ w ∷ [])) us → Place ts (λ p. t ∷ u ∷ (vs ++ w ∷ p)) us
within_brace {us = us} t u vs w s = record {
  same = s.same ∙ ap (λ z. t ∷ u ∷ z) (append_assoc vs (w ∷ []) us);
  through = λ p q. ap (λ z. t ∷ u ∷ z) (sym (append_assoc vs (w ∷ p) q));
}

module _ (go : Readers) (sound : Sound go) (a : ℕ) (halting : Halting go a) where
  -- ---- items

  expression_stops : (l : Nesting) (ts : Tokens) → length ts < a → Stops (nested_expr go l ts) (Halts go.limit (λ w p. Completes w (item Item.Expression) l p) ts)
  expression_stops l ts small = into (halting.expr (start.Chain connective.Iff) l ts small) first (λ w wide p g. expression_begun g)

  parameter_of_stops : (l : Nesting) (t : Terminal) (ts : Tokens) (b : Bool) → begins_type t.kind ≡ b → length (t ∷ ts) < a → Stops (parameter_of go l (t ∷ ts) b) (Halts go.limit (λ w p. Completes w (item Item.Parameter) l p) (t ∷ ts))
  parameter_of_stops l t ts true is small = then_ (into (known (halting.type l (t ∷ ts) small)) first (λ w wide p g. actual_typed w l t ts p g.1.0 is g.1.1 g.0)) (λ p. goes)
  parameter_of_stops l t ts false is small = then_ (into (halting.expr (start.Chain connective.Iff) l (t ∷ ts) small) first (λ w wide p g. actual_begun g)) (λ p. goes)

  parameter_stops : (l : Nesting) (ts : Tokens) → length ts < a → Stops (parameter_with go l ts) (Halts go.limit (λ w p. Completes w (item Item.Parameter) l p) ts)
  parameter_stops l [] small = then_ (into (halting.expr (start.Chain connective.Iff) l [] small) first (λ w wide p g. actual_begun g)) (λ p. goes)
  parameter_stops l (t ∷ ts) small = parameter_of_stops l t ts (begins_type t.kind) refl small

  unnamed_stops : (l : Nesting) (ts : Tokens) → length ts < a → Stops (unnamed_with go l ts) (Halts go.limit (λ w p. Completes w (item Item.Component) l p) ts)
  unnamed_stops l [] small = stopped (unexpected nothing (λ w wide. some_item Item.Component))
  unnamed_stops l (t ∷ ts) small = then_ (into (halting.type l (t ∷ ts) small) first (λ w wide p g. component_begun g)) (λ q. goes)

  component_stops : (l : Nesting) (ts : Tokens) → length ts < a → Stops (component_with go l ts) (Halts go.limit (λ w p. Completes w (item Item.Component) l p) ts)
  component_stops l ts small = cases
      (λ p e. let c = (labels_yields ts).holds p e in
      then_ (into (halting.type l p.1 (rest a (put c.2 (alone refl)) small)) (behind c.2 (behind refl first)) (λ w wide q g. named_component_begun c.3 c.4 g)) (λ q. goes))
      (λ e. unnamed_stops l ts small)

  variable_stops : (l : Nesting) (ts : Tokens) → length ts < a → Stops (variable_with go l ts) (Halts go.limit (λ w p. Completes w (item Item.Variable) l p) ts)
  variable_stops l ts small = id_then ts _ (unexpected nothing (λ w wide. some_item Item.Variable)) (λ t us e is. cases
      (λ vs b. let c = (after_yields kind.Colon us).holds vs b in
      then_ (into (halting.type l vs (next a c.1 (next a e small))) (behind e (behind c.1 first)) (λ w wide p g. typed_variable_begun is c.2 g)) (λ q. goes))
      (λ b. goes))

  definition_stops : (l : Nesting) (ts : Tokens) → length ts < a → Stops (definition_with go l ts) (Halts go.limit (λ w p. Completes w (item Item.Definition) l p) ts)
  definition_stops l ts small = id_then ts _ (unexpected nothing (λ w wide. some_item Item.Definition)) (λ t us e is. cases
      (λ vs b. let c = (after_yields kind.Colon us).holds vs b in
      let less : length vs < a = next a c.1 (next a e small) in
      bind (sound.type l vs) (into (halting.type l vs less) (behind e (behind c.1 first)) (λ w wide p g. typed_part_begun is c.2 g)) (λ p f.
      expect_then kind.Equal p.2 _ (unexpected (put e (put c.1 f.1)) (λ w wide. typed_part_begun is c.2 (completed (wider wide f.2)))) (λ ws d.
      then_ (into (halting.expr (start.Chain connective.Iff) p.1 ws (next a d.1 (rest a f.1 less))) (behind e (behind c.1 (past f.1 (behind d.1 first)))) (λ w wide q g. typed_value_begun d.0 is c.2 (wider wide f.2) d.2 g)) (λ q. goes))))
      (λ b. expect_then kind.Equal us _ (unexpected (alone e) (λ w wide. part_begun is)) (λ ws d.
      then_ (into (halting.expr (start.Chain connective.Iff) l ws (next a d.1 (next a e small))) (behind e (behind d.1 first)) (λ w wide q g. value_begun is d.2 g)) (λ q. goes))))

  item_stops : (i : Item) (l : Nesting) (ts : Tokens) → length ts < a → Stops (item_with go i l ts) (Halts go.limit (λ w p. Completes w (item i) l p) ts)
  item_stops Item.Expression l ts small = expression_stops l ts small
  item_stops Item.Parameter l ts small = parameter_stops l ts small
  item_stops Item.Component l ts small = component_stops l ts small
  item_stops Item.Variable l ts small = variable_stops l ts small
  item_stops Item.BareVariable l ts small = id_then ts _ (unexpected nothing (λ w wide. some_item Item.BareVariable)) (λ t us e is. goes)
  item_stops Item.Definition l ts small = definition_stops l ts small

  -- ---- lists

  pub list_with_stops : (i : Item) → IsBelow go.limit 0 → (l : Nesting) (ts : Tokens) → length ts < a → Stops (list_with go i l ts) (Halts go.limit (λ w p. Completes w (list i) l p) ts)
  list_with_stops i lt l ts small = entries_stops go.limit i (item_with go i) (λ l ts. item_sound go sound i l ts) a (λ l ts small. item_stops i l ts small) lt l ts small

  -- a list and the sign that ends its frame, at a place in the frame
  pub inside_stops : (i : Item) (end : TerminalKind) (l : Nesting) {K : Limit → Tokens → Type 0} {ts us : Tokens} {f : Tokens → Tokens} → HasRoom go.limit l → Place ts f us
      → ((w : Limit) → Wider go.limit w → (p : Tokens) → Completes w (list i) (in_frame l) p → K w (f p)) → length us < a
      → Stops {A = List (ItemTree i) × Tokens} (list_with go i (in_frame l) us >>= λ p. expect end p.2 >>= λ vs. Ok (p.0, vs)) (Halts go.limit K ts)
  inside_stops i end l {us = us} lt place k small =
      bind (list_with_sound go sound i (in_frame l) us) (into (list_with_stops i (below_zero go.limit (level l) lt) (in_frame l) us small) place k) (λ p f.
      expect_then end p.2 _ (unexpected (upto place f.1) (λ w wide. k w wide f.0 (completed (wider wide f.2)))) (λ vs b. goes))

  -- a list in a frame, at a place after the sign that opens it
  pub framed_stops : (i : Item) (end : TerminalKind) (l : Nesting) {K : Limit → Tokens → Type 0} {ts us : Tokens} {f : Tokens → Tokens} → Place ts f us → Halts go.limit K ts (deep us)
      → (HasRoom go.limit l → (w : Limit) → Wider go.limit w → (p : Tokens) → Completes w (list i) (in_frame l) p → K w (f p)) → length us < a → Stops (framed_with go i end l us) (Halts go.limit K ts)
  framed_stops i end l {us = us} place too_deep k small = room_then go.limit l (in_frame l) us _ too_deep (λ lt. inside_stops i end l lt place (k lt) small)

  -- ---- names

  -- after an identifier
  name_after_stops : (l : Nesting) (t : Terminal) (us : Tokens) → IsId t → length us < a → Stops (name_after go t.word l us) (Halts go.limit (λ w p. Completes w name l p) (t ∷ us))
  name_after_stops l t us is small = cases
      (λ vs b. let c = (after_yields kind.OpenBracket us).holds vs b in
      bind (framed_sound go sound Item.Parameter kind.CloseBracket l vs)
      (framed_stops Item.Parameter kind.CloseBracket l (behind refl (behind c.1 first)) (nested (moved (alone refl) c.1) (no_comma c.0 refl c.2) (λ w wide. name_begun is) (actuals_begun is c.2 (any 0) (some_list Item.Parameter)))
      (λ lt w wide p g. actuals_begun is c.2 (wide.below (level l) lt) g) (next a c.1 small)) (λ p f.
      expect_then kind.Dot p.1 _ (unexpected (put refl (put c.1 f.3)) (λ w wide. instance_begun (Derives.inst_with l f.2 f.0 p.0 t c.0 f.1 is c.2 (wide.below (level l) f.4) (wider wide f.5) f.6))) (λ ws d.
      qualified_stops l (t ∷ us) (t ∷ c.0 ∷ (f.0 ++ f.1 ∷ [])) ws t.word p.0 d.0 (moved (put refl (put c.1 f.3)) d.1)
      (Derives.inst_with l f.2 f.0 p.0 t c.0 f.1 is c.2 f.4 f.5 f.6) d.2)))
      (λ b. cases
      (λ vs e. let d = (after_yields kind.Dot us).holds vs e in qualified_stops l (t ∷ us) (t ∷ []) vs t.word [] d.0 (moved (alone refl) d.1) (Derives.plain_inst l t is) d.2)
      (λ e. goes))

  -- ---- terms

  cond_stops : (w : Word) (l : Nesting) (ts : Tokens) → length ts < a → Stops (cond_with go w l ts) (Halts go.limit (λ v p. CondBegun v l p) ts)
  cond_stops w l ts small =
      bind (condition_sound go sound l ts)
      (bind (expression_sound go sound l ts) (into (expression_stops l ts small) first (λ v wide p g. test_begun g)) (λ p f.
      expect_then kind.Then p.2 _ (unexpected f.1 (λ v wide. test_begun (completed (wider wide f.2)))) (λ us b. goes)))
      (λ p f. let split : Splits ts f.0 (f.1 ∷ p.2) = unglue f.0 (f.1 ∷ []) f.3 in
      let less : length p.2 < a = rest a f.3 small in
      bind (expression_sound go sound p.1 p.2)
      (into (expression_stops p.1 p.2 less) (past split (behind refl first)) (λ v wide q g. then_begun f.1 (wider wide f.4) f.5 (subst (λ z. Completes v (item Item.Expression) z q) f.6 g)))
      (λ q g. then_
      (into (halting.expr start.Otherwise q.1 q.2 (rest a g.1 less)) (past split (behind refl (past g.1 first)))
      (λ v wide r k. rest_begun f.1 (wider wide f.4) f.5 (wider wide (subst (λ z. Derives go.limit (item Item.Expression) z g.0 q.0 q.1) f.6 g.2)) k)) (λ r. goes)))

  first_of_stops : (l : Nesting) (t : Terminal) (ts : Tokens) (k : TerminalKind) → t.kind ≡ k → length ts < a → Stops (first_of go l t ts k) (Halts go.limit (λ w p. TermBegun w l p) (t ∷ ts))
  first_of_stops l t ts kind.True is small = goes
  first_of_stops l t ts kind.False is small = goes
  first_of_stops l t ts kind.Id is small = then_ (into (name_after_stops l t ts (ap is_id is) small) first (λ w wide p g. name_term_begun g)) (λ p. goes)
  first_of_stops l t ts kind.Proof is small = then_ (into (name_after_stops l t ts (ap is_id is) small) first (λ w wide p g. name_term_begun g)) (λ p. goes)
  first_of_stops l t ts kind.Open is small =
      then_ (framed_stops Item.Expression kind.Close l (behind refl first) (nested nothing (no_comma t refl is) (λ w wide. some_term) (group_begun is (any 0) (some_list Item.Expression))) (λ lt w wide p g. group_begun is (wide.below (level l) lt) g) small) (λ p. goes)
  first_of_stops l t ts kind.If is small =
      room_then go.limit l (in_frame l) ts _ (nested nothing (no_comma t refl is) (λ w wide. some_term) (if_begun is (any 0) (test_begun some_expr))) (λ lt.
      then_ (into (cond_stops t.word (in_frame l) ts small) (behind refl first) (λ w wide p g. if_begun is (wide.below (level l) lt) g)) (λ p. goes))
  first_of_stops l t ts _ is small = stopped (unexpected nothing (λ w wide. some_term))

  first_stops : (l : Nesting) (ts : Tokens) → length ts ≤ a → Stops (first_with go l ts) (Halts go.limit (λ w p. TermBegun w l p) ts)
  first_stops l [] small = stopped (unexpected nothing (λ w wide. some_term))
  first_stops l (t ∷ ts) small = first_of_stops l t ts t.kind refl (omega (arith, small))

  -- after a term
  call_stops : (b : Bool) (x : Expr) (l0 l : Nesting) (all vs ts us : Tokens) → Splits all vs ts → Derives go.limit (form (Form.Term b)) l0 vs x l → Comes kind.Open ts us → length us < a
      → Stops (call_with go b x l us) (Halts go.limit (λ w p. TermBegun w l0 p) all)
  call_stops b x l0 l all vs ts us s d c small =
      let too_deep : Halts go.limit (λ w p. TermBegun w l0 p) all (deep us) = nested (moved s c.1) (no_comma c.0 refl c.2) (λ w wide. (b, completed (wider wide d))) (call_begun c.0 (wider no_limit d) c.2 (any 0) (some_list Item.Expression)) in
      call_mark_then go.limit b l us _ _ too_deep (then_
      (framed_stops Item.Expression kind.Close (before_call b l) (past s (behind c.1 first)) too_deep (λ lt w wide p g. call_begun c.0 (wider wide d) c.2 (wide.below (level (before_call b l)) lt) g) small) (λ p. goes))

  project_stops : (b : Bool) (x : Expr) (l0 l : Nesting) (all vs ts us : Tokens) → Splits all vs ts → Derives go.limit (form (Form.Term b)) l0 vs x l → Comes kind.Backquote ts us
      → Stops (project go.limit x l us) (Halts go.limit (λ w p. TermBegun w l0 p) all)
  project_stops b x l0 l all vs ts us s d c =
      room_then go.limit l (with_mark l) us _ (nested (moved s c.1) (no_comma c.0 refl c.2) (λ w wide. (b, completed (wider wide d))) (project_begun c.0 (wider no_limit d) c.2 (any 0))) (λ lt.
      then_ (number_stops us (unexpected (glue s (alone c.1)) (λ w wide. project_begun c.0 (wider wide d) c.2 (wide.below (level l) lt)))) (λ p. goes))

  term_from_stops : (n : ℕ) (b : Bool) (x : Expr) (l0 l : Nesting) (all vs ts : Tokens) → Splits all vs ts → Derives go.limit (form (Form.Term b)) l0 vs x l → length ts ≤ a
      → Stops (term_from go n b x l ts) (Halts go.limit (λ w p. TermBegun w l0 p) all)
  unfolding term_from
  term_from_stops zero b x l0 l all vs ts s d small = goes
  term_from_stops (suc n) b x l0 l all vs ts s d small = cases
      (λ us e. let c = (after_yields kind.Open ts).holds us e in
      let less : length us < a = next_le a c.1 small in
      bind (call_sound go sound b x l0 l all vs ts us s d c) (call_stops b x l0 l all vs ts us s d c less) (λ p f.
      term_from_stops n true p.0 l0 p.1 all f.0 p.2 f.1 f.2 (fewer_le p.2 a (rest a f.3.1 less))))
      (λ e. cases
      (λ us e. let c = (after_yields kind.Backquote ts).holds us e in
      bind (project_sound b x l0 l all vs ts us s d c) (project_stops b x l0 l all vs ts us s d c) (λ p f.
      term_from_stops n true p.0 l0 p.1 all f.0 p.2 f.1 f.2 (fewer_le p.2 a (rest a f.3.1 (next_le a c.1 small)))))
      (λ e. goes))

  term_stops : (l : Nesting) (ts : Tokens) → length ts ≤ a → Stops (term_with go l ts) (Halts go.limit (λ w p. TermBegun w l p) ts)
  term_stops l ts small = bind (first_sound go sound l ts) (first_stops l ts small) (λ p f. term_from_stops (length ts) p.1 p.0 l l ts f.0 p.2 f.1 f.2 (rest_le a f.1 small))

  -- ---- NOT, binders and LET

  -- a colon and a body, at a place after the bindings
  body_stops : (bs : List Binding) (b : BinderWord) (w : Word) (l : Nesting) {K : Limit → Tokens → Type 0} {ts us : Tokens} {f : Tokens → Tokens} → Place ts f us → ((v : Limit) → Wider go.limit v → K v (f []))
      → ((v : Limit) → Wider go.limit v → (c : Terminal) → Is kind.Colon c → (p : Tokens) → Begun v (λ e. Form.Chain connective.Iff e) l p → K v (f (c ∷ p))) → length us < a → Stops (body_with go bs b w l us) (Halts go.limit K ts)
  body_stops bs b w l {us = us} place before body small = expect_then kind.Colon us _ (unexpected (upto place nothing) before) (λ vs c.
      then_ (into (halting.expr (start.Chain connective.Iff) l vs (next a c.1 small)) (onto place c.1) (λ v wide p g. body v wide c.0 c.2 p g)) (λ p. goes))

  binder_stops : (b : BinderWord) (l : Nesting) (t : Terminal) (us : Tokens) → binder_word t.kind ≡ Some b → length us < a → Stops (binder_with go b t.word l us) (Halts go.limit (λ w p. PrefixBegun w l p) (t ∷ us))
  binder_stops b l t us is small =
      room_then go.limit l (with_lasting_mark l) us _ (nested nothing (binder_no_comma t is) (λ w wide. inl refl) (inr (bare_begun is (any 0) (some_list Item.BareVariable)))) (λ lt. cases
      (λ vs e. let c = (after_yields kind.Open us).holds vs e in
      let less : length vs < a = next a c.1 small in
      bind (framed_sound go sound Item.Variable kind.Close (with_lasting_mark l) vs)
      (framed_stops Item.Variable kind.Close (with_lasting_mark l) (behind refl (behind c.1 first))
      (nested (moved (alone refl) c.1) (no_comma c.0 refl c.2) (λ w wide. inr (bare_begun is (wide.below (level l) lt) (some_list Item.BareVariable))) (inr (bindings_begun is (any 0) c.2 (any 0) (some_list Item.Variable))))
      (λ has w wide p g. inr (bindings_begun is (wide.below (level l) lt) c.2 (wide.below (level (with_lasting_mark l)) has) g)) less) (λ p f.
      body_stops p.0 b t.word (with_lasting_mark l) (behind refl (behind c.1 (past (unglue f.0 (f.1 ∷ []) f.3) (behind refl first))))
      (λ w wide. inr (bound_begun f.1 is (wide.below (level l) lt) c.2 (wide.below (level (with_lasting_mark l)) f.4) (wider wide f.5) f.6))
      (λ w wide k colon q g. inr (binder_begun f.1 k is (wide.below (level l) lt) c.2 (wide.below (level (with_lasting_mark l)) f.4) (wider wide f.5) f.6 colon g)) (rest a f.3 less)))
      (λ e. bind (list_with_sound go sound Item.BareVariable (with_lasting_mark l) us)
      (into (list_with_stops Item.BareVariable (below_zero go.limit (level l) lt) (with_lasting_mark l) us small) (behind refl first) (λ w wide p g. inr (bare_begun is (wide.below (level l) lt) g))) (λ p f.
      body_stops p.0 b t.word p.1 (behind refl (past f.1 first))
      (λ w wide. inr (bare_begun is (wide.below (level l) lt) (subst (λ z. Completes w (list Item.BareVariable) (with_lasting_mark l) z) (sym (append-nil f.0)) (completed (wider wide f.2)))))
      (λ w wide k colon q g. inr (bare_binder_begun k is (wide.below (level l) lt) (wider wide f.2) colon g)) (rest a f.1 small))))

  let_stops : (l : Nesting) (t : Terminal) (us : Tokens) → Is kind.Let t → length us < a → Stops (let_with go t.word l us) (Halts go.limit (λ w p. PrefixBegun w l p) (t ∷ us))
  let_stops l t us is small =
      room_then go.limit l (with_lasting_mark l) us _ (nested nothing (no_comma t refl is) (λ w wide. inl refl) (inr (let_begun is (any 0) (some_list Item.Definition)))) (λ lt.
      bind (list_with_sound go sound Item.Definition (with_lasting_mark l) us)
      (into (list_with_stops Item.Definition (below_zero go.limit (level l) lt) (with_lasting_mark l) us small) (behind refl first) (λ w wide p g. inr (let_begun is (wide.below (level l) lt) g))) (λ p f.
      expect_then kind.In p.2 _ (unexpected (put refl f.1) (λ w wide. inr (let_begun is (wide.below (level l) lt) (completed (wider wide f.2))))) (λ vs c.
      then_ (into (halting.expr (start.Chain connective.Iff) p.1 vs (next a c.1 (rest a f.1 small))) (behind refl (past f.1 (behind c.1 first))) (λ w wide q g. inr (in_begun c.0 is (wide.below (level l) lt) (wider wide f.2) c.2 g))) (λ q. goes))))

  not_stops : (l : Nesting) (t : Terminal) (us : Tokens) → Is kind.Not t → length us < a → Stops (not_with go t.word l us) (Halts go.limit (λ w p. PrefixBegun w l p) (t ∷ us))
  not_stops l t us is small =
      room_then go.limit l (with_mark l) us _ (nested nothing (no_comma t refl is) (λ w wide. inl refl) (inr (not_begun is (any 0) some_operand))) (λ lt.
      then_ (into (halting.expr start.Operand (with_mark l) us small) (behind refl first) (λ w wide p g. inr (not_begun is (wide.below (level l) lt) g))) (λ p. goes))

  prefixed_of_stops : (l : Nesting) (t : Terminal) (us : Tokens) (p : Prefix) → IsPrefix t p → length us < a → Stops (prefixed_with go l p t.word us) (Halts go.limit (λ w p. PrefixBegun w l p) (t ∷ us))
  prefixed_of_stops l t us prefixes.Negation is small = not_stops l t us is small
  prefixed_of_stops l t us (prefixes.Binder b) is small = binder_stops b l t us is small
  prefixed_of_stops l t us prefixes.Local is small = let_stops l t us is small

  prefixed_stops : (l : Nesting) (t : Terminal) (us : Tokens) (p : Prefix) → prefix t.kind ≡ Some p → length us < a → Stops (prefixed_with go l p t.word us) (Halts go.limit (λ w p. PrefixBegun w l p) (t ∷ us))
  prefixed_stops l t us p is small = prefixed_of_stops l t us p (is_prefix_kind t t.kind refl p is) small

  -- ---- operands and chains

  compared_from_stops : (n : ℕ) (x : Expr) (l0 l : Nesting) (all vs ts : Tokens) → Splits all vs ts → Derives go.limit (form Form.Comparisons) l0 vs x l → length ts ≤ a
      → Stops (compared_from go n x l ts) (Halts go.limit (λ w p. Begun w (λ e. Form.Operand e) l0 p) all)
  unfolding compared_from
  compared_from_stops zero x l0 l all vs ts s d small = goes
  compared_from_stops (suc n) x l0 l all vs ts s d small = cases
      (λ p e. let c = (compares_yields ts).holds p e in
      let less : length p.1 < a = next_le a c.1 small in
      room_then go.limit l (with_mark l) p.1 _ (nested (moved s c.1) (comparison_no_comma c.0 c.2) (λ w wide. compared_begun (completed (wider wide d))) (compares_begun c.0 (wider no_limit d) c.2 (any 0) some_term)) (λ lt. begins_then p.1 _ _
      (λ t us q e is. then_ (into (prefixed_stops (with_mark l) t us q is (next a e less)) (past s (behind c.1 (same_place e))) (λ w wide q g. compared_prefix c.0 (wider wide d) c.2 (wide.below (level l) lt) q g)) (λ r. goes))
      (bind (term_sound go sound (with_mark l) p.1) (into (term_stops (with_mark l) p.1 (fewer_le p.1 a less)) (past s (behind c.1 first)) (λ w wide q g. compares_begun c.0 (wider wide d) c.2 (wide.below (level l) lt) g)) (λ r f.
      compared_from_stops n (expr.Infix p.0 x r.0) l0 r.1 all (vs ++ c.0 ∷ f.1) r.2 (glue s (put c.1 f.2)) (Derives.compares f.0 l0 l r.1 vs f.1 x r.0 p.0 c.0 d c.2 lt f.3) (fewer_le r.2 a (rest a f.2 less))))))
      (λ e. goes)

  operand_stops : (l : Nesting) (ts : Tokens) → length ts ≤ a → Stops (operand_with go l ts) (Halts go.limit (λ w p. Begun w (λ e. Form.Operand e) l p) ts)
  operand_stops l ts small = begins_then ts _ _
      (λ t us q e is. into (prefixed_stops l t us q is (next_le a e small)) (same_place e) (λ w wide p g. prefix_operand p g))
      (bind (term_sound go sound l ts) (into (term_stops l ts small) first (λ w wide p g. term_begun g)) (λ p f.
      compared_from_stops (length ts) p.0 l p.1 ts f.1 p.2 f.2 (Derives.term f.0 l p.1 f.1 p.0 f.3) (rest_le a f.2 small)))

  chain_sign_stops : (c : Connective) (l : Nesting) (ts : Tokens) (p : Expr × Nesting × Tokens) (e : Ending) (vs : Tokens) → Splits ts vs p.2 → Derives go.limit (form (operand_form c e)) l vs p.0 p.1 → pull_of p.2 < reach (operand_form c e)
      → (us : Tokens) → Comes (sign c) p.2 us → length p.2 ≤ a
      → Stops {A = Expr × Nesting × Tokens} (mark go.limit p.1 us >>= λ m. go.expr (start.Chain c) m us >>= λ q. Ok (expr.Infix (operator c) p.0 q.0, q.1, q.2)) (Halts go.limit (λ w q. Begun w (λ e. Form.Chain c e) l q) ts)
  chain_sign_stops c l ts p Plain vs s d lt us b small =
      room_then go.limit p.1 (with_mark p.1) us _ (nested (moved s b.1) (sign_no_comma c b.0 b.2) (λ w wide. alone_begun c (Plain, completed (wider wide d))) (joined_begun c b.0 (wider no_limit d) b.2 (any 0) (some_chain c))) (λ has.
      then_ (into (halting.expr (start.Chain c) (with_mark p.1) us (next_le a b.1 small)) (past s (behind b.1 first)) (λ w wide q g. joined_begun c b.0 (wider wide d) b.2 (wide.below (level p.1) has) g)) (λ q. goes))
  chain_sign_stops c l ts p Bound vs s d lt us b small = absurd (bound_stops c p.2 us b.0 lt b.1 b.2)

  chain_on_stops : (c : Connective) (l : Nesting) (ts : Tokens) (r : Read Expr) → Yields r (Formed go.limit (λ e. operand_form c e) l ts) → Stops r (Halts go.limit (λ w p. Begun w (λ e. operand_form c e) l p) ts) → length ts ≤ a
      → Stops (chain_on go c r) (Halts go.limit (λ w p. Begun w (λ e. Form.Chain c e) l p) ts)
  chain_on_stops c l ts r y g small = bind y (into g first (λ w wide p g. alone_begun c g)) (λ p f. cases
      (λ us e. chain_sign_stops c l ts p f.0 f.1 f.2 f.3 f.4 us ((after_yields (sign c) p.2).holds us e) (rest_le a f.2 small))
      (λ e. goes))

  and_stops : (l : Nesting) (ts : Tokens) → length ts ≤ a → Stops (chain_on go connective.And (operand_with go l ts)) (Halts go.limit (λ w p. Begun w (λ e. Form.Chain connective.And e) l p) ts)
  and_stops l ts small = chain_on_stops connective.And l ts (operand_with go l ts) (operand_sound go sound l ts) (operand_stops l ts small) small

  or_stops : (l : Nesting) (ts : Tokens) → length ts ≤ a → Stops (chain_on go connective.Or (chain_on go connective.And (operand_with go l ts))) (Halts go.limit (λ w p. Begun w (λ e. Form.Chain connective.Or e) l p) ts)
  or_stops l ts small = chain_on_stops connective.Or l ts (between_with go connective.Or l ts) (between_sound go sound connective.Or l ts) (and_stops l ts small) small

  between_stops : (c : Connective) (l : Nesting) (ts : Tokens) → length ts ≤ a → Stops (between_with go c l ts) (Halts go.limit (λ w p. Begun w (λ e. operand_form c e) l p) ts)
  between_stops connective.And l ts small = operand_stops l ts small
  between_stops connective.Or l ts small = and_stops l ts small
  between_stops connective.Implies l ts small = or_stops l ts small
  between_stops connective.Iff l ts small = chain_on_stops connective.Implies l ts (between_with go connective.Implies l ts) (between_sound go sound connective.Implies l ts) (or_stops l ts small) small

  chain_stops : (c : Connective) (l : Nesting) (ts : Tokens) → length ts ≤ a → Stops (chain_with go c l ts) (Halts go.limit (λ w p. Begun w (λ e. Form.Chain c e) l p) ts)
  chain_stops c l ts small = chain_on_stops c l ts (between_with go c l ts) (between_sound go sound c l ts) (between_stops c l ts small) small

  -- ---- the end of an IF

  otherwise_of_stops : (l : Nesting) (t : Terminal) (ts : Tokens) (k : TerminalKind) → t.kind ≡ k → length ts < a → Stops (otherwise_of go l t ts k) (Halts go.limit (λ w p. Completes w (form Form.Otherwise) l p) (t ∷ ts))
  otherwise_of_stops l t ts kind.Else is small =
      bind (expression_sound go sound (without_marks l) ts) (into (expression_stops (without_marks l) ts small) (behind refl first) (λ w wide p g. else_begun is g)) (λ p f.
      expect_then kind.EndIf p.2 _ (unexpected (put refl f.1) (λ w wide. else_begun is (completed (wider wide f.2)))) (λ us b. goes))
  otherwise_of_stops l t ts kind.Elsif is small =
      room_then go.limit (without_marks l) (with_lasting_mark (without_marks l)) ts _ (nested nothing (no_comma t refl is) (λ w wide. some_otherwise) (elsif_begun is (any 0) (test_begun some_expr))) (λ lt.
      into (cond_stops t.word (with_lasting_mark (without_marks l)) ts small) (behind refl first) (λ w wide p g. elsif_begun is (wide.below (level (without_marks l)) lt) g))
  otherwise_of_stops l t ts _ is small = stopped (unexpected nothing (λ w wide. some_otherwise))

  otherwise_stops : (l : Nesting) (ts : Tokens) → length ts ≤ a → Stops (otherwise_with go l ts) (Halts go.limit (λ w p. Completes w (form Form.Otherwise) l p) ts)
  otherwise_stops l [] small = stopped (unexpected nothing (λ w wide. some_otherwise))
  otherwise_stops l (t ∷ ts) small = otherwise_of_stops l t ts t.kind refl (omega (arith, small))

  -- ---- types

  -- after the components of a domain and the arrow
  fun_stops : (l k : Nesting) (t u : Terminal) (ts vs : Tokens) (bs : List Binding) (end us : Tokens) → Splits ts vs end → Is kind.OpenBracket t → HasRoom go.limit l → Derives go.limit (list Item.Component) (in_frame l) vs bs k
      → end ≡ u ∷ us → Is kind.Arrow u → length us < a → Stops (fun_type_with go l t.word bs k us) (Halts go.limit (λ w p. Completes w type_ l p) (t ∷ ts))
  fun_stops l k t u ts vs bs end us s is lt d e arrow small =
      bind (sound.type k us) (into (halting.type k us small) (behind refl (past s (behind e first))) (λ w wide p g. range_begun u is (wide.below (level l) lt) (wider wide d) arrow g)) (λ p f.
      expect_then kind.CloseBracket p.2 _ (unexpected (put refl (glue s (put e f.1))) (λ w wide. range_begun u is (wide.below (level l) lt) (wider wide d) arrow (completed (wider wide f.2)))) (λ ws b. goes))

  tuple_stops : (l k : Nesting) (t : Terminal) (ts vs : Tokens) (bs : List Binding) (end : Tokens) → Splits ts vs end → Is kind.OpenBracket t → HasRoom go.limit l → Derives go.limit (list Item.Component) (in_frame l) vs bs k
      → Stops (tuple_type l t.word bs end) (Halts go.limit (λ w p. Completes w type_ l p) (t ∷ ts))
  tuple_stops l k t ts vs [] end s is lt d = stopped (unexpected (put refl s) (λ w wide. domain_begun is (wide.below (level l) lt) (completed (wider wide d))))
  tuple_stops l k t ts vs (b ∷ []) end s is lt d = stopped (unexpected (put refl s) (λ w wide. domain_begun is (wide.below (level l) lt) (completed (wider wide d))))
  tuple_stops l k t ts vs (b ∷ c ∷ bs) end s is lt d = expect_then kind.CloseBracket end _ (unexpected (put refl s) (λ w wide. domain_begun is (wide.below (level l) lt) (completed (wider wide d)))) (λ us b. goes)

  base_stops : (l : Nesting) (t : Terminal) (ts : Tokens) → Is kind.OpenBrace t → HasRoom go.limit l → length ts < a → Stops (base_with go (in_frame l) ts) (Halts go.limit (λ w p. Completes w type_ l p) (t ∷ ts))
  base_stops l t ts is lt small = id_then ts _ (unexpected (alone refl) (λ w wide. brace_begun is (wide.below (level l) lt))) (λ u us e id.
      expect_then kind.Colon us _ (unexpected (put refl (alone e)) (λ w wide. brace_id_begun is (wide.below (level l) lt) id)) (λ vs c.
      let less : length vs < a = next a c.1 (next a e small) in
      bind (sound.type (in_frame l) vs) (into (halting.type (in_frame l) vs less) (behind refl (behind e (behind c.1 first))) (λ w wide p g. base_begun is (wide.below (level l) lt) id c.2 g)) (λ p f.
      expect_then kind.Bar p.2 _ (unexpected (put refl (put e (put c.1 f.1))) (λ w wide. base_begun is (wide.below (level l) lt) id c.2 (completed (wider wide f.2)))) (λ ws b. goes))))

  sub_stops : (l : Nesting) (t : Terminal) (ts : Tokens) → Is kind.OpenBrace t → length ts < a → Stops (sub_type_with go l t.word ts) (Halts go.limit (λ w p. Completes w type_ l p) (t ∷ ts))
  sub_stops l t ts is small =
      room_then go.limit l (in_frame l) ts _ (nested nothing (no_comma t refl is) (λ w wide. some_type) (brace_begun is (any 0))) (λ lt.
      bind (base_sound go sound (in_frame l) ts) (base_stops l t ts is lt small) (λ p f.
      let place : Place (t ∷ ts) (λ q. t ∷ f.t ∷ f.u ∷ (f.vs ++ f.w ∷ q)) p.3 = behind refl (within_brace f.t f.u f.vs f.w f.split) in
      bind (expression_sound go sound p.2 p.3) (into (expression_stops p.2 p.3 (rest a f.split small)) place (λ w wide q g. sub_begun f.w is (wide.below (level l) lt) f.id f.colon (wider wide f.type) f.bar g)) (λ q g.
      expect_then kind.CloseBrace q.2 _ (unexpected (upto place g.1) (λ w wide. sub_begun f.w is (wide.below (level l) lt) f.id f.colon (wider wide f.type) f.bar (completed (wider wide g.2)))) (λ vs b. goes))))

  type_of_stops : (l : Nesting) (t : Terminal) (ts : Tokens) (k : TerminalKind) → t.kind ≡ k → length ts < a → Stops (type_of go l t ts k) (Halts go.limit (λ w p. Completes w type_ l p) (t ∷ ts))
  type_of_stops l t ts kind.Id is small = then_ (into (name_after_stops l t ts (ap is_id is) small) first (λ w wide p g. name_type_begun g)) (λ p. goes)
  type_of_stops l t ts kind.Proof is small = then_ (into (name_after_stops l t ts (ap is_id is) small) first (λ w wide p g. name_type_begun g)) (λ p. goes)
  type_of_stops l t ts kind.Open is small =
      room_then go.limit l (in_frame l) ts _ (nested nothing (no_comma t refl is) (λ w wide. some_type) (pred_begun is (any 0) some_expr)) (λ lt.
      bind (expression_sound go sound (in_frame l) ts) (into (expression_stops (in_frame l) ts small) (behind refl first) (λ w wide p g. pred_begun is (wide.below (level l) lt) g)) (λ p f.
      expect_then kind.Close p.2 _ (unexpected (put refl f.1) (λ w wide. pred_begun is (wide.below (level l) lt) (completed (wider wide f.2)))) (λ us b. goes)))
  type_of_stops l t ts kind.OpenBrace is small = sub_stops l t ts is small
  type_of_stops l t ts kind.OpenBracket is small =
      room_then go.limit l (in_frame l) ts _ (nested nothing (no_comma t refl is) (λ w wide. some_type) (domain_begun is (any 0) (some_list Item.Component))) (λ lt.
      bind (list_with_sound go sound Item.Component (in_frame l) ts)
      (into (list_with_stops Item.Component (below_zero go.limit (level l) lt) (in_frame l) ts small) (behind refl first) (λ w wide p g. domain_begun is (wide.below (level l) lt) g)) (λ p f. cases
      (λ us e. let c = (after_yields kind.Arrow p.2).holds us e in fun_stops l p.1 t c.0 ts f.0 p.0 p.2 us f.1 is lt f.2 c.1 c.2 (next a c.1 (rest a f.1 small)))
      (λ e. tuple_stops l p.1 t ts f.0 p.0 p.2 f.1 is lt f.2)))
  type_of_stops l t ts _ is small = stopped (unexpected nothing (λ w wide. some_type))

  type_stops : (l : Nesting) (ts : Tokens) → length ts ≤ a → Stops (type_with go l ts) (Halts go.limit (λ w p. Completes w type_ l p) ts)
  type_stops l [] small = stopped (unexpected nothing (λ w wide. some_type))
  type_stops l (t ∷ ts) small = type_of_stops l t ts t.kind refl (omega (arith, small))

  -- ---- the whole

  step_expr_stops : (s : Start) (l : Nesting) (ts : Tokens) → length ts ≤ a → Stops (expr_with go s l ts) (Halts go.limit (λ w p. StartBegun w s l p) ts)
  step_expr_stops (start.Chain c) l ts small = chain_stops c l ts small
  step_expr_stops start.Operand l ts small = operand_stops l ts small
  step_expr_stops start.Otherwise l ts small = otherwise_stops l ts small

  step_halting : Halting (next_readers go) (suc a)
  step_halting = record { expr = λ s l ts small. step_expr_stops s l ts (omega (arith, small)); type = λ l ts small. type_stops l ts (omega (arith, small)) }

too_small : (ts : Tokens) → length ts < 0 → ⊥
too_small ts lt = omega (arith, lt)

-- where the reading of fewer tokens than so many stops
pub reader_halting : (limit : Limit) (a : ℕ) → Halting (reader limit a) a
unfolding reader
reader_halting limit zero = record { expr = λ s l ts small. absurd (too_small ts small); type = λ l ts small. absurd (too_small ts small) }
reader_halting limit (suc a) = step_halting (reader limit a) (sound_reader limit a) a (reader_halting limit a)
