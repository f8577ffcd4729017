-- Reading expressions and types looks at no token after the one where it stops.
use Rattle.std.proofs.Common.{◌≡◌, ◌∙◌, ℕ, zero, suc, ◌+◌, ◌-◌, ◌<◌, ◌≤◌, ◌||◌, ◌⊎◌, inl, inr, Bool, true, false, if◌then◌else◌, List, [], ◌∷◌, ◌++◌, length, Option, Some, None, Ok, Err, refl, sym, ap, subst, arith}
use Rattle.pvs_parser.specs.declared.failure.Reason.TheVariants as reason
use Rattle.pvs_parser.specs.declared.nesting.Nesting.{Nesting}
use Rattle.pvs_parser.specs.declared.start.Start.{Start}
use Rattle.pvs_parser.specs.declared.start.Start.TheVariants as start
use Rattle.pvs_parser.specs.declared.terminal.Connective.{Connective}
use Rattle.pvs_parser.specs.declared.terminal.Connective.TheVariants as connective
use Rattle.pvs_parser.specs.declared.terminal.Prefix.{Prefix}
use Rattle.pvs_parser.specs.declared.terminal.Prefix.TheVariants as prefixes
use Rattle.pvs_parser.specs.declared.terminal.Terminal.{Terminal}
use Rattle.pvs_parser.specs.declared.terminal.TerminalKind.{TerminalKind}
use Rattle.pvs_parser.specs.declared.terminal.TerminalKind.TheVariants as kind
use Rattle.pvs_syntax.specs.declared.word.Word.{Word}
use Rattle.pvs_syntax.specs.declared.expression.Actual.{Actual}
use Rattle.pvs_syntax.specs.declared.expression.Actual.TheVariants as actuals
use Rattle.pvs_syntax.specs.declared.expression.Binding.{Binding}
use Rattle.pvs_syntax.specs.declared.expression.BinderWord.{BinderWord}
use Rattle.pvs_syntax.specs.declared.expression.InfixWord.{InfixWord}
use Rattle.pvs_syntax.specs.declared.expression.Expr.{Expr}
use Rattle.pvs_syntax.specs.declared.expression.Expr.TheVariants as expr
use Rattle.pvs_syntax.specs.declared.expression.TypeExpr.{TypeExpr}
use Rattle.pvs_syntax.specs.declared.expression.TypeExpr.TheVariants as type_expr
use Rattle.pvs_parser.specs.Terminals.{IsId, is_id, same_kind}
use Rattle.pvs_parser.specs.Language.{Tokens, Limit, Item, in_frame, without_marks, with_mark, with_lasting_mark, sign, operator, simple_name, name_with_theory, instance, typed_binding, untyped_binding, equation, empty_word, group_tree, begins_type}
use Rattle.pvs_parser.specs.code.Descent.{Answer, Read, Readers, either, begins, begins_of, prefix, stop, too_many, nested_expr, after, id, label_of, mark, parameter_of, parameter_with, unnamed_with, typed_with, component_with, variable_with, bare_variable, value_with, definition_with, item_with, end_of_list, list_from, starts_expr, starts_type, starts_item, entries, list_with, framed_with, name_of, instance_name_with, name_after, group_with, condition_with, cond_with, if_with, name_term_with, first_of, first_with, call_mark, call_with, project, term_from, term_with, body_with, bindings_with, bare_bindings_with, binder_with, let_with, not_with, prefixed_with, last_with, compared_from, comparison_with, operand_with, chain_after, chain_on, between_with, chain_with, else_with, elsif_with, otherwise_of, otherwise_with, pred_type_with, base_with, sub_type_with, fun_type_with, tuple_type, bracket_type_with, name_type_with, type_of, type_with, expr_with, next_readers, reader}
use Rattle.pvs_base.specs.Answers.{◌>>=◌}
use Rattle.pvs_parser.proofs.DescentSound.{reader_limit}
use Rattle.pvs_parser.proofs.Cuts.{Cut, Mode, Meets, Took, Low, Shape, two, three, four, Goes, Shrinks, Agrees, Takes, Enters, Opens, Later, low_later, Rooms, beyond, bind, done_two, done_three, done_four, weaken, low_less, low_more, raise, heads, stops, pick, after_or, bind_later, after_later, compares_later, begins_later, compares_past, begins_past, room_past, later_trans, bind_past, after_past, too_many_goes, expect_then, id_then, number_then, begins_or, room_then, length_cut}

-- the entries of lists are as many in both readings, or any number in the other, where that is excused
abbrev pub Lists : Cut → Limit → Limit → Type 0
Lists cut a b = (k : ℕ) × (a ≡ Some k) × ((b ≡ Some k) ⊎ ((b ≡ None) × (cut.excused reason.TooNested ≡ true)))

-- what is known of reading deeper in two ways, of fewer tokens than n before the cut
pub record Deep (cut : Cut) (n : ℕ) (go other : Readers) : Type 0 where
  pub rooms : Rooms cut go.limit other.limit
  pub lists : Lists cut go.limit other.limit
  pub expr : (s : Start) (l : Nesting) → Enters cut three n (go.expr s l) (other.expr s l)
  pub type : (l : Nesting) → Enters cut three n (go.type l) (other.type l)
  -- a type that begins with an identifier takes it
  pub names : (l : Nesting) (t : Terminal) (ts : Tokens) → 1 ≤ n → IsId t → length ts ≤ length cut.here → Shrinks cut three (go.type l (t ∷ ts))
  -- what begins no expression or type stops the other reading
  pub no_expr : (l : Nesting) (t : Terminal) (ts : Tokens) → starts_expr t.kind ≡ false → other.expr (start.Chain connective.Iff) l (t ∷ ts) ≡ stop (t ∷ ts)
  pub no_type : (l : Nesting) (t : Terminal) (ts : Tokens) → starts_type t.kind ≡ false → other.type l (t ∷ ts) ≡ stop (t ∷ ts)

-- ---- items

deeper_goes : (cut : Cut) (n : ℕ) (go other : Readers) → Deep cut n go other → (l : Nesting) → Enters cut three n (nested_expr go l) (nested_expr other l)
deeper_goes cut n go other d l mode m low ts us h = d.expr (start.Chain connective.Iff) l mode m low ts us h

typed_goes : (cut : Cut) (n : ℕ) (go other : Readers) → Deep cut n go other → (w : Word) (l : Nesting) → Enters cut three n (typed_with go w l) (typed_with other w l)
typed_goes cut n go other d w l mode m low ts us h =
    bind cut three three mode m n low _ _ _ _ (d.type l mode m low ts us h) (λ x a la ws k. done_three cut a m (typed_binding w x.0) x.1 x.2 ws k)

parameter_of_goes : (cut : Cut) (n : ℕ) (go other : Readers) → Deep cut n go other → (l : Nesting) (b : Bool) → Enters cut three n (λ ts. parameter_of go l ts b) (λ us. parameter_of other l us b)
parameter_of_goes cut n go other d l true mode m low ts us h =
    bind cut three three mode m n low _ _ _ _ (d.type l mode m low ts us h) (λ x a la ws k. done_three cut a m (actuals.TypeActual x.0) x.1 x.2 ws k)
parameter_of_goes cut n go other d l false mode m low ts us h =
    bind cut three three mode m n low _ _ _ _ (deeper_goes cut n go other d l mode m low ts us h) (λ x a la ws k. done_three cut a m (actuals.ExprActual x.0) x.1 x.2 ws k)

parameter_goes : (cut : Cut) (n : ℕ) (go other : Readers) → Deep cut n go other → (l : Nesting) → Enters cut three n (parameter_with go l) (parameter_with other l)
parameter_goes cut n go other d l mode m low ts us h =
    heads cut three mode m (λ z. parameter_with go l z) (λ z. parameter_with other l z) ts us h (parameter_of_goes cut n go other d l false Mode.Past m tt [] [] (omega arith))
    (λ a la t vs ws meets took less. parameter_of_goes cut n go other d l (begins_type t.kind) a m (low_later mode a m n la low) (t ∷ vs) (t ∷ ws) meets)

unnamed_goes : (cut : Cut) (n : ℕ) (go other : Readers) → Deep cut n go other → (l : Nesting) → Enters cut three n (unnamed_with go l) (unnamed_with other l)
unnamed_goes cut n go other d l mode m low ts us h =
    heads cut three mode m (λ z. unnamed_with go l z) (λ z. unnamed_with other l z) ts us h (omega arith)
    (λ a la t vs ws meets took less. bind cut three three a m n (low_later mode a m n la low) _ _ _ _ (d.type l a m (low_later mode a m n la low) (t ∷ vs) (t ∷ ws) meets)
    (λ x b lb xs k. done_three cut b m (typed_binding (empty_word t.word) x.0) x.1 x.2 xs k))

variable_goes : (cut : Cut) (n : ℕ) (go other : Readers) → Deep cut n go other → (l : Nesting) → Enters cut three n (variable_with go l) (variable_with other l)
variable_goes cut n go other d l mode m low ts us h =
    id_then cut three mode m n (low_more mode m n low) _ _ ts us h (λ a la w vs ws took.
    after_or cut three a (m - 1) n (low_more a (m - 1) n la) kind.Colon _ _ (λ z. Ok (untyped_binding w, l, z)) (λ z. Ok (untyped_binding w, l, z)) vs ws (weaken cut a (m - 1) vs ws took)
    (λ b lb xs ys took2. typed_goes cut n go other d w l b (m - 1 - 1) lb xs ys (weaken cut b (m - 1 - 1) xs ys took2))
    (λ b lb xs ys k. done_three cut b (m - 1) (untyped_binding w) l xs ys k))

bare_goes : (cut : Cut) (n : ℕ) (l : Nesting) → Enters cut three n (bare_variable l) (bare_variable l)
bare_goes cut n l mode m low ts us h =
    id_then cut three mode m n (low_more mode m n low) _ _ ts us h (λ a la w vs ws took. done_three cut a (m - 1) (untyped_binding w) l vs ws (weaken cut a (m - 1) vs ws took))

value_goes : (cut : Cut) (n : ℕ) (go other : Readers) → Deep cut n go other → (w : Word) (o : Option TypeExpr) (l : Nesting) → Opens cut three n (value_with go w o l) (value_with other w o l)
value_goes cut n go other d w o l mode m low ts us h =
    expect_then cut three mode m n low kind.Equal _ _ ts us h (λ a la vs ws took.
    bind cut three three a (m - 1) n la _ _ _ _ (deeper_goes cut n go other d l a (m - 1) la vs ws (weaken cut a (m - 1) vs ws took)) (λ x b lb xs k. done_three cut b (m - 1) (equation w o x.0) x.1 x.2 xs k))

definition_goes : (cut : Cut) (n : ℕ) (go other : Readers) → Deep cut n go other → (l : Nesting) → Enters cut three n (definition_with go l) (definition_with other l)
definition_goes cut n go other d l mode m low ts us h =
    id_then cut three mode m n (low_more mode m n low) _ _ ts us h (λ a la w vs ws took.
    after_or cut three a (m - 1) n (low_more a (m - 1) n la) kind.Colon _ _ (λ z. value_with go w None l z) (λ z. value_with other w None l z) vs ws (weaken cut a (m - 1) vs ws took)
    (λ b lb xs ys took2. bind cut three three b (m - 1 - 1) n lb _ _ _ _ (d.type l b (m - 1 - 1) lb xs ys (weaken cut b (m - 1 - 1) xs ys took2))
    (λ x c lc zs k. value_goes cut n go other d w (Some x.0) x.1 c (m - 1 - 1) (low_more c (m - 1 - 1) n lc) x.2 zs k))
    (λ b lb xs ys k. value_goes cut n go other d w None l b (m - 1) lb xs ys k))

-- ---- components

-- past the cut
labels_past : (cut : Cut) (n : ℕ) (go other : Readers) → Deep cut n go other → (l : Nesting) (ts : Tokens) → length ts ≤ length cut.here → Shrinks cut three (component_with go l ts)
labels_past cut n go other d l [] h = unnamed_goes cut n go other d l Mode.Past 0 tt [] [] h
labels_past cut n go other d l (t ∷ ts) h = one (is_id t.kind) where
  typed_past : (us : Tokens) → length us ≤ length cut.here → Shrinks cut three (typed_with go t.word l us)
  typed_past us h = typed_goes cut n go other d t.word l Mode.Past 0 tt us us h

  unnamed_past : Shrinks cut three (unnamed_with go l (t ∷ ts))
  unnamed_past = unnamed_goes cut n go other d l Mode.Past 0 tt (t ∷ ts) (t ∷ ts) h

  two_of : (us : Tokens) → length us ≤ length cut.here → Shrinks cut three (either (label_of t.word (after kind.Colon us)) (λ p. typed_with go p.0 l p.1) (unnamed_with go l (t ∷ ts)))
  two_of [] h = unnamed_past
  two_of (u ∷ us) h = three_of (same_kind u.kind kind.Colon) where
    three_of : (b : Bool) → Shrinks cut three (either (label_of t.word (if b then Some us else None)) (λ p. typed_with go p.0 l p.1) (unnamed_with go l (t ∷ ts)))
    three_of true = typed_past us (omega (arith, h))
    three_of false = unnamed_past

  one : (b : Bool) → Shrinks cut three (either (if b then label_of t.word (after kind.Colon ts) else None) (λ p. typed_with go p.0 l p.1) (unnamed_with go l (t ∷ ts)))
  one true = two_of ts (omega (arith, h))
  one false = unnamed_past

-- an identifier is the last token before the cut
last_id : (cut : Cut) (n : ℕ) (go other : Readers) → Deep cut n go other → 1 ≤ n → (l : Nesting) (t : Terminal) (ts : Tokens) → IsId t → length ts ≤ length cut.here
    → Shrinks cut three (either (label_of t.word (after kind.Colon ts)) (λ p. typed_with go p.0 l p.1) (unnamed_with go l (t ∷ ts)))
last_id cut n go other d le l t ts is h = two_of ts h where
  unnamed_of : (o : Read TypeExpr) → Shrinks cut three o → Shrinks cut three (o >>= λ q. Ok (typed_binding (empty_word t.word) q.0, q.1, q.2))
  unnamed_of (Ok x) h = h
  unnamed_of (Err e) h = h

  unnamed_past : Shrinks cut three (unnamed_with go l (t ∷ ts))
  unnamed_past = unnamed_of (go.type l (t ∷ ts)) (d.names l t ts le is h)

  two_of : (us : Tokens) → length us ≤ length cut.here → Shrinks cut three (either (label_of t.word (after kind.Colon us)) (λ p. typed_with go p.0 l p.1) (unnamed_with go l (t ∷ ts)))
  two_of [] h = unnamed_past
  two_of (u ∷ us) h = three_of (same_kind u.kind kind.Colon) where
    three_of : (b : Bool) → Shrinks cut three (either (label_of t.word (if b then Some us else None)) (λ p. typed_with go p.0 l p.1) (unnamed_with go l (t ∷ ts)))
    three_of true = typed_goes cut n go other d t.word l Mode.Past 0 tt us us (omega (arith, h))
    three_of false = unnamed_past

-- before the cut
component_before : (cut : Cut) (n : ℕ) (go other : Readers) → Deep cut n go other → (l : Nesting) (m : ℕ) → m < n → (q : Tokens) → length q ≤ m → Agrees cut three m (component_with go l (q ++ cut.here)) (component_with other l (q ++ cut.there))
component_before cut n go other d l m low [] le = beyond cut three m _ _ (labels_past cut n go other d l cut.here (omega arith))
component_before cut n go other d l m low (t ∷ []) le = one (is_id t.kind) refl where
  one : (b : Bool) → is_id t.kind ≡ b → Agrees cut three m (either (if b then label_of t.word (after kind.Colon cut.here) else None) (λ p. typed_with go p.0 l p.1) (unnamed_with go l (t ∷ cut.here)))
      (either (if b then label_of t.word (after kind.Colon cut.there) else None) (λ p. typed_with other p.0 l p.1) (unnamed_with other l (t ∷ cut.there)))
  one true is = beyond cut three m _ _ (last_id cut n go other d (omega (arith, low)) l t cut.here is (omega arith))
  one false is = unnamed_goes cut n go other d l Mode.Before m low (t ∷ cut.here) (t ∷ cut.there) (t ∷ [], refl, refl, le)
component_before cut n go other d l m low (t ∷ u ∷ q) le = one (is_id t.kind) (same_kind u.kind kind.Colon) where
  ts : Tokens
  ts = t ∷ u ∷ (q ++ cut.here)

  us : Tokens
  us = t ∷ u ∷ (q ++ cut.there)

  unnamed : Agrees cut three m (unnamed_with go l ts) (unnamed_with other l us)
  unnamed = unnamed_goes cut n go other d l Mode.Before m low ts us (t ∷ u ∷ q, refl, refl, le)

  one : (b c : Bool) → Agrees cut three m (either (if b then label_of t.word (if c then Some (q ++ cut.here) else None) else None) (λ p. typed_with go p.0 l p.1) (unnamed_with go l ts))
      (either (if b then label_of t.word (if c then Some (q ++ cut.there) else None) else None) (λ p. typed_with other p.0 l p.1) (unnamed_with other l us))
  one true true = typed_goes cut n go other d t.word l Mode.Before m low (q ++ cut.here) (q ++ cut.there) (q, refl, refl, omega (arith, le))
  one true false = unnamed
  one false c = unnamed

component_goes : (cut : Cut) (n : ℕ) (go other : Readers) → Deep cut n go other → (l : Nesting) → Enters cut three n (component_with go l) (component_with other l)
component_goes cut n go other d l Mode.Past m low ts us h = labels_past cut n go other d l ts h
component_goes cut n go other d l Mode.Before m low ts us (q, e, e2, le) =
    subst (λ z. Agrees cut three m (component_with go l z) (component_with other l us)) (sym e) (subst (λ z. Agrees cut three m (component_with go l (q ++ cut.here)) (component_with other l z)) (sym e2) (component_before cut n go other d l m low q le))

item_goes : (cut : Cut) (n : ℕ) (go other : Readers) → Deep cut n go other → (i : Item) (l : Nesting) → Enters cut three n (item_with go i l) (item_with other i l)
item_goes cut n go other d Item.Expression l = deeper_goes cut n go other d l
item_goes cut n go other d Item.Parameter l = parameter_goes cut n go other d l
item_goes cut n go other d Item.Component l = component_goes cut n go other d l
item_goes cut n go other d Item.Variable l = variable_goes cut n go other d l
item_goes cut n go other d Item.BareVariable l = bare_goes cut n l
item_goes cut n go other d Item.Definition l = definition_goes cut n go other d l

-- ---- lists

-- so many turns are enough for the tokens before the cut and these after it
abbrev pub HasSpace : Mode → Tokens → ℕ → ℕ → Type 0
HasSpace Mode.Past behind m k = Unit {0}
HasSpace Mode.Before behind m k = m + length behind ≤ k

pub fits_less : (mode : Mode) (behind : Tokens) (m k : ℕ) → Low mode (m - 1) m → HasSpace mode behind m (suc k) → HasSpace mode behind (m - 1) k
fits_less Mode.Past behind m k h f = tt
fits_less Mode.Before behind m k h f = omega (arith, h, f)

pub fits_later : (mode later : Mode) (behind : Tokens) (m k : ℕ) → Later mode later → HasSpace mode behind m k → HasSpace later behind m k
fits_later Mode.Past Mode.Past behind m k l f = tt
fits_later Mode.Past Mode.Before behind m k l f = absurd l
fits_later Mode.Before Mode.Past behind m k l f = tt
fits_later Mode.Before Mode.Before behind m k l f = f

-- the entries that two readings of a list may have: as many, or one more is excused and there is room in the other
abbrev pub Enough : Cut → Mode → ℕ → ℕ → ℕ → Type 0
Enough cut mode k j m = (k ≡ j) ⊎ ((cut.excused reason.TooNested ≡ true) × HasSpace mode cut.there m j)

-- what is read in two ways, where the other one takes only what may begin an item
pub record Items {A : Type 0} (cut : Cut) (n : ℕ) (starts : TerminalKind → Bool) (reads others : Nesting → Tokens → Read A) : Type 0 where
  pub reading : (l : Nesting) → Enters cut three n (reads l) (others l)
  pub rejects : (l : Nesting) (t : Terminal) (ts : Tokens) → starts t.kind ≡ false → others l (t ∷ ts) ≡ stop (t ∷ ts)

many_stop : {X : Type 0} (cut : Cut) (s : Shape X) (ts : Tokens) → length ts ≤ length cut.here → Shrinks cut s (too_many ts)
many_stop cut s ts h = h

pub crowded_past : {A : Type 0} (cut : Cut) (s : Shape A) (starts : TerminalKind → Bool) (ts : Tokens) → length ts ≤ length cut.here → Shrinks cut s (end_of_list starts ts)
crowded_past cut s starts [] h = h
crowded_past cut s starts (t ∷ ts) h = one (starts t.kind) where
  one : (b : Bool) → Shrinks cut s (if b then too_many (t ∷ ts) else stop (t ∷ ts))
  one true = h
  one false = h

pub list_past : {A : Type 0} (cut : Cut) (n : ℕ) (starts : TerminalKind → Bool) (reads others : Nesting → Tokens → Read A) → Items cut n starts reads others → (k : ℕ) (found : List A) (l : Nesting) (ts : Tokens) → length ts ≤ length cut.here
    → Shrinks cut three (list_from starts reads k found l ts)
unfolding list_from
list_past cut n starts reads others i zero found l ts h = crowded_past cut three starts ts h
list_past cut n starts reads others i (suc k) found l ts h =
    bind_past cut three three (reads l ts) _ (i.reading l Mode.Past 0 tt ts ts h) (λ x hx.
    after_past cut three kind.Comma _ (λ z. Ok (found ++ x.0 ∷ [], x.1, z)) x.2 hx (λ vs lt. list_past cut n starts reads others i k (found ++ x.0 ∷ []) (without_marks x.1) vs (omega (arith, lt))) (λ vs le. le))

-- one entry too many, which is excused, or one that is none
crowded_excused : {A : Type 0} (cut : Cut) (n : ℕ) (starts : TerminalKind → Bool) (reads others : Nesting → Tokens → Read A) → Items cut n starts reads others → cut.excused reason.TooNested ≡ true
    → (mode : Mode) (m j : ℕ) (found : List A) (l : Nesting) (ts us : Tokens) → Meets cut mode m ts us → Goes cut three mode m (end_of_list starts ts) (list_from starts others (suc j) found l us)
unfolding list_from
crowded_excused {A = A} cut n starts reads others i ex mode m j found l ts us h =
    heads cut three mode m (λ z. end_of_list starts z) (λ z. list_from starts others (suc j) found l z) ts us h (omega arith) (λ a la t vs ws meets took less. one a t vs ws meets (starts t.kind) refl) where
      excuse : (a : Mode) (t : Terminal) (vs ws : Tokens) (o : Read (List A)) → Meets cut a m (t ∷ vs) (t ∷ ws) → Goes cut three a m (too_many (t ∷ vs)) o
      excuse Mode.Past t vs ws o meets = meets
      excuse Mode.Before t vs ws o meets = inr (inl ex)

      one : (a : Mode) (t : Terminal) (vs ws : Tokens) → Meets cut a m (t ∷ vs) (t ∷ ws) → (b : Bool) → starts t.kind ≡ b
          → Goes cut three a m (if b then too_many (t ∷ vs) else stop (t ∷ vs)) (others l (t ∷ ws) >>= λ p. either (after kind.Comma p.2) (λ us. list_from starts others j (found ++ p.0 ∷ []) (without_marks p.1) us) (Ok (found ++ p.0 ∷ [], p.1, p.2)))
      one a t vs ws meets true is = excuse a t vs ws _ meets
      one a t vs ws meets false is =
          subst (λ z. Goes cut three a m (stop (t ∷ vs)) (z >>= λ p. either (after kind.Comma p.2) (λ us. list_from starts others j (found ++ p.0 ∷ []) (without_marks p.1) us) (Ok (found ++ p.0 ∷ [], p.1, p.2))))
          (sym (i.rejects l t ws is)) (stops cut three a m (t ∷ vs) (t ∷ ws) meets)

pub crowded_goes : {X : Type 0} (cut : Cut) (s : Shape X) (starts : TerminalKind → Bool) (mode : Mode) (m : ℕ) (ts us : Tokens) → Meets cut mode m ts us → Goes cut s mode m (end_of_list starts ts) (end_of_list starts us)
crowded_goes cut s starts mode m ts us h =
    heads cut s mode m (λ z. end_of_list starts z) (λ z. end_of_list starts z) ts us h (omega arith) (λ a la t vs ws meets took less. pick cut s a m (starts t.kind) _ _ _ _ (λ e. too_many_goes cut s a m t vs ws meets) (λ e. stops cut s a m (t ∷ vs) (t ∷ ws) meets))

same_turns : (k j : ℕ) → suc k ≡ suc j → k ≡ j
same_turns k j e = omega (arith, e)

enough_less : (cut : Cut) (mode later : Mode) (k j m : ℕ) → Later mode later → Low later (m - 1) m → Enough cut mode (suc k) (suc j) m → Enough cut later k j (m - 1)
enough_less cut mode later k j m l h (inl e) = inl (same_turns k j e)
enough_less cut mode later k j m l h (inr e) = inr (e.0, fits_less later cut.there m j h (fits_later mode later cut.there m (suc j) l e.1))

pub list_goes : {A : Type 0} (cut : Cut) (n : ℕ) (starts : TerminalKind → Bool) (reads others : Nesting → Tokens → Read A) → Items cut n starts reads others → (k j : ℕ) (mode : Mode) (m : ℕ) → Low mode m n → Enough cut mode k j m → (found : List A) (l : Nesting) (ts us : Tokens)
    → Meets cut mode m ts us → Goes cut three mode m (list_from starts reads k found l ts) (list_from starts others j found l us)
unfolding list_from
list_goes cut n starts reads others i zero zero mode m low en found l ts us h = crowded_goes cut three starts mode m ts us h
list_goes cut n starts reads others i zero (suc j) mode m low (inl e) found l ts us h = absurd (omega (arith, e))
list_goes cut n starts reads others i zero (suc j) mode m low (inr e) found l ts us h = crowded_excused cut n starts reads others i e.0 mode m j found l ts us h
list_goes cut n starts reads others i (suc k) zero mode m low (inl e) found l ts us h = absurd (omega (arith, e))
list_goes cut n starts reads others i (suc k) zero Mode.Past m low (inr e) found l ts us h = list_past cut n starts reads others i (suc k) found l ts h
list_goes cut n starts reads others i (suc k) zero Mode.Before m low (inr e) found l ts us (q, e2, e3, le) =
    beyond cut three m _ _ (list_past cut n starts reads others i (suc k) found l ts (omega (arith, ap length e2, length_cut q cut.here, le, e.1)))
list_goes cut n starts reads others i (suc k) (suc j) mode m low en found l ts us h =
    bind_later cut three three mode m (reads l ts) (others l us) _ _ (i.reading l mode m low ts us h) (λ x a la ws meets.
    after_later cut three a m kind.Comma _ _ (λ z. Ok (found ++ x.0 ∷ [], x.1, z)) (λ z. Ok (found ++ x.0 ∷ [], x.1, z)) x.2 ws meets
    (λ b lb less vs ys took. list_goes cut n starts reads others i k j b (m - 1) (low_less b m n less (low_more b m n (low_later a b m n lb (low_later mode a m n la low)))) (enough_less cut mode b k j m (later_trans mode a b la lb) less en) (found ++ x.0 ∷ []) (without_marks x.1) vs ys (weaken cut b (m - 1) vs ys took))
    (λ b lb vs ys meets2. done_three cut b m (found ++ x.0 ∷ []) x.1 vs ys meets2))

pub id_stops : {Y : Type 0} (t : Terminal) (ts : Tokens) (f : Word × Tokens → Answer Y) → is_id t.kind ≡ false → (id (t ∷ ts) >>= f) ≡ stop (t ∷ ts)
id_stops t ts f is = ap (λ b. (if b then Ok (t.word, ts) else stop (t ∷ ts)) >>= f) is

or_left : (a b : Bool) → a || b ≡ false → a ≡ false
or_left true b e = e
or_left false b e = refl

or_right : (a b : Bool) → a || b ≡ false → b ≡ false
or_right true b e = cc
or_right false b e = e

type_is_no_id : (k : TerminalKind) → starts_type k ≡ false → is_id k ≡ false
type_is_no_id kind.Id e = e
type_is_no_id kind.Proof e = e
type_is_no_id _ e = refl

rejects_item : (cut : Cut) (n : ℕ) (go other : Readers) → Deep cut n go other → (i : Item) (l : Nesting) (t : Terminal) (ts : Tokens) → starts_item i t.kind ≡ false → item_with other i l (t ∷ ts) ≡ stop (t ∷ ts)
rejects_item cut n go other d Item.Expression l t ts is = d.no_expr l t ts is
rejects_item cut n go other d Item.Parameter l t ts is =
    ap (λ b. parameter_of other l (t ∷ ts) b) (or_right (starts_expr t.kind) (begins_type t.kind) is) ∙ ap (λ z. z >>= λ p. Ok (actuals.ExprActual p.0, p.1, p.2)) (d.no_expr l t ts (or_left (starts_expr t.kind) (begins_type t.kind) is))
rejects_item cut n go other d Item.Component l t ts is =
    ap (λ b. either (if b then label_of t.word (after kind.Colon ts) else None) (λ p. typed_with other p.0 l p.1) (unnamed_with other l (t ∷ ts))) (type_is_no_id t.kind is)
    ∙ ap (λ z. z >>= λ q. Ok (typed_binding (empty_word t.word) q.0, q.1, q.2)) (d.no_type l t ts is)
rejects_item cut n go other d Item.Variable l t ts is = id_stops t ts _ is
rejects_item cut n go other d Item.BareVariable l t ts is = id_stops t ts _ is
rejects_item cut n go other d Item.Definition l t ts is = id_stops t ts _ is

items : (cut : Cut) (n : ℕ) (go other : Readers) → Deep cut n go other → (i : Item) → Items cut n (starts_item i) (item_with go i) (item_with other i)
items cut n go other d i = record { reading = λ l. item_goes cut n go other d i l; rejects = λ l t ts is. rejects_item cut n go other d i l t ts is }

-- a list that starts with so many tokens before the cut at most has as many entries in both readings, or enough in the other
pub start_enough : (cut : Cut) (a b : Limit) → Lists cut a b → (ts q : Tokens) → Enough cut Mode.Before (entries a ts) (entries b (q ++ cut.there)) (length q)
start_enough cut a b (k, e, inl f) ts q = inl (ap (λ z. entries z ts) e ∙ sym (ap (λ z. entries z (q ++ cut.there)) f))
start_enough cut a b (k, e, inr f) ts q = inr (f.1, subst (λ z. length q + length cut.there ≤ z) (sym (length_cut q cut.there) ∙ sym (ap (λ z. entries z (q ++ cut.there)) f.0)) (omega arith))

pub raise_to : {X : Type 0} (cut : Cut) (s : Shape X) (m n : ℕ) → m ≤ n → (o p : Answer X) → Agrees cut s m o p → Agrees cut s n o p
raise_to cut s m n le (Ok x) p (inl h) = inl h
raise_to cut s m n le (Ok x) p (inr h) = inr (h.0, h.1, h.2, h.3, omega (arith, h.4, le))
raise_to cut s m n le (Err e) p h = h

list_with_goes : (cut : Cut) (n : ℕ) (go other : Readers) → Deep cut n go other → (i : Item) (l : Nesting) → Enters cut three n (list_with go i l) (list_with other i l)
list_with_goes cut n go other d i l Mode.Past m low ts us h = list_past cut n (starts_item i) (item_with go i) (item_with other i) (items cut n go other d i) (entries go.limit ts) [] l ts h
list_with_goes cut n go other d i l Mode.Before m low ts us (q, e, e2, le) =
    subst (λ z. Agrees cut three m (list_with go i l ts) (list_with other i l z)) (sym e2) (raise_to cut three (length q) m le _ _
    (list_goes cut n (starts_item i) (item_with go i) (item_with other i) (items cut n go other d i) (entries go.limit ts) (entries other.limit (q ++ cut.there)) Mode.Before (length q) (omega (arith, low, le))
    (start_enough cut go.limit other.limit d.lists ts q) [] l ts (q ++ cut.there) (q, e, refl, omega arith)))

-- ---- frames and names

framed_goes : (cut : Cut) (n : ℕ) (go other : Readers) → Deep cut n go other → (i : Item) (end : TerminalKind) (l : Nesting) → Takes cut two n (framed_with go i end l) (framed_with other i end l)
framed_goes cut n go other d i end l mode m low ts us h =
    room_then cut two mode m go.limit other.limit d.rooms l (in_frame l) _ _ ts us h
    (bind cut three two mode m n low _ _ _ _ (list_with_goes cut n go other d i (in_frame l) mode m low ts us (weaken cut mode m ts us h)) (λ x a la ws k.
    expect_then cut two a m n (low_more a m n la) end _ _ x.2 ws k (λ b lb xs ys took. done_two cut b (m - 1) x.0 xs ys (weaken cut b (m - 1) xs ys took))))

name_of_goes : (cut : Cut) (n : ℕ) (w : Word) (xs : List Actual) → Opens cut two n (name_of w xs) (name_of w xs)
name_of_goes cut n w xs mode m low ts us h =
    id_then cut two mode m n low _ _ ts us h (λ a la v vs ws took. done_two cut a (m - 1) (name_with_theory (instance w xs) v) vs ws (weaken cut a (m - 1) vs ws took))

instance_name_goes : (cut : Cut) (n : ℕ) (go other : Readers) → Deep cut n go other → (w : Word) (l : Nesting) → Takes cut two n (instance_name_with go w l) (instance_name_with other w l)
instance_name_goes cut n go other d w l mode m low ts us h =
    bind cut two two mode m n low _ _ _ _ (framed_goes cut n go other d Item.Parameter kind.CloseBracket l mode m low ts us h) (λ x a la vs k.
    expect_then cut two a m n (low_more a m n la) kind.Dot _ _ x.1 vs k (λ b lb xs ys took. name_of_goes cut n w x.0 b (m - 1) (low_more b (m - 1) n lb) xs ys (weaken cut b (m - 1) xs ys took)))

name_after_goes : (cut : Cut) (n : ℕ) (go other : Readers) → Deep cut n go other → (w : Word) (l : Nesting) → Opens cut two n (name_after go w l) (name_after other w l)
name_after_goes cut n go other d w l mode m low ts us h =
    after_or cut two mode m n low kind.OpenBracket _ _ (λ z. either (after kind.Dot z) (λ us. name_of w [] us) (Ok (simple_name w, z))) (λ z. either (after kind.Dot z) (λ us. name_of w [] us) (Ok (simple_name w, z))) ts us h
    (λ a la vs ws took. instance_name_goes cut n go other d w l a (m - 1) la vs ws took)
    (λ a la vs ws k. after_or cut two a m n la kind.Dot _ _ (λ z. Ok (simple_name w, z)) (λ z. Ok (simple_name w, z)) vs ws k
    (λ b lb xs ys took. name_of_goes cut n w [] b (m - 1) (low_more b (m - 1) n lb) xs ys (weaken cut b (m - 1) xs ys took))
    (λ b lb xs ys j. done_two cut b m (simple_name w) xs ys j))

-- ---- terms

group_goes : (cut : Cut) (n : ℕ) (go other : Readers) → Deep cut n go other → (l : Nesting) (w : Word) → Takes cut three n (group_with go l w) (group_with other l w)
group_goes cut n go other d l w mode m low ts us h =
    bind cut two three mode m n low _ _ _ _ (framed_goes cut n go other d Item.Expression kind.Close l mode m low ts us h) (λ x a la vs k. done_three cut a m (group_tree w.pos x.0) true x.1 vs k)

condition_goes : (cut : Cut) (n : ℕ) (go other : Readers) → Deep cut n go other → (l : Nesting) → Enters cut three n (condition_with go l) (condition_with other l)
condition_goes cut n go other d l mode m low ts us h =
    bind cut three three mode m n low _ _ _ _ (deeper_goes cut n go other d l mode m low ts us h) (λ x a la vs k.
    expect_then cut three a m n (low_more a m n la) kind.Then _ _ x.2 vs k (λ b lb xs ys took. done_three cut b (m - 1) x.0 (without_marks x.1) xs ys (weaken cut b (m - 1) xs ys took)))

cond_goes : (cut : Cut) (n : ℕ) (go other : Readers) → Deep cut n go other → (w : Word) (l : Nesting) → Enters cut three n (cond_with go w l) (cond_with other w l)
cond_goes cut n go other d w l mode m low ts us h =
    bind cut three three mode m n low _ _ _ _ (condition_goes cut n go other d l mode m low ts us h) (λ x a la vs k.
    bind cut three three a m n la _ _ _ _ (deeper_goes cut n go other d x.1 a m la x.2 vs k) (λ y b lb ws j.
    bind cut three three b m n lb _ _ _ _ (d.expr start.Otherwise y.1 b m lb y.2 ws j) (λ z c lc xs i. done_three cut c m (expr.Cond x.0 y.0 z.0 w.pos) z.1 z.2 xs i)))

if_goes : (cut : Cut) (n : ℕ) (go other : Readers) → Deep cut n go other → (l : Nesting) (w : Word) → Takes cut three n (if_with go l w) (if_with other l w)
if_goes cut n go other d l w mode m low ts us h =
    room_then cut three mode m go.limit other.limit d.rooms l (in_frame l) _ _ ts us h
    (bind cut three three mode m n low _ _ _ _ (cond_goes cut n go other d w (in_frame l) mode m low ts us (weaken cut mode m ts us h)) (λ x a la vs k. done_three cut a m x.0 true x.2 vs k))

name_term_goes : (cut : Cut) (n : ℕ) (go other : Readers) → Deep cut n go other → (l : Nesting) (w : Word) → Opens cut three n (name_term_with go l w) (name_term_with other l w)
name_term_goes cut n go other d l w mode m low ts us h =
    bind cut two three mode m (n + 1) low _ _ _ _ (name_after_goes cut n go other d w l mode m low ts us h) (λ x a la vs k. done_three cut a m (expr.NameTerm x.0) false x.1 vs k)

first_of_goes : (cut : Cut) (n : ℕ) (go other : Readers) → Deep cut n go other → (l : Nesting) (t : Terminal) (k : TerminalKind) (mode : Mode) (m : ℕ) → Low mode (m - 1) n → (vs ws : Tokens) → Meets cut mode m (t ∷ vs) (t ∷ ws) → Took cut mode (m - 1) vs ws
    → Goes cut three mode m (first_of go l t vs k) (first_of other l t ws k)
first_of_goes cut n go other d l t kind.True mode m low vs ws meets took = raise cut three mode m _ _ (done_three cut mode (m - 1) (expr.Truth true t.word.pos) false vs ws (weaken cut mode (m - 1) vs ws took))
first_of_goes cut n go other d l t kind.False mode m low vs ws meets took = raise cut three mode m _ _ (done_three cut mode (m - 1) (expr.Truth false t.word.pos) false vs ws (weaken cut mode (m - 1) vs ws took))
first_of_goes cut n go other d l t kind.Id mode m low vs ws meets took = raise cut three mode m _ _ (name_term_goes cut n go other d l t.word mode (m - 1) (low_more mode (m - 1) n low) vs ws (weaken cut mode (m - 1) vs ws took))
first_of_goes cut n go other d l t kind.Proof mode m low vs ws meets took = raise cut three mode m _ _ (name_term_goes cut n go other d l t.word mode (m - 1) (low_more mode (m - 1) n low) vs ws (weaken cut mode (m - 1) vs ws took))
first_of_goes cut n go other d l t kind.Open mode m low vs ws meets took = raise cut three mode m _ _ (group_goes cut n go other d l t.word mode (m - 1) low vs ws took)
first_of_goes cut n go other d l t kind.If mode m low vs ws meets took = raise cut three mode m _ _ (if_goes cut n go other d l t.word mode (m - 1) low vs ws took)
first_of_goes cut n go other d l t _ mode m low vs ws meets took = stops cut three mode m (t ∷ vs) (t ∷ ws) meets

first_goes : (cut : Cut) (n : ℕ) (go other : Readers) → Deep cut n go other → (l : Nesting) → Opens cut three n (first_with go l) (first_with other l)
first_goes cut n go other d l mode m low ts us h =
    heads cut three mode m (λ z. first_with go l z) (λ z. first_with other l z) ts us h (omega arith)
    (λ a la t vs ws meets took less. first_of_goes cut n go other d l t t.kind a m (low_less a m n less (low_later mode a m (n + 1) la low)) vs ws meets took)

call_mark_goes : {Y : Type 0} (cut : Cut) (u : Shape Y) (n : ℕ) (go other : Readers) → Deep cut n go other → (b : Bool) (l : Nesting) (mode : Mode) (m : ℕ) → Low mode m n → (f g : Nesting → Answer Y) (ts us : Tokens) → Took cut mode m ts us
    → ((k : Nesting) → Goes cut u mode m (f k) (g k)) → Goes cut u mode m (call_mark go.limit b l ts >>= f) (call_mark other.limit b l us >>= g)
call_mark_goes cut u n go other d true l mode m low f g ts us h k = room_then cut u mode m go.limit other.limit d.rooms l (with_mark l) f g ts us h (k (with_mark l))
call_mark_goes cut u n go other d false l mode m low f g ts us h k = k l

call_goes : (cut : Cut) (n : ℕ) (go other : Readers) → Deep cut n go other → (b : Bool) (x : Expr) (l : Nesting) → Takes cut three n (call_with go b x l) (call_with other b x l)
call_goes cut n go other d b x l mode m low ts us h =
    call_mark_goes cut three n go other d b l mode m low _ _ ts us h (λ k.
    bind cut two three mode m n low _ _ _ _ (framed_goes cut n go other d Item.Expression kind.Close k mode m low ts us h) (λ y a la vs j. done_three cut a m (expr.Apply x y.0) k y.1 vs j))

project_goes : (cut : Cut) (n : ℕ) (go other : Readers) → Deep cut n go other → (x : Expr) (l : Nesting) → Takes cut three n (project go.limit x l) (project other.limit x l)
project_goes cut n go other d x l mode m low ts us h =
    room_then cut three mode m go.limit other.limit d.rooms l (with_mark l) _ _ ts us h
    (number_then cut three mode m n (low_more mode m n low) _ _ ts us (weaken cut mode m ts us h) (λ a la w vs ws took. done_three cut a (m - 1) (expr.Project x w) (with_mark l) vs ws (weaken cut a (m - 1) vs ws took)))

-- a reading of what stands after a term, past the cut
term_past : (cut : Cut) (n : ℕ) (go other : Readers) → Deep cut n go other → (k : ℕ) (b : Bool) (x : Expr) (l : Nesting) (ts : Tokens) → length ts ≤ length cut.here → Shrinks cut three (term_from go k b x l ts)
unfolding term_from
term_past cut n go other d zero b x l ts h = h
term_past cut n go other d (suc k) b x l ts h =
    after_past cut three kind.Open _ (λ z. either (after kind.Backquote z) (λ us. project go.limit x l us >>= λ p. term_from go k true p.0 p.1 p.2) (Ok (x, l, z))) ts h
    (λ vs lt. bind_past cut three three (call_with go b x l vs) _ (call_goes cut n go other d b x l Mode.Past 0 tt vs vs lt) (λ y hy. term_past cut n go other d k true y.0 y.1 y.2 hy))
    (λ ws le. after_past cut three kind.Backquote _ (λ z. Ok (x, l, z)) ws le
    (λ vs lt. bind_past cut three three (project go.limit x l vs) _ (project_goes cut n go other d x l Mode.Past 0 tt vs vs lt) (λ y hy. term_past cut n go other d k true y.0 y.1 y.2 hy)) (λ vs lt. lt))

-- what a turn is enough for, in both readings
abbrev pub Turns : Cut → Mode → ℕ → ℕ → ℕ → Type 0
Turns cut mode k j m = HasSpace mode cut.here m k × HasSpace mode cut.there m j

pub turns_less : (cut : Cut) (mode later : Mode) (k j m : ℕ) → Later mode later → Low later (m - 1) m → Turns cut mode (suc k) (suc j) m → Turns cut later k j (m - 1)
turns_less cut mode later k j m l h t = (fits_less later cut.here m k h (fits_later mode later cut.here m (suc k) l t.0), fits_less later cut.there m j h (fits_later mode later cut.there m (suc j) l t.1))

pub turns_later : (cut : Cut) (mode later : Mode) (k j m : ℕ) → Later mode later → Turns cut mode k j m → Turns cut later k j m
turns_later cut mode later k j m l t = (fits_later mode later cut.here m k l t.0, fits_later mode later cut.there m j l t.1)

-- where no turn is left in a reading before the cut, it is at the cut
pub no_turn : (cut : Cut) (m : ℕ) (behind ts q : Tokens) → ts ≡ q ++ cut.here → length q ≤ m → m + length behind ≤ 0 → length ts ≤ length cut.here
no_turn cut m behind ts q e le fits = omega (arith, ap length e, length_cut q cut.here, le, fits)

term_goes : (cut : Cut) (n : ℕ) (go other : Readers) → Deep cut n go other → (k j : ℕ) (mode : Mode) (m : ℕ) → Low mode m (n + 1) → Turns cut mode k j m → (b : Bool) (x : Expr) (l : Nesting) (ts us : Tokens) → Meets cut mode m ts us
    → Goes cut three mode m (term_from go k b x l ts) (term_from other j b x l us)
unfolding term_from
term_goes cut n go other d k j Mode.Past m low t b x l ts us h = term_past cut n go other d k b x l ts h
term_goes cut n go other d zero j Mode.Before m low t b x l ts us (q, e, e2, le) = inl (no_turn cut m cut.here ts q e le t.0)
term_goes cut n go other d (suc k) zero Mode.Before m low t b x l ts us (q, e, e2, le) = beyond cut three m _ _ (term_past cut n go other d (suc k) b x l ts (no_turn cut m cut.there ts q e le t.1))
term_goes cut n go other d (suc k) (suc j) Mode.Before m low t b x l ts us h =
    after_later cut three Mode.Before m kind.Open _ _ (λ z. either (after kind.Backquote z) (λ us. project go.limit x l us >>= λ p. term_from go k true p.0 p.1 p.2) (Ok (x, l, z)))
    (λ z. either (after kind.Backquote z) (λ us. project other.limit x l us >>= λ p. term_from other j true p.0 p.1 p.2) (Ok (x, l, z))) ts us h
    (λ a la less vs ws took. bind_later cut three three a (m - 1) _ _ _ _ (call_goes cut n go other d b x l a (m - 1) (low_less a m n less (low_later Mode.Before a m (n + 1) la low)) vs ws took)
    (λ y c lc xs meets. term_goes cut n go other d k j c (m - 1) (low_more c (m - 1) n (low_later a c (m - 1) n lc (low_less a m n less (low_later Mode.Before a m (n + 1) la low))))
    (turns_later cut a c k j (m - 1) lc (turns_less cut Mode.Before a k j m la less t)) true y.0 y.1 y.2 xs meets))
    (λ a la vs ws meets. after_later cut three a m kind.Backquote _ _ (λ z. Ok (x, l, z)) (λ z. Ok (x, l, z)) vs ws meets
    (λ c lc less xs ys took. bind_later cut three three c (m - 1) _ _ _ _ (project_goes cut n go other d x l c (m - 1) (low_less c m n less (low_later a c m (n + 1) lc (low_later Mode.Before a m (n + 1) la low))) xs ys took)
    (λ y f lf zs meets2. term_goes cut n go other d k j f (m - 1) (low_more f (m - 1) n (low_later c f (m - 1) n lf (low_less c m n less (low_later a c m (n + 1) lc (low_later Mode.Before a m (n + 1) la low)))))
    (turns_later cut c f k j (m - 1) lf (turns_less cut Mode.Before c k j m (later_trans Mode.Before a c la lc) less t)) true y.0 y.1 y.2 zs meets2))
    (λ c lc xs ys meets2. done_three cut c m x l xs ys meets2))

-- a function that is called with as many turns as there are tokens
exact : {X : Type 0} (cut : Cut) (s : Shape X) (n : ℕ) (f g : ℕ → Tokens → Answer X)
    → ((mode : Mode) (m : ℕ) → Low mode m (n + 1) → (k j : ℕ) → Turns cut mode k j m → (ts us : Tokens) → Meets cut mode m ts us → Goes cut s mode m (f k ts) (g j us)) → Opens cut s n (λ ts. f (length ts) ts) (λ us. g (length us) us)
exact cut s n f g h Mode.Past m low ts us meets = h Mode.Past m tt (length ts) (length us) (tt, tt) ts us meets
exact cut s n f g h Mode.Before m low ts us (q, e, e2, le) =
    raise_to cut s (length q) m le _ _ (h Mode.Before (length q) (omega (arith, low, le)) (length ts) (length us)
    (omega (arith, ap length e, length_cut q cut.here), omega (arith, ap length e2, length_cut q cut.there)) ts us (q, e, e2, omega arith))

term_with_goes : (cut : Cut) (n : ℕ) (go other : Readers) → Deep cut n go other → (l : Nesting) → Opens cut three n (term_with go l) (term_with other l)
term_with_goes cut n go other d l =
    exact cut three n (λ k ts. first_with go l ts >>= λ p. term_from go k p.1 p.0 l p.2) (λ k ts. first_with other l ts >>= λ p. term_from other k p.1 p.0 l p.2) (λ mode m low k j t ts us h.
    bind_later cut three three mode m _ _ _ _ (first_goes cut n go other d l mode m low ts us h) (λ x a la vs meets.
    term_goes cut n go other d k j a m (low_later mode a m (n + 1) la low) (turns_later cut mode a k j m la t) x.1 x.0 l x.2 vs meets))

-- ---- NOT, binders and LET

body_goes : (cut : Cut) (n : ℕ) (go other : Readers) → Deep cut n go other → (bs : List Binding) (b : BinderWord) (w : Word) (l : Nesting) → Opens cut three n (body_with go bs b w l) (body_with other bs b w l)
body_goes cut n go other d bs b w l mode m low ts us h =
    expect_then cut three mode m n low kind.Colon _ _ ts us h (λ a la vs ws took.
    bind cut three three a (m - 1) n la _ _ _ _ (deeper_goes cut n go other d l a (m - 1) la vs ws (weaken cut a (m - 1) vs ws took)) (λ x c lc xs k. done_three cut c (m - 1) (expr.Binder b bs x.0 w.pos) x.1 x.2 xs k))

bindings_goes : (cut : Cut) (n : ℕ) (go other : Readers) → Deep cut n go other → (b : BinderWord) (w : Word) (l : Nesting) → Takes cut three n (bindings_with go b w l) (bindings_with other b w l)
bindings_goes cut n go other d b w l mode m low ts us h =
    bind cut two three mode m n low _ _ _ _ (framed_goes cut n go other d Item.Variable kind.Close l mode m low ts us h) (λ x a la vs k. body_goes cut n go other d x.0 b w l a m (low_more a m n la) x.1 vs k)

bare_bindings_goes : (cut : Cut) (n : ℕ) (go other : Readers) → Deep cut n go other → (b : BinderWord) (w : Word) (l : Nesting) → Enters cut three n (bare_bindings_with go b w l) (bare_bindings_with other b w l)
bare_bindings_goes cut n go other d b w l mode m low ts us h =
    bind cut three three mode m n low _ _ _ _ (list_with_goes cut n go other d Item.BareVariable l mode m low ts us h) (λ x a la vs k. body_goes cut n go other d x.0 b w x.1 a m (low_more a m n la) x.2 vs k)

binder_goes : (cut : Cut) (n : ℕ) (go other : Readers) → Deep cut n go other → (b : BinderWord) (w : Word) (l : Nesting) → Takes cut three n (binder_with go b w l) (binder_with other b w l)
binder_goes cut n go other d b w l mode m low ts us h =
    room_then cut three mode m go.limit other.limit d.rooms l (with_lasting_mark l) _ _ ts us h
    (after_later cut three mode m kind.Open _ _ (λ z. bare_bindings_with go b w (with_lasting_mark l) z) (λ z. bare_bindings_with other b w (with_lasting_mark l) z) ts us (weaken cut mode m ts us h)
    (λ a la less vs ws took. bindings_goes cut n go other d b w (with_lasting_mark l) a (m - 1) (low_less a m n less (low_more a m n (low_later mode a m n la low))) vs ws took)
    (λ a la vs ws k. bare_bindings_goes cut n go other d b w (with_lasting_mark l) a m (low_later mode a m n la low) vs ws k))

let_goes : (cut : Cut) (n : ℕ) (go other : Readers) → Deep cut n go other → (w : Word) (l : Nesting) → Takes cut three n (let_with go w l) (let_with other w l)
let_goes cut n go other d w l mode m low ts us h =
    room_then cut three mode m go.limit other.limit d.rooms l (with_lasting_mark l) _ _ ts us h
    (bind cut three three mode m n low _ _ _ _ (list_with_goes cut n go other d Item.Definition (with_lasting_mark l) mode m low ts us (weaken cut mode m ts us h)) (λ x a la vs k.
    expect_then cut three a m n (low_more a m n la) kind.In _ _ x.2 vs k (λ b lb xs ys took.
    bind cut three three b (m - 1) n lb _ _ _ _ (deeper_goes cut n go other d x.1 b (m - 1) lb xs ys (weaken cut b (m - 1) xs ys took)) (λ y c lc zs j. done_three cut c (m - 1) (expr.Let x.0 y.0 w.pos) y.1 y.2 zs j))))

not_goes : (cut : Cut) (n : ℕ) (go other : Readers) → Deep cut n go other → (w : Word) (l : Nesting) → Takes cut three n (not_with go w l) (not_with other w l)
not_goes cut n go other d w l mode m low ts us h =
    room_then cut three mode m go.limit other.limit d.rooms l (with_mark l) _ _ ts us h
    (bind cut three three mode m n low _ _ _ _ (d.expr start.Operand (with_mark l) mode m low ts us (weaken cut mode m ts us h)) (λ x a la vs k. done_three cut a m (expr.Not x.0 w.pos) x.1 x.2 vs k))

prefixed_goes : (cut : Cut) (n : ℕ) (go other : Readers) → Deep cut n go other → (l : Nesting) (p : Prefix) (w : Word) → Takes cut three n (prefixed_with go l p w) (prefixed_with other l p w)
prefixed_goes cut n go other d l prefixes.Negation w = not_goes cut n go other d w l
prefixed_goes cut n go other d l (prefixes.Binder b) w = binder_goes cut n go other d b w l
prefixed_goes cut n go other d l prefixes.Local w = let_goes cut n go other d w l

-- ---- operands and chains

last_goes : (cut : Cut) (n : ℕ) (go other : Readers) → Deep cut n go other → (o : InfixWord) (x : Expr) (l : Nesting) (p : Prefix) (w : Word) → Takes cut three n (last_with go o x l p w) (last_with other o x l p w)
last_goes cut n go other d o x l p w mode m low ts us h =
    bind cut three three mode m n low _ _ _ _ (prefixed_goes cut n go other d l p w mode m low ts us h) (λ y a la vs k. done_three cut a m (expr.Infix o x y.0) y.1 y.2 vs k)

-- after an = or /=
compared_turn : (cut : Cut) (n : ℕ) (go other : Readers) → Deep cut n go other → (k j : ℕ) (o : InfixWord) (x : Expr) (l : Nesting)
    → ((mode : Mode) (m : ℕ) → Low mode m (n + 1) → Turns cut mode k j m → (y : Expr) (i : Nesting) (ts us : Tokens) → Meets cut mode m ts us → Goes cut three mode m (compared_from go k y i ts) (compared_from other j y i us))
    → (mode : Mode) (m : ℕ) → Low mode m n → Turns cut mode k j m → (ts us : Tokens) → Took cut mode m ts us
    → Goes cut three mode m (mark go.limit l ts >>= λ i. either (begins ts) (λ q. last_with go o x i q.0 q.1 q.2) (term_with go i ts >>= λ r. compared_from go k (expr.Infix o x r.0) r.1 r.2))
    (mark other.limit l us >>= λ i. either (begins us) (λ q. last_with other o x i q.0 q.1 q.2) (term_with other i us >>= λ r. compared_from other j (expr.Infix o x r.0) r.1 r.2))
compared_turn cut n go other d k j o x l next mode m low t ts us h =
    room_then cut three mode m go.limit other.limit d.rooms l (with_mark l) _ _ ts us h
    (begins_later cut three mode m _ _ (λ z. term_with go (with_mark l) z >>= λ r. compared_from go k (expr.Infix o x r.0) r.1 r.2) (λ z. term_with other (with_mark l) z >>= λ r. compared_from other j (expr.Infix o x r.0) r.1 r.2) ts us (weaken cut mode m ts us h)
    (λ a la less p w vs ws took. last_goes cut n go other d o x (with_mark l) p w a (m - 1) (low_less a m n less (low_more a m n (low_later mode a m n la low))) vs ws took)
    (λ a la vs ws meets. bind_later cut three three a m _ _ _ _ (term_with_goes cut n go other d (with_mark l) a m (low_more a m n (low_later mode a m n la low)) vs ws meets)
    (λ y c lc xs i. next c m (low_more c m n (low_later a c m n lc (low_later mode a m n la low))) (turns_later cut mode c k j m (later_trans mode a c la lc) t) (expr.Infix o x y.0) y.1 y.2 xs i)))

compared_past : (cut : Cut) (n : ℕ) (go other : Readers) → Deep cut n go other → (k : ℕ) (x : Expr) (l : Nesting) (ts : Tokens) → length ts ≤ length cut.here → Shrinks cut three (compared_from go k x l ts)
unfolding compared_from
compared_past cut n go other d zero x l ts h = h
compared_past cut n go other d (suc k) x l ts h =
    compares_past cut three _ (λ z. Ok (x, l, z)) ts h (λ o vs lt. room_past cut three go.limit l (with_mark l) _ vs lt
    (begins_past cut three _ (λ z. term_with go (with_mark l) z >>= λ r. compared_from go k (expr.Infix o x r.0) r.1 r.2) vs (omega (arith, lt))
    (λ p w ws lt2. last_goes cut n go other d o x (with_mark l) p w Mode.Past 0 tt ws ws lt2)
    (λ ws le. bind_past cut three three (term_with go (with_mark l) ws) _ (term_with_goes cut n go other d (with_mark l) Mode.Past 0 tt ws ws le) (λ y hy. compared_past cut n go other d k (expr.Infix o x y.0) y.1 y.2 hy)))) (λ vs le. le)

compared_goes : (cut : Cut) (n : ℕ) (go other : Readers) → Deep cut n go other → (k j : ℕ) (mode : Mode) (m : ℕ) → Low mode m (n + 1) → Turns cut mode k j m → (x : Expr) (l : Nesting) (ts us : Tokens) → Meets cut mode m ts us
    → Goes cut three mode m (compared_from go k x l ts) (compared_from other j x l us)
unfolding compared_from
compared_goes cut n go other d k j Mode.Past m low t x l ts us h = compared_past cut n go other d k x l ts h
compared_goes cut n go other d zero j Mode.Before m low t x l ts us (q, e, e2, le) = inl (no_turn cut m cut.here ts q e le t.0)
compared_goes cut n go other d (suc k) zero Mode.Before m low t x l ts us (q, e, e2, le) = beyond cut three m _ _ (compared_past cut n go other d (suc k) x l ts (no_turn cut m cut.there ts q e le t.1))
compared_goes cut n go other d (suc k) (suc j) Mode.Before m low t x l ts us h =
    compares_later cut three Mode.Before m _ _ (λ z. Ok (x, l, z)) (λ z. Ok (x, l, z)) ts us h
    (λ a la less o vs ws took. compared_turn cut n go other d k j o x l (λ c i lc tc y z xs ys meets. compared_goes cut n go other d k j c i lc tc y z xs ys meets) a (m - 1) (low_less a m n less (low_later Mode.Before a m (n + 1) la low))
    (turns_less cut Mode.Before a k j m la less t) vs ws took)
    (λ a la vs ws meets. done_three cut a m x l vs ws meets)

comparison_goes : (cut : Cut) (n : ℕ) (go other : Readers) → Deep cut n go other → (l : Nesting) → Opens cut three n (comparison_with go l) (comparison_with other l)
comparison_goes cut n go other d l =
    exact cut three n (λ k ts. term_with go l ts >>= λ p. compared_from go k p.0 p.1 p.2) (λ k ts. term_with other l ts >>= λ p. compared_from other k p.0 p.1 p.2) (λ mode m low k j t ts us h.
    bind_later cut three three mode m _ _ _ _ (term_with_goes cut n go other d l mode m low ts us h) (λ x a la vs meets.
    compared_goes cut n go other d k j a m (low_later mode a m (n + 1) la low) (turns_later cut mode a k j m la t) x.0 x.1 x.2 vs meets))

operand_goes : (cut : Cut) (n : ℕ) (go other : Readers) → Deep cut n go other → (l : Nesting) → Opens cut three n (operand_with go l) (operand_with other l)
operand_goes cut n go other d l mode m low ts us h =
    begins_or cut three mode m n low _ _ (λ z. comparison_with go l z) (λ z. comparison_with other l z) ts us h
    (λ a la p w vs ws took. prefixed_goes cut n go other d l p w a (m - 1) la vs ws took)
    (λ a la vs ws meets. comparison_goes cut n go other d l a m la vs ws meets)

chain_after_goes : (cut : Cut) (n : ℕ) (go other : Readers) → Deep cut n go other → (c : Connective) (x : Expr) (l : Nesting) → Opens cut three n (chain_after go c x l) (chain_after other c x l)
chain_after_goes cut n go other d c x l mode m low ts us h =
    after_or cut three mode m n low (sign c) _ _ (λ z. Ok (x, l, z)) (λ z. Ok (x, l, z)) ts us h
    (λ a la vs ws took. room_then cut three a (m - 1) go.limit other.limit d.rooms l (with_mark l) _ _ vs ws took
    (bind cut three three a (m - 1) n la _ _ _ _ (d.expr (start.Chain c) (with_mark l) a (m - 1) la vs ws (weaken cut a (m - 1) vs ws took)) (λ y b lb xs k. done_three cut b (m - 1) (expr.Infix (operator c) x y.0) y.1 y.2 xs k)))
    (λ a la vs ws k. done_three cut a m x l vs ws k)

chain_on_goes : (cut : Cut) (n : ℕ) (go other : Readers) → Deep cut n go other → (c : Connective) (f g : Tokens → Read Expr) → Opens cut three n f g → Opens cut three n (λ ts. chain_on go c (f ts)) (λ us. chain_on other c (g us))
chain_on_goes cut n go other d c f g o mode m low ts us h =
    bind cut three three mode m (n + 1) low _ _ _ _ (o mode m low ts us h) (λ x a la vs k. chain_after_goes cut n go other d c x.0 x.1 a m la x.2 vs k)

between_goes : (cut : Cut) (n : ℕ) (go other : Readers) → Deep cut n go other → (c : Connective) (l : Nesting) → Opens cut three n (between_with go c l) (between_with other c l)
between_goes cut n go other d connective.And l = operand_goes cut n go other d l
between_goes cut n go other d connective.Or l = chain_on_goes cut n go other d connective.And _ _ (operand_goes cut n go other d l)
between_goes cut n go other d connective.Implies l = chain_on_goes cut n go other d connective.Or _ _ (chain_on_goes cut n go other d connective.And _ _ (operand_goes cut n go other d l))
between_goes cut n go other d connective.Iff l = chain_on_goes cut n go other d connective.Implies _ _ (chain_on_goes cut n go other d connective.Or _ _ (chain_on_goes cut n go other d connective.And _ _ (operand_goes cut n go other d l)))

chain_goes : (cut : Cut) (n : ℕ) (go other : Readers) → Deep cut n go other → (c : Connective) (l : Nesting) → Opens cut three n (chain_with go c l) (chain_with other c l)
chain_goes cut n go other d c l = chain_on_goes cut n go other d c _ _ (between_goes cut n go other d c l)

-- ---- after THEN and an expression

else_goes : (cut : Cut) (n : ℕ) (go other : Readers) → Deep cut n go other → (l : Nesting) → Enters cut three n (else_with go l) (else_with other l)
else_goes cut n go other d l mode m low ts us h =
    bind cut three three mode m n low _ _ _ _ (deeper_goes cut n go other d (without_marks l) mode m low ts us h) (λ x a la vs k.
    expect_then cut three a m n (low_more a m n la) kind.EndIf _ _ x.2 vs k (λ b lb xs ys took. done_three cut b (m - 1) x.0 x.1 xs ys (weaken cut b (m - 1) xs ys took)))

elsif_goes : (cut : Cut) (n : ℕ) (go other : Readers) → Deep cut n go other → (w : Word) (l : Nesting) → Takes cut three n (elsif_with go w l) (elsif_with other w l)
elsif_goes cut n go other d w l mode m low ts us h =
    room_then cut three mode m go.limit other.limit d.rooms (without_marks l) (with_lasting_mark (without_marks l)) _ _ ts us h (cond_goes cut n go other d w (with_lasting_mark (without_marks l)) mode m low ts us (weaken cut mode m ts us h))

otherwise_of_goes : (cut : Cut) (n : ℕ) (go other : Readers) → Deep cut n go other → (l : Nesting) (t : Terminal) (k : TerminalKind) (mode : Mode) (m : ℕ) → Low mode (m - 1) n → (vs ws : Tokens) → Meets cut mode m (t ∷ vs) (t ∷ ws) → Took cut mode (m - 1) vs ws
    → Goes cut three mode m (otherwise_of go l t vs k) (otherwise_of other l t ws k)
otherwise_of_goes cut n go other d l t kind.Else mode m low vs ws meets took = raise cut three mode m _ _ (else_goes cut n go other d l mode (m - 1) low vs ws (weaken cut mode (m - 1) vs ws took))
otherwise_of_goes cut n go other d l t kind.Elsif mode m low vs ws meets took = raise cut three mode m _ _ (elsif_goes cut n go other d t.word l mode (m - 1) low vs ws took)
otherwise_of_goes cut n go other d l t _ mode m low vs ws meets took = stops cut three mode m (t ∷ vs) (t ∷ ws) meets

otherwise_goes : (cut : Cut) (n : ℕ) (go other : Readers) → Deep cut n go other → (l : Nesting) → Opens cut three n (otherwise_with go l) (otherwise_with other l)
otherwise_goes cut n go other d l mode m low ts us h =
    heads cut three mode m (λ z. otherwise_with go l z) (λ z. otherwise_with other l z) ts us h (omega arith)
    (λ a la t vs ws meets took less. otherwise_of_goes cut n go other d l t t.kind a m (low_less a m n less (low_later mode a m (n + 1) la low)) vs ws meets took)

-- ---- types

pred_type_goes : (cut : Cut) (n : ℕ) (go other : Readers) → Deep cut n go other → (l : Nesting) (w : Word) → Takes cut three n (pred_type_with go l w) (pred_type_with other l w)
pred_type_goes cut n go other d l w mode m low ts us h =
    room_then cut three mode m go.limit other.limit d.rooms l (in_frame l) _ _ ts us h
    (bind cut three three mode m n low _ _ _ _ (deeper_goes cut n go other d (in_frame l) mode m low ts us (weaken cut mode m ts us h)) (λ x a la vs k.
    expect_then cut three a m n (low_more a m n la) kind.Close _ _ x.2 vs k (λ b lb xs ys took. done_three cut b (m - 1) (type_expr.PredType x.0 w.pos) l xs ys (weaken cut b (m - 1) xs ys took))))

base_goes : (cut : Cut) (n : ℕ) (go other : Readers) → Deep cut n go other → (l : Nesting) → Opens cut four n (base_with go l) (base_with other l)
base_goes cut n go other d l mode m low ts us h =
    id_then cut four mode m n low _ _ ts us h (λ a la w vs ws took.
    expect_then cut four a (m - 1) n (low_more a (m - 1) n la) kind.Colon _ _ vs ws (weaken cut a (m - 1) vs ws took) (λ b lb xs ys took2.
    bind cut three four b (m - 1 - 1) n lb _ _ _ _ (d.type l b (m - 1 - 1) lb xs ys (weaken cut b (m - 1 - 1) xs ys took2)) (λ y c lc zs k.
    expect_then cut four c (m - 1 - 1) n (low_more c (m - 1 - 1) n lc) kind.Bar _ _ y.2 zs k (λ e le rs ss took3. done_four cut e (m - 1 - 1 - 1) w y.0 y.1 rs ss (weaken cut e (m - 1 - 1 - 1) rs ss took3)))))

sub_type_goes : (cut : Cut) (n : ℕ) (go other : Readers) → Deep cut n go other → (l : Nesting) (w : Word) → Takes cut three n (sub_type_with go l w) (sub_type_with other l w)
sub_type_goes cut n go other d l w mode m low ts us h =
    room_then cut three mode m go.limit other.limit d.rooms l (in_frame l) _ _ ts us h
    (bind cut four three mode m n low _ _ _ _ (base_goes cut n go other d (in_frame l) mode m (low_more mode m n low) ts us (weaken cut mode m ts us h)) (λ x a la vs k.
    bind cut three three a m n la _ _ _ _ (deeper_goes cut n go other d x.2 a m la x.3 vs k) (λ y b lb ws j.
    expect_then cut three b m n (low_more b m n lb) kind.CloseBrace _ _ y.2 ws j (λ c lc xs ys took. done_three cut c (m - 1) (type_expr.SubType x.0 x.1 y.0 w.pos) l xs ys (weaken cut c (m - 1) xs ys took)))))

fun_type_goes : (cut : Cut) (n : ℕ) (go other : Readers) → Deep cut n go other → (l : Nesting) (w : Word) (bs : List Binding) (i : Nesting) → Enters cut three n (fun_type_with go l w bs i) (fun_type_with other l w bs i)
fun_type_goes cut n go other d l w bs i mode m low ts us h =
    bind cut three three mode m n low _ _ _ _ (d.type i mode m low ts us h) (λ x a la vs k.
    expect_then cut three a m n (low_more a m n la) kind.CloseBracket _ _ x.2 vs k (λ b lb xs ys took. done_three cut b (m - 1) (type_expr.FunType bs x.0 w.pos) l xs ys (weaken cut b (m - 1) xs ys took)))

tuple_type_goes : (cut : Cut) (n : ℕ) (l : Nesting) (w : Word) (bs : List Binding) → Opens cut three n (tuple_type l w bs) (tuple_type l w bs)
tuple_type_goes cut n l w [] mode m low ts us h = stops cut three mode m ts us h
tuple_type_goes cut n l w (b ∷ []) mode m low ts us h = stops cut three mode m ts us h
tuple_type_goes cut n l w (b ∷ c ∷ bs) mode m low ts us h =
    expect_then cut three mode m n low kind.CloseBracket _ _ ts us h (λ a la vs ws took. done_three cut a (m - 1) (type_expr.TupleType (b ∷ c ∷ bs) w.pos) l vs ws (weaken cut a (m - 1) vs ws took))

bracket_type_goes : (cut : Cut) (n : ℕ) (go other : Readers) → Deep cut n go other → (l : Nesting) (w : Word) → Takes cut three n (bracket_type_with go l w) (bracket_type_with other l w)
bracket_type_goes cut n go other d l w mode m low ts us h =
    room_then cut three mode m go.limit other.limit d.rooms l (in_frame l) _ _ ts us h
    (bind cut three three mode m n low _ _ _ _ (list_with_goes cut n go other d Item.Component (in_frame l) mode m low ts us (weaken cut mode m ts us h)) (λ x a la vs k.
    after_or cut three a m n (low_more a m n la) kind.Arrow _ _ (λ z. tuple_type l w x.0 z) (λ z. tuple_type l w x.0 z) x.2 vs k
    (λ b lb xs ys took. fun_type_goes cut n go other d l w x.0 x.1 b (m - 1) lb xs ys (weaken cut b (m - 1) xs ys took))
    (λ b lb xs ys j. tuple_type_goes cut n l w x.0 b m lb xs ys j)))

name_type_goes : (cut : Cut) (n : ℕ) (go other : Readers) → Deep cut n go other → (l : Nesting) (w : Word) → Opens cut three n (name_type_with go l w) (name_type_with other l w)
name_type_goes cut n go other d l w mode m low ts us h =
    bind cut two three mode m (n + 1) low _ _ _ _ (name_after_goes cut n go other d w l mode m low ts us h) (λ x a la vs k. done_three cut a m (type_expr.NameType x.0) l x.1 vs k)

type_of_goes : (cut : Cut) (n : ℕ) (go other : Readers) → Deep cut n go other → (l : Nesting) (t : Terminal) (k : TerminalKind) (mode : Mode) (m : ℕ) → Low mode (m - 1) n → (vs ws : Tokens) → Meets cut mode m (t ∷ vs) (t ∷ ws) → Took cut mode (m - 1) vs ws
    → Goes cut three mode m (type_of go l t vs k) (type_of other l t ws k)
type_of_goes cut n go other d l t kind.Id mode m low vs ws meets took = raise cut three mode m _ _ (name_type_goes cut n go other d l t.word mode (m - 1) (low_more mode (m - 1) n low) vs ws (weaken cut mode (m - 1) vs ws took))
type_of_goes cut n go other d l t kind.Proof mode m low vs ws meets took = raise cut three mode m _ _ (name_type_goes cut n go other d l t.word mode (m - 1) (low_more mode (m - 1) n low) vs ws (weaken cut mode (m - 1) vs ws took))
type_of_goes cut n go other d l t kind.Open mode m low vs ws meets took = raise cut three mode m _ _ (pred_type_goes cut n go other d l t.word mode (m - 1) low vs ws took)
type_of_goes cut n go other d l t kind.OpenBrace mode m low vs ws meets took = raise cut three mode m _ _ (sub_type_goes cut n go other d l t.word mode (m - 1) low vs ws took)
type_of_goes cut n go other d l t kind.OpenBracket mode m low vs ws meets took = raise cut three mode m _ _ (bracket_type_goes cut n go other d l t.word mode (m - 1) low vs ws took)
type_of_goes cut n go other d l t _ mode m low vs ws meets took = stops cut three mode m (t ∷ vs) (t ∷ ws) meets

type_goes : (cut : Cut) (n : ℕ) (go other : Readers) → Deep cut n go other → (l : Nesting) → Opens cut three n (type_with go l) (type_with other l)
type_goes cut n go other d l mode m low ts us h =
    heads cut three mode m (λ z. type_with go l z) (λ z. type_with other l z) ts us h (omega arith)
    (λ a la t vs ws meets took less. type_of_goes cut n go other d l t t.kind a m (low_less a m n less (low_later mode a m (n + 1) la low)) vs ws meets took)

-- ---- the whole

expr_goes : (cut : Cut) (n : ℕ) (go other : Readers) → Deep cut n go other → (s : Start) (l : Nesting) → Opens cut three n (expr_with go s l) (expr_with other s l)
expr_goes cut n go other d (start.Chain c) l = chain_goes cut n go other d c l
expr_goes cut n go other d start.Operand l = operand_goes cut n go other d l
expr_goes cut n go other d start.Otherwise l = otherwise_goes cut n go other d l

type_takes_id : (cut : Cut) (n : ℕ) (go other : Readers) → Deep cut n go other → (l : Nesting) (t : Terminal) (ts : Tokens) (k : TerminalKind) → is_id k ≡ true → length ts ≤ length cut.here → Shrinks cut three (type_of go l t ts k)
type_takes_id cut n go other d l t ts kind.Id is h = name_type_goes cut n go other d l t.word Mode.Past 0 tt ts ts h
type_takes_id cut n go other d l t ts kind.Proof is h = name_type_goes cut n go other d l t.word Mode.Past 0 tt ts ts h
type_takes_id cut n go other d l t ts _ is h = cc

no_prefix : (k : TerminalKind) → starts_expr k ≡ false → prefix k ≡ None
no_prefix kind.Not e = cc
no_prefix kind.Forall e = cc
no_prefix kind.Exists e = cc
no_prefix kind.Lambda e = cc
no_prefix kind.Let e = cc
no_prefix _ e = refl

no_first : (go : Readers) (l : Nesting) (t : Terminal) (ts : Tokens) (k : TerminalKind) → starts_expr k ≡ false → first_of go l t ts k ≡ stop (t ∷ ts)
no_first go l t ts kind.True e = cc
no_first go l t ts kind.False e = cc
no_first go l t ts kind.Id e = cc
no_first go l t ts kind.Proof e = cc
no_first go l t ts kind.Open e = cc
no_first go l t ts kind.If e = cc
no_first go l t ts _ e = refl

no_operand : (go : Readers) (l : Nesting) (t : Terminal) (ts : Tokens) → starts_expr t.kind ≡ false → operand_with go l (t ∷ ts) ≡ stop (t ∷ ts)
no_operand go l t ts is =
    ap (λ o. either (begins_of o t.word ts) (λ p. prefixed_with go l p.0 p.1 p.2) (comparison_with go l (t ∷ ts))) (no_prefix t.kind is)
    ∙ ap (λ o. (o >>= λ p. term_from go (length (t ∷ ts)) p.1 p.0 l p.2) >>= λ p. compared_from go (length (t ∷ ts)) p.0 p.1 p.2) (no_first go l t ts t.kind is)

no_chain : (go : Readers) (l : Nesting) (t : Terminal) (ts : Tokens) → starts_expr t.kind ≡ false → chain_with go connective.Iff l (t ∷ ts) ≡ stop (t ∷ ts)
no_chain go l t ts is = ap (λ o. chain_on go connective.Iff (chain_on go connective.Implies (chain_on go connective.Or (chain_on go connective.And o)))) (no_operand go l t ts is)

no_type_of : (go : Readers) (l : Nesting) (t : Terminal) (ts : Tokens) (k : TerminalKind) → starts_type k ≡ false → type_of go l t ts k ≡ stop (t ∷ ts)
no_type_of go l t ts kind.Id e = cc
no_type_of go l t ts kind.Proof e = cc
no_type_of go l t ts kind.Open e = cc
no_type_of go l t ts kind.OpenBracket e = cc
no_type_of go l t ts kind.OpenBrace e = cc
no_type_of go l t ts _ e = refl

step_deep : (cut : Cut) (n : ℕ) (go other : Readers) → Deep cut n go other → Deep cut (n + 1) (next_readers go) (next_readers other)
step_deep cut n go other d = record {
  rooms = d.rooms;
  lists = d.lists;
  expr = λ s l. expr_goes cut n go other d s l;
  type = λ l. type_goes cut n go other d l;
  names = λ l t ts le is h. type_takes_id cut n go other d l t ts t.kind is h;
  no_expr = λ l t ts is. no_chain other l t ts is;
  no_type = λ l t ts is. no_type_of other l t ts t.kind is;
}

no_expr_read : (b : Limit) (j : ℕ) (l : Nesting) (t : Terminal) (ts : Tokens) → starts_expr t.kind ≡ false → (reader b j).expr (start.Chain connective.Iff) l (t ∷ ts) ≡ stop (t ∷ ts)
unfolding reader
no_expr_read b zero l t ts is = refl
no_expr_read b (suc j) l t ts is = no_chain (reader b j) l t ts is

no_type_read : (b : Limit) (j : ℕ) (l : Nesting) (t : Terminal) (ts : Tokens) → starts_type t.kind ≡ false → (reader b j).type l (t ∷ ts) ≡ stop (t ∷ ts)
unfolding reader
no_type_read b zero l t ts is = refl
no_type_read b (suc j) l t ts is = no_type_of (reader b j) l t ts t.kind is

-- readings that agree on the limits
pub record Paired (cut : Cut) (a b : Limit) : Type 0 where
  pub rooms : Rooms cut a b
  pub lists : Lists cut a b
  pub some : (t : Terminal) (ts : Tokens) → 1 ≤ entries a (t ∷ ts)

rooms_read : (cut : Cut) (a b : Limit) (k j : ℕ) → Paired cut a b → Rooms cut (reader a k).limit (reader b j).limit
rooms_read cut a b k j p = subst (λ z. Rooms cut z (reader b j).limit) (sym (reader_limit a k)) (subst (λ z. Rooms cut a z) (sym (reader_limit b j)) p.rooms)

lists_read : (cut : Cut) (a b : Limit) (k j : ℕ) → Paired cut a b → Lists cut (reader a k).limit (reader b j).limit
lists_read cut a b k j p = subst (λ z. Lists cut z (reader b j).limit) (sym (reader_limit a k)) (subst (λ z. Lists cut a z) (sym (reader_limit b j)) p.lists)

past_only : {X : Type 0} (cut : Cut) (s : Shape X) (f g : Tokens → Answer X) → ((m : ℕ) (ts us : Tokens) → length ts ≤ length cut.here → Shrinks cut s (f ts)) → Enters cut s 0 f g
past_only cut s f g h Mode.Past m low ts us meets = h m ts us meets
past_only cut s f g h Mode.Before m low ts us meets = absurd (omega (arith, low))

deep_past : (cut : Cut) (a b : Limit) → Paired cut a b → (k j : ℕ) → Deep cut 0 (reader a k) (reader b j)
unfolding reader
deep_past cut a b p zero j = record {
  rooms = rooms_read cut a b zero j p;
  lists = lists_read cut a b zero j p;
  expr = λ s l. past_only cut three _ _ (λ m ts us h. h);
  type = λ l. past_only cut three _ _ (λ m ts us h. h);
  names = λ l t ts le is h. absurd (omega (arith, le));
  no_expr = λ l t ts is. no_expr_read b j l t ts is;
  no_type = λ l t ts is. no_type_read b j l t ts is;
}
deep_past cut a b p (suc k) j = record {
  rooms = rooms_read cut a b (suc k) j p;
  lists = lists_read cut a b (suc k) j p;
  expr = λ s l. past_only cut three _ _ (λ m ts us h. expr_goes cut 0 (reader a k) (reader b j) (deep_past cut a b p k j) s l Mode.Past m tt ts ts h);
  type = λ l. past_only cut three _ _ (λ m ts us h. type_goes cut 0 (reader a k) (reader b j) (deep_past cut a b p k j) l Mode.Past m tt ts ts h);
  names = λ l t ts le is h. absurd (omega (arith, le));
  no_expr = λ l t ts is. no_expr_read b j l t ts is;
  no_type = λ l t ts is. no_type_read b j l t ts is;
}

pub deep_read : (cut : Cut) (a b : Limit) → Paired cut a b → (n k j : ℕ) → n ≤ k → n ≤ j → Deep cut n (reader a k) (reader b j)
unfolding reader
deep_read cut a b p zero k j le le2 = deep_past cut a b p k j
deep_read cut a b p (suc n) zero j le le2 = absurd (omega (arith, le))
deep_read cut a b p (suc n) (suc k) zero le le2 = absurd (omega (arith, le2))
deep_read cut a b p (suc n) (suc k) (suc j) le le2 = let more : n + 1 ≡ suc n = omega arith in subst (λ z. Deep cut z (next_readers (reader a k)) (next_readers (reader b j))) more (step_deep cut n (reader a k) (reader b j) (deep_read cut a b p n k j (omega (arith, le)) (omega (arith, le2))))

-- ---- forms of whole declarations

-- how a function whose fuel is more than the number of tokens follows another one
whole_goes : {X : Type 0} (cut : Cut) (s : Shape X) (a b : Limit) → Paired cut a b → (f g : Readers → Tokens → Answer X) → ((n : ℕ) (go other : Readers) → Deep cut n go other → Enters cut s n (f go) (g other))
    → (mode : Mode) (m : ℕ) (ts us : Tokens) → Meets cut mode m ts us → Goes cut s mode m (f (reader a (length ts + 1)) ts) (g (reader b (length us + 1)) us)
whole_goes cut s a b p f g h Mode.Past m ts us meets = h 0 (reader a (length ts + 1)) (reader b (length us + 1)) (deep_read cut a b p 0 (length ts + 1) (length us + 1) (omega arith) (omega arith)) Mode.Past m tt ts us meets
whole_goes cut s a b p f g h Mode.Before m ts us (q, e, e2, le) =
    raise_to cut s (length q) m le _ _ (h (length q + 1) (reader a (length ts + 1)) (reader b (length us + 1))
    (deep_read cut a b p (length q + 1) (length ts + 1) (length us + 1) (omega (arith, ap length e, length_cut q cut.here)) (omega (arith, ap length e2, length_cut q cut.there)))
    Mode.Before (length q) (omega arith) ts us (q, e, e2, omega arith))

whole_takes : {X : Type 0} (cut : Cut) (s : Shape X) (a b : Limit) → Paired cut a b → (f g : Readers → Tokens → Answer X) → ((n : ℕ) (go other : Readers) → Deep cut n go other → Takes cut s n (f go) (g other))
    → (mode : Mode) (m : ℕ) (ts us : Tokens) → Took cut mode m ts us → Goes cut s mode m (f (reader a (length ts + 1)) ts) (g (reader b (length us + 1)) us)
whole_takes cut s a b p f g h Mode.Past m ts us meets = h 0 (reader a (length ts + 1)) (reader b (length us + 1)) (deep_read cut a b p 0 (length ts + 1) (length us + 1) (omega arith) (omega arith)) Mode.Past m tt ts us meets
whole_takes cut s a b p f g h Mode.Before m ts us (q, e, e2, le) =
    raise_to cut s (length q) m le _ _ (h (length q + 1) (reader a (length ts + 1)) (reader b (length us + 1))
    (deep_read cut a b p (length q + 1) (length ts + 1) (length us + 1) (omega (arith, ap length e, length_cut q cut.here)) (omega (arith, ap length e2, length_cut q cut.there)))
    Mode.Before (length q) (omega arith) ts us (q, e, e2, omega arith))

-- a whole expression, a type, and a list in a frame, with fuel for all their tokens
pub whole_expr : (cut : Cut) (a b : Limit) → Paired cut a b → (l : Nesting) (mode : Mode) (m : ℕ) (ts us : Tokens) → Meets cut mode m ts us → Goes cut three mode m (nested_expr (reader a (length ts + 1)) l ts) (nested_expr (reader b (length us + 1)) l us)
whole_expr cut a b p l = whole_goes cut three a b p (λ go ts. nested_expr go l ts) (λ go ts. nested_expr go l ts) (λ n go other d. deeper_goes cut n go other d l)

pub whole_type : (cut : Cut) (a b : Limit) → Paired cut a b → (l : Nesting) (mode : Mode) (m : ℕ) (ts us : Tokens) → Meets cut mode m ts us → Goes cut three mode m ((reader a (length ts + 1)).type l ts) ((reader b (length us + 1)).type l us)
whole_type cut a b p l = whole_goes cut three a b p (λ go ts. go.type l ts) (λ go ts. go.type l ts) (λ n go other d. d.type l)

pub whole_framed : (cut : Cut) (a b : Limit) → Paired cut a b → (i : Item) (end : TerminalKind) (l : Nesting) (mode : Mode) (m : ℕ) (ts us : Tokens) → Took cut mode m ts us
    → Goes cut two mode m (framed_with (reader a (length ts + 1)) i end l ts) (framed_with (reader b (length us + 1)) i end l us)
whole_framed cut a b p i end l = whole_takes cut two a b p (λ go ts. framed_with go i end l ts) (λ go ts. framed_with go i end l ts) (λ n go other d. framed_goes cut n go other d i end l)
