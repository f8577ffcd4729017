-- Each expression and type of the grammar is read, whatever follows it that does not go on with it.
use Rattle.std.proofs.Common.{◌≡◌, ◌∙◌, ℕ, zero, suc, ◌+◌, ◌-◌, ◌<◌, ◌≤◌, Bool, true, false, if◌then◌else◌, List, [], ◌∷◌, ◌++◌, length, Some, None, Ok, refl, sym, ap, subst, append_assoc, append-nil, length-append, arith}
use Rattle.pvs_parser.specs.declared.nesting.Nesting.{Nesting}
use Rattle.pvs_parser.specs.declared.start.Start.TheVariants as start
use Rattle.pvs_parser.specs.declared.terminal.Connective.{Connective}
use Rattle.pvs_parser.specs.declared.terminal.Connective.TheVariants as connective
use Rattle.pvs_parser.specs.declared.terminal.Prefix.{Prefix}
use Rattle.pvs_parser.specs.declared.terminal.Prefix.TheVariants as prefixes
use Rattle.pvs_parser.specs.declared.terminal.Terminal.{Terminal}
use Rattle.pvs_parser.specs.declared.terminal.TerminalKind.{TerminalKind}
use Rattle.pvs_parser.specs.declared.terminal.TerminalKind.TheVariants as kind
use Rattle.pvs_syntax.specs.declared.word.Word.{Word}
use Rattle.pvs_syntax.specs.declared.expression.Actual.{Actual}
use Rattle.pvs_syntax.specs.declared.expression.Actual.TheVariants as actuals
use Rattle.pvs_syntax.specs.declared.expression.BinderWord.{BinderWord}
use Rattle.pvs_syntax.specs.declared.expression.Expr.{Expr}
use Rattle.pvs_syntax.specs.declared.expression.Expr.TheVariants as expr
use Rattle.pvs_syntax.specs.declared.expression.InfixWord.{InfixWord}
use Rattle.pvs_syntax.specs.declared.expression.InstExpr.{InstExpr}
use Rattle.pvs_syntax.specs.declared.expression.NameExpr.{NameExpr}
use Rattle.pvs_syntax.specs.declared.expression.TypeExpr.{TypeExpr}
use Rattle.pvs_syntax.specs.declared.expression.TypeExpr.TheVariants as type_expr
use Rattle.pvs_parser.specs.Terminals.{Is, IsId, is_id, same_kind}
use Rattle.pvs_parser.specs.Language.{Limit, Tokens, IsBelow, HasRoom, level, Derives, Ending, Plain, Bound, Form, Item, Nonterminal, form, item, list, name, inst, type_, TreeOf, ItemTree, operand_form, name_with_theory, sign, comparison, in_frame, without_marks, with_mark, with_lasting_mark, before_call, binder_word, group_tree}
use Rattle.pvs_parser.specs.code.Descent.{Answer, Read, Readers, after, prefix, prefix_of_binder, begins, begins_of, compares, compares_of, label, label_of, comes_type, entries, starts_item, list_from, list_with, framed_with, name_after, name_term_with, name_type_with, first_of, first_with, call_mark, call_with, project, term_from, term_with, prefixed_with, binder_with, compared_from, operand_with, between_with, chain_with, cond_with, otherwise_of, otherwise_with, type_of, type_with, parameter_of, parameter_with, component_with, variable_with, bare_variable, definition_with, item_with, next_readers, reader}
use Rattle.pvs_base.specs.Answers.{◌>>=◌}
use Rattle.pvs_parser.proofs.Follows.{pull, pull_of, Ends, FormStops, ItemStops}
use Rattle.pvs_parser.proofs.Gets.{Gets, found, then_, there, absent, has_room, takes, names, numbers, after_is, after_other, both, unglue, from}
use Rattle.pvs_parser.proofs.Nonempty.{nonempty}
use Rattle.pvs_parser.proofs.Heads.{heads}
use Rattle.pvs_parser.proofs.DescentSteps.{Splits, is_same, AtMost, one_more, below_zero, enough_entries}

abbrev triple : {A B C : Type 0} → A → B → C → A × B × C
triple a b c = (a, b, c)

-- what deeper is read of shorter tokens
pub record GoComplete (go : Readers) (n : ℕ) : Type 0 where
  pub chain : (c : Connective) (e : Ending) (l : Nesting) (ts : Tokens) (x : Expr) (m : Nesting) → Derives go.limit (form (Form.Chain c e)) l ts x m → length ts < n
      → (all us : Tokens) → Splits all ts us → FormStops (Form.Chain c e) us → Gets (go.expr (start.Chain c) l all) (x, m, us)
  pub operand : (e : Ending) (l : Nesting) (ts : Tokens) (x : Expr) (m : Nesting) → Derives go.limit (form (Form.Operand e)) l ts x m → length ts < n
      → (all us : Tokens) → Splits all ts us → FormStops (Form.Operand e) us → Gets (go.expr start.Operand l all) (x, m, us)
  pub otherwise : (l : Nesting) (ts : Tokens) (x : Expr) (m : Nesting) → Derives go.limit (form Form.Otherwise) l ts x m → length ts < n
      → (all us : Tokens) → Splits all ts us → Gets (go.expr start.Otherwise l all) (x, m, us)
  pub type : (l : Nesting) (ts : Tokens) (x : TypeExpr) (m : Nesting) → Derives go.limit type_ l ts x m → length ts < n
      → (all us : Tokens) → Splits all ts us → Ends us → Gets (go.type l all) (x, m, us)

-- a term goes over into what is read after it
abbrev pub TermAfter : Readers → Bool → Nesting → Tokens → Expr → Nesting → Tokens → Tokens → Type 0
TermAfter go b l ts x m all us = (begins all ≡ None) × ((n : ℕ) → length ts ≤ n → (k : ℕ) × (suc n ≤ k + length ts)
    × ((y : Expr × Nesting × Tokens) → Gets (term_from go k b x m us) y → Gets (first_with go l all >>= λ p. term_from go n p.1 p.0 l p.2) y))

abbrev pub TermReads : Readers → Bool → Nesting → Tokens → Expr → Nesting → Type 0
TermReads go b l ts x m = (all us : Tokens) → Splits all ts us → Ends us → TermAfter go b l ts x m all us

abbrev pub ComparisonsRead : Readers → Nesting → Tokens → Expr → Nesting → Type 0
ComparisonsRead go l ts x m = (all us : Tokens) → Splits all ts us → Ends us → pull_of us < 6 → (begins all ≡ None) × ((n : ℕ) → length ts ≤ n → (k : ℕ) × (suc n ≤ k + length ts)
    × ((y : Expr × Nesting × Tokens) → Gets (compared_from go k x m us) y → Gets (term_with go l all >>= λ p. compared_from go n p.0 p.1 p.2) y))

abbrev pub PrefixedReads : Readers → Ending → Nesting → Tokens → Expr → Nesting → Type 0
PrefixedReads go e l ts x m = (t : Terminal) × (vs : Tokens) × (ts ≡ t ∷ vs) × (p : Prefix) × (prefix t.kind ≡ Some p)
    × ((all us : Tokens) → Splits all vs us → FormStops (Form.Prefixed e) us → Gets (prefixed_with go l p t.word all) (x, m, us))

abbrev pub FormReads : Readers → (f : Form) → Nesting → Tokens → Expr → Nesting → Type 0
FormReads go (Form.Chain c e) l ts x m = (all us : Tokens) → Splits all ts us → FormStops (Form.Chain c e) us → Gets (chain_with go c l all) (x, m, us)
FormReads go (Form.Operand e) l ts x m = (all us : Tokens) → Splits all ts us → FormStops (Form.Operand e) us → Gets (operand_with go l all) (x, m, us)
FormReads go Form.Comparisons l ts x m = ComparisonsRead go l ts x m
FormReads go (Form.Prefixed e) l ts x m = PrefixedReads go e l ts x m
FormReads go (Form.Term b) l ts x m = TermReads go b l ts x m
FormReads go Form.Otherwise l ts x m = ((us : Tokens) → ItemStops Item.Expression (ts ++ us)) × ((all us : Tokens) → Splits all ts us → Gets (otherwise_with go l all) (x, m, us))

abbrev pub NameReads : Readers → Nesting → Tokens → NameExpr → Nesting → Type 0
NameReads go l ts x m = (t : Terminal) × (vs : Tokens) × (ts ≡ t ∷ vs) × IsId t × (m ≡ l) × ((all us : Tokens) → Splits all vs us → Ends us → (after kind.Colon all ≡ None) × Gets (name_after go t.word l all) (x, us))

-- an instance, after which a dot and an identifier stand
abbrev pub InstReads : Readers → Nesting → Tokens → InstExpr → Nesting → Type 0
InstReads go l ts x m = (t : Terminal) × (vs : Tokens) × (ts ≡ t ∷ vs) × IsId t × (m ≡ l)
    × ((all us : Tokens) (d u : Terminal) → Splits all vs (d ∷ u ∷ us) → Is kind.Dot d → IsId u → (after kind.Colon all ≡ None) × Gets (name_after go t.word l all) (name_with_theory x u.word, us))

-- a list, after items found before
abbrev pub ListReads : Readers → (i : Item) → Nesting → Tokens → List (ItemTree i) → Nesting → Type 0
ListReads go i l ts xs m = (length xs ≤ length ts) × (IsBelow go.limit 0 → AtMost go.limit (length xs))
    × ((all us : Tokens) → Splits all ts us → ItemStops i us → after kind.Comma us ≡ None → (room : ℕ) (before : List (ItemTree i)) → length xs ≤ room
    → Gets (list_from (starts_item i) (item_with go i) room before l all) (before ++ xs, m, us))

-- how each form is read
abbrev pub Reads : Readers → (s : Nonterminal) → Nesting → Tokens → TreeOf s → Nesting → Type 0
Reads go (form f) l ts x m = FormReads go f l ts x m
Reads go (item i) l ts x m = (all us : Tokens) → Splits all ts us → ItemStops i us → Gets (item_with go i l all) (x, m, us)
Reads go (list i) l ts xs m = ListReads go i l ts xs m
Reads go name l ts x m = NameReads go l ts x m
Reads go inst l ts x m = InstReads go l ts x m
Reads go type_ l ts x m = (all us : Tokens) → Splits all ts us → Ends us → (label all ≡ None) × Gets (type_with go l all) (x, m, us)

-- the tokens are no more than so many, and fewer where a list or an item is read of them
abbrev pub MayFollow : Nonterminal → ℕ → Tokens → Type 0
MayFollow (list i) n ts = length ts < n
MayFollow (item i) n ts = length ts < n
MayFollow s n ts = length ts ≤ n

-- ---- what stops a form

-- a terminal with which no name goes on
abbrev pub plain : TerminalKind → Bool
plain kind.Dot = false
plain kind.OpenBracket = false
plain kind.Colon = false
plain _ = true

plain_no : (k : TerminalKind) → plain k ≡ true → (same_kind k kind.Dot ≡ false) × (same_kind k kind.OpenBracket ≡ false) × (same_kind k kind.Colon ≡ false)
unfolding same_kind
plain_no kind.Dot e = cc
plain_no kind.OpenBracket e = cc
plain_no kind.Colon e = cc
plain_no _ e = (refl, refl, refl)

pub ends_at : (k : TerminalKind) → plain k ≡ true → (t : Terminal) (us : Tokens) → Is k t → Ends (t ∷ us)
ends_at k e t us is =
    let f = plain_no k e in
    (after_other kind.Dot k t us is f.0, after_other kind.OpenBracket k t us is f.1, after_other kind.Colon k t us is f.2)

pub pull_at : (k : TerminalKind) (n : ℕ) → pull k < n → (t : Terminal) (us : Tokens) → Is k t → pull_of (t ∷ us) < n
pull_at k n lt t us is = subst (λ z. z < n) (sym (ap pull is)) lt

pub item_stops : (i : Item) (us : Tokens) → pull_of us < 1 → Ends us → ItemStops i us
item_stops Item.Expression us lt e = (lt, e)
item_stops Item.Parameter us lt e = (lt, e)
item_stops Item.Definition us lt e = (lt, e)
item_stops Item.Component us lt e = e
item_stops Item.Variable us lt e = e
item_stops Item.BareVariable us lt e = tt

-- a terminal that ends an item
abbrev pub IsEnd : TerminalKind → Type 0
IsEnd k = (plain k ≡ true) × (pull k < 1)

pub stops_at : (i : Item) (k : TerminalKind) → IsEnd k → (t : Terminal) (us : Tokens) → Is k t → ItemStops i (t ∷ us)
stops_at i k end t us is = item_stops i (t ∷ us) (pull_at k 1 end.1 t us is) (ends_at k end.0 t us is)

pub whole_stops : (e : Ending) (us : Tokens) → pull_of us < 1 → Ends us → FormStops (Form.Chain connective.Iff e) us
whole_stops Plain us lt ends = (lt, ends)
whole_stops Bound us lt ends = (lt, ends)

tighter_stops : (c : Connective) (e : Ending) (us : Tokens) → FormStops (Form.Chain c e) us → FormStops (operand_form c e) us
tighter_stops connective.Iff Plain us stop = (omega (arith, stop.0), stop.1)
tighter_stops connective.Implies Plain us stop = (omega (arith, stop.0), stop.1)
tighter_stops connective.Or Plain us stop = (omega (arith, stop.0), stop.1)
tighter_stops connective.And Plain us stop = (omega (arith, stop.0), stop.1)
tighter_stops connective.Iff Bound us stop = stop
tighter_stops connective.Implies Bound us stop = stop
tighter_stops connective.Or Bound us stop = stop
tighter_stops connective.And Bound us stop = stop

sign_stops : (c : Connective) (t : Terminal) (us : Tokens) → Is (sign c) t → FormStops (operand_form c Plain) (t ∷ us)
sign_stops connective.Iff t us is = (pull_at kind.Iff 2 (omega arith) t us is, ends_at kind.Iff refl t us is)
sign_stops connective.Implies t us is = (pull_at kind.Implies 3 (omega arith) t us is, ends_at kind.Implies refl t us is)
sign_stops connective.Or t us is = (pull_at kind.Or 4 (omega arith) t us is, ends_at kind.Or refl t us is)
sign_stops connective.And t us is = (pull_at kind.And 5 (omega arith) t us is, ends_at kind.And refl t us is)

-- a terminal that does not pull so much is not that one
not_pulled_of : (k : TerminalKind) (t : Terminal) (us : Tokens) → pull t.kind < pull k → (b : Bool) → same_kind t.kind k ≡ b → (if b then Some us else None) ≡ None
not_pulled_of k t us lt true is = let same : pull t.kind ≡ pull k = ap pull (is_same t.kind k is) in absurd (omega (arith, lt, same))
not_pulled_of k t us lt false is = refl

not_pulled : (k : TerminalKind) (us : Tokens) → pull_of us < pull k → after k us ≡ None
not_pulled k [] lt = refl
not_pulled k (t ∷ us) lt = not_pulled_of k t us lt (same_kind t.kind k) refl

sign_absent : (c : Connective) (e : Ending) (us : Tokens) → FormStops (Form.Chain c e) us → after (sign c) us ≡ None
sign_absent connective.Iff Plain us stop = not_pulled kind.Iff us (omega (arith, stop.0))
sign_absent connective.Implies Plain us stop = not_pulled kind.Implies us (omega (arith, stop.0))
sign_absent connective.Or Plain us stop = not_pulled kind.Or us (omega (arith, stop.0))
sign_absent connective.And Plain us stop = not_pulled kind.And us (omega (arith, stop.0))
sign_absent connective.Iff Bound us stop = not_pulled kind.Iff us (omega (arith, stop.0))
sign_absent connective.Implies Bound us stop = not_pulled kind.Implies us (omega (arith, stop.0))
sign_absent connective.Or Bound us stop = not_pulled kind.Or us (omega (arith, stop.0))
sign_absent connective.And Bound us stop = not_pulled kind.And us (omega (arith, stop.0))

no_comparison : (k : TerminalKind) → pull k < 5 → comparison k ≡ None
no_comparison kind.Equal lt = absurd (omega (arith, lt))
no_comparison kind.Differs lt = absurd (omega (arith, lt))
no_comparison _ lt = refl

compares_absent : (us : Tokens) → pull_of us < 5 → compares us ≡ None
compares_absent [] lt = refl
compares_absent (t ∷ us) lt = ap (λ o. compares_of o us) (no_comparison t.kind lt)

is_comparison : (k : TerminalKind) (w : InfixWord) → comparison k ≡ Some w → (plain k ≡ true) × (pull k < 6)
is_comparison kind.Equal w e = (refl, omega arith)
is_comparison kind.Differs w e = (refl, omega arith)
is_comparison _ w e = cc

-- ---- lengths

pub splits_front : {all ts us : Tokens} → Splits all ts us → length ts ≤ length all
splits_front {all = all} {ts = ts} {us = us} s = let e : length all ≡ length (ts ++ us) = ap length s.same in omega (arith, e, length-append ts us)

-- ---- lists

list_one_goes : {A : Type 0} (starts : TerminalKind → Bool) (reads : Nesting → Tokens → Read A) (room : ℕ) (before : List A) (x : A) (l m : Nesting) (all us : Tokens) → Gets (reads l all) (x, m, us) → after kind.Comma us ≡ None → 1 ≤ room
    → Gets (list_from starts reads room before l all) (before ++ x ∷ [], m, us)
unfolding list_from
list_one_goes starts reads zero before x l m all us g none le = absurd (omega (arith, le))
list_one_goes starts reads (suc room) before x l m all us g none le = then_ _ g (absent _ none found)

list_more_goes : {A : Type 0} (starts : TerminalKind → Bool) (reads : Nesting → Tokens → Read A) (room : ℕ) (before : List A) (x : A) (xs : List A) (l k m : Nesting) (all us vs : Tokens) (t : Terminal) → Gets (reads l all) (x, k, t ∷ us) → Is kind.Comma t
    → suc (length xs) ≤ room → ((r : ℕ) → length xs ≤ r → Gets (list_from starts reads r (before ++ x ∷ []) (without_marks k) us) ((before ++ x ∷ []) ++ xs, m, vs)) → Gets (list_from starts reads room before l all) (before ++ x ∷ xs, m, vs)
unfolding list_from
list_more_goes starts reads zero before x xs l k m all us vs t g is le h = absurd (omega (arith, le))
list_more_goes starts reads (suc room) before x xs l k m all us vs t g is le h =
    then_ _ g (there _ _ (after_is kind.Comma t us is) (subst (λ z. Gets (list_from starts reads room (before ++ x ∷ []) (without_marks k) us) (triple z m vs)) (append_assoc before (x ∷ []) xs) (h room (omega (arith, le)))))

list_goes : (go : Readers) (i : Item) (l m : Nesting) (ts : Tokens) (xs : List (ItemTree i)) → ListReads go i l ts xs m → (n : ℕ) → IsBelow go.limit n → (all us : Tokens) → Splits all ts us → ItemStops i us → after kind.Comma us ≡ None
    → Gets (list_with go i l all) (xs, m, us)
list_goes go i l m ts xs reads n below all us s stop none =
    reads.2 all us s stop none (entries go.limit all) [] (enough_entries go.limit (length xs) all (reads.1 (below_zero go.limit n below)) (omega (arith, reads.0, splits_front s)))

pub framed_goes : (go : Readers) (i : Item) (end : TerminalKind) (l k : Nesting) (ts us all : Tokens) (xs : List (ItemTree i)) (u : Terminal) → ListReads go i (in_frame l) ts xs k → HasRoom go.limit l → IsEnd end → same_kind end kind.Comma ≡ false → Is end u
    → Splits all ts (u ∷ us) → Gets (framed_with go i end l all) (xs, us)
framed_goes go i end l k ts us all xs u reads lt stop other is s =
    has_room go.limit l (in_frame l) _ _ lt (then_ _ (list_goes go i (in_frame l) k ts xs reads (level l) lt all (u ∷ us) s (stops_at i end stop u us is) (after_other kind.Comma end u us is other)) (takes end u us _ is found))

-- ---- chains

between_goes : (go : Readers) (c : Connective) (e : Ending) (l : Nesting) (ts : Tokens) (x : Expr) (m : Nesting) → FormReads go (operand_form c e) l ts x m → (all us : Tokens) → Splits all ts us → FormStops (operand_form c e) us → Gets (between_with go c l all) (x, m, us)
between_goes go connective.Iff e l ts x m f all us s stop = f all us s stop
between_goes go connective.Implies e l ts x m f all us s stop = f all us s stop
between_goes go connective.Or e l ts x m f all us s stop = f all us s stop
between_goes go connective.And e l ts x m f all us s stop = f all us s stop

-- ---- comparisons

prefix_stops : (e : Ending) (us : Tokens) → FormStops (Form.Operand e) us → FormStops (Form.Prefixed e) us
prefix_stops Plain us stop = stop
prefix_stops Bound us stop = stop

begins_is : (all vs us : Tokens) (t : Terminal) (p : Prefix) → all ≡ t ∷ (vs ++ us) → prefix t.kind ≡ Some p → begins all ≡ Some (p, t.word, vs ++ us)
begins_is all vs us t p e is = ap begins e ∙ ap (λ o. begins_of o t.word (vs ++ us)) is

begins_none : (all us : Tokens) (t : Terminal) → all ≡ t ∷ us → prefix t.kind ≡ None → begins all ≡ None
begins_none all us t e is = ap begins e ∙ ap (λ o. begins_of o t.word us) is

compared_stops : (go : Readers) (k : ℕ) (x : Expr) (m : Nesting) (us : Tokens) → compares us ≡ None → Gets (compared_from go k x m us) (x, m, us)
unfolding compared_from
compared_stops go zero x m us e = found
compared_stops go (suc k) x m us e = absent _ e found

compares_is : (t : Terminal) (us : Tokens) (w : InfixWord) → comparison t.kind ≡ Some w → compares (t ∷ us) ≡ Some (w, us)
compares_is t us w is = ap (λ o. compares_of o us) is

compared_prefixed_goes : (go : Readers) (k : ℕ) (x y : Expr) (w : InfixWord) (l m : Nesting) (t u : Terminal) (us vs rest : Tokens) (p : Prefix) → 1 ≤ k → comparison t.kind ≡ Some w → HasRoom go.limit l → us ≡ u ∷ vs → prefix u.kind ≡ Some p
    → Gets (prefixed_with go (with_mark l) p u.word vs) (y, m, rest) → Gets (compared_from go k x l (t ∷ us)) (expr.Infix w x y, m, rest)
unfolding compared_from
compared_prefixed_goes go zero x y w l m t u us vs rest p le is lt e pre g = absurd (omega (arith, le))
compared_prefixed_goes go (suc k) x y w l m t u us vs rest p le is lt e pre g =
    there _ _ (compares_is t us w is) (has_room go.limit l (with_mark l) _ _ lt (there _ _ (begins_is us vs [] u p (e ∙ ap (λ z. u ∷ z) (sym (append-nil vs))) pre ∙ ap (λ z. Some (triple p u.word z)) (append-nil vs)) (then_ _ g found)))

compares_goes : (go : Readers) (k : ℕ) (x y : Expr) (w : InfixWord) (l m : Nesting) (t : Terminal) (us rest : Tokens) (z : Expr × Nesting × Tokens) → 1 ≤ k → comparison t.kind ≡ Some w → HasRoom go.limit l → begins us ≡ None
    → Gets (term_with go (with_mark l) us) (y, m, rest) → ((j : ℕ) → suc j ≡ k → Gets (compared_from go j (expr.Infix w x y) m rest) z) → Gets (compared_from go k x l (t ∷ us)) z
unfolding compared_from
compares_goes go zero x y w l m t us rest z le is lt none g h = absurd (omega (arith, le))
compares_goes go (suc k) x y w l m t us rest z le is lt none g h =
    there _ _ (compares_is t us w is) (has_room go.limit l (with_mark l) _ _ lt (absent _ none (then_ _ g (h k refl))))

-- ---- terms

term_stops : (go : Readers) (k : ℕ) (b : Bool) (x : Expr) (m : Nesting) (us : Tokens) → pull_of us < 6 → Gets (term_from go k b x m us) (x, m, us)
unfolding term_from
term_stops go zero b x m us lt = found
term_stops go (suc k) b x m us lt = absent _ (not_pulled kind.Open us lt) (absent _ (not_pulled kind.Backquote us lt) found)

term_whole : (go : Readers) (b : Bool) (l : Nesting) (ts : Tokens) (x : Expr) (m : Nesting) → TermReads go b l ts x m → (all us : Tokens) → Splits all ts us → Ends us → pull_of us < 6 → Gets (term_with go l all) (x, m, us)
term_whole go b l ts x m f all us s ends lt =
    let r = (f all us s ends).1 (length all) (splits_front s) in
    r.2 (x, m, us) (term_stops go r.0 b x m us lt)

call_goes : (go : Readers) (k : ℕ) (b : Bool) (f : Expr) (xs : List Expr) (l j : Nesting) (t : Terminal) (us rest : Tokens) (z : Expr × Nesting × Tokens) → 1 ≤ k → Is kind.Open t
    → Gets (call_with go b f l us) (expr.Apply f xs, j, rest) → ((i : ℕ) → suc i ≡ k → Gets (term_from go i true (expr.Apply f xs) j rest) z) → Gets (term_from go k b f l (t ∷ us)) z
unfolding term_from
call_goes go zero b f xs l j t us rest z le is g h = absurd (omega (arith, le))
call_goes go (suc k) b f xs l j t us rest z le is g h = there _ _ (after_is kind.Open t us is) (then_ _ g (h k refl))

not_open : same_kind kind.Backquote kind.Open ≡ false
unfolding same_kind
not_open = refl

project_reads : (limit : Limit) (x : Expr) (l : Nesting) (u : Terminal) (rest : Tokens) → HasRoom limit l → Is kind.Number u → Gets (project limit x l (u ∷ rest)) (expr.Project x u.word, with_mark l, rest)
project_reads limit x l u rest lt number = has_room limit l (with_mark l) (u ∷ rest) _ lt (numbers u rest _ number found)

project_goes : (go : Readers) (k : ℕ) (b : Bool) (x : Expr) (l : Nesting) (t u : Terminal) (rest : Tokens) (z : Expr × Nesting × Tokens) → 1 ≤ k → Is kind.Backquote t → HasRoom go.limit l → Is kind.Number u
    → ((i : ℕ) → suc i ≡ k → Gets (term_from go i true (expr.Project x u.word) (with_mark l) rest) z) → Gets (term_from go k b x l (t ∷ u ∷ rest)) z
unfolding term_from
project_goes go zero b x l t u rest z le is lt number h = absurd (omega (arith, le))
project_goes go (suc k) b x l t u rest z le is lt number h =
    absent _ (after_other kind.Open kind.Backquote t (u ∷ rest) is not_open) (there _ _ (after_is kind.Backquote t (u ∷ rest) is) (then_ _ (project_reads go.limit x l u rest lt number) (h k refl)))

less_room : (limit : Limit) (l : Nesting) → HasRoom limit (with_mark l) → HasRoom limit l
less_room (Some most) l lt = omega (arith, lt)
less_room None l lt = lt

call_mark_goes : {B : Type 0} (limit : Limit) (b : Bool) (l : Nesting) (ts : Tokens) (f : Nesting → Answer B) (y : B) → HasRoom limit (before_call b l) → Gets (f (before_call b l)) y → Gets (call_mark limit b l ts >>= f) y
call_mark_goes limit true l ts f y lt g = has_room limit l (with_mark l) ts f (less_room limit l lt) g
call_mark_goes limit false l ts f y lt g = g

first_goes : (go : Readers) (l : Nesting) (t : Terminal) (us all : Tokens) (k : TerminalKind) (y : Expr × Bool × Tokens) → Is k t → Gets (first_of go l t us k) y → all ≡ t ∷ us → Gets (first_with go l all) y
first_goes go l t us all k y is g e = record { is = ap (λ z. first_with go l z) e ∙ ap (first_of go l t us) is ∙ g.is }

-- what is read first and goes over into what is after it
first_term : (go : Readers) (b : Bool) (l : Nesting) (ts : Tokens) (x : Expr) (all us rest : Tokens) (t : Terminal) → all ≡ t ∷ rest → prefix t.kind ≡ None → Gets (first_with go l all) (x, b, us) → 1 ≤ length ts
    → (begins all ≡ None) × ((n : ℕ) → length ts ≤ n → (k : ℕ) × (suc n ≤ k + length ts) × ((y : Expr × Nesting × Tokens) → Gets (term_from go k b x l us) y → Gets (first_with go l all >>= λ p. term_from go n p.1 p.0 l p.2) y))
first_term go b l ts x all us rest t e none g some = (begins_none all rest t e none, λ n le. (n, omega (arith, some), λ y h. then_ _ g h))

first_id : (go : Readers) (l : Nesting) (t : Terminal) (us : Tokens) (k : TerminalKind) → is_id k ≡ true → first_of go l t us k ≡ name_term_with go l t.word us
first_id go l t us kind.Id e = refl
first_id go l t us kind.Proof e = refl
first_id go l t us _ e = cc

prefix_id : (k : TerminalKind) → is_id k ≡ true → prefix k ≡ None
prefix_id kind.Id e = refl
prefix_id kind.Proof e = refl
prefix_id _ e = cc

prefix_binder : (k : TerminalKind) (w : BinderWord) → binder_word k ≡ Some w → prefix k ≡ Some (prefixes.Binder w)
prefix_binder kind.Not w e = cc
prefix_binder kind.Let w e = cc
prefix_binder _ w e = ap prefix_of_binder e

pub no_comma_close : same_kind kind.Close kind.Comma ≡ false
unfolding same_kind
no_comma_close = refl

pub no_comma_bracket : same_kind kind.CloseBracket kind.Comma ≡ false
unfolding same_kind
no_comma_bracket = refl

no_comma_colon : same_kind kind.Colon kind.Comma ≡ false
unfolding same_kind
no_comma_colon = refl

no_comma_in : same_kind kind.In kind.Comma ≡ false
unfolding same_kind
no_comma_in = refl

no_comma_arrow : same_kind kind.Arrow kind.Comma ≡ false
unfolding same_kind
no_comma_arrow = refl

no_open : (k : TerminalKind) → is_id k ≡ true → same_kind k kind.Open ≡ false
unfolding same_kind
no_open kind.Id e = refl
no_open kind.Proof e = refl
no_open _ e = cc

-- ---- names

name_type_kind : (go : Readers) (l : Nesting) (t : Terminal) (us : Tokens) (k : TerminalKind) → is_id k ≡ true → type_of go l t us k ≡ name_type_with go l t.word us
name_type_kind go l t us kind.Id e = refl
name_type_kind go l t us kind.Proof e = refl
name_type_kind go l t us _ e = cc

type_goes : (go : Readers) (l : Nesting) (t : Terminal) (us all : Tokens) (k : TerminalKind) (y : TypeExpr × Nesting × Tokens) → Is k t → Gets (type_of go l t us k) y → all ≡ t ∷ us → Gets (type_with go l all) y
type_goes go l t us all k y is g e = record { is = ap (λ z. type_with go l z) e ∙ ap (type_of go l t us) is ∙ g.is }

otherwise_goes : (go : Readers) (l : Nesting) (t : Terminal) (us all : Tokens) (k : TerminalKind) (y : Expr × Nesting × Tokens) → Is k t → Gets (otherwise_of go l t us k) y → all ≡ t ∷ us → Gets (otherwise_with go l all) y
otherwise_goes go l t us all k y is g e = record { is = ap (λ z. otherwise_with go l z) e ∙ ap (otherwise_of go l t us) is ∙ g.is }

-- ---- IF

cond_goes : (go : Readers) (n : ℕ) → GoComplete go n → (w : Word) (l k j m : Nesting) (ts us vs : Tokens) (c x y : Expr) (u : Terminal) → length vs < n → Reads go (item Item.Expression) l ts c k → Is kind.Then u
    → Reads go (item Item.Expression) (without_marks k) us x j → Derives go.limit (form Form.Otherwise) j vs y m → ((rest : Tokens) → ItemStops Item.Expression (vs ++ rest))
    → (all rest : Tokens) → Splits all (ts ++ u ∷ (us ++ vs)) rest → Gets (cond_with go w l all) (expr.Cond c x y w.pos, m, rest)
cond_goes go n g w l k j m ts us vs c x y u fits d is e f stop all rest s =
    then_ _ (then_ _ (d all (u ∷ ((us ++ vs) ++ rest)) (unglue ts (u ∷ (us ++ vs)) s)
    (stops_at Item.Expression kind.Then (refl, omega arith) u ((us ++ vs) ++ rest) is)) (takes kind.Then u ((us ++ vs) ++ rest) _ is found))
    (then_ _ (e ((us ++ vs) ++ rest) (vs ++ rest) (unglue us vs both) (stop rest))
    (then_ _ (g.otherwise j vs y m f fits (vs ++ rest) rest both) found))

-- ---- labels

labels_none : (t : Terminal) (us : Tokens) → IsId t → after kind.Colon us ≡ None → label (t ∷ us) ≡ None
labels_none t us is none = ap (λ b. if b then label_of t.word (after kind.Colon us) else None) is ∙ ap (label_of t.word) none

labels_other : (t : Terminal) (us : Tokens) (k : TerminalKind) → Is k t → is_id k ≡ false → label (t ∷ us) ≡ None
labels_other t us k is other = ap (λ b. if b then label_of t.word (after kind.Colon us) else None) (ap is_id is ∙ other)

dot_no_colon : same_kind kind.Dot kind.Colon ≡ false
unfolding same_kind
dot_no_colon = refl

dot_no_bracket : same_kind kind.Dot kind.OpenBracket ≡ false
unfolding same_kind
dot_no_bracket = refl

bracket_no_colon : same_kind kind.OpenBracket kind.Colon ≡ false
unfolding same_kind
bracket_no_colon = refl

equal_no_colon : same_kind kind.Equal kind.Colon ≡ false
unfolding same_kind
equal_no_colon = refl

bracket_no_arrow : same_kind kind.CloseBracket kind.Arrow ≡ false
unfolding same_kind
bracket_no_arrow = refl

operand_stops : (e : Ending) (us : Tokens) → FormStops (Form.Prefixed e) us → FormStops (Form.Operand e) us
operand_stops Plain us stop = stop
operand_stops Bound us stop = stop

some : {limit : Limit} (s : Nonterminal) (l : Nesting) (ts : Tokens) (x : TreeOf s) (m : Nesting) → Derives limit s l ts x m → 1 ≤ length ts
some s l ts x m d = let f = nonempty s l ts x m d in let e : length ts ≡ suc (length f.1) = ap length f.2 in omega (arith, e)

before : (k j : ℕ) → 1 ≤ k → suc j ≡ k → k - 1 ≡ j
before k j le e = omega (arith, le, e)

parameter_goes : (go : Readers) (l : Nesting) (all : Tokens) (y : Actual × Nesting × Tokens) (b : Bool) → comes_type all ≡ b → Gets (parameter_of go l all b) y → Gets (parameter_with go l all) y
parameter_goes go l all y b is g = record { is = ap (λ b. parameter_of go l all b) is ∙ g.is }

labels_is : (t u : Terminal) (us : Tokens) → IsId t → Is kind.Colon u → label (t ∷ u ∷ us) ≡ Some (t.word, us)
labels_is t u us is colon = ap (λ b. if b then label_of t.word (after kind.Colon (u ∷ us)) else None) is ∙ ap (label_of t.word) (after_is kind.Colon u us colon)

-- ---- all forms

pub complete : (go : Readers) (n : ℕ) → GoComplete go n → (s : Nonterminal) (l : Nesting) (ts : Tokens) (x : TreeOf s) (m : Nesting) → Derives go.limit s l ts x m → MayFollow s n ts → Reads go s l ts x m
complete go n g _ _ _ _ _ (Derives.one i l m ts x d) fits = (
  some (item i) l ts x m d,
  λ below. one_more go.limit 0 below,
  λ all us s stop none room before le. list_one_goes (starts_item i) (item_with go i) room before x l m all us (complete go n g (item i) l ts x m d fits all us s stop) none le,
)
complete go n g _ _ _ _ _ (Derives.more i l k m ts us x xs t d is e lt) fits =
    let h = complete go n g (list i) (without_marks k) us xs m e (omega (arith, fits, length-append ts (t ∷ us))) in
    let f = complete go n g (item i) l ts x k d (omega (arith, fits, length-append ts (t ∷ us))) in (
      omega (arith, h.0, length-append ts (t ∷ us)),
      λ below. one_more go.limit (length xs) lt,
      λ all vs s stop none room before le. list_more_goes (starts_item i) (item_with go i) room before x xs l k m all (us ++ vs) vs t
          (f all (t ∷ (us ++ vs)) (unglue ts (t ∷ us) s) (stops_at i kind.Comma (refl, omega arith) t (us ++ vs) is)) is le
          (λ r small. h.2 (us ++ vs) vs both stop none r (before ++ x ∷ []) small),
    )
complete go n g _ _ _ _ _ (Derives.expression e l m ts x d) fits =
    λ all us s stop. g.chain connective.Iff e l ts x m d fits all us s (whole_stops e us stop.0 stop.1)
complete go n g _ _ _ _ _ (Derives.alone c e l m ts x d) fits =
    λ all us s stop. then_ _ (between_goes go c e l ts x m (complete go n g (form (operand_form c e)) l ts x m d fits) all us s (tighter_stops c e us stop)) (absent _ (sign_absent c e us stop) found)
complete go n g _ _ _ _ _ (Derives.joined c e l k m ts us x y t d is lt f) fits =
    λ all vs s stop. then_ _ (between_goes go c Plain l ts x k (complete go n g (form (operand_form c Plain)) l ts x k d (omega (arith, fits, length-append ts (t ∷ us)))) all (t ∷ (us ++ vs)) (unglue ts (t ∷ us) s) (sign_stops c t (us ++ vs) is))
    (there _ _ (after_is (sign c) t (us ++ vs) is) (has_room go.limit k (with_mark k) _ _ lt (then_ _ (g.chain c e (with_mark k) us y m f (omega (arith, fits, length-append ts (t ∷ us))) (us ++ vs) vs both stop) found)))
complete go n g _ _ _ _ _ (Derives.compared l m ts x d) fits =
    λ all us s stop.
    let h = complete go n g (form Form.Comparisons) l ts x m d fits all us s stop.1 (omega (arith, stop.0)) in
    let q = h.1 (length all) (splits_front s) in
    absent _ h.0 (q.2 (x, m, us) (compared_stops go q.0 x m us (compares_absent us stop.0)))
complete go n g _ _ _ _ _ (Derives.prefixed e l m ts x d) fits =
    λ all us s stop.
    let h = complete go n g (form (Form.Prefixed e)) l ts x m d fits in
    there _ _ (begins_is all h.1 us h.0 h.3 (s.same ∙ ap (λ z. z ++ us) h.2) h.4) (h.5 (h.1 ++ us) us both (prefix_stops e us stop))
complete go n g _ _ _ _ _ (Derives.compared_prefixed e l k m ts us x y w t d is lt f) fits =
    λ all vs s stop.
    let c = is_comparison t.kind w is in
    let h = complete go n g (form Form.Comparisons) l ts x k d (omega (arith, fits, length-append ts (t ∷ us))) all (t ∷ (us ++ vs)) (unglue ts (t ∷ us) s) (ends_at t.kind c.0 t (us ++ vs) refl) c.1 in
    let q = h.1 (length all) (splits_front (unglue ts (t ∷ us) s)) in
    let b = complete go n g (form (Form.Prefixed e)) (with_mark k) us y m f (omega (arith, fits, length-append ts (t ∷ us))) in
    absent _ h.0 (q.2 (expr.Infix w x y, m, vs) (compared_prefixed_goes go q.0 x y w k m t b.0 (us ++ vs) (b.1 ++ vs) vs b.3
    (omega (arith, q.1, splits_front s, length-append ts (t ∷ us))) is lt (ap (λ z. z ++ vs) b.2) b.4 (b.5 (b.1 ++ vs) vs both (prefix_stops e vs stop))))
complete go n g _ _ _ _ _ (Derives.term b l m ts x d) fits =
    λ all us s ends lt.
    let f = complete go n g (form (Form.Term b)) l ts x m d fits in
    ((f all us s ends).0, λ n le. (n, omega (arith, some (form (Form.Term b)) l ts x m d), λ y c. then_ _ (term_whole go b l ts x m f all us s ends lt) c))
complete go n g _ _ _ _ _ (Derives.compares b l k m ts us x y w t d is lt f) fits =
    λ all vs s ends stop.
    let c = is_comparison t.kind w is in
    let len = length-append ts (t ∷ us) in
    let h = complete go n g (form Form.Comparisons) l ts x k d (omega (arith, fits, length-append ts (t ∷ us))) all (t ∷ (us ++ vs)) (unglue ts (t ∷ us) s) (ends_at t.kind c.0 t (us ++ vs) refl) c.1 in
    let r = complete go n g (form (Form.Term b)) (with_mark k) us y m f (omega (arith, fits, length-append ts (t ∷ us))) in (
      h.0,
      λ n le.
          let q = h.1 n (omega (arith, le, length-append ts (t ∷ us))) in
          let two : 2 ≤ q.0 = omega (arith, le, q.1, length-append ts (t ∷ us)) in (
            q.0 - 1,
            omega (arith, q.1, two, length-append ts (t ∷ us)),
            λ z e. q.2 z (compares_goes go q.0 x y w k m t (us ++ vs) vs z (omega (arith, two)) is lt (r (us ++ vs) vs both ends).0
                (term_whole go b (with_mark k) us y m r (us ++ vs) vs both ends stop) (λ j j_is. subst (λ i. Gets (compared_from go i (expr.Infix w x y) m vs) z) (before q.0 j (omega (arith, two)) j_is) e)),
          ),
    )
complete go n g _ _ _ _ _ (Derives.not e l m ts x t is lt d) fits =
    (t, ts, refl, prefixes.Negation, ap prefix is, λ all us s stop. has_room go.limit l (with_mark l) _ _ lt (then_ _ (g.operand e (with_mark l) ts x m d (omega (arith, fits)) all us s (operand_stops e us stop)) found))
complete go n g _ _ _ _ _ (Derives.binder e l k m ts us bs x w t u v c is lt opened lt2 d close colon f) fits =
    let len = length-append ts (v ∷ c ∷ us) in
    let h = complete go n g (list Item.Variable) (in_frame (with_lasting_mark l)) ts bs k d (omega (arith, fits, length-append ts (v ∷ c ∷ us))) in (
      t,
      u ∷ (ts ++ v ∷ c ∷ us),
      refl,
      prefixes.Binder w,
      prefix_binder t.kind w is,
      λ all rest s stop. from (λ z. binder_with go w t.word l z) s (has_room go.limit l (with_lasting_mark l) (u ∷ ((ts ++ v ∷ c ∷ us) ++ rest)) _ lt (there _ _ (after_is kind.Open u ((ts ++ v ∷ c ∷ us) ++ rest) opened)
          (then_ _ (framed_goes go Item.Variable kind.Close (with_lasting_mark l) k ts (c ∷ (us ++ rest)) ((ts ++ v ∷ c ∷ us) ++ rest) bs v h lt2 (refl, omega arith) no_comma_close close (unglue ts (v ∷ c ∷ us) both))
          (takes kind.Colon c (us ++ rest) _ colon (then_ _ (g.chain connective.Iff e (with_lasting_mark l) us x m f (omega (arith, fits, length-append ts (v ∷ c ∷ us))) (us ++ rest) rest both (whole_stops e rest stop.0 stop.1)) found))))),
    )
complete go n g _ _ _ _ _ (Derives.bare_binder e l k m ts us bs x w t c is lt d colon f) fits =
    let h = complete go n g (list Item.BareVariable) (with_lasting_mark l) ts bs k d (omega (arith, fits, length-append ts (c ∷ us))) in
    let b = heads (list Item.BareVariable) (with_lasting_mark l) ts bs k d in (
      t,
      ts ++ c ∷ us,
      refl,
      prefixes.Binder w,
      prefix_binder t.kind w is,
      λ all rest s stop. has_room go.limit l (with_lasting_mark l) _ _ lt (absent _ (ap (after kind.Open) (s.same ∙ ap (λ z. (z ++ c ∷ us) ++ rest) b.2) ∙ after_other kind.Open b.0.kind b.0 ((b.1 ++ c ∷ us) ++ rest) refl (no_open b.0.kind b.3))
          (then_ _ (list_goes go Item.BareVariable (with_lasting_mark l) k ts bs h (level l) lt all (c ∷ (us ++ rest)) (unglue ts (c ∷ us) s) tt (after_other kind.Comma kind.Colon c (us ++ rest) colon no_comma_colon))
          (takes kind.Colon c (us ++ rest) _ colon (then_ _ (g.chain connective.Iff e k us x m f (omega (arith, fits, length-append ts (c ∷ us))) (us ++ rest) rest both (whole_stops e rest stop.0 stop.1)) found)))),
    )
complete go n g _ _ _ _ _ (Derives.let_in e l k m ts us ps x t u is lt d in_ f) fits =
    let h = complete go n g (list Item.Definition) (with_lasting_mark l) ts ps k d (omega (arith, fits, length-append ts (u ∷ us))) in (
      t,
      ts ++ u ∷ us,
      refl,
      prefixes.Local,
      ap prefix is,
      λ all rest s stop. has_room go.limit l (with_lasting_mark l) _ _ lt
          (then_ _ (list_goes go Item.Definition (with_lasting_mark l) k ts ps h (level l) lt all (u ∷ (us ++ rest)) (unglue ts (u ∷ us) s) (stops_at Item.Definition kind.In (refl, omega arith) u (us ++ rest) in_) (after_other kind.Comma kind.In u (us ++ rest) in_ no_comma_in))
          (takes kind.In u (us ++ rest) _ in_ (then_ _ (g.chain connective.Iff e k us x m f (omega (arith, fits, length-append ts (u ∷ us))) (us ++ rest) rest both (whole_stops e rest stop.0 stop.1)) found))),
    )
complete go n g _ _ _ _ _ (Derives.truth l t is) fits =
    λ all us s ends. first_term go false l (t ∷ []) (expr.Truth true t.word.pos) all us us t s.same (ap prefix is) (first_goes go l t us all kind.True _ is found s.same) (omega arith)
complete go n g _ _ _ _ _ (Derives.falsity l t is) fits =
    λ all us s ends. first_term go false l (t ∷ []) (expr.Truth false t.word.pos) all us us t s.same (ap prefix is) (first_goes go l t us all kind.False _ is found s.same) (omega arith)
complete go n g _ _ _ _ _ (Derives.name_term l m ts x d) fits =
    let h = complete go n g name l ts x m d fits in
    λ all us s ends.
    let e : all ≡ h.0 ∷ (h.1 ++ us) = s.same ∙ ap (λ z. z ++ us) h.2 in
    subst (λ z. TermAfter go false l ts (expr.NameTerm x) z all us) (sym h.4)
    (first_term go false l ts (expr.NameTerm x) all us (h.1 ++ us) h.0 e (prefix_id h.0.kind h.3)
    (record { is = ap (λ z. first_with go l z) e ∙ first_id go l h.0 (h.1 ++ us) h.0.kind h.3 ∙ (then_ (λ p. Ok (triple (expr.NameTerm p.0) false p.1)) (h.5 (h.1 ++ us) us both ends).1 found).is })
    (some name l ts x m d))
complete go n g _ _ _ _ _ (Derives.group l k ts xs t u is lt d close) fits =
    let h = complete go n g (list Item.Expression) (in_frame l) ts xs k d (omega (arith, fits, length-append ts (u ∷ []))) in
    λ all us s ends. first_term go true l (t ∷ (ts ++ u ∷ [])) (group_tree t.word.pos xs) all us ((ts ++ u ∷ []) ++ us) t s.same (ap prefix is)
    (first_goes go l t ((ts ++ u ∷ []) ++ us) all kind.Open _ is (then_ _ (framed_goes go Item.Expression kind.Close l k ts us ((ts ++ u ∷ []) ++ us) xs u h lt (refl, omega arith) no_comma_close close (unglue ts (u ∷ []) both)) found) s.same) (omega arith)
complete go n g _ _ _ _ _ (Derives.cond l k j m ts us vs c x y t u is lt d behind e f) fits =
    let h = complete go n g (form Form.Otherwise) j vs y m f (omega (arith, fits, length-append ts (u ∷ (us ++ vs)), length-append us vs)) in
    let a = complete go n g (item Item.Expression) (in_frame l) ts c k d (omega (arith, fits, length-append ts (u ∷ (us ++ vs)))) in
    let b = complete go n g (item Item.Expression) (without_marks k) us x j e (omega (arith, fits, length-append ts (u ∷ (us ++ vs)), length-append us vs)) in
    λ all rest s ends. first_term go true l (t ∷ (ts ++ u ∷ (us ++ vs))) (expr.Cond c x y t.word.pos) all rest ((ts ++ u ∷ (us ++ vs)) ++ rest) t s.same (ap prefix is)
    (first_goes go l t ((ts ++ u ∷ (us ++ vs)) ++ rest) all kind.If _ is (has_room go.limit l (in_frame l) _ _ lt (then_ _ (cond_goes go n g t.word (in_frame l) k j m ts us vs c x y u (omega (arith, fits, length-append ts (u ∷ (us ++ vs)), length-append us vs)) a behind b f h.0 ((ts ++ u ∷ (us ++ vs)) ++ rest) rest both) found)) s.same) (omega arith)
complete go n g _ _ _ _ _ (Derives.else_ l m ts x t u is d end) fits = (
  λ us. stops_at Item.Expression kind.Else (refl, omega arith) t ((ts ++ u ∷ []) ++ us) is,
  λ all us s. otherwise_goes go l t ((ts ++ u ∷ []) ++ us) all kind.Else _ is
      (then_ _ (complete go n g (item Item.Expression) (without_marks l) ts x m d (omega (arith, fits, length-append ts (u ∷ []))) ((ts ++ u ∷ []) ++ us) (u ∷ us) (unglue ts (u ∷ []) both) (stops_at Item.Expression kind.EndIf (refl, omega arith) u us end)) (takes kind.EndIf u us _ end found)) s.same,
)
complete go n g _ _ _ _ _ (Derives.elsif l k j m ts us vs c x y t u is lt d behind e f) fits =
    let h = complete go n g (form Form.Otherwise) j vs y m f (omega (arith, fits, length-append ts (u ∷ (us ++ vs)), length-append us vs)) in
    let a = complete go n g (item Item.Expression) (with_lasting_mark (without_marks l)) ts c k d (omega (arith, fits, length-append ts (u ∷ (us ++ vs)))) in
    let b = complete go n g (item Item.Expression) (without_marks k) us x j e (omega (arith, fits, length-append ts (u ∷ (us ++ vs)), length-append us vs)) in (
      λ rest. stops_at Item.Expression kind.Elsif (refl, omega arith) t ((ts ++ u ∷ (us ++ vs)) ++ rest) is,
      λ all rest s. otherwise_goes go l t ((ts ++ u ∷ (us ++ vs)) ++ rest) all kind.Elsif _ is
          (has_room go.limit (without_marks l) (with_lasting_mark (without_marks l)) _ _ lt (cond_goes go n g t.word (with_lasting_mark (without_marks l)) k j m ts us vs c x y u (omega (arith, fits, length-append ts (u ∷ (us ++ vs)), length-append us vs)) a behind b f h.0 ((ts ++ u ∷ (us ++ vs)) ++ rest) rest both)) s.same,
    )
complete go n g _ _ _ _ _ (Derives.call b l k j ts us f xs t u d is lt e close) fits =
    let h = complete go n g (form (Form.Term b)) l ts f k d (omega (arith, fits, length-append ts (t ∷ (us ++ u ∷ [])))) in
    let r = complete go n g (list Item.Expression) (in_frame (before_call b k)) us xs j e (omega (arith, fits, length-append ts (t ∷ (us ++ u ∷ [])), length-append us (u ∷ []))) in
    λ all vs s ends.
    let a = h all (t ∷ ((us ++ u ∷ []) ++ vs)) (unglue ts (t ∷ (us ++ u ∷ [])) s) (ends_at kind.Open refl t ((us ++ u ∷ []) ++ vs) is) in (
      a.0,
      λ n le.
          let q = a.1 n (omega (arith, le, length-append ts (t ∷ (us ++ u ∷ [])))) in
          let two : 2 ≤ q.0 = omega (arith, le, q.1, length-append ts (t ∷ (us ++ u ∷ []))) in (
            q.0 - 1,
            omega (arith, q.1, two, length-append ts (t ∷ (us ++ u ∷ []))),
            λ z c. q.2 z (call_goes go q.0 b f xs k (before_call b k) t ((us ++ u ∷ []) ++ vs) vs z (omega (arith, two)) is
                (call_mark_goes go.limit b k _ _ _ lt (then_ _ (framed_goes go Item.Expression kind.Close (before_call b k) j us vs ((us ++ u ∷ []) ++ vs) xs u r lt (refl, omega arith) no_comma_close close (unglue us (u ∷ []) both)) found))
                (λ i i_is. subst (λ i. Gets (term_from go i true (expr.Apply f xs) (before_call b k) vs) z) (before q.0 i (omega (arith, two)) i_is) c)),
          ),
    )
complete go n g _ _ _ _ _ (Derives.project b l k ts x t u d is lt number) fits =
    let h = complete go n g (form (Form.Term b)) l ts x k d (omega (arith, fits, length-append ts (t ∷ u ∷ []))) in
    λ all vs s ends.
    let a = h all (t ∷ u ∷ vs) (unglue ts (t ∷ u ∷ []) s) (ends_at kind.Backquote refl t (u ∷ vs) is) in (
      a.0,
      λ n le.
          let q = a.1 n (omega (arith, le, length-append ts (t ∷ u ∷ []))) in
          let two : 2 ≤ q.0 = omega (arith, le, q.1, length-append ts (t ∷ u ∷ [])) in (
            q.0 - 1,
            omega (arith, q.1, two, length-append ts (t ∷ u ∷ [])),
            λ z c. q.2 z (project_goes go q.0 b x k t u vs z (omega (arith, two)) is lt number
                (λ i i_is. subst (λ i. Gets (term_from go i true (expr.Project x u.word) (with_mark k) vs) z) (before q.0 i (omega (arith, two)) i_is) c)),
          ),
    )
complete go n g _ _ _ _ _ (Derives.plain_name l t is) fits =
    (t, [], refl, is, refl, λ all us s ends. (ap (after kind.Colon) s.same ∙ ends.2, from (λ z. name_after go t.word l z) s (absent _ ends.1 (absent _ ends.0 found))))
complete go n g _ _ _ _ _ (Derives.qualified_name l m ts i t u d dot is) fits =
    let h = complete go n g inst l ts i m d (omega (arith, fits, length-append ts (t ∷ u ∷ []))) in
    (h.0, h.1 ++ t ∷ u ∷ [], ap (λ z. z ++ t ∷ u ∷ []) h.2, h.3, h.4, λ all us s ends. h.5 all us t u (unglue h.1 (t ∷ u ∷ []) s) dot is)
complete go n g _ _ _ _ _ (Derives.plain_inst l t is) fits = (
  t,
  [],
  refl,
  is,
  refl,
  λ all us d u s dot id. (
    ap (after kind.Colon) s.same ∙ after_other kind.Colon kind.Dot d (u ∷ us) dot dot_no_colon,
    from (λ z. name_after go t.word l z) s (absent _ (after_other kind.OpenBracket kind.Dot d (u ∷ us) dot dot_no_bracket) (there _ _ (after_is kind.Dot d (u ∷ us) dot) (names u us _ id found))),
  ),
)
complete go n g _ _ _ _ _ (Derives.inst_with l k ts xs t u v is opened lt d close) fits =
    let h = complete go n g (list Item.Parameter) (in_frame l) ts xs k d (omega (arith, fits, length-append ts (v ∷ []))) in (
      t,
      u ∷ (ts ++ v ∷ []),
      refl,
      is,
      refl,
      λ all us d y s dot id. (
        ap (after kind.Colon) s.same ∙ after_other kind.Colon kind.OpenBracket u ((ts ++ v ∷ []) ++ d ∷ y ∷ us) opened bracket_no_colon,
        from (λ z. name_after go t.word l z) s (there _ _ (after_is kind.OpenBracket u ((ts ++ v ∷ []) ++ d ∷ y ∷ us) opened)
            (then_ _ (framed_goes go Item.Parameter kind.CloseBracket l k ts (d ∷ y ∷ us) ((ts ++ v ∷ []) ++ d ∷ y ∷ us) xs v h lt (refl, omega arith) no_comma_bracket close (unglue ts (v ∷ []) both)) (takes kind.Dot d (y ∷ us) _ dot (names y us _ id found)))),
      ),
    )
complete go n g _ _ _ _ _ (Derives.expr_actual e l m ts x d) fits =
    let b = heads (form (Form.Chain connective.Iff e)) l ts x m d in
    λ all us s stop.
    parameter_goes go l all (triple (actuals.ExprActual x) m us) false (ap comes_type (s.same ∙ ap (λ z. z ++ us) b.2) ∙ b.3) (then_ _ (g.chain connective.Iff e l ts x m d fits all us s (whole_stops e us stop.0 stop.1)) found)
complete go n g _ _ _ _ _ (Derives.type_actual l m ts a t is d) fits =
    λ all us s stop. parameter_goes go l all (triple (actuals.TypeActual a) m us) true (ap comes_type s.same ∙ is) (then_ _ (g.type l (t ∷ ts) a m d fits all us s stop.1) found)
complete go n g _ _ _ _ _ (Derives.name_type l m ts x d) fits =
    let h = complete go n g name l ts x m d fits in
    λ all us s ends.
    let e : all ≡ h.0 ∷ (h.1 ++ us) = s.same ∙ ap (λ z. z ++ us) h.2 in
    let r = h.5 (h.1 ++ us) us both ends in (
      ap label e ∙ labels_none h.0 (h.1 ++ us) h.3 r.0,
      record {
        is = ap (λ z. type_with go l z) e ∙ name_type_kind go l h.0 (h.1 ++ us) h.0.kind h.3 ∙ (then_ (λ p. Ok (triple (type_expr.NameType p.0) l p.1)) r.1 found).is ∙ ap (λ z. Ok (triple (type_expr.NameType x) z us)) (sym h.4);
      },
    )
complete go n g _ _ _ _ _ (Derives.pred_type l k ts x t u is lt d close) fits =
    λ all us s ends. (
      ap label s.same ∙ labels_other t ((ts ++ u ∷ []) ++ us) kind.Open is refl,
      type_goes go l t ((ts ++ u ∷ []) ++ us) all kind.Open _ is
          (has_room go.limit l (in_frame l) _ _ lt (then_ _ (complete go n g (item Item.Expression) (in_frame l) ts x k d (omega (arith, fits, length-append ts (u ∷ []))) ((ts ++ u ∷ []) ++ us) (u ∷ us) (unglue ts (u ∷ []) both) (stops_at Item.Expression kind.Close (refl, omega arith) u us close))
          (takes kind.Close u us _ close found))) s.same,
    )
complete go n g _ _ _ _ _ (Derives.sub_type l k m ts us a x t u v w y is lt id colon d bar e close) fits =
    λ all rest s ends. (
      ap label s.same ∙ labels_other t (u ∷ v ∷ ((ts ++ w ∷ (us ++ y ∷ [])) ++ rest)) kind.OpenBrace is refl,
      type_goes go l t (u ∷ v ∷ ((ts ++ w ∷ (us ++ y ∷ [])) ++ rest)) all kind.OpenBrace _ is
          (has_room go.limit l (in_frame l) (u ∷ v ∷ ((ts ++ w ∷ (us ++ y ∷ [])) ++ rest)) _ lt (then_ _ (names u (v ∷ ((ts ++ w ∷ (us ++ y ∷ [])) ++ rest)) _ id (takes kind.Colon v ((ts ++ w ∷ (us ++ y ∷ [])) ++ rest) _ colon
          (then_ _ (g.type (in_frame l) ts a k d (omega (arith, fits, length-append ts (w ∷ (us ++ y ∷ [])))) ((ts ++ w ∷ (us ++ y ∷ [])) ++ rest) (w ∷ ((us ++ y ∷ []) ++ rest)) (unglue ts (w ∷ (us ++ y ∷ [])) both) (ends_at kind.Bar refl w ((us ++ y ∷ []) ++ rest) bar))
          (takes kind.Bar w ((us ++ y ∷ []) ++ rest) _ bar found))))
          (then_ _ (complete go n g (item Item.Expression) k us x m e (omega (arith, fits, length-append ts (w ∷ (us ++ y ∷ [])), length-append us (y ∷ []))) ((us ++ y ∷ []) ++ rest) (y ∷ rest) (unglue us (y ∷ []) both) (stops_at Item.Expression kind.CloseBrace (refl, omega arith) y rest close))
          (takes kind.CloseBrace y rest _ close found)))) s.same,
    )
complete go n g _ _ _ _ _ (Derives.tuple_type l k ts b c bs t u is lt d close) fits =
    let h = complete go n g (list Item.Component) (in_frame l) ts (b ∷ c ∷ bs) k d (omega (arith, fits, length-append ts (u ∷ []))) in
    λ all us s ends. (
      ap label s.same ∙ labels_other t ((ts ++ u ∷ []) ++ us) kind.OpenBracket is refl,
      type_goes go l t ((ts ++ u ∷ []) ++ us) all kind.OpenBracket _ is
          (has_room go.limit l (in_frame l) _ _ lt (then_ _ (list_goes go Item.Component (in_frame l) k ts (b ∷ c ∷ bs) h (level l) lt ((ts ++ u ∷ []) ++ us) (u ∷ us) (unglue ts (u ∷ []) both) (ends_at kind.CloseBracket refl u us close) (after_other kind.Comma kind.CloseBracket u us close no_comma_bracket))
          (absent _ (after_other kind.Arrow kind.CloseBracket u us close bracket_no_arrow) (takes kind.CloseBracket u us _ close found)))) s.same,
    )
complete go n g _ _ _ _ _ (Derives.fun_type l k m ts us bs a t u v is lt d arrow e close) fits =
    let h = complete go n g (list Item.Component) (in_frame l) ts bs k d (omega (arith, fits, length-append ts (u ∷ (us ++ v ∷ [])))) in
    λ all rest s ends. (
      ap label s.same ∙ labels_other t ((ts ++ u ∷ (us ++ v ∷ [])) ++ rest) kind.OpenBracket is refl,
      type_goes go l t ((ts ++ u ∷ (us ++ v ∷ [])) ++ rest) all kind.OpenBracket _ is
          (has_room go.limit l (in_frame l) _ _ lt (then_ _ (list_goes go Item.Component (in_frame l) k ts bs h (level l) lt ((ts ++ u ∷ (us ++ v ∷ [])) ++ rest) (u ∷ ((us ++ v ∷ []) ++ rest)) (unglue ts (u ∷ (us ++ v ∷ [])) both) (ends_at kind.Arrow refl u ((us ++ v ∷ []) ++ rest) arrow)
          (after_other kind.Comma kind.Arrow u ((us ++ v ∷ []) ++ rest) arrow no_comma_arrow))
          (there _ _ (after_is kind.Arrow u ((us ++ v ∷ []) ++ rest) arrow)
          (then_ _ (g.type k us a m e (omega (arith, fits, length-append ts (u ∷ (us ++ v ∷ [])), length-append us (v ∷ []))) ((us ++ v ∷ []) ++ rest) (v ∷ rest) (unglue us (v ∷ []) both) (ends_at kind.CloseBracket refl v rest close))
          (takes kind.CloseBracket v rest _ close found))))) s.same,
    )
complete go n g _ _ _ _ _ (Derives.named_component l m ts a t u is colon d) fits =
    λ all us s stop. from (λ z. component_with go l z) s (there _ _ (labels_is t u (ts ++ us) is colon) (then_ _ (g.type l ts a m d (omega (arith, fits)) (ts ++ us) us both stop) found))
complete go n g _ _ _ _ _ (Derives.component l m ts a t d) fits =
    let h = complete go n g type_ l (t ∷ ts) a m d (omega (arith, fits)) in
    λ all us s stop. from (λ z. component_with go l z) s (absent _ (ap label (sym s.same) ∙ (h all us s stop).0) (then_ _ (g.type l (t ∷ ts) a m d fits (t ∷ (ts ++ us)) us both stop) found))
complete go n g _ _ _ _ _ (Derives.untyped_variable l t is) fits =
    λ all us s stop. from (λ z. variable_with go l z) s (names t us _ is (absent _ stop.2 found))
complete go n g _ _ _ _ _ (Derives.typed_variable l m ts a t u is colon d) fits =
    λ all us s stop. from (λ z. variable_with go l z) s (names t (u ∷ (ts ++ us)) _ is (there _ _ (after_is kind.Colon u (ts ++ us) colon) (then_ _ (g.type l ts a m d (omega (arith, fits)) (ts ++ us) us both stop) found)))
complete go n g _ _ _ _ _ (Derives.bare_variable l t is) fits =
    λ all us s stop. from (λ z. bare_variable l z) s (names t us _ is found)
complete go n g _ _ _ _ _ (Derives.untyped_part e l m ts x t u is equal d) fits =
    λ all us s stop. from (λ z. definition_with go l z) s (names t (u ∷ (ts ++ us)) _ is (absent _ (after_other kind.Colon kind.Equal u (ts ++ us) equal equal_no_colon)
    (takes kind.Equal u (ts ++ us) _ equal (then_ _ (g.chain connective.Iff e l ts x m d (omega (arith, fits)) (ts ++ us) us both (whole_stops e us stop.0 stop.1)) found))))
complete go n g _ _ _ _ _ (Derives.typed_part e l k m ts us a x t u v is colon d equal f) fits =
    λ all rest s stop. from (λ z. definition_with go l z) s (names t (u ∷ ((ts ++ v ∷ us) ++ rest)) _ is (there _ _ (after_is kind.Colon u ((ts ++ v ∷ us) ++ rest) colon)
    (then_ _ (g.type l ts a k d (omega (arith, fits, length-append ts (v ∷ us))) ((ts ++ v ∷ us) ++ rest) (v ∷ (us ++ rest)) (unglue ts (v ∷ us) both) (ends_at kind.Equal refl v (us ++ rest) equal))
    (takes kind.Equal v (us ++ rest) _ equal (then_ _ (g.chain connective.Iff e k us x m f (omega (arith, fits, length-append ts (v ∷ us))) (us ++ rest) rest both (whole_stops e rest stop.0 stop.1)) found)))))

-- ---- the whole

too_small : (ts : Tokens) → length ts < 0 → ⊥
too_small ts lt = omega (arith, lt)

step_complete : (go : Readers) (a : ℕ) → GoComplete go a → GoComplete (next_readers go) (suc a)
step_complete go a g = record {
  chain = λ c e l ts x m d lt all us s stop. complete go a g (form (Form.Chain c e)) l ts x m d (omega (arith, lt)) all us s stop;
  operand = λ e l ts x m d lt all us s stop. complete go a g (form (Form.Operand e)) l ts x m d (omega (arith, lt)) all us s stop;
  otherwise = λ l ts x m d lt all us s. (complete go a g (form Form.Otherwise) l ts x m d (omega (arith, lt))).1 all us s;
  type = λ l ts x m d lt all us s stop. (complete go a g type_ l ts x m d (omega (arith, lt)) all us s stop).1;
}

-- what is shorter than the number of steps is read
pub reader_complete : (limit : Limit) (a : ℕ) → GoComplete (reader limit a) a
unfolding reader
reader_complete limit zero = record {
  chain = λ c e l ts x m d lt all us s stop. absurd (too_small ts lt);
  operand = λ e l ts x m d lt all us s stop. absurd (too_small ts lt);
  otherwise = λ l ts x m d lt all us s. absurd (too_small ts lt);
  type = λ l ts x m d lt all us s stop. absurd (too_small ts lt);
}
reader_complete limit (suc a) = step_complete (reader limit a) a (reader_complete limit a)
