-- The steps of which reading is made.
use Rattle.std.proofs.Common.{◌≡◌, ◌∙◌, ℕ, suc, ◌≤◌, Bool, true, false, if◌then◌else◌, [], ◌∷◌, ◌++◌, length, Option, Some, None, Ok, refl, sym, ap, append_assoc, rules, arith}
use Rattle.std.specs.Bool.{⊤}
use Rattle.std.proofs.lemmas.Bool.{ltb-true, lt-ltb}
use denote.Enum.Bare.{same_true, true_same}
use Rattle.pvs_parser.specs.contracts.terminal.TerminalKind.{the_type}
use Rattle.pvs_parser.specs.declared.nesting.Nesting.{Nesting}
use Rattle.pvs_parser.specs.declared.terminal.Prefix.{Prefix}
use Rattle.pvs_parser.specs.declared.terminal.Terminal.{Terminal}
use Rattle.pvs_parser.specs.declared.terminal.TerminalKind.{TerminalKind}
use Rattle.pvs_parser.specs.declared.terminal.TerminalKind.TheVariants as kind
use Rattle.pvs_syntax.specs.declared.word.Word.{Word}
use Rattle.pvs_syntax.specs.declared.expression.InfixWord.{InfixWord}
use Rattle.pvs_parser.specs.Terminals.{Is, IsId, is_id, same_kind}
use Rattle.pvs_parser.specs.Language.{Tokens, Limit, IsBelow, HasRoom, level, comparison}
use Rattle.pvs_parser.specs.code.Descent.{Answer, either, stop, after, expect, id, number, compares, compares_of, is_below, with_room, too_deep, entries, prefix, begins, begins_of, label, label_of}
use Rattle.pvs_base.specs.Answers.{◌>>=◌}
use Rattle.pvs_parser.proofs.Yields.{Yields, Finds, here, it, none, missing}

pub is_same : (a b : TerminalKind) → same_kind a b ≡ true → a ≡ b
unfolding same_kind
is_same a b e = same_true the_type (search rules) a b e

pub same_is : (a b : TerminalKind) → a ≡ b → same_kind a b ≡ true
unfolding same_kind
same_is a b e = true_same the_type a b e

-- ---- the tokens that come next

-- a terminal of the kind stands first
abbrev pub Comes : TerminalKind → Tokens → Tokens → Type 0
Comes k ts us = (t : Terminal) × (ts ≡ t ∷ us) × Is k t

after_one : (k : TerminalKind) (t : Terminal) (ts : Tokens) (b : Bool) → same_kind t.kind k ≡ b → Finds (if b then Some ts else None) (λ us. Comes k (t ∷ ts) us)
after_one k t ts true is = it (t, refl, is_same t.kind k is)
after_one k t ts false is = missing

pub after_yields : (k : TerminalKind) (ts : Tokens) → Finds (after k ts) (λ us. Comes k ts us)
after_yields k [] = missing
after_yields k (t ∷ ts) = after_one k t ts (same_kind t.kind k) refl

expect_one : (k : TerminalKind) (t : Terminal) (ts : Tokens) (b : Bool) → same_kind t.kind k ≡ b → Yields (if b then Ok ts else stop (t ∷ ts)) (λ us. Comes k (t ∷ ts) us)
expect_one k t ts true is = here (t, refl, is_same t.kind k is)
expect_one k t ts false is = none

pub expect_yields : (k : TerminalKind) (ts : Tokens) → Yields (expect k ts) (λ us. Comes k ts us)
expect_yields k [] = none
expect_yields k (t ∷ ts) = expect_one k t ts (same_kind t.kind k) refl

abbrev pub NumberComes : Tokens → Word × Tokens → Type 0
NumberComes ts p = (t : Terminal) × (ts ≡ t ∷ p.1) × Is kind.Number t × (t.word ≡ p.0)

number_one : (t : Terminal) (ts : Tokens) (b : Bool) → same_kind t.kind kind.Number ≡ b → Yields (if b then Ok (t.word, ts) else stop (t ∷ ts)) (NumberComes (t ∷ ts))
number_one t ts true is = here (t, refl, is_same t.kind kind.Number is, refl)
number_one t ts false is = none

pub number_yields : (ts : Tokens) → Yields (number ts) (NumberComes ts)
number_yields [] = none
number_yields (t ∷ ts) = number_one t ts (same_kind t.kind kind.Number) refl

abbrev pub Compares : Tokens → InfixWord × Tokens → Type 0
Compares ts p = (t : Terminal) × (ts ≡ t ∷ p.1) × (comparison t.kind ≡ Some p.0)

compares_one : (t : Terminal) (ts : Tokens) (o : Option InfixWord) → comparison t.kind ≡ o → Finds (compares_of o ts) (Compares (t ∷ ts))
compares_one t ts (Some w) is = it (t, refl, is)
compares_one t ts None is = missing

pub compares_yields : (ts : Tokens) → Finds (compares ts) (Compares ts)
compares_yields [] = missing
compares_yields (t ∷ ts) = compares_one t ts (comparison t.kind) refl

-- after an identifier
id_bind_one : {B : Type 0} (t : Terminal) (ts : Tokens) (f : Word × Tokens → Answer B) (Q : B → Type 0) → (IsId t → Yields (f (t.word, ts)) Q) → (b : Bool) → is_id t.kind ≡ b
    → Yields ((if b then Ok (t.word, ts) else stop (t ∷ ts)) >>= f) Q
id_bind_one t ts f Q g true is = g is
id_bind_one t ts f Q g false is = none

pub id_bind : {B : Type 0} (ts : Tokens) (f : Word × Tokens → Answer B) {Q : B → Type 0} → ((t : Terminal) (us : Tokens) → ts ≡ t ∷ us → IsId t → Yields (f (t.word, us)) Q) → Yields (id ts >>= f) Q
id_bind [] f g = none
id_bind (t ∷ ts) f {Q = Q} g = id_bind_one t ts f Q (λ is. g t ts refl is) (is_id t.kind) refl

-- an identifier and a colon stand first
abbrev pub Labels : Tokens → Word × Tokens → Type 0
Labels ts p = (t : Terminal) × (u : Terminal) × (ts ≡ t ∷ u ∷ p.1) × IsId t × Is kind.Colon u × (t.word ≡ p.0)

labels_of_one : (t : Terminal) (ts : Tokens) → IsId t → (o : Option Tokens) → Finds o (λ us. Comes kind.Colon ts us) → Finds (label_of t.word o) (Labels (t ∷ ts))
labels_of_one t ts is (Some us) f = let c = f.holds us refl in it (t, c.0, ap (λ z. t ∷ z) c.1, is, c.2, refl)
labels_of_one t ts is None f = missing

labels_one : (t : Terminal) (ts : Tokens) (b : Bool) → is_id t.kind ≡ b → Finds (if b then label_of t.word (after kind.Colon ts) else None) (Labels (t ∷ ts))
labels_one t ts true is = labels_of_one t ts is (after kind.Colon ts) (after_yields kind.Colon ts)
labels_one t ts false is = missing

pub labels_yields : (ts : Tokens) → Finds (label ts) (Labels ts)
labels_yields [] = missing
labels_yields (t ∷ ts) = labels_one t ts (is_id t.kind) refl

begins_one_case : {B : Type 0} (t : Terminal) (ts : Tokens) (f : Prefix × Word × Tokens → Answer B) (d : Answer B) (Q : B → Type 0)
    → ((p : Prefix) → prefix t.kind ≡ Some p → Yields (f (p, t.word, ts)) Q) → Yields d Q → (o : Option Prefix) → prefix t.kind ≡ o → Yields (either (begins_of o t.word ts) f d) Q
begins_one_case t ts f d Q g h (Some p) is = g p is
begins_one_case t ts f d Q g h None is = h

-- what begins, or does not
pub begins_cases : {B : Type 0} (ts : Tokens) (f : Prefix × Word × Tokens → Answer B) (d : Answer B) {Q : B → Type 0}
    → ((t : Terminal) (us : Tokens) (p : Prefix) → ts ≡ t ∷ us → prefix t.kind ≡ Some p → Yields (f (p, t.word, us)) Q) → Yields d Q → Yields (either (begins ts) f d) Q
begins_cases [] f d g h = h
begins_cases (t ∷ ts) f d {Q = Q} g h = begins_one_case t ts f d Q (λ p is. g t ts p refl is) h (prefix t.kind) refl

-- ---- levels and numbers of entries

pub below_is : (limit : Limit) (n : ℕ) → is_below limit n ≡ true → IsBelow limit n
below_is (Some most) n e = ltb-true n most e
below_is None n e = search rules

pub is_below_is : (limit : Limit) (n : ℕ) → IsBelow limit n → is_below limit n ≡ true
is_below_is (Some most) n lt = lt-ltb n most lt
is_below_is None n lt = refl

room_one : {B : Type 0} (limit : Limit) (n m : Nesting) (ts : Tokens) (f : Nesting → Answer B) (Q : B → Type 0) → (HasRoom limit n → Yields (f m) Q) → (b : Bool) → is_below limit (level n) ≡ b
    → Yields ((if b then Ok m else too_deep ts) >>= f) Q
room_one limit n m ts f Q g true is = g (below_is limit (level n) is)
room_one limit n m ts f Q g false is = none

-- after a test that one more frame or mark may stand
pub room : {B : Type 0} (limit : Limit) (n m : Nesting) (ts : Tokens) (f : Nesting → Answer B) {Q : B → Type 0} → (HasRoom limit n → Yields (f m) Q) → Yields (with_room limit n m ts >>= f) Q
room limit n m ts f {Q = Q} g = room_one limit n m ts f Q g (is_below limit (level n)) refl

-- a list may have so many entries
abbrev pub AtMost : Limit → ℕ → Type 0
AtMost (Some most) n = n ≤ most
AtMost None n = ⊤

pub below_at_most : (limit : Limit) (n k : ℕ) → AtMost limit (suc n) → k ≤ n → IsBelow limit k
below_at_most (Some most) n k some le = omega (arith, some, le)
below_at_most None n k some le = some

pub fewer : (limit : Limit) (n : ℕ) → AtMost limit (suc n) → AtMost limit n
fewer (Some most) n some = omega (arith, some)
fewer None n some = some

pub entries_at_most : (limit : Limit) (ts : Tokens) → AtMost limit (entries limit ts)
entries_at_most (Some most) ts = omega arith
entries_at_most None ts = search rules

pub one_more : (limit : Limit) (n : ℕ) → IsBelow limit n → AtMost limit (suc n)
one_more (Some most) n lt = omega (arith, lt)
one_more None n lt = lt

pub below_zero : (limit : Limit) (n : ℕ) → IsBelow limit n → IsBelow limit 0
below_zero (Some most) n lt = omega (arith, lt)
below_zero None n lt = lt

-- no more than the tokens, and as many as a list may have
pub enough_entries : (limit : Limit) (n : ℕ) (ts : Tokens) → AtMost limit n → n ≤ length ts → n ≤ entries limit ts
enough_entries (Some most) n ts some le = some
enough_entries None n ts some le = le

-- ---- tokens before others

-- the first tokens, and those after them
pub record Splits (ts vs us : Tokens) : Type 0 where
  pub same : ts ≡ vs ++ us

pub glue : {ts us vs ws rs : Tokens} → Splits ts vs us → Splits us ws rs → Splits ts (vs ++ ws) rs
glue {vs = vs} {ws = ws} {rs = rs} e f = record { same = e.same ∙ ap (λ z. vs ++ z) f.same ∙ sym (append_assoc vs ws rs) }

pub put : {ts us vs rs : Tokens} {t : Terminal} → ts ≡ t ∷ us → Splits us vs rs → Splits ts (t ∷ vs) rs
put {t = t} e f = record { same = e ∙ ap (λ z. t ∷ z) f.same }

pub alone : {ts us : Tokens} {t : Terminal} → ts ≡ t ∷ us → Splits ts (t ∷ []) us
alone e = record { same = e }

pub nothing : {ts : Tokens} → Splits ts [] ts
nothing = record { same = refl }
