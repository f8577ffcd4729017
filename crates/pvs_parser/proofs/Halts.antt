-- Where reading stops, the tokens before the stop can be completed: what is said of a stop, and the steps of its proof.
use Rattle.std.proofs.Common.{◌≡◌, ◌∙◌, ◌⊎◌, inl, inr, ℕ, ◌+◌, Bool, true, false, if◌then◌else◌, [], ◌∷◌, ◌++◌, length, Option, Some, None, Ok, Err, refl, sym, ap, subst, append_assoc, rules, arith}
use Rattle.std.proofs.lemmas.Bool.{ltb-true}
use Rattle.pvs_parser.specs.declared.failure.Reason.{Reason}
use Rattle.pvs_parser.specs.declared.failure.Reason.TheVariants as reason
use Rattle.pvs_parser.specs.declared.failure.Stop.{Stop}
use Rattle.pvs_parser.specs.declared.nesting.Nesting.{Nesting}
use Rattle.pvs_parser.specs.declared.terminal.Prefix.{Prefix}
use Rattle.pvs_parser.specs.declared.terminal.Terminal.{Terminal}
use Rattle.pvs_parser.specs.declared.terminal.TerminalKind.{TerminalKind}
use Rattle.pvs_parser.specs.declared.terminal.TerminalKind.TheVariants as kind
use Rattle.pvs_syntax.specs.declared.word.Word.{Word}
use Rattle.pvs_parser.specs.Terminals.{Is, IsId, is_id, same_kind}
use Rattle.pvs_parser.specs.Language.{Limit, Tokens, IsBelow, HasRoom, level, with_mark, before_call}
use Rattle.pvs_parser.specs.code.Descent.{Answer, either, stop, expect, id, number, is_below, with_room, too_deep, call_mark, prefix, begins, begins_of}
use Rattle.pvs_base.specs.Answers.{◌>>=◌}
use Rattle.pvs_parser.proofs.Yields.{Yields}
use Rattle.pvs_parser.proofs.DescentSteps.{Comes, expect_yields, is_below_is, Splits, glue, alone}

-- ---- what an answer that is a stop satisfies

pub record Stops {A : Type 0} (o : Answer A) (Q : Stop → Type 0) : Type 0 where
  pub holds : (e : Stop) → o ≡ Err e → Q e

abbrev answer : {A : Type 0} → Answer A → Answer A
answer o = o

err_same : {A : Type 0} (s e : Stop) → answer {A = A} (Err s) ≡ Err e → s ≡ e
err_same s e same = cc

ok_is : {A : Type 0} (x : A) (e : Stop) → answer (Ok x) ≡ Err e → ⊥
ok_is x e same = cc

-- reading that goes on
pub goes : {A : Type 0} {x : A} {Q : Stop → Type 0} → Stops (Ok x) Q
goes {A} {x} {Q} = record { holds = λ e same. absurd (ok_is x e same) }

pub stopped : {A : Type 0} {s : Stop} {Q : Stop → Type 0} → Q s → Stops {A = A} (Err s) Q
stopped {A} {s} {Q} q = record { holds = λ e same. subst Q (err_same {A = A} s e same) q }

bind_of : {A B : Type 0} (o : Answer A) (f : A → Answer B) {P : A → Type 0} (Q : Stop → Type 0) → Yields o P → Stops o Q → ((x : A) → P x → Stops (f x) Q) → Stops (o >>= f) Q
bind_of (Ok x) f Q y g h = h x (y.holds x refl)
bind_of (Err s) f Q y g h = stopped (g.holds s refl)

pub bind : {A B : Type 0} {o : Answer A} {f : A → Answer B} {P : A → Type 0} {Q : Stop → Type 0} → Yields o P → Stops o Q → ((x : A) → P x → Stops (f x) Q) → Stops (o >>= f) Q
bind {o = o} {f = f} {Q = Q} y g h = bind_of o f Q y g h

-- what only gives another form to what was read
then_of : {A B : Type 0} (o : Answer A) (f : A → Answer B) (Q : Stop → Type 0) → Stops o Q → ((x : A) → Stops (f x) Q) → Stops (o >>= f) Q
then_of (Ok x) f Q g h = h x
then_of (Err s) f Q g h = stopped (g.holds s refl)

pub then_ : {A B : Type 0} {o : Answer A} {f : A → Answer B} {Q : Stop → Type 0} → Stops o Q → ((x : A) → Stops (f x) Q) → Stops (o >>= f) Q
then_ {o = o} {f = f} {Q = Q} g h = then_of o f Q g h

cases_of : {A B : Type 0} (o : Option A) (f : A → Answer B) (d : Answer B) (Q : Stop → Type 0) → ((x : A) → o ≡ Some x → Stops (f x) Q) → (o ≡ None → Stops d Q) → Stops (either o f d) Q
cases_of (Some x) f d Q g h = g x refl
cases_of None f d Q g h = h refl

pub cases : {A B : Type 0} {o : Option A} {f : A → Answer B} {d : Answer B} {Q : Stop → Type 0} → ((x : A) → o ≡ Some x → Stops (f x) Q) → (o ≡ None → Stops d Q) → Stops (either o f d) Q
cases {o = o} {f = f} {d = d} {Q = Q} g h = cases_of o f d Q g h

pub weaken : {A : Type 0} {o : Answer A} {P Q : Stop → Type 0} → ((e : Stop) → P e → Q e) → Stops o P → Stops o Q
weaken f g = record { holds = λ e same. f e (g.holds e same) }

-- ---- the stops of the steps

-- at the first of these tokens, or at their end
abbrev pub at : Tokens → Stop
at ts = record { left = length ts; reason = reason.Unexpected }

-- at the token before these, which nests too deep
abbrev pub deep : Tokens → Stop
deep ts = record { left = length ts + 1; reason = reason.TooNested }

expect_one : (k : TerminalKind) (t : Terminal) (ts : Tokens) (Q : Stop → Type 0) → Q (at (t ∷ ts)) → (b : Bool) → Stops {A = Tokens} (if b then Ok ts else stop (t ∷ ts)) Q
expect_one k t ts Q q true = goes
expect_one k t ts Q q false = stopped q

expect_stops : (k : TerminalKind) (ts : Tokens) (Q : Stop → Type 0) → Q (at ts) → Stops (expect k ts) Q
expect_stops k [] Q q = stopped q
expect_stops k (t ∷ ts) Q q = expect_one k t ts Q q (same_kind t.kind k)

pub expect_then : {B : Type 0} (k : TerminalKind) (ts : Tokens) (f : Tokens → Answer B) {Q : Stop → Type 0} → Q (at ts) → ((us : Tokens) → Comes k ts us → Stops (f us) Q) → Stops (expect k ts >>= f) Q
expect_then k ts f {Q = Q} q g = bind (expect_yields k ts) (expect_stops k ts Q q) g

number_one : (t : Terminal) (ts : Tokens) (Q : Stop → Type 0) → Q (at (t ∷ ts)) → (b : Bool) → Stops {A = Word × Tokens} (if b then Ok (t.word, ts) else stop (t ∷ ts)) Q
number_one t ts Q q true = goes
number_one t ts Q q false = stopped q

pub number_stops : (ts : Tokens) {Q : Stop → Type 0} → Q (at ts) → Stops (number ts) Q
number_stops [] q = stopped q
number_stops (t ∷ ts) {Q = Q} q = number_one t ts Q q (same_kind t.kind kind.Number)

id_one : {B : Type 0} (t : Terminal) (ts : Tokens) (f : Word × Tokens → Answer B) (Q : Stop → Type 0) → Q (at (t ∷ ts)) → (IsId t → Stops (f (t.word, ts)) Q) → (b : Bool) → is_id t.kind ≡ b
    → Stops ((if b then Ok (t.word, ts) else stop (t ∷ ts)) >>= f) Q
id_one t ts f Q q g true is = g is
id_one t ts f Q q g false is = stopped q

pub id_then : {B : Type 0} (ts : Tokens) (f : Word × Tokens → Answer B) {Q : Stop → Type 0} → Q (at ts) → ((t : Terminal) (us : Tokens) → ts ≡ t ∷ us → IsId t → Stops (f (t.word, us)) Q) → Stops (id ts >>= f) Q
id_then [] f q g = stopped q
id_then (t ∷ ts) f {Q = Q} q g = id_one t ts f Q q (λ is. g t ts refl is) (is_id t.kind) refl

below_is : (limit : Limit) (n : ℕ) → is_below limit n ≡ true → IsBelow limit n
below_is (Some most) n e = ltb-true n most e
below_is None n e = search rules

room_one : {B : Type 0} (limit : Limit) (n m : Nesting) (ts : Tokens) (f : Nesting → Answer B) (Q : Stop → Type 0) → Q (deep ts) → (HasRoom limit n → Stops (f m) Q) → (b : Bool) → is_below limit (level n) ≡ b
    → Stops ((if b then Ok m else too_deep ts) >>= f) Q
room_one limit n m ts f Q q g true is = g (below_is limit (level n) is)
room_one limit n m ts f Q q g false is = stopped q

-- after a test that one more frame or mark may stand
pub room_then : {B : Type 0} (limit : Limit) (n m : Nesting) (ts : Tokens) (f : Nesting → Answer B) {Q : Stop → Type 0} → Q (deep ts) → (HasRoom limit n → Stops (f m) Q) → Stops (with_room limit n m ts >>= f) Q
room_then limit n m ts f {Q = Q} q g = room_one limit n m ts f Q q g (is_below limit (level n)) refl

room_or : {B : Type 0} (limit : Limit) (n m : Nesting) (ts : Tokens) (f : Nesting → Answer B) (Q : Stop → Type 0) → ((HasRoom limit n → ⊥) → Q (deep ts)) → (HasRoom limit n → Stops (f m) Q) → (b : Bool) → is_below limit (level n) ≡ b
    → Stops ((if b then Ok m else too_deep ts) >>= f) Q
room_or limit n m ts f Q q g true is = g (below_is limit (level n) is)
room_or limit n m ts f Q q g false is = stopped (q (λ lt. let other : is_below limit (level n) ≡ true = is_below_is limit (level n) lt in cc))

-- the same, where what is said of the stop needs that no more may stand
pub room_else : {B : Type 0} (limit : Limit) (n m : Nesting) (ts : Tokens) (f : Nesting → Answer B) {Q : Stop → Type 0} → ((HasRoom limit n → ⊥) → Q (deep ts)) → (HasRoom limit n → Stops (f m) Q) → Stops (with_room limit n m ts >>= f) Q
room_else limit n m ts f {Q = Q} q g = room_or limit n m ts f Q q g (is_below limit (level n)) refl

pub call_mark_then : {B : Type 0} (limit : Limit) (b : Bool) (l : Nesting) (ts : Tokens) (f : Nesting → Answer B) (Q : Stop → Type 0) → Q (deep ts) → Stops (f (before_call b l)) Q → Stops (call_mark limit b l ts >>= f) Q
call_mark_then limit true l ts f Q q g = room_then limit l (with_mark l) ts f q (λ lt. g)
call_mark_then limit false l ts f Q q g = g

begins_one : {B : Type 0} (t : Terminal) (ts : Tokens) (f : Prefix × Word × Tokens → Answer B) (d : Answer B) (Q : Stop → Type 0)
    → ((p : Prefix) → prefix t.kind ≡ Some p → Stops (f (p, t.word, ts)) Q) → Stops d Q → (o : Option Prefix) → prefix t.kind ≡ o → Stops (either (begins_of o t.word ts) f d) Q
begins_one t ts f d Q g h (Some p) is = g p is
begins_one t ts f d Q g h None is = h

-- what begins, or does not
pub begins_then : {B : Type 0} (ts : Tokens) (f : Prefix × Word × Tokens → Answer B) (d : Answer B) {Q : Stop → Type 0}
    → ((t : Terminal) (us : Tokens) (p : Prefix) → ts ≡ t ∷ us → prefix t.kind ≡ Some p → Stops (f (p, t.word, us)) Q) → Stops d Q → Stops (either (begins ts) f d) Q
begins_then [] f d g h = h
begins_then (t ∷ ts) f d {Q = Q} g h = begins_one t ts f d Q (λ p is. g t ts p refl is) h (prefix t.kind) refl

-- ---- limits

-- what is below the one limit is below the other
pub record Wider (limit w : Limit) : Type 0 where
  pub below : (n : ℕ) → IsBelow limit n → IsBelow w n

pub any : (n : ℕ) → IsBelow None n
any n = search rules

pub same_limit : {limit : Limit} → Wider limit limit
same_limit = record { below = λ n lt. lt }

pub no_limit : {limit : Limit} → Wider limit None
no_limit = record { below = λ n lt. any n }

-- ---- what is said of a stop

-- A list had as many entries as it may, and the tokens end in the comma after them: those before the comma can be
-- completed within the limit.
pub record Full (limit : Limit) (K : Limit → Tokens → Type 0) (before : Tokens) : Type 0 where
  pub front : Tokens
  pub comma : Terminal
  pub same : before ≡ front ++ comma ∷ []
  pub is : Is kind.Comma comma
  pub begun : K limit front

abbrev is_comma : TerminalKind → Bool
is_comma kind.Comma = true
is_comma _ = false

abbrev pub NoComma : Terminal → Type 0
NoComma t = Is kind.Comma t → ⊥

-- a terminal of another kind is no comma
pub no_comma : {k : TerminalKind} (t : Terminal) → is_comma k ≡ false → Is k t → NoComma t
no_comma {k = k} t other is comma = let e : is_comma k ≡ true = ap is_comma (sym is ∙ comma) in cc

-- A token that is too much for the limit is no comma, and one with which the tokens before it can be completed without a limit.
abbrev pub Why : (Limit → Tokens → Type 0) → Tokens → Tokens → Reason → Type 0
Why K before rest reason.Unexpected = Unit {0}
Why K before rest reason.TooNested = (t : Terminal) × (more : Tokens) × (rest ≡ t ∷ more) × NoComma t × K None (before ++ t ∷ [])
Why K before rest reason.WrongEnd = ⊥

-- K w p: the tokens p can be completed within the limit w. Where reading stopped, those before the stop can be.
pub record Halts (limit : Limit) (K : Limit → Tokens → Type 0) (ts : Tokens) (e : Stop) : Type 0 where
  pub before : Tokens
  pub rest : Tokens
  pub split : Splits ts before rest
  pub left : length rest ≡ e.left
  pub begun : K None before
  pub within : K limit before ⊎ Full limit K before
  pub why : Why K before rest e.reason

pub unexpected : {limit : Limit} {K : Limit → Tokens → Type 0} {ts before rest : Tokens} → Splits ts before rest → ((w : Limit) → Wider limit w → K w before) → Halts limit K ts (at rest)
unexpected {limit = limit} {before = before} {rest = rest} s k = record {
  before = before;
  rest = rest;
  split = s;
  left = refl;
  begun = k None no_limit;
  within = inl (k limit same_limit);
  why = tt;
}

pub nested : {limit : Limit} {K : Limit → Tokens → Type 0} {ts before us : Tokens} {t : Terminal} → Splits ts before (t ∷ us) → NoComma t → ((w : Limit) → Wider limit w → K w before) → K None (before ++ t ∷ []) → Halts limit K ts (deep us)
nested {limit = limit} {before = before} {us = us} {t = t} s other k h = record {
  before = before;
  rest = t ∷ us;
  split = s;
  left = omega arith;
  begun = k None no_limit;
  within = inl (k limit same_limit);
  why = (t, us, refl, other, h);
}

-- ---- places in tokens

-- The tokens us stand at the end of ts, after what f puts before them.
pub record Place (ts : Tokens) (f : Tokens → Tokens) (us : Tokens) : Type 0 where
  pub same : ts ≡ f us
  pub through : (p q : Tokens) → f (p ++ q) ≡ f p ++ q

pub first : {ts : Tokens} → Place ts (λ p. p) ts
first = record { same = refl; through = λ p q. refl }

pub behind : {ts us rest : Tokens} {t : Terminal} {f : Tokens → Tokens} → ts ≡ t ∷ us → Place us f rest → Place ts (λ p. t ∷ f p) rest
behind {t = t} e g = record { same = e ∙ ap (λ z. t ∷ z) g.same; through = λ p q. ap (λ z. t ∷ z) (g.through p q) }

pub past : {ts us vs rest : Tokens} {f : Tokens → Tokens} → Splits ts vs us → Place us f rest → Place ts (λ p. vs ++ f p) rest
past {vs = vs} {f = f} s g = record { same = s.same ∙ ap (λ z. vs ++ z) g.same; through = λ p q. ap (λ z. vs ++ z) (g.through p q) ∙ sym (append_assoc vs (f p) q) }

pub upto : {ts us p rest : Tokens} {f : Tokens → Tokens} → Place ts f us → Splits us p rest → Splits ts (f p) rest
upto {p = p} {rest = rest} {f = f} g s = record { same = g.same ∙ ap f s.same ∙ g.through p rest }

-- what could be completed at a place is completed after what stands before it
why_inner : (G K : Limit → Tokens → Type 0) (f : Tokens → Tokens) → ((p q : Tokens) → f (p ++ q) ≡ f p ++ q) → ((p : Tokens) → G None p → K None (f p)) → (before rest : Tokens) (r : Reason) → Why G before rest r → Why K (f before) rest r
why_inner G K f through k before rest reason.Unexpected y = tt
why_inner G K f through k before rest reason.TooNested y = (y.0, y.1, y.2, y.3, subst (λ z. K None z) (through before (y.0 ∷ [])) (k (before ++ y.0 ∷ []) y.4))
why_inner G K f through k before rest reason.WrongEnd y = y

pub within_inner : {limit : Limit} {G K : Limit → Tokens → Type 0} (f : Tokens → Tokens) → ((p q : Tokens) → f (p ++ q) ≡ f p ++ q) → ((p : Tokens) → G limit p → K limit (f p)) → (before : Tokens) → G limit before ⊎ Full limit G before → K limit (f before) ⊎ Full limit K (f before)
within_inner f through k before (inl g) = inl (k before g)
within_inner f through k before (inr g) = inr (record {
  front = f g.front;
  comma = g.comma;
  same = ap f g.same ∙ through g.front (g.comma ∷ []);
  is = g.is;
  begun = k g.front g.begun;
})

inner : {limit : Limit} {G K : Limit → Tokens → Type 0} {ts us : Tokens} {f : Tokens → Tokens} {e : Stop} → Place ts f us → ((w : Limit) → Wider limit w → (p : Tokens) → G w p → K w (f p)) → Halts limit G us e → Halts limit K ts e
inner {limit = limit} {G = G} {K = K} {f = f} {e = e} place k h = record {
  before = f h.before;
  rest = h.rest;
  split = upto place h.split;
  left = h.left;
  begun = k None no_limit h.before h.begun;
  within = within_inner f place.through (λ p g. k limit same_limit p g) h.before h.within;
  why = why_inner G K f place.through (λ p g. k None no_limit p g) h.before h.rest e.reason h.why;
}

pub into : {A : Type 0} {o : Answer A} {limit : Limit} {G K : Limit → Tokens → Type 0} {ts us : Tokens} {f : Tokens → Tokens} → Stops o (Halts limit G us) → Place ts f us
    → ((w : Limit) → Wider limit w → (p : Tokens) → G w p → K w (f p)) → Stops o (Halts limit K ts)
into g place k = weaken (λ e h. inner place k h) g

pub onto : {ts us vs : Tokens} {f : Tokens → Tokens} {t : Terminal} → Place ts f us → us ≡ t ∷ vs → Place ts (λ p. f (t ∷ p)) vs
onto {f = f} {t = t} g e = record { same = g.same ∙ ap f e; through = λ p q. g.through (t ∷ p) q }

pub same_place : {ts us : Tokens} → ts ≡ us → Place ts (λ p. p) us
same_place e = record { same = e; through = λ p q. refl }

-- what can be completed are the first of the tokens
abbrev pub Known : (Limit → Tokens → Type 0) → Tokens → Limit → Tokens → Type 0
Known K ts w p = K w p × ((rest : Tokens) × Splits ts p rest)

why_known : (K : Limit → Tokens → Type 0) (ts before rest : Tokens) (r : Reason) → Splits ts before rest → Why K before rest r → Why (λ w p. Known K ts w p) before rest r
why_known K ts before rest reason.Unexpected s y = tt
why_known K ts before rest reason.TooNested s y = (y.0, y.1, y.2, y.3, (y.4, (y.1, glue s (alone y.2))))
why_known K ts before rest reason.WrongEnd s y = y

within_known : {limit : Limit} {K : Limit → Tokens → Type 0} (ts before rest : Tokens) → Splits ts before rest → K limit before ⊎ Full limit K before → Known K ts limit before ⊎ Full limit (λ w p. Known K ts w p) before
within_known ts before rest s (inl g) = inl (g, (rest, s))
within_known ts before rest s (inr g) = inr (record {
  front = g.front;
  comma = g.comma;
  same = g.same;
  is = g.is;
  begun = (g.begun, (g.comma ∷ rest, record { same = s.same ∙ ap (λ z. z ++ rest) g.same ∙ append_assoc g.front (g.comma ∷ []) rest }));
})

pub known : {A : Type 0} {o : Answer A} {limit : Limit} {K : Limit → Tokens → Type 0} {ts : Tokens} → Stops o (Halts limit K ts) → Stops o (Halts limit (λ w p. Known K ts w p) ts)
known {limit = limit} {K = K} {ts = ts} g = weaken (λ e h. record {
  before = h.before;
  rest = h.rest;
  split = h.split;
  left = h.left;
  begun = (h.begun, (h.rest, h.split));
  within = within_known ts h.before h.rest h.split h.within;
  why = why_known K ts h.before h.rest e.reason h.split h.why;
}) g
