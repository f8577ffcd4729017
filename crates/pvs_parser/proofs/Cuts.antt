-- Readings of tokens that are the same up to a cut.
use Rattle.std.proofs.Common.{◌≡◌, ◌∙◌, ℕ, suc, ◌+◌, ◌-◌, ◌<◌, ◌≤◌, ◌⊎◌, inl, inr, Bool, true, false, if◌then◌else◌, [], ◌∷◌, ◌++◌, length, Option, Some, None, Ok, Err, refl, sym, ap, subst, length-append, arith}
use Rattle.pvs_parser.specs.declared.failure.Reason.{Reason}
use Rattle.pvs_parser.specs.declared.failure.Reason.TheVariants as reason
use Rattle.pvs_parser.specs.declared.failure.Stop.{Stop}
use Rattle.pvs_parser.specs.declared.nesting.Nesting.{Nesting}
use Rattle.pvs_parser.specs.declared.terminal.Terminal.{Terminal}
use Rattle.pvs_parser.specs.declared.terminal.Prefix.{Prefix}
use Rattle.pvs_parser.specs.declared.terminal.TerminalKind.{TerminalKind}
use Rattle.pvs_parser.specs.declared.terminal.TerminalKind.TheVariants as kind
use Rattle.pvs_syntax.specs.declared.expression.InfixWord.{InfixWord}
use Rattle.pvs_syntax.specs.declared.word.Word.{Word}
use Rattle.pvs_parser.specs.Terminals.{same_kind, is_id}
use Rattle.pvs_parser.specs.Language.{Tokens, Limit, level, comparison}
use Rattle.pvs_parser.specs.code.Descent.{Answer, either, stop, too_many, too_deep, after, expect, id, number, compares, compares_of, begins, begins_of, prefix, is_below, with_room}
use Rattle.pvs_base.specs.Answers.{◌>>=◌}

-- the tokens that stand after the cut in one reading and in the other, and which reasons of the first need not be those of the other
pub record Cut : Type 0 where
  pub here : Tokens
  pub there : Tokens
  pub excused : Reason → Bool

-- a reading is past the cut, where the other does not count; or before it, where the two go on with the same tokens up to it
pub data Mode : Type 0 where
  Past : Mode
  Before : Mode

-- so many tokens at most stand before the cut
abbrev pub Meets : Cut → Mode → ℕ → Tokens → Tokens → Type 0
Meets cut Mode.Past n ts us = length ts ≤ length cut.here
Meets cut Mode.Before n ts us = (q : Tokens) × (ts ≡ q ++ cut.here) × (us ≡ q ++ cut.there) × (length q ≤ n)

-- after a token that was taken of them
abbrev pub Took : Cut → Mode → ℕ → Tokens → Tokens → Type 0
Took cut Mode.Past n ts us = length ts < length cut.here
Took cut Mode.Before n ts us = (q : Tokens) × (ts ≡ q ++ cut.here) × (us ≡ q ++ cut.there) × (length q ≤ n)

-- a reading before the cut may come past it, and not the other way round
abbrev pub Later : Mode → Mode → Type 0
Later Mode.Past Mode.Past = Unit {0}
Later Mode.Past Mode.Before = ⊥
Later Mode.Before mode = Unit {0}

-- before the cut, one number is below another
abbrev pub Low : Mode → ℕ → ℕ → Type 0
Low Mode.Past m n = Unit {0}
Low Mode.Before m n = m < n

-- what answers have after them
pub record Shape (X : Type 0) : Type 0 where
  pub rest : X → Tokens
  pub put : X → Tokens → X

abbrev pub tokens : Shape Tokens
tokens = record { rest = λ ts. ts; put = λ ts us. us }

abbrev pub two : {A : Type 0} → Shape (A × Tokens)
two = record { rest = λ p. p.1; put = λ p us. (p.0, us) }

abbrev pub three : {A B : Type 0} → Shape (A × B × Tokens)
three = record { rest = λ p. p.2; put = λ p us. (p.0, p.1, us) }

abbrev pub four : {A B C : Type 0} → Shape (A × B × C × Tokens)
four = record { rest = λ p. p.3; put = λ p us. (p.0, p.1, p.2, us) }

-- past the cut no more tokens are left than stand there
abbrev pub Shrinks : {X : Type 0} → Cut → Shape X → Answer X → Type 0
Shrinks cut s (Ok x) = length (s.rest x) ≤ length cut.here
Shrinks cut s (Err e) = e.left ≤ length cut.here

-- the other reading answers the same with a token before the cut left
abbrev pub Same : {X : Type 0} → Cut → Shape X → ℕ → X → Answer X → Type 0
Same cut s n x o = (t : Terminal) × (q : Tokens) × (s.rest x ≡ t ∷ (q ++ cut.here)) × (o ≡ Ok (s.put x (t ∷ (q ++ cut.there)))) × (suc (length q) ≤ n)

-- the other reading stops at the same token before the cut
abbrev pub Stops : {X : Type 0} → Cut → Stop → Answer X → Type 0
Stops cut e o = (j : ℕ) × (e.left ≡ suc j + length cut.here) × (o ≡ Err (record { left = suc j + length cut.there; reason = e.reason }))

abbrev pub Agrees : {X : Type 0} → Cut → Shape X → ℕ → Answer X → Answer X → Type 0
Agrees cut s n (Ok x) o = (length (s.rest x) ≤ length cut.here) ⊎ Same cut s n x o
Agrees cut s n (Err e) o = (e.left ≤ length cut.here) ⊎ ((cut.excused e.reason ≡ true) ⊎ Stops cut e o)

pub record Follows {X : Type 0} (cut : Cut) (s : Shape X) (n : ℕ) (o p : Answer X) : Type 0 where
  pub agrees : Agrees cut s n o p

-- how one reading follows the other
abbrev pub Goes : {X : Type 0} → Cut → Shape X → Mode → ℕ → Answer X → Answer X → Type 0
Goes cut s Mode.Past n o p = Shrinks cut s o
Goes cut s Mode.Before n o p = Agrees cut s n o p

-- past the cut the other reading does not count
pub beyond : {X : Type 0} (cut : Cut) (s : Shape X) (n : ℕ) (o p : Answer X) → Shrinks cut s o → Agrees cut s n o p
beyond cut s n (Ok x) p h = inl h
beyond cut s n (Err e) p h = inl h

-- ---- numbers

-- one token less
pub low_less : (mode : Mode) (m n : ℕ) → Low mode (m - 1) m → Low mode m (n + 1) → Low mode (m - 1) n
low_less Mode.Past m n h k = tt
low_less Mode.Before m n h k = omega (arith, h, k)

-- the same where a reading has gone on
pub low_later : (mode later : Mode) (m n : ℕ) → Later mode later → Low mode m n → Low later m n
low_later Mode.Past Mode.Past m n l h = tt
low_later Mode.Past Mode.Before m n l h = absurd l
low_later Mode.Before Mode.Past m n l h = tt
low_later Mode.Before Mode.Before m n l h = h

pub low_more : (mode : Mode) (m n : ℕ) → Low mode m n → Low mode m (n + 1)
low_more Mode.Past m n h = tt
low_more Mode.Before m n h = omega (arith, h)

-- ---- combining

-- another reading that answers the same does as well
exchange : {X : Type 0} (cut : Cut) (s : Shape X) (n : ℕ) (o p p2 : Answer X) → p ≡ p2 → Agrees cut s n o p → Agrees cut s n o p2
exchange cut s n o p p2 e h = subst (λ z. Agrees cut s n o z) e h

bind_err : {X Y : Type 0} (cut : Cut) (u : Shape Y) (n : ℕ) (e : Stop) (p : Answer X) (g : X → Answer Y) → Agrees cut (record { rest = λ x. []; put = λ x us. x }) n (Err e) p → Agrees cut u n (Err e) (p >>= g)
bind_err cut u n e p g (inl h) = inl h
bind_err cut u n e p g (inr (inl h)) = inr (inl h)
bind_err cut u n e p g (inr (inr h)) = inr (inr (h.0, h.1, ap (λ z. z >>= g) h.2))

bind_same : {X Y : Type 0} (cut : Cut) (s : Shape X) (u : Shape Y) (n : ℕ) (x : X) (p : Answer X) (f g : X → Answer Y)
    → ((mode : Mode) (us : Tokens) → Meets cut mode n (s.rest x) us → Goes cut u mode n (f x) (g (s.put x us)))
    → (length (s.rest x) ≤ length cut.here) ⊎ Same cut s n x p → Agrees cut u n (f x) (p >>= g)
bind_same cut s u n x p f g k (inl h) = beyond cut u n (f x) (p >>= g) (k Mode.Past (s.rest x) h)
bind_same cut s u n x p f g k (inr h) =
    exchange cut u n (f x) (g (s.put x (h.0 ∷ (h.1 ++ cut.there)))) (p >>= g) (ap (λ z. z >>= g) (sym h.3)) (k Mode.Before (h.0 ∷ (h.1 ++ cut.there)) (h.0 ∷ h.1, h.2, refl, h.4))

pub bind : {X Y : Type 0} (cut : Cut) (s : Shape X) (u : Shape Y) (mode : Mode) (n top : ℕ) → Low mode n top → (o p : Answer X) (f g : X → Answer Y) → Goes cut s mode n o p
    → ((x : X) (later : Mode) → Low later n top → (us : Tokens) → Meets cut later n (s.rest x) us → Goes cut u later n (f x) (g (s.put x us)))
    → Goes cut u mode n (o >>= f) (p >>= g)
bind cut s u Mode.Past n top low (Ok x) p f g h k = k x Mode.Past tt (s.rest x) h
bind cut s u Mode.Past n top low (Err e) p f g h k = h
bind cut s u Mode.Before n top low (Ok x) p f g h k = bind_same cut s u n x p f g (λ later us m. k x later (low_later Mode.Before later n top tt low) us m) h
bind cut s u Mode.Before n top low (Err e) p f g h k = bind_err cut u n e p g h

-- an answer is there already
pub done : {X : Type 0} (cut : Cut) (s : Shape X) (mode : Mode) (n : ℕ) (x : X) (o : Answer X) (us : Tokens)
    → ((t : Terminal) (q : Tokens) → us ≡ t ∷ (q ++ cut.there) → o ≡ Ok (s.put x (t ∷ (q ++ cut.there))))
    → Meets cut mode n (s.rest x) us → Goes cut s mode n (Ok x) o
done cut s Mode.Past n x o us f h = h
done cut s Mode.Before n x o us f ([], e, e2, le) = inl (omega (arith, ap length e))
done cut s Mode.Before n x o us f (t ∷ q, e, e2, le) = inr (t, q, e, f t q e2, omega (arith, le))

-- ---- tokens that come next

pub length_cut : (q r : Tokens) → length (q ++ r) ≡ length q + length r
length_cut q r = length-append q r

pub weaken : (cut : Cut) (mode : Mode) (n : ℕ) (ts us : Tokens) → Took cut mode n ts us → Meets cut mode n ts us
weaken cut Mode.Past n ts us h = omega (arith, h)
weaken cut Mode.Before n ts us h = h

raise_answer : {X : Type 0} (cut : Cut) (s : Shape X) (m : ℕ) (o p : Answer X) → Agrees cut s (m - 1) o p → Agrees cut s m o p
raise_answer cut s m (Ok x) p (inl h) = inl h
raise_answer cut s m (Ok x) p (inr h) = inr (h.0, h.1, h.2, h.3, omega (arith, h.4))
raise_answer cut s m (Err e) p h = h

-- what is left with one token less
pub raise : {X : Type 0} (cut : Cut) (s : Shape X) (mode : Mode) (m : ℕ) (o p : Answer X) → Goes cut s mode (m - 1) o p → Goes cut s mode m o p
raise cut s Mode.Past m o p h = h
raise cut s Mode.Before m o p h = raise_answer cut s m o p h

-- a function that looks at the first token, and takes it or leaves it
abbrev Looks : Cut → {Y : Type 0} → Shape Y → Mode → ℕ → (Tokens → Answer Y) → (Tokens → Answer Y) → Type 0
Looks cut u mode n f g = (later : Mode) → Later mode later → (t : Terminal) (vs ws : Tokens) → Meets cut later n (t ∷ vs) (t ∷ ws) → Took cut later (n - 1) vs ws → Low later (n - 1) n → Goes cut u later n (f (t ∷ vs)) (g (t ∷ ws))

heads_past : {Y : Type 0} (cut : Cut) (u : Shape Y) (n : ℕ) (f g : Tokens → Answer Y) (ts : Tokens) → length ts ≤ length cut.here → Shrinks cut u (f []) → Looks cut u Mode.Past n f g → Shrinks cut u (f ts)
heads_past cut u n f g [] h k j = k
heads_past cut u n f g (t ∷ ts) h k j = j Mode.Past tt t ts ts h (omega (arith, h)) tt

pub heads : {Y : Type 0} (cut : Cut) (u : Shape Y) (mode : Mode) (n : ℕ) (f g : Tokens → Answer Y) (ts us : Tokens) → Meets cut mode n ts us → Shrinks cut u (f []) → Looks cut u mode n f g → Goes cut u mode n (f ts) (g us)
heads cut u Mode.Past n f g ts us h k j = heads_past cut u n f g ts h k j
heads cut u Mode.Before n f g ts us ([], e, e2, le) k j = beyond cut u n (f ts) (g us) (heads_past cut u n f g ts (omega (arith, ap length e)) k (λ later l t vs ws. j later tt t vs ws))
heads cut u Mode.Before n f g ts us (t ∷ q, e, e2, le) k j =
    subst (λ z. Agrees cut u n (f z) (g us)) (sym e) (subst (λ z. Agrees cut u n (f (t ∷ (q ++ cut.here))) (g z)) (sym e2) (j Mode.Before tt t (q ++ cut.here) (q ++ cut.there) (t ∷ q, refl, refl, le) (q, refl, refl, omega (arith, le)) (omega (arith, le))))

-- reading stops at the first of the tokens
pub stops : {X : Type 0} (cut : Cut) (s : Shape X) (mode : Mode) (n : ℕ) (ts us : Tokens) → Meets cut mode n ts us → Goes cut s mode n (stop ts) (stop us)
stops cut s Mode.Past n ts us h = h
stops cut s Mode.Before n ts us ([], e, e2, le) = inl (omega (arith, ap length e))
stops cut s Mode.Before n ts us (t ∷ q, e, e2, le) = inr (inr (
  length q,
  omega (arith, ap length e, length_cut q cut.here),
  ap (λ z. Err (record { left = z; reason = reason.Unexpected })) (omega (arith, ap length e2, length_cut q cut.there)),
))

-- the first of the tokens is one too many
pub too_many_goes : {X : Type 0} (cut : Cut) (s : Shape X) (mode : Mode) (n : ℕ) (t : Terminal) (ts us : Tokens) → Meets cut mode n (t ∷ ts) (t ∷ us) → Goes cut s mode n (too_many (t ∷ ts)) (too_many (t ∷ us))
too_many_goes cut s Mode.Past n t ts us h = h
too_many_goes cut s Mode.Before n t ts us ([], e, e2, le) = inl (omega (arith, ap length e))
too_many_goes cut s Mode.Before n t ts us (v ∷ q, e, e2, le) = inr (inr (
  length q,
  omega (arith, ap length e, length_cut q cut.here),
  ap (λ z. Err (record { left = z; reason = reason.TooNested })) (omega (arith, ap length e2, length_cut q cut.there)),
))

-- what a test leads to, the same in both readings
pub pick : {Y : Type 0} (cut : Cut) (u : Shape Y) (mode : Mode) (n : ℕ) (b : Bool) (f g d c : Answer Y) → (b ≡ true → Goes cut u mode n f g) → (b ≡ false → Goes cut u mode n d c)
    → Goes cut u mode n (if b then f else d) (if b then g else c)
pick cut u mode n true f g d c h k = h refl
pick cut u mode n false f g d c h k = k refl

-- what is left at the end of the tokens
at_end : {Y : Type 0} (cut : Cut) (u : Shape Y) (n top : ℕ) (d c : Tokens → Answer Y) → ((later : Mode) → Low later n (top + 1) → (vs ws : Tokens) → Meets cut later n vs ws → Goes cut u later n (d vs) (c ws)) → Shrinks cut u (d [])
at_end cut u n top d c left = left Mode.Past tt [] [] (omega arith)

at_end_later : {Y : Type 0} (cut : Cut) (u : Shape Y) (mode : Mode) (n : ℕ) (d c : Tokens → Answer Y) → ((later : Mode) → Later mode later → (vs ws : Tokens) → Meets cut later n vs ws → Goes cut u later n (d vs) (c ws)) → Shrinks cut u (d [])
at_end_later cut u Mode.Past n d c left = left Mode.Past tt [] [] (omega arith)
at_end_later cut u Mode.Before n d c left = left Mode.Past tt [] [] (omega arith)

-- where a terminal of a kind comes next, it is taken; else the tokens are left
pub after_less : {Y : Type 0} (cut : Cut) (u : Shape Y) (mode : Mode) (n top : ℕ) → Low mode n (top + 1) → (k : TerminalKind) (f g d c : Tokens → Answer Y) (ts us : Tokens) → Meets cut mode n ts us
    → ((later : Mode) → Low later (n - 1) top → Low later (n - 1) n → (vs ws : Tokens) → Took cut later (n - 1) vs ws → Goes cut u later (n - 1) (f vs) (g ws))
    → ((later : Mode) → Low later n (top + 1) → (vs ws : Tokens) → Meets cut later n vs ws → Goes cut u later n (d vs) (c ws))
    → Goes cut u mode n (either (after k ts) f (d ts)) (either (after k us) g (c us))
after_less cut u mode n top low k f g d c ts us h taken left =
    heads cut u mode n (λ z. either (after k z) f (d z)) (λ z. either (after k z) g (c z)) ts us h (at_end cut u n top d c left) (λ later l t vs ws meets took less. one later l t vs ws meets took less (same_kind t.kind k))
  where
    one : (later : Mode) → Later mode later → (t : Terminal) (vs ws : Tokens) → Meets cut later n (t ∷ vs) (t ∷ ws) → Took cut later (n - 1) vs ws → Low later (n - 1) n → (b : Bool) → Goes cut u later n (either (if b then Some vs else None) f (d (t ∷ vs))) (either (if b then Some ws else None) g (c (t ∷ ws)))
    one later l t vs ws meets took less true = raise cut u later n _ _ (taken later (low_less later n top less (low_later mode later n (top + 1) l low)) less vs ws took)
    one later l t vs ws meets took less false = left later (low_later mode later n (top + 1) l low) (t ∷ vs) (t ∷ ws) meets

pub after_or : {Y : Type 0} (cut : Cut) (u : Shape Y) (mode : Mode) (n top : ℕ) → Low mode n (top + 1) → (k : TerminalKind) (f g d c : Tokens → Answer Y) (ts us : Tokens) → Meets cut mode n ts us
    → ((later : Mode) → Low later (n - 1) top → (vs ws : Tokens) → Took cut later (n - 1) vs ws → Goes cut u later (n - 1) (f vs) (g ws))
    → ((later : Mode) → Low later n (top + 1) → (vs ws : Tokens) → Meets cut later n vs ws → Goes cut u later n (d vs) (c ws))
    → Goes cut u mode n (either (after k ts) f (d ts)) (either (after k us) g (c us))
after_or cut u mode n top low k f g d c ts us h taken left = after_less cut u mode n top low k f g d c ts us h (λ a la less vs ws took. taken a la vs ws took) left

-- a terminal of a kind has to come next
pub expect_then : {Y : Type 0} (cut : Cut) (u : Shape Y) (mode : Mode) (n top : ℕ) → Low mode n (top + 1) → (k : TerminalKind) (f g : Tokens → Answer Y) (ts us : Tokens) → Meets cut mode n ts us
    → ((later : Mode) → Low later (n - 1) top → (vs ws : Tokens) → Took cut later (n - 1) vs ws → Goes cut u later (n - 1) (f vs) (g ws)) → Goes cut u mode n (expect k ts >>= f) (expect k us >>= g)
expect_then cut u mode n top low k f g ts us h taken =
    heads cut u mode n (λ z. expect k z >>= f) (λ z. expect k z >>= g) ts us h (omega arith) (λ later l t vs ws meets took less. one later l t vs ws meets took less (same_kind t.kind k))
  where
    one : (later : Mode) → Later mode later → (t : Terminal) (vs ws : Tokens) → Meets cut later n (t ∷ vs) (t ∷ ws) → Took cut later (n - 1) vs ws → Low later (n - 1) n → (b : Bool) → Goes cut u later n ((if b then Ok vs else stop (t ∷ vs)) >>= f) ((if b then Ok ws else stop (t ∷ ws)) >>= g)
    one later l t vs ws meets took less true = raise cut u later n _ _ (taken later (low_less later n top less (low_later mode later n (top + 1) l low)) vs ws took)
    one later l t vs ws meets took less false = stops cut u later n (t ∷ vs) (t ∷ ws) meets

-- an identifier has to come next
pub id_then : {Y : Type 0} (cut : Cut) (u : Shape Y) (mode : Mode) (n top : ℕ) → Low mode n (top + 1) → (f g : Word × Tokens → Answer Y) (ts us : Tokens) → Meets cut mode n ts us
    → ((later : Mode) → Low later (n - 1) top → (w : Word) (vs ws : Tokens) → Took cut later (n - 1) vs ws → Goes cut u later (n - 1) (f (w, vs)) (g (w, ws))) → Goes cut u mode n (id ts >>= f) (id us >>= g)
id_then cut u mode n top low f g ts us h taken =
    heads cut u mode n (λ z. id z >>= f) (λ z. id z >>= g) ts us h (omega arith) (λ later l t vs ws meets took less. one later l t vs ws meets took less (is_id t.kind))
  where
    one : (later : Mode) → Later mode later → (t : Terminal) (vs ws : Tokens) → Meets cut later n (t ∷ vs) (t ∷ ws) → Took cut later (n - 1) vs ws → Low later (n - 1) n → (b : Bool) → Goes cut u later n ((if b then Ok (t.word, vs) else stop (t ∷ vs)) >>= f) ((if b then Ok (t.word, ws) else stop (t ∷ ws)) >>= g)
    one later l t vs ws meets took less true = raise cut u later n _ _ (taken later (low_less later n top less (low_later mode later n (top + 1) l low)) t.word vs ws took)
    one later l t vs ws meets took less false = stops cut u later n (t ∷ vs) (t ∷ ws) meets

-- a number has to come next
pub number_then : {Y : Type 0} (cut : Cut) (u : Shape Y) (mode : Mode) (n top : ℕ) → Low mode n (top + 1) → (f g : Word × Tokens → Answer Y) (ts us : Tokens) → Meets cut mode n ts us
    → ((later : Mode) → Low later (n - 1) top → (w : Word) (vs ws : Tokens) → Took cut later (n - 1) vs ws → Goes cut u later (n - 1) (f (w, vs)) (g (w, ws))) → Goes cut u mode n (number ts >>= f) (number us >>= g)
number_then cut u mode n top low f g ts us h taken =
    heads cut u mode n (λ z. number z >>= f) (λ z. number z >>= g) ts us h (omega arith) (λ later l t vs ws meets took less. one later l t vs ws meets took less (same_kind t.kind kind.Number))
  where
    one : (later : Mode) → Later mode later → (t : Terminal) (vs ws : Tokens) → Meets cut later n (t ∷ vs) (t ∷ ws) → Took cut later (n - 1) vs ws → Low later (n - 1) n → (b : Bool) → Goes cut u later n ((if b then Ok (t.word, vs) else stop (t ∷ vs)) >>= f) ((if b then Ok (t.word, ws) else stop (t ∷ ws)) >>= g)
    one later l t vs ws meets took less true = raise cut u later n _ _ (taken later (low_less later n top less (low_later mode later n (top + 1) l low)) t.word vs ws took)
    one later l t vs ws meets took less false = stops cut u later n (t ∷ vs) (t ∷ ws) meets

-- an = or /= is taken where one comes next
pub compares_or : {Y : Type 0} (cut : Cut) (u : Shape Y) (mode : Mode) (n top : ℕ) → Low mode n (top + 1) → (f g : InfixWord × Tokens → Answer Y) (d c : Tokens → Answer Y) (ts us : Tokens) → Meets cut mode n ts us
    → ((later : Mode) → Low later (n - 1) top → (w : InfixWord) (vs ws : Tokens) → Took cut later (n - 1) vs ws → Goes cut u later (n - 1) (f (w, vs)) (g (w, ws)))
    → ((later : Mode) → Low later n (top + 1) → (vs ws : Tokens) → Meets cut later n vs ws → Goes cut u later n (d vs) (c ws))
    → Goes cut u mode n (either (compares ts) f (d ts)) (either (compares us) g (c us))
compares_or cut u mode n top low f g d c ts us h taken left =
    heads cut u mode n (λ z. either (compares z) f (d z)) (λ z. either (compares z) g (c z)) ts us h (at_end cut u n top d c left) (λ later l t vs ws meets took less. one later l t vs ws meets took less (comparison t.kind))
  where
    one : (later : Mode) → Later mode later → (t : Terminal) (vs ws : Tokens) → Meets cut later n (t ∷ vs) (t ∷ ws) → Took cut later (n - 1) vs ws → Low later (n - 1) n → (o : Option InfixWord) → Goes cut u later n (either (compares_of o vs) f (d (t ∷ vs))) (either (compares_of o ws) g (c (t ∷ ws)))
    one later l t vs ws meets took less (Some w) = raise cut u later n _ _ (taken later (low_less later n top less (low_later mode later n (top + 1) l low)) w vs ws took)
    one later l t vs ws meets took less None = left later (low_later mode later n (top + 1) l low) (t ∷ vs) (t ∷ ws) meets

-- NOT, the word of a binder or LET is taken where one comes next
pub begins_or : {Y : Type 0} (cut : Cut) (u : Shape Y) (mode : Mode) (n top : ℕ) → Low mode n (top + 1) → (f g : Prefix × Word × Tokens → Answer Y) (d c : Tokens → Answer Y) (ts us : Tokens) → Meets cut mode n ts us
    → ((later : Mode) → Low later (n - 1) top → (p : Prefix) (w : Word) (vs ws : Tokens) → Took cut later (n - 1) vs ws → Goes cut u later (n - 1) (f (p, w, vs)) (g (p, w, ws)))
    → ((later : Mode) → Low later n (top + 1) → (vs ws : Tokens) → Meets cut later n vs ws → Goes cut u later n (d vs) (c ws))
    → Goes cut u mode n (either (begins ts) f (d ts)) (either (begins us) g (c us))
begins_or cut u mode n top low f g d c ts us h taken left =
    heads cut u mode n (λ z. either (begins z) f (d z)) (λ z. either (begins z) g (c z)) ts us h (at_end cut u n top d c left) (λ later l t vs ws meets took less. one later l t vs ws meets took less (prefix t.kind))
  where
    one : (later : Mode) → Later mode later → (t : Terminal) (vs ws : Tokens) → Meets cut later n (t ∷ vs) (t ∷ ws) → Took cut later (n - 1) vs ws → Low later (n - 1) n → (o : Option Prefix) → Goes cut u later n (either (begins_of o t.word vs) f (d (t ∷ vs))) (either (begins_of o t.word ws) g (c (t ∷ ws)))
    one later l t vs ws meets took less (Some p) = raise cut u later n _ _ (taken later (low_less later n top less (low_later mode later n (top + 1) l low)) p t.word vs ws took)
    one later l t vs ws meets took less None = left later (low_later mode later n (top + 1) l low) (t ∷ vs) (t ∷ ws) meets

-- ---- levels

-- the limits of two readings: what has room in the one has room in the other, and else the other has none, unless that is excused
pub record Rooms (cut : Cut) (a b : Limit) : Type 0 where
  pub wider : (n : ℕ) → is_below a n ≡ true → is_below b n ≡ true
  pub tight : (n : ℕ) → is_below a n ≡ false → (cut.excused reason.TooNested ≡ true) ⊎ (is_below b n ≡ false)

-- the token before these nests too deep in both readings, or it is excused
pub deep : {Y : Type 0} (cut : Cut) (u : Shape Y) (mode : Mode) (n : ℕ) (ts us : Tokens) (p : Answer Y) → Took cut mode n ts us → (cut.excused reason.TooNested ≡ true) ⊎ (p ≡ too_deep us) → Goes cut u mode n (too_deep ts) p
deep cut u Mode.Past n ts us p h e = omega (arith, h)
deep cut u Mode.Before n ts us p h (inl e) = inr (inl e)
deep cut u Mode.Before n ts us p (q, e, e2, le) (inr same) =
    inr (inr (length q, omega (arith, ap length e, length_cut q cut.here), same ∙ ap (λ z. Err (record { left = z; reason = reason.TooNested })) (omega (arith, ap length e2, length_cut q cut.there))))

pub room_then : {Y : Type 0} (cut : Cut) (u : Shape Y) (mode : Mode) (n : ℕ) (a b : Limit) → Rooms cut a b → (l m : Nesting) (f g : Nesting → Answer Y) (ts us : Tokens) → Took cut mode n ts us
    → Goes cut u mode n (f m) (g m) → Goes cut u mode n (with_room a l m ts >>= f) (with_room b l m us >>= g)
room_then cut u mode n a b rooms l m f g ts us h k = one (is_below a (level l)) (is_below b (level l)) (rooms.wider (level l)) (rooms.tight (level l)) where
  one : (x y : Bool) → (x ≡ true → y ≡ true) → (x ≡ false → (cut.excused reason.TooNested ≡ true) ⊎ (y ≡ false)) → Goes cut u mode n ((if x then Ok m else too_deep ts) >>= f) ((if y then Ok m else too_deep us) >>= g)
  one true y w t = subst (λ z. Goes cut u mode n (f m) ((if z then Ok m else too_deep us) >>= g)) (sym (w refl)) k
  one false y w t = deep cut u mode n ts us _ h (other (t refl)) where
    other : (cut.excused reason.TooNested ≡ true) ⊎ (y ≡ false) → (cut.excused reason.TooNested ≡ true) ⊎ (((if y then Ok m else too_deep us) >>= g) ≡ too_deep us)
    other (inl e) = inl e
    other (inr e) = inr (ap (λ z. (if z then Ok m else too_deep us) >>= g) e)

-- ---- answers that are there

pub done_tokens : (cut : Cut) (mode : Mode) (n : ℕ) (vs ws : Tokens) → Meets cut mode n vs ws → Goes cut tokens mode n (Ok vs) (Ok ws)
done_tokens cut mode n vs ws h = done cut tokens mode n vs (Ok ws) ws (λ t q e. ap (λ z. Ok z) e) h

pub done_two : {A : Type 0} (cut : Cut) (mode : Mode) (n : ℕ) (a : A) (vs ws : Tokens) → Meets cut mode n vs ws → Goes cut two mode n (Ok (a, vs)) (Ok (a, ws))
done_two cut mode n a vs ws h = done cut two mode n (a, vs) (Ok (a, ws)) ws (λ t q e. ap (λ z. Ok (a, z)) e) h

pub done_three : {A B : Type 0} (cut : Cut) (mode : Mode) (n : ℕ) (a : A) (b : B) (vs ws : Tokens) → Meets cut mode n vs ws → Goes cut three mode n (Ok (a, b, vs)) (Ok (a, b, ws))
done_three cut mode n a b vs ws h = done cut three mode n (a, b, vs) (Ok (a, b, ws)) ws (λ t q e. ap (λ z. Ok (a, b, z)) e) h

pub done_four : {A B C : Type 0} (cut : Cut) (mode : Mode) (n : ℕ) (a : A) (b : B) (c : C) (vs ws : Tokens) → Meets cut mode n vs ws → Goes cut four mode n (Ok (a, b, c, vs)) (Ok (a, b, c, ws))
done_four cut mode n a b c vs ws h = done cut four mode n (a, b, c, vs) (Ok (a, b, c, ws)) ws (λ t q e. ap (λ z. Ok (a, b, c, z)) e) h

-- ---- functions

-- a function that is called where a token was taken
abbrev pub Takes : {X : Type 0} → Cut → Shape X → ℕ → (Tokens → Answer X) → (Tokens → Answer X) → Type 0
Takes cut s n f g = (mode : Mode) (m : ℕ) → Low mode m n → (ts us : Tokens) → Took cut mode m ts us → Goes cut s mode m (f ts) (g us)

-- a function that goes deeper on the same tokens
abbrev pub Enters : {X : Type 0} → Cut → Shape X → ℕ → (Tokens → Answer X) → (Tokens → Answer X) → Type 0
Enters cut s n f g = (mode : Mode) (m : ℕ) → Low mode m n → (ts us : Tokens) → Meets cut mode m ts us → Goes cut s mode m (f ts) (g us)

-- a function that takes a token before it goes deeper
abbrev pub Opens : {X : Type 0} → Cut → Shape X → ℕ → (Tokens → Answer X) → (Tokens → Answer X) → Type 0
Opens cut s n f g = (mode : Mode) (m : ℕ) → Low mode m (n + 1) → (ts us : Tokens) → Meets cut mode m ts us → Goes cut s mode m (f ts) (g us)

-- ---- past the cut

pub bind_past : {X Y : Type 0} (cut : Cut) (s : Shape X) (u : Shape Y) (o : Answer X) (f : X → Answer Y) → Shrinks cut s o → ((x : X) → length (s.rest x) ≤ length cut.here → Shrinks cut u (f x)) → Shrinks cut u (o >>= f)
bind_past cut s u (Ok x) f h k = k x h
bind_past cut s u (Err e) f h k = h

pub after_past : {Y : Type 0} (cut : Cut) (u : Shape Y) (k : TerminalKind) (f d : Tokens → Answer Y) (ts : Tokens) → length ts ≤ length cut.here → ((vs : Tokens) → length vs < length cut.here → Shrinks cut u (f vs))
    → ((vs : Tokens) → length vs ≤ length cut.here → Shrinks cut u (d vs)) → Shrinks cut u (either (after k ts) f (d ts))
after_past cut u k f d [] h taken left = left [] h
after_past cut u k f d (t ∷ ts) h taken left = one (same_kind t.kind k) where
  one : (b : Bool) → Shrinks cut u (either (if b then Some ts else None) f (d (t ∷ ts)))
  one true = taken ts (omega (arith, h))
  one false = left (t ∷ ts) h

-- ---- with the ways of reading told

pub later_trans : (a b c : Mode) → Later a b → Later b c → Later a c
later_trans Mode.Past Mode.Past Mode.Past l k = tt
later_trans Mode.Past Mode.Past Mode.Before l k = absurd k
later_trans Mode.Past Mode.Before c l k = absurd l
later_trans Mode.Before b c l k = tt

pub bind_later : {X Y : Type 0} (cut : Cut) (s : Shape X) (u : Shape Y) (mode : Mode) (n : ℕ) (o p : Answer X) (f g : X → Answer Y) → Goes cut s mode n o p
    → ((x : X) (later : Mode) → Later mode later → (us : Tokens) → Meets cut later n (s.rest x) us → Goes cut u later n (f x) (g (s.put x us)))
    → Goes cut u mode n (o >>= f) (p >>= g)
bind_later cut s u Mode.Past n (Ok x) p f g h k = k x Mode.Past tt (s.rest x) h
bind_later cut s u Mode.Past n (Err e) p f g h k = h
bind_later cut s u Mode.Before n (Ok x) p f g h k = bind_same cut s u n x p f g (λ later us m. k x later tt us m) h
bind_later cut s u Mode.Before n (Err e) p f g h k = bind_err cut u n e p g h

pub after_later : {Y : Type 0} (cut : Cut) (u : Shape Y) (mode : Mode) (n : ℕ) (k : TerminalKind) (f g d c : Tokens → Answer Y) (ts us : Tokens) → Meets cut mode n ts us
    → ((later : Mode) → Later mode later → Low later (n - 1) n → (vs ws : Tokens) → Took cut later (n - 1) vs ws → Goes cut u later (n - 1) (f vs) (g ws))
    → ((later : Mode) → Later mode later → (vs ws : Tokens) → Meets cut later n vs ws → Goes cut u later n (d vs) (c ws))
    → Goes cut u mode n (either (after k ts) f (d ts)) (either (after k us) g (c us))
after_later cut u mode n k f g d c ts us h taken left =
    heads cut u mode n (λ z. either (after k z) f (d z)) (λ z. either (after k z) g (c z)) ts us h (at_end_later cut u mode n d c left) (λ later l t vs ws meets took less. one later l t vs ws meets took less (same_kind t.kind k))
  where
    one : (later : Mode) → Later mode later → (t : Terminal) (vs ws : Tokens) → Meets cut later n (t ∷ vs) (t ∷ ws) → Took cut later (n - 1) vs ws → Low later (n - 1) n → (b : Bool)
        → Goes cut u later n (either (if b then Some vs else None) f (d (t ∷ vs))) (either (if b then Some ws else None) g (c (t ∷ ws)))
    one later l t vs ws meets took less true = raise cut u later n _ _ (taken later l less vs ws took)
    one later l t vs ws meets took less false = left later l (t ∷ vs) (t ∷ ws) meets

pub compares_later : {Y : Type 0} (cut : Cut) (u : Shape Y) (mode : Mode) (n : ℕ) (f g : InfixWord × Tokens → Answer Y) (d c : Tokens → Answer Y) (ts us : Tokens) → Meets cut mode n ts us
    → ((later : Mode) → Later mode later → Low later (n - 1) n → (w : InfixWord) (vs ws : Tokens) → Took cut later (n - 1) vs ws → Goes cut u later (n - 1) (f (w, vs)) (g (w, ws)))
    → ((later : Mode) → Later mode later → (vs ws : Tokens) → Meets cut later n vs ws → Goes cut u later n (d vs) (c ws))
    → Goes cut u mode n (either (compares ts) f (d ts)) (either (compares us) g (c us))
compares_later cut u mode n f g d c ts us h taken left =
    heads cut u mode n (λ z. either (compares z) f (d z)) (λ z. either (compares z) g (c z)) ts us h (at_end_later cut u mode n d c left) (λ later l t vs ws meets took less. one later l t vs ws meets took less (comparison t.kind))
  where
    one : (later : Mode) → Later mode later → (t : Terminal) (vs ws : Tokens) → Meets cut later n (t ∷ vs) (t ∷ ws) → Took cut later (n - 1) vs ws → Low later (n - 1) n → (o : Option InfixWord)
        → Goes cut u later n (either (compares_of o vs) f (d (t ∷ vs))) (either (compares_of o ws) g (c (t ∷ ws)))
    one later l t vs ws meets took less (Some w) = raise cut u later n _ _ (taken later l less w vs ws took)
    one later l t vs ws meets took less None = left later l (t ∷ vs) (t ∷ ws) meets

pub begins_later : {Y : Type 0} (cut : Cut) (u : Shape Y) (mode : Mode) (n : ℕ) (f g : Prefix × Word × Tokens → Answer Y) (d c : Tokens → Answer Y) (ts us : Tokens) → Meets cut mode n ts us
    → ((later : Mode) → Later mode later → Low later (n - 1) n → (p : Prefix) (w : Word) (vs ws : Tokens) → Took cut later (n - 1) vs ws → Goes cut u later (n - 1) (f (p, w, vs)) (g (p, w, ws)))
    → ((later : Mode) → Later mode later → (vs ws : Tokens) → Meets cut later n vs ws → Goes cut u later n (d vs) (c ws))
    → Goes cut u mode n (either (begins ts) f (d ts)) (either (begins us) g (c us))
begins_later cut u mode n f g d c ts us h taken left =
    heads cut u mode n (λ z. either (begins z) f (d z)) (λ z. either (begins z) g (c z)) ts us h (at_end_later cut u mode n d c left) (λ later l t vs ws meets took less. one later l t vs ws meets took less (prefix t.kind))
  where
    one : (later : Mode) → Later mode later → (t : Terminal) (vs ws : Tokens) → Meets cut later n (t ∷ vs) (t ∷ ws) → Took cut later (n - 1) vs ws → Low later (n - 1) n → (o : Option Prefix)
        → Goes cut u later n (either (begins_of o t.word vs) f (d (t ∷ vs))) (either (begins_of o t.word ws) g (c (t ∷ ws)))
    one later l t vs ws meets took less (Some p) = raise cut u later n _ _ (taken later l less p t.word vs ws took)
    one later l t vs ws meets took less None = left later l (t ∷ vs) (t ∷ ws) meets

pub compares_past : {Y : Type 0} (cut : Cut) (u : Shape Y) (f : InfixWord × Tokens → Answer Y) (d : Tokens → Answer Y) (ts : Tokens) → length ts ≤ length cut.here → ((w : InfixWord) (vs : Tokens) → length vs < length cut.here → Shrinks cut u (f (w, vs)))
    → ((vs : Tokens) → length vs ≤ length cut.here → Shrinks cut u (d vs)) → Shrinks cut u (either (compares ts) f (d ts))
compares_past cut u f d [] h taken left = left [] h
compares_past cut u f d (t ∷ ts) h taken left = one (comparison t.kind) where
  one : (o : Option InfixWord) → Shrinks cut u (either (compares_of o ts) f (d (t ∷ ts)))
  one (Some w) = taken w ts (omega (arith, h))
  one None = left (t ∷ ts) h

pub begins_past : {Y : Type 0} (cut : Cut) (u : Shape Y) (f : Prefix × Word × Tokens → Answer Y) (d : Tokens → Answer Y) (ts : Tokens) → length ts ≤ length cut.here → ((p : Prefix) (w : Word) (vs : Tokens) → length vs < length cut.here → Shrinks cut u (f (p, w, vs)))
    → ((vs : Tokens) → length vs ≤ length cut.here → Shrinks cut u (d vs)) → Shrinks cut u (either (begins ts) f (d ts))
begins_past cut u f d [] h taken left = left [] h
begins_past cut u f d (t ∷ ts) h taken left = one (prefix t.kind) where
  one : (o : Option Prefix) → Shrinks cut u (either (begins_of o t.word ts) f (d (t ∷ ts)))
  one (Some p) = taken p t.word ts (omega (arith, h))
  one None = left (t ∷ ts) h

pub room_past : {Y : Type 0} (cut : Cut) (u : Shape Y) (a : Limit) (l m : Nesting) (f : Nesting → Answer Y) (ts : Tokens) → length ts < length cut.here → Shrinks cut u (f m) → Shrinks cut u (with_room a l m ts >>= f)
room_past cut u a l m f ts h k = one (is_below a (level l)) where
  one : (x : Bool) → Shrinks cut u ((if x then Ok m else too_deep ts) >>= f)
  one true = k
  one false = omega (arith, h)
