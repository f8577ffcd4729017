-- Texts with END in them: what is said of a stop, and the steps of its proof.
use Rattle.std.proofs.Common.{◌≡◌, ◌∙◌, ◌⊎◌, inl, ◌+◌, Bool, true, false, if◌then◌else◌, [], ◌∷◌, ◌++◌, length, None, Ok, refl, ap, subst, arith}
use Rattle.pvs_parser.specs.declared.failure.Reason.{Reason}
use Rattle.pvs_parser.specs.declared.failure.Reason.TheVariants as reason
use Rattle.pvs_parser.specs.declared.failure.Stop.{Stop}
use Rattle.pvs_parser.specs.declared.terminal.Terminal.{Terminal}
use Rattle.pvs_syntax.specs.declared.word.Word.{Word}
use Rattle.pvs_parser.specs.Terminals.{IsId, is_id}
use Rattle.pvs_parser.specs.Language.{Limit, Tokens}
use Rattle.pvs_parser.specs.code.Descent.{Answer, stop, id}
use Rattle.pvs_base.specs.Answers.{◌>>=◌}
use Rattle.pvs_parser.specs.Faults.{AwaitsName}
use Rattle.pvs_parser.proofs.DescentSteps.{Splits}
use Rattle.pvs_parser.proofs.Halts.{Stops, stopped, weaken, at, deep, Wider, no_limit, same_limit, Full, NoComma, Why, Halts, Place, upto, within_inner}
use Rattle.pvs_parser.proofs.HaltsUnitsEnds.{NoEnd, last_is_end, last_of, last_plain, last_any}

-- An identifier is unexpected only after a token that is not END. A wrong end is an identifier after END.
abbrev pub TextWhy : (Limit → Tokens → Type 0) → Tokens → Tokens → Reason → Type 0
TextWhy K before rest reason.Unexpected = (t : Terminal) (more : Tokens) → rest ≡ t ∷ more → IsId t → last_is_end true before ≡ false
TextWhy K before rest reason.TooNested = Why K before rest reason.TooNested
TextWhy K before rest reason.WrongEnd = (t : Terminal) × (more : Tokens) × (rest ≡ t ∷ more) × IsId t × AwaitsName before

-- K w p: the tokens p can be completed within the limit w. Where reading stopped, those before the stop can be.
pub record TextHalts (limit : Limit) (K : Limit → Tokens → Type 0) (ts : Tokens) (e : Stop) : Type 0 where
  pub before : Tokens
  pub rest : Tokens
  pub split : Splits ts before rest
  pub left : length rest ≡ e.left
  pub begun : K None before
  pub within : K limit before ⊎ Full limit K before
  pub why : TextWhy K before rest e.reason

-- ---- the stops of the steps

pub text_unexpected : {limit : Limit} {K : Limit → Tokens → Type 0} {ts before rest : Tokens} → Splits ts before rest → ((w : Limit) → Wider limit w → K w before) → TextWhy K before rest reason.Unexpected → TextHalts limit K ts (at rest)
text_unexpected {limit = limit} {before = before} {rest = rest} s k y = record {
  before = before;
  rest = rest;
  split = s;
  left = refl;
  begun = k None no_limit;
  within = inl (k limit same_limit);
  why = y;
}

pub text_nested : {limit : Limit} {K : Limit → Tokens → Type 0} {ts before us : Tokens} {t : Terminal} → Splits ts before (t ∷ us) → NoComma t → ((w : Limit) → Wider limit w → K w before) → K None (before ++ t ∷ []) → TextHalts limit K ts (deep us)
text_nested {limit = limit} {before = before} {us = us} {t = t} s other k h = record {
  before = before;
  rest = t ∷ us;
  split = s;
  left = omega arith;
  begun = k None no_limit;
  within = inl (k limit same_limit);
  why = (t, us, refl, other, h);
}

-- at another name than that of the theory
pub text_wrong : {limit : Limit} {K : Limit → Tokens → Type 0} {ts before us : Tokens} {t : Terminal} → Splits ts before (t ∷ us) → IsId t → AwaitsName before → ((w : Limit) → Wider limit w → K w before)
    → TextHalts limit K ts (record { left = length us + 1; reason = reason.WrongEnd })
text_wrong {limit = limit} {before = before} {us = us} {t = t} s is end k = record {
  before = before;
  rest = t ∷ us;
  split = s;
  left = omega arith;
  begun = k None no_limit;
  within = inl (k limit same_limit);
  why = (t, us, refl, is, end);
}

-- no identifier stands first
abbrev pub NoId : Tokens → Type 0
NoId ts = (t : Terminal) (more : Tokens) → ts ≡ t ∷ more → IsId t → ⊥

nothing_first : NoId []
nothing_first t more e is = cc

other_first : (t : Terminal) (ts : Tokens) → is_id t.kind ≡ false → NoId (t ∷ ts)
other_first t ts other u more e is = let same : t ≡ u = cc in let f : is_id t.kind ≡ is_id u.kind = ap (λ z. is_id z.kind) same in cc

id_one : {B : Type 0} (t : Terminal) (ts : Tokens) (f : Word × Tokens → Answer B) (Q : Stop → Type 0) → (NoId (t ∷ ts) → Q (at (t ∷ ts))) → (IsId t → Stops (f (t.word, ts)) Q) → (b : Bool) → is_id t.kind ≡ b
    → Stops ((if b then Ok (t.word, ts) else stop (t ∷ ts)) >>= f) Q
id_one t ts f Q q g true is = g is
id_one t ts f Q q g false is = stopped (q (other_first t ts is))

-- after an identifier, where what is said of the stop needs that none stands first
pub id_else : {B : Type 0} (ts : Tokens) (f : Word × Tokens → Answer B) {Q : Stop → Type 0} → (NoId ts → Q (at ts)) → ((t : Terminal) (us : Tokens) → ts ≡ t ∷ us → IsId t → Stops (f (t.word, us)) Q) → Stops (id ts >>= f) Q
id_else [] f q g = stopped (q nothing_first)
id_else (t ∷ ts) f {Q = Q} q g = id_one t ts f Q q (λ is. g t ts refl is) (is_id t.kind) refl

-- ---- places in tokens

at_place : (f : Tokens → Tokens) → ((p q : Tokens) → f (p ++ q) ≡ f p ++ q) → (before : Tokens) → last_is_end true (f before) ≡ last_is_end (last_is_end true (f [])) before
at_place f through before = ap (last_is_end true) (through [] before) ∙ last_of true (f []) before

text_why : (G K : Limit → Tokens → Type 0) (f : Tokens → Tokens) → ((p q : Tokens) → f (p ++ q) ≡ f p ++ q) → ((p : Tokens) → G None p → K None (f p)) → (before rest : Tokens) (r : Reason) → TextWhy G before rest r → TextWhy K (f before) rest r
text_why G K f through k before rest reason.Unexpected y = λ t more e is. at_place f through before ∙ last_any (last_is_end true (f [])) before (y t more e is)
text_why G K f through k before rest reason.TooNested y = (y.0, y.1, y.2, y.3, subst (λ z. K None z) (through before (y.0 ∷ [])) (k (before ++ y.0 ∷ []) y.4))
text_why G K f through k before rest reason.WrongEnd y = let z = y.4 in (y.0, y.1, y.2, y.3, (f z.0, z.1, ap f z.2 ∙ through z.0 (z.1 ∷ []), z.3))

text_inner : {limit : Limit} {G K : Limit → Tokens → Type 0} {ts us : Tokens} {f : Tokens → Tokens} {e : Stop} → Place ts f us → ((w : Limit) → Wider limit w → (p : Tokens) → G w p → K w (f p)) → TextHalts limit G us e → TextHalts limit K ts e
text_inner {limit = limit} {G = G} {K = K} {f = f} {e = e} place k h = record {
  before = f h.before;
  rest = h.rest;
  split = upto place h.split;
  left = h.left;
  begun = k None no_limit h.before h.begun;
  within = within_inner f place.through (λ p g. k limit same_limit p g) h.before h.within;
  why = text_why G K f place.through (λ p g. k None no_limit p g) h.before h.rest e.reason h.why;
}

pub text_into : {A : Type 0} {o : Answer A} {limit : Limit} {G K : Limit → Tokens → Type 0} {ts us : Tokens} {f : Tokens → Tokens} → Stops o (TextHalts limit G us) → Place ts f us
    → ((w : Limit) → Wider limit w → (p : Tokens) → G w p → K w (f p)) → Stops o (TextHalts limit K ts)
text_into g place k = weaken (λ e h. text_inner place k h) g

-- ---- parts in which no END stands, after a token that is not END

part_why : (G K : Limit → Tokens → Type 0) (f : Tokens → Tokens) → ((p q : Tokens) → f (p ++ q) ≡ f p ++ q) → last_is_end true (f []) ≡ false → ((p : Tokens) → G None p → K None (f p)) → (before rest : Tokens) → NoEnd before → (r : Reason) → Why G before rest r
    → TextWhy K (f before) rest r
part_why G K f through plain k before rest no_end reason.Unexpected y = λ t more e is. at_place f through before ∙ ap (λ b. last_is_end b before) plain ∙ last_plain before no_end
part_why G K f through plain k before rest no_end reason.TooNested y = (y.0, y.1, y.2, y.3, subst (λ z. K None z) (through before (y.0 ∷ [])) (k (before ++ y.0 ∷ []) y.4))
part_why G K f through plain k before rest no_end reason.WrongEnd y = absurd y

part_inner : {limit : Limit} {G K : Limit → Tokens → Type 0} {ts us : Tokens} {f : Tokens → Tokens} {e : Stop} → Place ts f us → last_is_end true (f []) ≡ false → ((p : Tokens) → G None p → NoEnd p)
    → ((w : Limit) → Wider limit w → (p : Tokens) → G w p → K w (f p)) → Halts limit G us e → TextHalts limit K ts e
part_inner {limit = limit} {G = G} {K = K} {f = f} {e = e} place plain no_end k h = record {
  before = f h.before;
  rest = h.rest;
  split = upto place h.split;
  left = h.left;
  begun = k None no_limit h.before h.begun;
  within = within_inner f place.through (λ p g. k limit same_limit p g) h.before h.within;
  why = part_why G K f place.through plain (λ p g. k None no_limit p g) h.before h.rest (no_end h.before h.begun) e.reason h.why;
}

pub part_into : {A : Type 0} {o : Answer A} {limit : Limit} {G K : Limit → Tokens → Type 0} {ts us : Tokens} {f : Tokens → Tokens} → Stops o (Halts limit G us) → Place ts f us → last_is_end true (f []) ≡ false → ((p : Tokens) → G None p → NoEnd p)
    → ((w : Limit) → Wider limit w → (p : Tokens) → G w p → K w (f p)) → Stops o (TextHalts limit K ts)
part_into g place plain no_end k = weaken (λ e h. part_inner place plain no_end k h) g
