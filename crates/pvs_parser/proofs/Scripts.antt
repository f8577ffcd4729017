-- Proofs: what is read is in the grammar, and what is in the grammar is read.
use Rattle.std.proofs.Common.{◌≡◌, ◌∙◌, ℕ, zero, suc, Bool, true, false, if◌then◌else◌, [], ◌∷◌, ◌++◌, Ok, refl, sym, ap, subst, append_assoc}
use Rattle.pvs_parser.specs.declared.terminal.Terminal.{Terminal}
use Rattle.pvs_parser.specs.declared.terminal.TerminalKind.{TerminalKind}
use Rattle.pvs_parser.specs.declared.terminal.TerminalKind.TheVariants as kind
use Rattle.pvs_syntax.specs.declared.word.Word.{Word}
use Rattle.pvs_syntax.specs.declared.unit.Proof.{Proof}
use Rattle.pvs_parser.specs.Terminals.{Is, IsId}
use Rattle.pvs_parser.specs.Language.{Limit, IsBelow, Tokens}
use Rattle.pvs_parser.specs.Units.{Balanced, DerivesProof, is_plain}
use Rattle.pvs_parser.specs.code.Descent.{Answer, too_deep, is_below}
use Rattle.pvs_base.specs.Answers.{◌>>=◌}
use Rattle.pvs_parser.specs.code.UnitDescent.{closing_parenthesis_of, closing_parenthesis, script, target, proof}
use Rattle.pvs_parser.proofs.Yields.{Yields, here, none, bind, weaken}
use Rattle.pvs_parser.proofs.Gets.{Gets, found, then_, takes, names}
use Rattle.pvs_parser.proofs.DescentSteps.{expect_yields, id_bind, below_is, is_below_is, Splits, glue, put, alone, nothing}
use Rattle.pvs_parser.proofs.Deeper.{Fore}

-- ---- tokens balanced in parentheses

-- Balanced tokens, the parenthesis that closes them, and so on, where so many more parentheses are open than one. The word is that of the last.
abbrev pub Closes : Limit → ℕ → Tokens → Word × Tokens → Type 0
Closes limit zero ts p = (vs : Tokens) × (z : Terminal) × Splits ts vs (z ∷ p.1) × Balanced limit 1 vs × Is kind.Close z × (z.word ≡ p.0)
Closes limit (suc n) ts p = (vs : Tokens) × (z : Terminal) × (rest : Tokens) × Splits ts vs (z ∷ rest) × Balanced limit (suc (suc n)) vs × Is kind.Close z × Closes limit n rest p

pub token_front : (limit : Limit) (n : ℕ) (t : Terminal) (ts : Tokens) (p : Word × Tokens) → is_plain t.kind ≡ true → Closes limit n ts p → Closes limit n (t ∷ ts) p
token_front limit zero t ts p plain c = (t ∷ c.0, c.1, put refl c.2, Balanced.token 1 c.0 t plain c.3, c.4, c.5)
token_front limit (suc n) t ts p plain c = (t ∷ c.0, c.1, c.2, put refl c.3, Balanced.token (suc (suc n)) c.0 t plain c.4, c.5, c.6)

pub group_front : (limit : Limit) (n : ℕ) (t : Terminal) (ts : Tokens) (p : Word × Tokens) → Is kind.Open t → IsBelow limit (suc n) → Closes limit (suc n) ts p → Closes limit n (t ∷ ts) p
group_front limit zero t ts p opened lt c =
    let d = c.6 in
    (t ∷ (c.0 ++ c.1 ∷ d.0), d.1, put refl (glue c.3 (put refl d.2)), Balanced.group 1 c.0 d.0 t c.1 opened lt c.4 c.5 d.3, d.4, d.5)
group_front limit (suc n) t ts p opened lt c =
    let d = c.6 in
    (t ∷ (c.0 ++ c.1 ∷ d.0), d.1, d.2, put refl (glue c.3 (put refl d.3)), Balanced.group (suc (suc n)) c.0 d.0 t c.1 opened lt c.4 c.5 d.4, d.5, d.6)

open_sound : (limit : Limit) (n : ℕ) (t : Terminal) (ts : Tokens) (go : ℕ → Answer (Word × Tokens)) → Yields (go (suc n)) (Closes limit (suc n) ts) → Is kind.Open t → (b : Bool) → is_below limit (suc n) ≡ b
    → Yields (if b then go (suc n) else too_deep ts) (Closes limit n (t ∷ ts))
open_sound limit n t ts go sound opened true is = weaken (λ p c. group_front limit n t ts p opened (below_is limit (suc n) is) c) sound
open_sound limit n t ts go sound opened false is = none

balanced_of_sound : (limit : Limit) (n : ℕ) (t : Terminal) (ts : Tokens) (go : ℕ → Answer (Word × Tokens)) → ((m : ℕ) → Yields (go m) (Closes limit m ts)) → (k : TerminalKind) → t.kind ≡ k
    → Yields (closing_parenthesis_of limit n t ts go k) (Closes limit n (t ∷ ts))
balanced_of_sound limit n t ts go sound kind.Open is = open_sound limit n t ts go (sound (suc n)) is (is_below limit (suc n)) refl
balanced_of_sound limit zero t ts go sound kind.Close is = here ([], t, nothing, Balanced.nothing 1, is, refl)
balanced_of_sound limit (suc n) t ts go sound kind.Close is = weaken (λ p c. ([], t, ts, nothing, Balanced.nothing (suc (suc n)), is, c)) (sound n)
balanced_of_sound limit n t ts go sound _ is = weaken (λ p c. token_front limit n t ts p (ap is_plain is) c) (sound n)

balanced_sound : (limit : Limit) (n : ℕ) (ts : Tokens) → Yields (closing_parenthesis limit n ts) (Closes limit n ts)
unfolding closing_parenthesis
balanced_sound limit n [] = none
balanced_sound limit n (t ∷ ts) = balanced_of_sound limit n t ts (λ m. closing_parenthesis limit m ts) (λ m. balanced_sound limit m ts) t.kind refl

-- ---- proofs

-- a script, from its parenthesis to the one that closes it
pub record ScriptFront (limit : Limit) (ts : Tokens) (p : Word × Word × Tokens) : Type 0 where
  pub y : Terminal
  pub z : Terminal
  pub us : Tokens
  pub vs : Tokens
  pub first : ts ≡ y ∷ us
  pub split : Splits us vs (z ∷ p.2)
  pub opened : Is kind.Open y
  pub room : IsBelow limit 0
  pub inner : Balanced limit 1 vs
  pub closed : Is kind.Close z
  pub first_is : y.word ≡ p.0
  pub last_is : z.word ≡ p.1

inner_sound : (limit : Limit) (t : Terminal) (us : Tokens) → Is kind.Open t → (b : Bool) → is_below limit 0 ≡ b → Yields (if b then (closing_parenthesis limit 0 us >>= λ p. Ok (t.word, p.0, p.1)) else too_deep us) (ScriptFront limit (t ∷ us))
inner_sound limit t us opened true is = bind (balanced_sound limit 0 us) (λ p c. here (record {
  y = t;
  z = c.1;
  us = us;
  vs = c.0;
  first = refl;
  split = c.2;
  opened = opened;
  room = below_is limit 0 is;
  inner = c.3;
  closed = c.4;
  first_is = refl;
  last_is = c.5;
}))
inner_sound limit t us opened false is = none

heads_same : (t u : Terminal) (ts us : Tokens) → t ∷ ts ≡ u ∷ us → t ≡ u
heads_same t u ts us e = cc

tails_same : (t u : Terminal) (ts us : Tokens) → t ∷ ts ≡ u ∷ us → ts ≡ us
tails_same t u ts us e = cc

pub script_sound : (limit : Limit) (ts : Tokens) → Yields (script limit ts) (ScriptFront limit ts)
script_sound limit [] = none
script_sound limit (t ∷ ts) = bind (expect_yields kind.Open (t ∷ ts)) (λ us a.
    weaken (λ p f. subst (λ z. ScriptFront limit (t ∷ z) p) (sym (tails_same t a.0 ts us a.1)) f)
    (inner_sound limit t us (ap (λ z. z.kind) (heads_same t a.0 ts us a.1) ∙ a.2) (is_below limit 0) refl))

-- the names of a theory and of a formula
pub record TargetFront (ts : Tokens) (p : Word × Word × Tokens) : Type 0 where
  pub u : Terminal
  pub v : Terminal
  pub w : Terminal
  pub x : Terminal
  pub tokens : ts ≡ u ∷ v ∷ w ∷ x ∷ p.2
  pub word : Is kind.Proof u
  pub theory : IsId v
  pub dot : Is kind.Dot w
  pub formula : IsId x
  pub theory_is : v.word ≡ p.0
  pub formula_is : x.word ≡ p.1

pub target_sound : (ts : Tokens) → Yields (target ts) (TargetFront ts)
target_sound ts = bind (expect_yields kind.Proof ts) (λ us a. id_bind us _ (λ v xs e is. bind (expect_yields kind.Dot xs) (λ ys b. id_bind ys _ (λ x zs g is2. here (record {
  u = a.0;
  v = v;
  w = b.0;
  x = x;
  tokens = a.1 ∙ ap (λ z. a.0 ∷ z) (e ∙ ap (λ z. v ∷ z) (b.1 ∙ ap (λ z. b.0 ∷ z) g));
  word = a.2;
  theory = is;
  dot = b.2;
  formula = is2;
  theory_is = refl;
  formula_is = refl;
})))))

abbrev proof_of : Word → Word → Word → Word → Proof
proof_of a b y z = record { theory = a; formula = b; start = y.start; end = z.end; pos = y.pos }

pub proof_sound : (limit : Limit) (t : Terminal) (ts us : Tokens) → ts ≡ t ∷ us → Is kind.Open t → Yields (proof limit us) (Fore (DerivesProof limit) ts)
proof_sound limit t ts us e is = bind (target_sound us) (λ p f. bind (script_sound limit p.2) (λ q g. bind (expect_yields kind.Close q.2) (λ rest c.
    let tokens : Tokens = t ∷ f.u ∷ f.v ∷ f.w ∷ f.x ∷ g.y ∷ (g.vs ++ g.z ∷ c.0 ∷ []) in
    here (
      tokens,
      put e (put f.tokens (put refl (put refl (put refl (put g.first (glue g.split (put refl (alone c.1)))))))),
      subst (λ k. DerivesProof limit tokens k) (ap (λ k. proof_of k f.x.word g.y.word g.z.word) f.theory_is ∙ ap (λ k. proof_of p.0 k g.y.word g.z.word) f.formula_is
          ∙ ap (λ k. proof_of p.0 p.1 k g.z.word) g.first_is ∙ ap (λ k. proof_of p.0 p.1 q.0 k) g.last_is)
          (DerivesProof.proof g.vs t f.u f.v f.w f.x g.y g.z c.0 is f.word f.theory f.dot f.formula g.opened g.room g.inner g.closed c.2),
    ))))

-- ---- the other way round

plain_goes : (limit : Limit) (n : ℕ) (t : Terminal) (ts : Tokens) (go : ℕ → Answer (Word × Tokens)) (k : TerminalKind) → is_plain k ≡ true → closing_parenthesis_of limit n t ts go k ≡ go n
plain_goes limit n t ts go kind.Open e = cc
plain_goes limit n t ts go kind.Close e = cc
plain_goes limit n t ts go _ e = refl

open_goes : (limit : Limit) (n : ℕ) (t : Terminal) (ts : Tokens) (y : Word × Tokens) → Is kind.Open t → IsBelow limit (suc n) → Gets (closing_parenthesis limit (suc n) ts) y → Gets (closing_parenthesis limit n (t ∷ ts)) y
unfolding closing_parenthesis
open_goes limit n t ts y is lt g = record {
  is = ap (closing_parenthesis_of limit n t ts (λ m. closing_parenthesis limit m ts)) is ∙ ap (λ b. if b then closing_parenthesis limit (suc n) ts else too_deep ts) (is_below_is limit (suc n) lt) ∙ g.is;
}

close_goes : (limit : Limit) (n : ℕ) (t : Terminal) (ts : Tokens) (y : Word × Tokens) → Is kind.Close t → Gets (closing_parenthesis limit n ts) y → Gets (closing_parenthesis limit (suc n) (t ∷ ts)) y
unfolding closing_parenthesis
close_goes limit n t ts y is g = record { is = ap (closing_parenthesis_of limit (suc n) t ts (λ m. closing_parenthesis limit m ts)) is ∙ g.is }

last_goes : (limit : Limit) (t : Terminal) (ts : Tokens) → Is kind.Close t → Gets (closing_parenthesis limit 0 (t ∷ ts)) (t.word, ts)
unfolding closing_parenthesis
last_goes limit t ts is = record { is = ap (closing_parenthesis_of limit 0 t ts (λ m. closing_parenthesis limit m ts)) is }

token_goes : (limit : Limit) (n : ℕ) (t : Terminal) (ts : Tokens) (y : Word × Tokens) → is_plain t.kind ≡ true → Gets (closing_parenthesis limit n ts) y → Gets (closing_parenthesis limit n (t ∷ ts)) y
unfolding closing_parenthesis
token_goes limit n t ts y plain g = record { is = plain_goes limit n t ts (λ m. closing_parenthesis limit m ts) t.kind plain ∙ g.is }

-- what is read after balanced tokens is read through them
through : (limit : Limit) (k : ℕ) (vs : Tokens) → Balanced limit k vs → (n : ℕ) → k ≡ suc n → (rest : Tokens) (y : Word × Tokens) → Gets (closing_parenthesis limit n rest) y → Gets (closing_parenthesis limit n (vs ++ rest)) y
through limit _ _ (Balanced.nothing k) n e rest y g = g
through limit _ _ (Balanced.token k ts t plain d) n e rest y g = token_goes limit n t (ts ++ rest) y plain (through limit k ts d n e rest y g)
through limit _ _ (Balanced.group k ts us t u opened lt d close f) n e rest y g =
    subst (λ z. Gets (closing_parenthesis limit n (t ∷ z)) y) (sym (append_assoc ts (u ∷ us) rest))
    (open_goes limit n t (ts ++ u ∷ (us ++ rest)) y opened (subst (λ z. IsBelow limit z) e lt)
    (through limit (suc k) ts d (suc n) (ap suc e) (u ∷ (us ++ rest)) y (close_goes limit n u (us ++ rest) y close (through limit k us f n e rest y g))))

script_goes : (limit : Limit) (y z : Terminal) (ts rest : Tokens) → Is kind.Open y → IsBelow limit 0 → Balanced limit 1 ts → Is kind.Close z → Gets (script limit (y ∷ (ts ++ z ∷ rest))) (y.word, z.word, rest)
script_goes limit y z ts rest opened lt d close =
    let all : Tokens = ts ++ z ∷ rest in
    let g : Gets (closing_parenthesis limit 0 all >>= λ p. Ok (y.word, p.0, p.1)) (y.word, z.word, rest) = then_ _ (through limit 1 ts d 0 refl (z ∷ rest) (z.word, rest) (last_goes limit z rest close)) found in
    takes kind.Open y all _ opened (record { is = ap (λ b. if b then (closing_parenthesis limit 0 all >>= λ p. Ok (y.word, p.0, p.1)) else too_deep all) (is_below_is limit 0 lt) ∙ g.is })

proof_goes : (limit : Limit) (ts : Tokens) (u v w x y z c : Terminal) → Is kind.Proof u → IsId v → Is kind.Dot w → IsId x → Is kind.Open y → IsBelow limit 0 → Balanced limit 1 ts → Is kind.Close z → Is kind.Close c → (us : Tokens)
    → Gets (proof limit (u ∷ v ∷ w ∷ x ∷ y ∷ (ts ++ z ∷ c ∷ us))) (proof_of v.word x.word y.word z.word, us)
proof_goes limit ts u v w x y z c word is dot is2 opened lt d close last us =
    then_ _ (takes kind.Proof u (v ∷ w ∷ x ∷ y ∷ (ts ++ z ∷ c ∷ us)) _ word (names v (w ∷ x ∷ y ∷ (ts ++ z ∷ c ∷ us)) _ is (takes kind.Dot w (x ∷ y ∷ (ts ++ z ∷ c ∷ us)) _ dot (names x (y ∷ (ts ++ z ∷ c ∷ us)) _ is2 found))))
    (then_ _ (script_goes limit y z ts (c ∷ us) opened lt d close) (takes kind.Close c us _ last found))

-- a proof is read after its parenthesis
pub proof_complete : (limit : Limit) (ts : Tokens) (p : Proof) → DerivesProof limit ts p → (us : Tokens) → (t : Terminal) × (vs : Tokens) × (ts ≡ t ∷ vs) × Is kind.Open t × Gets (proof limit (vs ++ us)) (p, us)
proof_complete limit _ _ (DerivesProof.proof ts t u v w x y z c first word is dot is2 opened lt d close last) us = (
  t,
  u ∷ v ∷ w ∷ x ∷ y ∷ (ts ++ z ∷ c ∷ []),
  refl,
  first,
  subst (λ k. Gets (proof limit (u ∷ v ∷ w ∷ x ∷ y ∷ k)) (proof_of v.word x.word y.word z.word, us)) (sym (append_assoc ts (z ∷ c ∷ []) us))
      (proof_goes limit ts u v w x y z c word is dot is2 opened lt d close last us),
)
