-- Proofs: where their reading stops, the tokens before the stop can be completed.
use Rattle.std.proofs.Common.{◌≡◌, ◌∙◌, ℕ, zero, suc, Bool, true, false, if◌then◌else◌, [], ◌∷◌, ◌++◌, Ok, refl, sym, ap, append_assoc}
use Rattle.pvs_parser.specs.declared.terminal.Terminal.{Terminal}
use Rattle.pvs_parser.specs.declared.terminal.TerminalKind.{TerminalKind}
use Rattle.pvs_parser.specs.declared.terminal.TerminalKind.TheVariants as kind
use Rattle.pvs_syntax.specs.declared.word.Word.{Word}
use Rattle.pvs_syntax.specs.declared.unit.Proof.{Proof}
use Rattle.pvs_parser.specs.Terminals.{Is, IsId}
use Rattle.pvs_parser.specs.Language.{Limit, Tokens, IsBelow}
use Rattle.pvs_parser.specs.Units.{Balanced, DerivesProof, is_plain}
use Rattle.pvs_parser.specs.code.Descent.{Answer, too_deep, is_below}
use Rattle.pvs_base.specs.Answers.{◌>>=◌}
use Rattle.pvs_parser.specs.code.UnitDescent.{closing_parenthesis_of, closing_parenthesis, script, target, proof}
use Rattle.pvs_parser.proofs.Gets.{both}
use Rattle.pvs_parser.proofs.DescentSteps.{below_is, is_below_is, Splits, glue, put, alone, nothing}
use Rattle.pvs_parser.proofs.Scripts.{Closes, token_front, group_front, script_sound, target_sound}
use Rattle.pvs_parser.proofs.Halts.{Stops, goes, stopped, bind, then_, expect_then, id_then, Wider, any, no_comma, Place, first, behind, upto, onto}
use Rattle.pvs_parser.proofs.HaltsBegins.{extend, tok}
use Rattle.pvs_parser.proofs.HaltsUnitsWiden.{widen_balanced}
use Rattle.pvs_parser.proofs.HaltsUnitsEnds.{is_end, id_is_no_end, last_is_end, last_of}
use Rattle.pvs_parser.proofs.HaltsUnitsParts.{Starts, started}
use Rattle.pvs_parser.proofs.HaltsUnitsSteps.{TextHalts, text_unexpected, text_nested, text_into}

-- ---- tokens balanced in parentheses

-- Tokens that can be completed to balanced tokens, the parenthesis that closes them, and so on, where so many more parentheses are open than one.
record ClosesBegun (w : Limit) (n : ℕ) (p : Tokens) : Type 0 where
  all : Tokens
  more : Tokens
  split : Splits all p more
  word : Word
  closes : Closes w n all (word, [])

-- so many closing parentheses, and one more
closings : ℕ → Tokens
closings zero = tok kind.Close ∷ []
closings (suc n) = tok kind.Close ∷ closings n

some_closes : (w : Limit) (n : ℕ) → Closes w n (closings n) ((tok kind.Close).word, [])
unfolding closings
some_closes w zero = ([], tok kind.Close, nothing, Balanced.nothing 1, refl, refl)
some_closes w (suc n) = ([], tok kind.Close, closings n, nothing, Balanced.nothing (suc (suc n)), refl, some_closes w n)

nothing_begun : {w : Limit} (n : ℕ) → ClosesBegun w n []
nothing_begun {w = w} n = record {
  all = closings n;
  more = closings n;
  split = nothing;
  word = (tok kind.Close).word;
  closes = some_closes w n;
}

token_begun : {w : Limit} {p : Tokens} (n : ℕ) (t : Terminal) → is_plain t.kind ≡ true → ClosesBegun w n p → ClosesBegun w n (t ∷ p)
token_begun {w = w} n t plain g = record {
  all = t ∷ g.all;
  more = g.more;
  split = put refl g.split;
  word = g.word;
  closes = token_front w n t g.all (g.word, []) plain g.closes;
}

open_begun : {w : Limit} {p : Tokens} (n : ℕ) (t : Terminal) → Is kind.Open t → IsBelow w (suc n) → ClosesBegun w (suc n) p → ClosesBegun w n (t ∷ p)
open_begun {w = w} n t is lt g = record {
  all = t ∷ g.all;
  more = g.more;
  split = put refl g.split;
  word = g.word;
  closes = group_front w n t g.all (g.word, []) is lt g.closes;
}

close_begun : {w : Limit} {p : Tokens} (n : ℕ) (t : Terminal) → Is kind.Close t → ClosesBegun w n p → ClosesBegun w (suc n) (t ∷ p)
close_begun n t is g = record {
  all = t ∷ g.all;
  more = g.more;
  split = put refl g.split;
  word = g.word;
  closes = ([], t, g.all, nothing, Balanced.nothing (suc (suc n)), is, g.closes);
}

open_stops : (limit : Limit) (n : ℕ) (t : Terminal) (ts : Tokens) (go : ℕ → Answer (Word × Tokens)) → Stops (go (suc n)) (TextHalts limit (λ w p. ClosesBegun w (suc n) p) ts) → Is kind.Open t → (b : Bool) → is_below limit (suc n) ≡ b
    → Stops (if b then go (suc n) else too_deep ts) (TextHalts limit (λ w p. ClosesBegun w n p) (t ∷ ts))
open_stops limit n t ts go h opened true is = text_into h (behind refl first) (λ w wide p g. open_begun n t opened (wide.below (suc n) (below_is limit (suc n) is)) g)
open_stops limit n t ts go h opened false is = stopped (text_nested nothing (no_comma t refl opened) (λ w wide. nothing_begun n) (open_begun n t opened (any 0) (nothing_begun (suc n))))

balanced_of_stops : (limit : Limit) (n : ℕ) (t : Terminal) (ts : Tokens) (go : ℕ → Answer (Word × Tokens)) → ((m : ℕ) → Stops (go m) (TextHalts limit (λ w p. ClosesBegun w m p) ts)) → (k : TerminalKind) → t.kind ≡ k
    → Stops (closing_parenthesis_of limit n t ts go k) (TextHalts limit (λ w p. ClosesBegun w n p) (t ∷ ts))
balanced_of_stops limit n t ts go h kind.Open is = open_stops limit n t ts go (h (suc n)) is (is_below limit (suc n)) refl
balanced_of_stops limit zero t ts go h kind.Close is = goes
balanced_of_stops limit (suc n) t ts go h kind.Close is = text_into (h n) (behind refl first) (λ w wide p g. close_begun n t is g)
balanced_of_stops limit n t ts go h _ is = text_into (h n) (behind refl first) (λ w wide p g. token_begun n t (ap is_plain is) g)

no_tokens : (t : Terminal) (more : Tokens) → [] ≡ t ∷ more → ⊥
no_tokens t more e = cc

balanced_stops : (limit : Limit) (n : ℕ) (ts : Tokens) → Stops (closing_parenthesis limit n ts) (TextHalts limit (λ w p. ClosesBegun w n p) ts)
unfolding closing_parenthesis
balanced_stops limit n [] = stopped (text_unexpected nothing (λ w wide. nothing_begun n) (λ t more e is. absurd (no_tokens t more e)))
balanced_stops limit n (t ∷ ts) = balanced_of_stops limit n t ts (λ m. closing_parenthesis limit m ts) (λ m. balanced_stops limit m ts) t.kind refl

-- ---- proofs

-- tokens that can be completed to a proof
abbrev pub ProofBegun : Limit → Tokens → Type 0
ProofBegun w p = Starts (DerivesProof w) p

-- a parenthesis, the word, the two names with the dot between them, and the script and the last parenthesis as short as they can be
short_proof : {w : Limit} (t u v d x : Terminal) → IsBelow w 0 → Is kind.Open t → Is kind.Proof u → IsId v → Is kind.Dot d → IsId x → (p : Proof) × DerivesProof w (t ∷ u ∷ v ∷ d ∷ x ∷ tok kind.Open ∷ tok kind.Close ∷ tok kind.Close ∷ []) p
short_proof t u v d x lt opened word is dot is2 = (_, DerivesProof.proof [] t u v d x (tok kind.Open) (tok kind.Close) (tok kind.Close) opened word is dot is2 refl lt (Balanced.nothing 1) refl refl)

proof_none : {w : Limit} → IsBelow w 0 → ProofBegun w []
proof_none lt = started _ nothing (short_proof (tok kind.Open) (tok kind.Proof) (tok kind.Id) (tok kind.Dot) (tok kind.Id) lt refl refl refl refl refl).1

proof_open : {w : Limit} (t : Terminal) → IsBelow w 0 → Is kind.Open t → ProofBegun w (t ∷ [])
proof_open t lt opened = started _ (put refl nothing) (short_proof t (tok kind.Proof) (tok kind.Id) (tok kind.Dot) (tok kind.Id) lt opened refl refl refl refl).1

proof_word : {w : Limit} (t u : Terminal) → IsBelow w 0 → Is kind.Open t → Is kind.Proof u → ProofBegun w (t ∷ u ∷ [])
proof_word t u lt opened word = started _ (put refl (put refl nothing)) (short_proof t u (tok kind.Id) (tok kind.Dot) (tok kind.Id) lt opened word refl refl refl).1

proof_theory : {w : Limit} (t u v : Terminal) → IsBelow w 0 → Is kind.Open t → Is kind.Proof u → IsId v → ProofBegun w (t ∷ u ∷ v ∷ [])
proof_theory t u v lt opened word is = started _ (put refl (put refl (put refl nothing))) (short_proof t u v (tok kind.Dot) (tok kind.Id) lt opened word is refl refl).1

proof_dot : {w : Limit} (t u v d : Terminal) → IsBelow w 0 → Is kind.Open t → Is kind.Proof u → IsId v → Is kind.Dot d → ProofBegun w (t ∷ u ∷ v ∷ d ∷ [])
proof_dot t u v d lt opened word is dot = started _ (put refl (put refl (put refl (put refl nothing)))) (short_proof t u v d (tok kind.Id) lt opened word is dot refl).1

proof_target : {w : Limit} (t u v d x : Terminal) → IsBelow w 0 → Is kind.Open t → Is kind.Proof u → IsId v → Is kind.Dot d → IsId x → ProofBegun w (t ∷ u ∷ v ∷ d ∷ x ∷ [])
proof_target t u v d x lt opened word is dot is2 = started _ (put refl (put refl (put refl (put refl (put refl nothing))))) (short_proof t u v d x lt opened word is dot is2).1

proof_script : {w : Limit} {p : Tokens} (t u v d x y : Terminal) → IsBelow w 0 → Is kind.Open t → Is kind.Proof u → IsId v → Is kind.Dot d → IsId x → Is kind.Open y → ClosesBegun w 0 p → ProofBegun w (t ∷ u ∷ v ∷ d ∷ x ∷ y ∷ p)
proof_script {p = p} t u v d x y lt opened word is dot is2 opened2 g =
    let c = g.closes in
    let last : Tokens = tok kind.Close ∷ [] in
    let s : Splits (c.0 ++ c.1 ∷ last) p (g.more ++ last) = record { same = sym (append_assoc c.0 (c.1 ∷ []) last) ∙ ap (λ z. z ++ last) (sym c.2.same) ∙ (extend last g.split).same } in
    started _ (put refl (put refl (put refl (put refl (put refl (put refl s)))))) (DerivesProof.proof c.0 t u v d x y c.1 (tok kind.Close) opened word is dot is2 opened2 lt c.3 c.4 refl)

-- before the last parenthesis
proof_last : {w : Limit} {vs : Tokens} (t u v d x y z : Terminal) → IsBelow w 0 → Is kind.Open t → Is kind.Proof u → IsId v → Is kind.Dot d → IsId x → Is kind.Open y → Balanced w 1 vs → Is kind.Close z
    → ProofBegun w (t ∷ u ∷ v ∷ d ∷ x ∷ y ∷ (vs ++ z ∷ []))
proof_last {vs = vs} t u v d x y z lt opened word is dot is2 opened2 b close =
    started _ (put refl (put refl (put refl (put refl (put refl (put refl (glue both (alone refl)))))))) (DerivesProof.proof vs t u v d x y z (tok kind.Close) opened word is dot is2 opened2 lt b close refl)

-- after the parenthesis of a proof
target_stops : (limit : Limit) → IsBelow limit 0 → (t : Terminal) (ts us : Tokens) → ts ≡ t ∷ us → Is kind.Open t → Stops (target us) (TextHalts limit ProofBegun ts)
target_stops limit some t ts us e opened =
    expect_then kind.Proof us _ (text_unexpected (alone e) (λ w wide. proof_open t (wide.below 0 some) opened) (λ z more same id. ap is_end opened)) (λ xs a.
    id_then xs _ (text_unexpected (put e (alone a.1)) (λ w wide. proof_word t a.0 (wide.below 0 some) opened a.2) (λ z more same id. ap is_end a.2)) (λ v ys g is.
    expect_then kind.Dot ys _ (text_unexpected (put e (put a.1 (alone g))) (λ w wide. proof_theory t a.0 v (wide.below 0 some) opened a.2 is) (λ z more same id. id_is_no_end v is)) (λ zs b.
    id_then zs _ (text_unexpected (put e (put a.1 (put g (alone b.1)))) (λ w wide. proof_dot t a.0 v b.0 (wide.below 0 some) opened a.2 is b.2) (λ z more same id. ap is_end b.2)) (λ x rest h is2. goes))))

inner_stops : {limit : Limit} {K : Limit → Tokens → Type 0} {all : Tokens} (t : Word) (us : Tokens) → Stops (closing_parenthesis limit 0 us) (TextHalts limit K all) → IsBelow limit 0 → (b : Bool) → is_below limit 0 ≡ b
    → Stops {A = Word × Word × Tokens} (if b then (closing_parenthesis limit 0 us >>= λ p. Ok (t, p.0, p.1)) else too_deep us) (TextHalts limit K all)
inner_stops t us g some true is = then_ g (λ p. goes)
inner_stops {limit = limit} t us g some false is = let other : is_below limit 0 ≡ true = is_below_is limit 0 some in absurd cc

-- a script, at a place after the names
script_stops : {limit : Limit} {K : Limit → Tokens → Type 0} {all : Tokens} {f : Tokens → Tokens} (ts : Tokens) → IsBelow limit 0 → Place all f ts → last_is_end true (f []) ≡ false → ((w : Limit) → Wider limit w → K w (f []))
    → ((y : Terminal) → Is kind.Open y → (w : Limit) → Wider limit w → (p : Tokens) → ClosesBegun w 0 p → K w (f (y ∷ p))) → Stops (script limit ts) (TextHalts limit K all)
script_stops [] some place plain before k = stopped (text_unexpected (upto place nothing) before (λ z more same id. plain))
script_stops {limit = limit} (t ∷ ts) some place plain before k = expect_then kind.Open (t ∷ ts) _ (text_unexpected (upto place nothing) before (λ z more same id. plain)) (λ us c.
    inner_stops t.word us (text_into (balanced_stops limit 0 us) (onto place c.1) (λ w wide p g. k c.0 c.2 w wide p g)) some (is_below limit 0) refl)

pub proof_stops : (limit : Limit) → IsBelow limit 0 → (t : Terminal) (ts us : Tokens) → ts ≡ t ∷ us → Is kind.Open t → Stops (proof limit us) (TextHalts limit ProofBegun ts)
proof_stops limit some t ts us e opened =
    bind (target_sound us) (target_stops limit some t ts us e opened) (λ p f.
    let place : Place ts (λ q. t ∷ f.u ∷ f.v ∷ f.w ∷ f.x ∷ q) p.2 = behind e (behind f.tokens (behind refl (behind refl (behind refl first)))) in
    bind (script_sound limit p.2)
    (script_stops p.2 some place (id_is_no_end f.x f.formula) (λ w wide. proof_target t f.u f.v f.w f.x (wide.below 0 some) opened f.word f.theory f.dot f.formula)
    (λ y paren w wide q g. proof_script t f.u f.v f.w f.x y (wide.below 0 some) opened f.word f.theory f.dot f.formula paren g)) (λ q g.
    expect_then kind.Close q.2 _ (text_unexpected (upto place (put g.first (glue g.split (alone refl))))
    (λ w wide. proof_last t f.u f.v f.w f.x g.y g.z (wide.below 0 some) opened f.word f.theory f.dot f.formula g.opened (widen_balanced wide 1 g.vs g.inner) g.closed)
    (λ z more same id. last_of (is_end g.y.kind) g.vs (g.z ∷ []) ∙ ap is_end g.closed)) (λ rest c. goes)))
