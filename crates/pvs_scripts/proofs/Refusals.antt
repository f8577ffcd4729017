-- Why a token is not taken after others that are.
use Rattle.std.proofs.Common.{◌≡◌, ◌∙◌, ◌+◌, ◌-◌, ℕ, Bool, true, false, if◌then◌else◌, List, [], ◌∷◌, ◌++◌, Option, Some, None, Result, Ok, Err, refl, sym, ap, subst, arith}
use Rattle.std.proofs.lemmas.Bool.{ltb-true}
use Rattle.pvs_base.specs.declared.code.Code.TheVariants as code
use Rattle.pvs_base.specs.declared.code.Fault.{Fault}
use Rattle.pvs_base.specs.Answers.{◌>>=◌}
use Rattle.pvs_syntax.specs.declared.expression.Expr.{Expr}
use Rattle.pvs_syntax.specs.declared.expression.Expr.TheVariants as expr
use Rattle.pvs_parser.proofs.Texts.{expr_or_fault, span_fault_same}
use Rattle.pvs_scripts.specs.declared.lexeme.Lexeme.{Lexeme}
use Rattle.pvs_scripts.specs.declared.lexeme.LexemeKind.{LexemeKind}
use Rattle.pvs_scripts.specs.declared.lexeme.LexemeKind.TheVariants as kind
use Rattle.pvs_scripts.specs.declared.state.State.{State}
use Rattle.pvs_scripts.specs.declared.state.State.TheVariants as state
use Rattle.pvs_scripts.specs.Grammar.{terminal, is_quoted, after_quote, Holds, level}
use Rattle.pvs_scripts.specs.Faults.{fault_at, MayFollow, IsRefused}
use Rattle.pvs_scripts.specs.code.States.{next_state, takes_quote, depth, is_deep}
use Rattle.pvs_scripts.specs.code.Reading.{quote_of, refusal, within_levels, shift, take_quote, take_kind, take_token}
use Rattle.pvs_scripts.proofs.Runs.{bind, run, runs_on, split}
use Rattle.pvs_scripts.proofs.Completeness.{whole_taken}
use Rattle.pvs_scripts.proofs.Completions.{run_begins}
use Rattle.pvs_scripts.proofs.Levels.{token_moves, deep_open}
use Rattle.pvs_scripts.proofs.QuotePlaces.{unheld, quote_none, quote_some}
use Rattle.pvs_scripts.proofs.HeldTokens.{IsQuoteFault, quote_read, quote_fault, not_quoted, one_read, read_push}
use Rattle.pvs_scripts.proofs.Taken.{Reaches, token_leads, level_is}

-- ---- whether a token may follow

-- it does where it leads to a state, whatever it holds
follows : (text : List ℕ) (before : List Lexeme) (l : Lexeme) (s r : State) (q : Option Expr) → Reaches text state.Start before s → next_state s (terminal l q) ≡ Some r → MayFollow text before l
follows text before l s r q h e =
    let all : run state.Start (h.terminals ++ terminal l q ∷ []) ≡ Some r = runs_on state.Start s h.terminals (terminal l q ∷ []) h.runs ∙ ap (λ o. bind o (λ z. Some z)) e in
    record { terminals = h.terminals; read = h.read; held = q; begins = run_begins (h.terminals ++ terminal l q ∷ []) r all }

-- and only there
leads_nowhere : (text : List ℕ) (before : List Lexeme) (l : Lexeme) (s : State) → Reaches text state.Start before s → ((q : Option Expr) → next_state s (terminal l q) ≡ None) → MayFollow text before l → ⊥
leads_nowhere text before l s h none m =
    let b = m.begins in
    let whole : run state.Start ((m.terminals ++ terminal l m.held ∷ []) ++ b.0) ≡ Some (state.Whole b.1) = whole_taken ((m.terminals ++ terminal l m.held ∷ []) ++ b.0) b.1 b.2 in
    let c = split state.Start (state.Whole b.1) (m.terminals ++ terminal l m.held ∷ []) b.0 whole in
    let same : h.terminals ≡ m.terminals = one_read text before h.terminals m.terminals h.read m.read in
    let runs : run state.Start m.terminals ≡ Some s = subst (λ z. run state.Start z ≡ Some s) same h.runs in
    let here : run s (terminal l m.held ∷ []) ≡ Some c.0 = sym (runs_on state.Start s m.terminals (terminal l m.held ∷ []) runs) ∙ c.1 in
    let clash : None ≡ Some c.0 = sym (ap (λ o. bind o (λ z. run z [])) (none m.held)) ∙ here in
    cc

-- ---- why it is not taken

abbrev Refused : List ℕ → List Lexeme → Lexeme → State → Fault → Type 0
Refused text before l s f = Reaches text state.Start before s → IsRefused text before l f

outside_refused : (text : List ℕ) (before : List Lexeme) (l : Lexeme) (s : State) (f : Fault) → ((q : Option Expr) → next_state s (terminal l q) ≡ None) → refusal l ≡ f → Refused text before l s f
outside_refused text before l s f none e h = subst (IsRefused text before l) e (IsRefused.outside (leads_nowhere text before l s h none))

err_same : {A : Type 0} (f g : Fault) → (let o : Result A Fault = Err f in o) ≡ Err g → f ≡ g
err_same f g e = cc

deep_refused : (text : List ℕ) (before : List Lexeme) (l : Lexeme) (s r : State) (q : Option Expr) (f : Fault) (deep : Bool) → Holds text l q → next_state s (terminal l q) ≡ Some r → is_deep r ≡ deep
    → (let o : Result State Fault = if deep then Err (fault_at l.word.pos code.TooNested) else Ok r in o) ≡ Err f → Refused text before l s f
deep_refused text before l s r q f false holds e deep g h = cc
deep_refused text before l s r q f true holds e deep g h =
    let d = deep_open l.kind (depth s) (depth r) (token_moves s (terminal l q) r e) h.shallow (ltb-true 200 (depth r) deep) in
    let all : run state.Start (h.terminals ++ terminal l q ∷ []) ≡ Some r = runs_on state.Start s h.terminals (terminal l q ∷ []) h.runs ∙ ap (λ o. bind o (λ z. Some z)) e in
    let level_here : level (before ++ l ∷ []) ≡ depth r = level_is text (before ++ l ∷ []) (h.terminals ++ terminal l q ∷ []) r (read_push text before h.terminals l q h.read holds) all in
    subst (IsRefused text before l) (err_same (fault_at l.word.pos code.TooNested) f g) (IsRefused.nested (follows text before l s r q h e) d.0 (level_here ∙ d.1))

plain_refused : (text : List ℕ) (before : List Lexeme) (l : Lexeme) (s : State) (f : Fault) (o : Option State) → is_quoted l.kind ≡ false → next_state s (terminal l None) ≡ o → within_levels l o ≡ Err f
    → Refused text before l s f
plain_refused text before l s f None off e g h = outside_refused text before l s f (λ q. unheld s l q None off ∙ e) (err_same (refusal l) f g) h
plain_refused text before l s f (Some r) off e g h = deep_refused text before l s r None f (is_deep r) (Holds.plain l off) e refl g h

held_refused : (text : List ℕ) (before : List Lexeme) (l : Lexeme) (s : State) (x : Expr) (f : Fault) (o : Option State) → l.kind ≡ kind.Quoted → takes_quote s ≡ true → quote_of text l.word ≡ Ok x
    → next_state s (terminal l (Some x)) ≡ o → within_levels l o ≡ Err f → Refused text before l s f
held_refused text before l s x f None is on q e g h = let r = quote_some s l x is on in let clash : None ≡ Some r.0 = sym e ∙ r.1 in cc
held_refused text before l s x f (Some r) is on q e g h = deep_refused text before l s r (Some x) f (is_deep r) (Holds.quoted l x is (quote_read text l.word x q)) e refl g h

-- any expression
abbrev any_expr : Expr
any_expr = expr.Truth true (record { line = 0; col = 0 })

read_refused : (text : List ℕ) (before : List Lexeme) (l : Lexeme) (s : State) (f : Fault) (p : Result Expr Fault) → l.kind ≡ kind.Quoted → takes_quote s ≡ true → quote_of text l.word ≡ p
    → (p >>= λ x. shift s l (Some x)) ≡ Err f → Refused text before l s f
read_refused text before l s f (Ok x) is on q g h = held_refused text before l s x f (next_state s (terminal l (Some x))) is on q refl g h
read_refused text before l s f (Err other) is on q g h =
    let r = quote_some s l any_expr is on in
    let same : other ≡ f = cc in
    IsRefused.quoted f (follows text before l s r.0 (Some any_expr) h r.1) is (quote_fault text l.word f (q ∙ ap (λ z. Err z) same))

quote_refused : (text : List ℕ) (before : List Lexeme) (l : Lexeme) (s : State) (f : Fault) (may : Bool) → l.kind ≡ kind.Quoted → takes_quote s ≡ may → take_quote text s l may ≡ Err f → Refused text before l s f
quote_refused text before l s f false is off g h = outside_refused text before l s f (λ q. quote_none s l q is off) (err_same (refusal l) f g) h
quote_refused text before l s f true is on g h = read_refused text before l s f (quote_of text l.word) is on refl g h

kind_refused : (text : List ℕ) (before : List Lexeme) (l : Lexeme) (s : State) (f : Fault) (c : LexemeKind) → l.kind ≡ c → take_kind text s l c ≡ Err f → Refused text before l s f
kind_refused text before l s f kind.Quoted is g h = quote_refused text before l s f (takes_quote s) is refl g h
kind_refused text before l s f kind.Open is g h = plain_refused text before l s f (next_state s (terminal l None)) (ap is_quoted is) refl g h
kind_refused text before l s f kind.Close is g h = plain_refused text before l s f (next_state s (terminal l None)) (ap is_quoted is) refl g h
kind_refused text before l s f kind.Minus is g h = plain_refused text before l s f (next_state s (terminal l None)) (ap is_quoted is) refl g h
kind_refused text before l s f (kind.Number n) is g h = plain_refused text before l s f (next_state s (terminal l None)) (ap is_quoted is) refl g h
kind_refused text before l s f kind.Word is g h = plain_refused text before l s f (next_state s (terminal l None)) (ap is_quoted is) refl g h
kind_refused text before l s f kind.Other is g h = plain_refused text before l s f (next_state s (terminal l None)) (ap is_quoted is) refl g h

pub token_refused : (text : List ℕ) (before : List Lexeme) (l : Lexeme) (s : State) (f : Fault) → take_token text s l ≡ Err f → Reaches text state.Start before s → IsRefused text before l f
token_refused text before l s f g h = kind_refused text before l s f l.kind refl g h

-- ---- and the other way round

open_quoted : (c : LexemeKind) → c ≡ kind.Open → c ≡ kind.Quoted → ⊥
open_quoted c e f = let clash : kind.Open ≡ kind.Quoted = sym e ∙ f in cc

pub one_fault : (text : List ℕ) (before : List Lexeme) (l : Lexeme) (f g : Fault) → IsRefused text before l f → IsRefused text before l g → f ≡ g
one_fault text before l _ _ (IsRefused.outside none) (IsRefused.outside nope) = refl
one_fault text before l _ _ (IsRefused.outside none) (IsRefused.quoted g m is h) = absurd (none m)
one_fault text before l _ _ (IsRefused.outside none) (IsRefused.nested m is deep) = absurd (none m)
one_fault text before l _ _ (IsRefused.quoted f m is h) (IsRefused.outside none) = absurd (none m)
one_fault text before l _ _ (IsRefused.quoted f m is h) (IsRefused.quoted g n iz k) = span_fault_same text (l.word.start + 1) (l.word.end - 1) (after_quote l.word.pos) f g h k
one_fault text before l _ _ (IsRefused.quoted f m is h) (IsRefused.nested n iz deep) = absurd (open_quoted l.kind iz is)
one_fault text before l _ _ (IsRefused.nested m is deep) (IsRefused.outside none) = absurd (none m)
one_fault text before l _ _ (IsRefused.nested m is deep) (IsRefused.quoted g n iz k) = absurd (open_quoted l.kind is iz)
one_fault text before l _ _ (IsRefused.nested m is deep) (IsRefused.nested n iz too) = refl

held_sound : (text : List ℕ) (l : Lexeme) (q : Option Expr) (f : Fault) → l.kind ≡ kind.Quoted → Holds text l q → IsQuoteFault text l.word f → ⊥
held_sound text _ _ f is (Holds.quoted l x iz quotes) h = expr_or_fault text (l.word.start + 1) (l.word.end - 1) (after_quote l.word.pos) x f quotes h
held_sound text _ _ f is (Holds.plain l off) h = not_quoted l.kind is off

-- a token that is refused is not taken
not_taken : (text : List ℕ) (before : List Lexeme) (l : Lexeme) (s r : State) (f : Fault) → IsRefused text before l f → Reaches text state.Start before s → take_token text s l ≡ Ok r → ⊥
not_taken text before l s r _ (IsRefused.outside none) h e = let t = token_leads text s l r e in none (follows text before l s r t.held h t.next)
not_taken text before l s r _ (IsRefused.quoted f m is k) h e = let t = token_leads text s l r e in held_sound text l t.held f is t.holds k
not_taken text before l s r _ (IsRefused.nested m is deep) h e =
    let t = token_leads text s l r e in
    let all : run state.Start (h.terminals ++ terminal l t.held ∷ []) ≡ Some r = runs_on state.Start s h.terminals (terminal l t.held ∷ []) h.runs ∙ ap (λ o. bind o (λ z. Some z)) t.next in
    let level_here : level (before ++ l ∷ []) ≡ depth r = level_is text (before ++ l ∷ []) (h.terminals ++ terminal l t.held ∷ []) r (read_push text before h.terminals l t.held h.read t.holds) all in
    let le = t.shallow in
    omega (arith, level_here, deep, le)

stops_by : (text : List ℕ) (before : List Lexeme) (l : Lexeme) (s : State) (f : Fault) (o : Result State Fault) → IsRefused text before l f → Reaches text state.Start before s → take_token text s l ≡ o → o ≡ Err f
stops_by text before l s f (Ok r) refused h e = absurd (not_taken text before l s r f refused h e)
stops_by text before l s f (Err g) refused h e = ap (λ z. Err z) (one_fault text before l g f (token_refused text before l s g e h) refused)

pub refused_stops : (text : List ℕ) (before : List Lexeme) (l : Lexeme) (s : State) (f : Fault) → IsRefused text before l f → Reaches text state.Start before s → take_token text s l ≡ Err f
refused_stops text before l s f refused h = stops_by text before l s f (take_token text s l) refused h refl
