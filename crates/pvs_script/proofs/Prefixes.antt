-- Where reading stops: the tokens before may begin a script, and that token cannot follow them.
use Rattle.std.proofs.Common.{◌≡◌, ◌∙◌, ◌≤◌, Bool, true, false, if◌then◌else◌, [], ◌∷◌, ◌++◌, Option, Some, None, Result, Ok, Err, refl, sym, ap, subst, append_assoc, arith}
use Rattle.std.proofs.lemmas.Bool.{ltb-true, ltb-false}
use Rattle.pvs_base.specs.declared.code.Fault.{Fault}
use Rattle.pvs_base.specs.declared.code.Code.{Code}
use Rattle.pvs_base.specs.declared.code.Code.TheVariants.{OutOfProfile, TooNested}
use Rattle.pvs_base.specs.declared.place.Pos.{Pos}
use Rattle.pvs_script.specs.declared.lexeme.Lexeme.{Lexeme}
use Rattle.pvs_script.specs.declared.state.State.{State}
use Rattle.pvs_script.specs.declared.state.State.TheVariants as state
use Rattle.pvs_script.specs.Grammar.{BeginsScript}
use Rattle.pvs_script.specs.Faults.{MayBegin, AllMayBegin, IsRefused}
use Rattle.pvs_script.specs.code.States.{next_state, depth, is_deep}
use Rattle.pvs_script.specs.code.Reading.{fault_at, within_levels, take_token, take_tokens}
use Rattle.pvs_base.specs.Answers.{◌>>=◌}
use Rattle.pvs_script.proofs.Runs.{Tokens, bind, run, runs_on}
use Rattle.pvs_script.proofs.Completeness.{begins_runs}
use Rattle.pvs_script.proofs.Meanings.{means, means_begins}
use Rattle.pvs_script.proofs.Levels.{token_moves, level_is, deep_open}

-- ---- tokens that are taken

pub split_bind : {A B : Type 0} (o : Result A Fault) (f : A → Result B Fault) (y : B) → (o >>= f) ≡ Ok y → (x : A) × (o ≡ Ok x) × (f x ≡ Ok y)
split_bind (Ok x) f y e = (x, refl, e)
split_bind (Err fault) f y e = cc

taken_bind : (o : Result State Fault) (ts us : Tokens) → ((r : State) → take_tokens r (ts ++ us) ≡ (take_tokens r ts >>= λ q. take_tokens q us))
    → (o >>= λ r. take_tokens r (ts ++ us)) ≡ ((o >>= λ r. take_tokens r ts) >>= λ q. take_tokens q us)
taken_bind (Ok r) ts us f = f r
taken_bind (Err fault) ts us f = refl

pub taken-append : (s : State) (ts us : Tokens) → take_tokens s (ts ++ us) ≡ (take_tokens s ts >>= λ q. take_tokens q us)
taken-append s [] us = refl
taken-append s (t ∷ ts) us = taken_bind (take_token s t) ts us (λ r. taken-append r ts us)

shallow_by : (at : Pos) (s r : State) (deep : Bool) → is_deep s ≡ deep → (let o : Result State Fault = if deep then Err (fault_at at TooNested) else Ok s in o) ≡ Ok r → (s ≡ r) × (is_deep s ≡ false)
shallow_by at s r true is e = cc
shallow_by at s r false is e = (cc, is)

within_levels_ok : (at : Pos) (o : Option State) (r : State) → within_levels at o ≡ Ok r → (o ≡ Some r) × (is_deep r ≡ false)
within_levels_ok at None r e = cc
within_levels_ok at (Some s) r e = let b = shallow_by at s r (is_deep s) refl e in (ap Some b.0, ap is_deep (sym b.0) ∙ b.1)

not_deep : (s : State) → is_deep s ≡ false → depth s ≤ 200
not_deep s e = ltb-false 200 (depth s) e

-- what is taken is read, and nests at most 200 levels deep
pub taken_runs : (ts : Tokens) (s r : State) → depth s ≤ 200 → take_tokens s ts ≡ Ok r → (run s ts ≡ Some r) × (depth r ≤ 200)
taken_runs [] s r le e = let same : s ≡ r = cc in (ap Some same, subst (λ z. depth z ≤ 200) same le)
taken_runs (t ∷ ts) s r le e =
    let b = split_bind (take_token s t) (λ q. take_tokens q ts) r e in
    let l = within_levels_ok t.pos (next_state s t) b.0 b.1 in
    let more = taken_runs ts b.0 r (not_deep b.0 l.1) b.2 in
    (ap (λ o. bind o (λ q. run q ts)) l.0 ∙ more.0, more.1)

pub may_begin : (ts : Tokens) (r : State) → take_tokens state.Start ts ≡ Ok r → MayBegin ts
may_begin ts r e =
    let t = taken_runs ts state.Start r (omega arith) e in
    record { begins = means_begins r ts (means ts r t.0); shallow = subst (λ n. n ≤ 200) (sym (level_is ts r t.0)) t.1 }

pub all_may_begin : (ts : Tokens) (r : State) → take_tokens state.Start ts ≡ Ok r → AllMayBegin ts
all_may_begin ts r e us vs is =
    let b = split_bind (take_tokens state.Start us) (λ q. take_tokens q vs) r (sym (taken-append state.Start us vs) ∙ ap (take_tokens state.Start) (sym is) ∙ e) in
    may_begin us b.0 b.1

-- ---- a token that is not taken

-- reading stops at a token after others that are taken
pub record Stops (s : State) (ts : Tokens) (fault : Fault) : Type 0 where
  pub before : Tokens
  pub token : Lexeme
  pub rest : Tokens
  pub state : State
  pub split : ts ≡ before ++ token ∷ rest
  pub taken : take_tokens s before ≡ Ok state
  pub fails : take_token state token ≡ Err fault

stops_after : (s : State) (t : Lexeme) (ts : Tokens) (fault : Fault) (o : Result State Fault) → take_token s t ≡ o → ((r : State) → take_tokens r ts ≡ Err fault → Stops r ts fault)
    → (o >>= λ r. take_tokens r ts) ≡ Err fault → Stops s (t ∷ ts) fault
stops_after s t ts fault (Ok r) is f e =
    let b = f r e in
    record { before = t ∷ b.before; token = b.token; rest = b.rest; state = b.state; split = ap (λ z. t ∷ z) b.split; taken = ap (λ o. o >>= λ q. take_tokens q b.before) is ∙ b.taken; fails = b.fails }
stops_after s t ts fault (Err other) is f e =
    let same : other ≡ fault = cc in
    record { before = []; token = t; rest = ts; state = s; split = refl; taken = refl; fails = is ∙ ap Err same }

pub stops : (ts : Tokens) (s : State) (fault : Fault) → take_tokens s ts ≡ Err fault → Stops s ts fault
stops [] s fault e = cc
stops (t ∷ ts) s fault e = stops_after s t ts fault (take_token s t) refl (λ r f. stops ts r fault f) e

-- why it is not
pub record Refuses (before : Tokens) (t : Lexeme) (fault : Fault) : Type 0 where
  pub code : Code
  pub refused : IsRefused before t code
  pub same : fault ≡ fault_at t.pos code

none_begins : (before : Tokens) (t : Lexeme) (s : State) → run state.Start before ≡ Some s → next_state s t ≡ None → BeginsScript (before ++ t ∷ []) → ⊥
none_begins before t s e none b =
    let r = begins_runs (before ++ t ∷ []) b in
    let here : run s (t ∷ []) ≡ Some r.0 = sym (runs_on state.Start s before (t ∷ []) e) ∙ r.1 in
    let clash : None ≡ Some r.0 = sym (ap (λ o. bind o (λ q. run q [])) none) ∙ here in
    cc

refused_at : (before : Tokens) (t : Lexeme) (s r : State) → run state.Start before ≡ Some s → depth s ≤ 200 → next_state s t ≡ Some r → is_deep r ≡ true → IsRefused before t TooNested
refused_at before t s r e le is deep =
    let all : run state.Start (before ++ t ∷ []) ≡ Some r = runs_on state.Start s before (t ∷ []) e ∙ ap (λ o. bind o (λ q. run q [])) is in
    let d = deep_open t.sort (depth s) (depth r) (token_moves s t r is) le (ltb-true 200 (depth r) deep) in
    IsRefused.nested (means_begins r (before ++ t ∷ []) (means (before ++ t ∷ []) r all)) d.0 (level_is (before ++ t ∷ []) r all ∙ d.1)

refuses_by : (before : Tokens) (t : Lexeme) (s r : State) (deep : Bool) (fault : Fault) → run state.Start before ≡ Some s → depth s ≤ 200 → next_state s t ≡ Some r → is_deep r ≡ deep
    → (let o : Result State Fault = if deep then Err (fault_at t.pos TooNested) else Ok r in o) ≡ Err fault → Refuses before t fault
refuses_by before t s r true fault e le is deep f = record { code = TooNested; refused = refused_at before t s r e le is deep; same = cc }
refuses_by before t s r false fault e le is deep f = cc

refuses_step : (before : Tokens) (t : Lexeme) (s : State) (o : Option State) (fault : Fault) → run state.Start before ≡ Some s → depth s ≤ 200 → next_state s t ≡ o → within_levels t.pos o ≡ Err fault → Refuses before t fault
refuses_step before t s None fault e le is f = record { code = OutOfProfile; refused = IsRefused.outside (none_begins before t s e is); same = cc }
refuses_step before t s (Some r) fault e le is f = refuses_by before t s r (is_deep r) fault e le is refl f

pub refuses : (before : Tokens) (t : Lexeme) (s : State) (fault : Fault) → take_tokens state.Start before ≡ Ok s → take_token s t ≡ Err fault → Refuses before t fault
refuses before t s fault e f = let r = taken_runs before state.Start s (omega arith) e in refuses_step before t s (next_state s t) fault r.0 r.1 refl f

-- ---- the other way round

pub refused_not : (before : Tokens) (t : Lexeme) (code : Code) → IsRefused before t code → MayBegin (before ++ t ∷ []) → ⊥
refused_not before t _ (IsRefused.outside none) m = none m.begins
refused_not before t _ (IsRefused.nested b is deep) m = let le = m.shallow in omega (arith, deep, le)

pub one_code : (before : Tokens) (t : Lexeme) (c d : Code) → IsRefused before t c → IsRefused before t d → c ≡ d
one_code before t _ _ (IsRefused.outside none) (IsRefused.outside nope) = refl
one_code before t _ _ (IsRefused.outside none) (IsRefused.nested b is deep) = absurd (none b)
one_code before t _ _ (IsRefused.nested b is deep) (IsRefused.outside none) = absurd (none b)
one_code before t _ _ (IsRefused.nested b is deep) (IsRefused.nested c also too) = refl

abbrev Completeness : Tokens → Type 0
Completeness ts = (r : State) × (take_tokens state.Start ts ≡ Ok r)

taken_by : (ts : Tokens) (o : Result State Fault) → take_tokens state.Start ts ≡ o → AllMayBegin ts → Completeness ts
taken_by ts (Ok r) e all = (r, e)
taken_by ts (Err fault) e all =
    let s = stops ts state.Start fault e in
    let f = refuses s.before s.token s.state fault s.taken s.fails in
    absurd (refused_not s.before s.token f.code f.refused (all (s.before ++ s.token ∷ []) s.rest (s.split ∙ sym (append_assoc s.before (s.token ∷ []) s.rest))))

pub all_taken : (ts : Tokens) → AllMayBegin ts → Completeness ts
all_taken ts all = taken_by ts (take_tokens state.Start ts) refl all
