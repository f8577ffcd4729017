-- Where reading stops: the tokens before may begin a script, and that token cannot follow them.
use Rattle.std.proofs.Common.{◌≡◌, ◌∙◌, cond, ◌+◌, ◌-◌, ◌≤◌, ℕ, Bool, true, false, if◌then◌else◌, List, [], ◌∷◌, ◌++◌, Option, Some, None, Result, Ok, Err, refl, sym, ap, subst, arith}
use Rattle.std.proofs.lemmas.Bool.{ltb-true, ltb-false}
use Rattle.pvs_base.specs.declared.code.Code.TheVariants as code
use Rattle.pvs_base.specs.declared.code.Fault.{Fault}
use Rattle.pvs_base.specs.Answers.{◌>>=◌}
use Rattle.pvs_syntax.specs.declared.expression.Expr.{Expr}
use Rattle.pvs_scripts.specs.declared.lexeme.Lexeme.{Lexeme}
use Rattle.pvs_scripts.specs.declared.lexeme.LexemeKind.{LexemeKind}
use Rattle.pvs_scripts.specs.declared.lexeme.LexemeKind.TheVariants as kind
use Rattle.pvs_scripts.specs.declared.state.State.{State}
use Rattle.pvs_scripts.specs.declared.state.State.TheVariants as state
use Rattle.pvs_scripts.specs.Grammar.{opens, closes, terminal, is_quoted, Holds, AreRead, level, IsShallow}
use Rattle.pvs_scripts.specs.Faults.{fault_at, MayBegin}
use Rattle.pvs_scripts.specs.code.States.{next_state, takes_quote, depth, is_deep}
use Rattle.pvs_scripts.specs.code.Reading.{quote_of, within_levels, shift, take_quote, take_kind, take_token, take_tokens}
use Rattle.pvs_scripts.proofs.Runs.{Tokens, bind, run, bound, split, some_same}
use Rattle.pvs_scripts.proofs.Completeness.{whole_taken}
use Rattle.pvs_scripts.proofs.Completions.{run_begins}
use Rattle.pvs_scripts.proofs.Levels.{Moves, token_moves, ups, downs, ups_cons, downs_cons, counted}
use Rattle.pvs_scripts.proofs.QuotePlaces.{quote_none}
use Rattle.pvs_scripts.proofs.HeldTokens.{quote_read, read_quote}

-- ---- one token that is taken

pub split_bind : {A B : Type 0} (o : Result A Fault) (f : A → Result B Fault) (y : B) → (o >>= f) ≡ Ok y → (x : A) × (o ≡ Ok x) × (f x ≡ Ok y)
split_bind (Ok x) f y e = (x, refl, e)
split_bind (Err fault) f y e = cc

not_deep : (s : State) → is_deep s ≡ false → depth s ≤ 200
not_deep s e = ltb-false 200 (depth s) e

shallow_by : (l : Lexeme) (s r : State) (deep : Bool) → is_deep s ≡ deep → (let o : Result State Fault = if deep then Err (fault_at l.word.pos code.TooNested) else Ok s in o) ≡ Ok r → (s ≡ r) × (is_deep s ≡ false)
shallow_by l s r true is e = cc
shallow_by l s r false is e = (cc, is)

within_ok : (l : Lexeme) (o : Option State) (r : State) → within_levels l o ≡ Ok r → (o ≡ Some r) × (depth r ≤ 200)
within_ok l None r e = cc
within_ok l (Some s) r e = let b = shallow_by l s r (is_deep s) refl e in (ap Some b.0, not_deep r (ap is_deep (sym b.0) ∙ b.1))

-- a token that leads from one state to another, with what it holds
pub record Leads (text : List ℕ) (s : State) (l : Lexeme) (r : State) : Type 0 where
  pub held : Option Expr
  pub holds : Holds text l held
  pub next : next_state s (terminal l held) ≡ Some r
  pub shallow : depth r ≤ 200

quote_leads : (text : List ℕ) (s : State) (l : Lexeme) (r : State) (may : Bool) → l.kind ≡ kind.Quoted → take_quote text s l may ≡ Ok r → Leads text s l r
quote_leads text s l r false is e = cc
quote_leads text s l r true is e =
    let b = split_bind (quote_of text l.word) (λ x. shift s l (Some x)) r e in
    let w = within_ok l (next_state s (terminal l (Some b.0))) r b.2 in
    record { held = Some b.0; holds = Holds.quoted l b.0 is (quote_read text l.word b.0 b.1); next = w.0; shallow = w.1 }

plain_leads : (text : List ℕ) (s : State) (l : Lexeme) (r : State) → is_quoted l.kind ≡ false → shift s l None ≡ Ok r → Leads text s l r
plain_leads text s l r off e = let w = within_ok l (next_state s (terminal l None)) r e in record { held = None; holds = Holds.plain l off; next = w.0; shallow = w.1 }

kind_leads : (text : List ℕ) (s : State) (l : Lexeme) (r : State) (c : LexemeKind) → l.kind ≡ c → take_kind text s l c ≡ Ok r → Leads text s l r
kind_leads text s l r kind.Quoted is e = quote_leads text s l r (takes_quote s) is e
kind_leads text s l r kind.Open is e = plain_leads text s l r (ap is_quoted is) e
kind_leads text s l r kind.Close is e = plain_leads text s l r (ap is_quoted is) e
kind_leads text s l r kind.Minus is e = plain_leads text s l r (ap is_quoted is) e
kind_leads text s l r (kind.Number n) is e = plain_leads text s l r (ap is_quoted is) e
kind_leads text s l r kind.Word is e = plain_leads text s l r (ap is_quoted is) e
kind_leads text s l r kind.Other is e = plain_leads text s l r (ap is_quoted is) e

pub token_leads : (text : List ℕ) (s : State) (l : Lexeme) (r : State) → take_token text s l ≡ Ok r → Leads text s l r
token_leads text s l r e = kind_leads text s l r l.kind refl e

-- ---- and the other way round

deep_by : (l : Lexeme) (s : State) (deep : Bool) → is_deep s ≡ deep → depth s ≤ 200 → (if deep then Err (fault_at l.word.pos code.TooNested) else Ok s) ≡ Ok s
deep_by l s true is le = absurd (omega (arith, ltb-true 200 (depth s) is, le))
deep_by l s false is le = refl

shifted : (s : State) (l : Lexeme) (q : Option Expr) (r : State) → next_state s (terminal l q) ≡ Some r → depth r ≤ 200 → shift s l q ≡ Ok r
shifted s l q r e le = ap (within_levels l) e ∙ deep_by l r (is_deep r) refl le

quote_takes : (text : List ℕ) (s : State) (l : Lexeme) (x : Expr) (r : State) (may : Bool) → takes_quote s ≡ may → l.kind ≡ kind.Quoted → quote_of text l.word ≡ Ok x → next_state s (terminal l (Some x)) ≡ Some r
    → depth r ≤ 200 → take_quote text s l may ≡ Ok r
quote_takes text s l x r false off is q e le = let clash : None ≡ Some r = sym (quote_none s l (Some x) is off) ∙ e in cc
quote_takes text s l x r true on is q e le = ap (λ o. o >>= λ z. shift s l (Some z)) q ∙ shifted s l (Some x) r e le

plain_takes : (text : List ℕ) (s : State) (l : Lexeme) (r : State) (c : LexemeKind) → l.kind ≡ c → is_quoted c ≡ false → shift s l None ≡ Ok r → take_kind text s l c ≡ Ok r
plain_takes text s l r kind.Open is off e = e
plain_takes text s l r kind.Close is off e = e
plain_takes text s l r kind.Minus is off e = e
plain_takes text s l r (kind.Number n) is off e = e
plain_takes text s l r kind.Quoted is off e = cc
plain_takes text s l r kind.Word is off e = e
plain_takes text s l r kind.Other is off e = e

token_takes : (text : List ℕ) (s : State) (l : Lexeme) (q : Option Expr) (r : State) → Holds text l q → next_state s (terminal l q) ≡ Some r → depth r ≤ 200 → take_token text s l ≡ Ok r
token_takes text s _ _ r (Holds.quoted l x is quotes) e le = ap (take_kind text s l) is ∙ quote_takes text s l x r (takes_quote s) refl is (read_quote text l.word x quotes) e le
token_takes text s _ _ r (Holds.plain l off) e le = plain_takes text s l r l.kind refl off (shifted s l None r e le)

-- ---- tokens that are taken

-- tokens that lead from one state to another, with what they hold
pub record Reaches (text : List ℕ) (s : State) (ls : List Lexeme) (r : State) : Type 0 where
  pub terminals : Tokens
  pub read : AreRead text ls terminals
  pub runs : run s terminals ≡ Some r
  pub shallow : depth r ≤ 200

pub taken_reaches : (text : List ℕ) (ls : List Lexeme) (s r : State) → depth s ≤ 200 → take_tokens text s ls ≡ Ok r → Reaches text s ls r
taken_reaches text [] s r le e = let same : s ≡ r = cc in record { terminals = []; read = AreRead.none; runs = ap Some same; shallow = subst (λ z. depth z ≤ 200) same le }
taken_reaches text (l ∷ ls) s r le e =
    let b = split_bind (take_token text s l) (λ q. take_tokens text q ls) r e in
    let here = token_leads text s l b.0 b.1 in
    let more = taken_reaches text ls b.0 r here.shallow b.2 in
    record {
      terminals = terminal l here.held ∷ more.terminals;
      read = AreRead.more l ls here.held more.terminals here.holds more.read;
      runs = ap (λ o. bind o (λ q. run q more.terminals)) here.next ∙ more.runs;
      shallow = more.shallow;
    }

-- how many parentheses are open after the tokens
run_counts : (text : List ℕ) (ls : List Lexeme) (ts : Tokens) (s r : State) → AreRead text ls ts → run s ts ≡ Some r → ups ls + depth s ≡ downs ls + depth r
run_counts text _ _ s r AreRead.none e = let same : depth s ≡ depth r = ap depth (some_same s r e) in omega (arith, same)
run_counts text _ _ s r (AreRead.more l ls q ts h a) e =
    let b = bound (next_state s (terminal l q)) ts r e in
    let here = counted l.kind (ups ls) (downs ls) (depth s) (depth b.0) (depth r) (token_moves s (terminal l q) b.0 b.1) (run_counts text ls ts b.0 r a b.2) in
    ap (λ n. n + depth s) (ups_cons l ls) ∙ here ∙ ap (λ n. n + depth r) (sym (downs_cons l ls))

pub level_is : (text : List ℕ) (ls : List Lexeme) (ts : Tokens) (r : State) → AreRead text ls ts → run state.Start ts ≡ Some r → level ls ≡ depth r
level_is text ls ts r a e = omega (arith, run_counts text ls ts state.Start r a e)

-- off more than 200 are open after any token, where so many are open before them
abbrev ShallowFrom : ℕ → List Lexeme → Type 0
ShallowFrom n ls = (before after : List Lexeme) → ls ≡ before ++ after → (ups before + n) - downs before ≤ 200

shallow_moved : (c : LexemeKind) (a b n m : ℕ) → Moves c n m → ((cond (opens c) 1 0 + a) + n) - (cond (closes c) 1 0 + b) ≤ 200 → (a + m) - b ≤ 200
shallow_moved kind.Open a b n m moves most = omega (arith, moves, most)
shallow_moved kind.Close a b n m moves most = omega (arith, moves, most)
shallow_moved kind.Minus a b n m moves most = omega (arith, moves, most)
shallow_moved (kind.Number k) a b n m moves most = omega (arith, moves, most)
shallow_moved kind.Quoted a b n m moves most = omega (arith, moves, most)
shallow_moved kind.Word a b n m moves most = omega (arith, moves, most)
shallow_moved kind.Other a b n m moves most = omega (arith, moves, most)

shallow_more : (l : Lexeme) (ls : List Lexeme) (n m : ℕ) → Moves l.kind n m → ShallowFrom n (l ∷ ls) → ShallowFrom m ls
shallow_more l ls n m moves h before after same =
    let most : (ups (l ∷ before) + n) - downs (l ∷ before) ≤ 200 = h (l ∷ before) after (ap (λ z. l ∷ z) same) in
    shallow_moved l.kind (ups before) (downs before) n m moves
    (subst (λ k. ((cond (opens l.kind) 1 0 + ups before) + n) - k ≤ 200) (downs_cons l before) (subst (λ k. (k + n) - downs (l ∷ before) ≤ 200) (ups_cons l before) most))

shallow_here : (ls : List Lexeme) (n : ℕ) → ShallowFrom n ls → n ≤ 200
shallow_here ls n h = let most : (0 + n) - 0 ≤ 200 = h [] ls refl in omega (arith, most)

reaches_takes : (text : List ℕ) (ls : List Lexeme) (ts : Tokens) (s r : State) → AreRead text ls ts → run s ts ≡ Some r → ShallowFrom (depth s) ls → take_tokens text s ls ≡ Ok r
reaches_takes text _ _ s r AreRead.none e h = ap (λ z. Ok z) (some_same s r e)
reaches_takes text _ _ s r (AreRead.more l ls q ts holds a) e h =
    let b = bound (next_state s (terminal l q)) ts r e in
    let rest = shallow_more l ls (depth s) (depth b.0) (token_moves s (terminal l q) b.0 b.1) h in
    ap (λ o. o >>= λ z. take_tokens text z ls) (token_takes text s l q b.0 holds b.1 (shallow_here ls (depth b.0) rest))
    ∙ reaches_takes text ls ts b.0 r a b.2 rest

shallow_from : (ls : List Lexeme) → IsShallow ls → ShallowFrom 0 ls
shallow_from ls h before after same = omega (arith, h before after same)

-- what leads to a state, at most 200 levels deep, is taken
pub takes_all : (text : List ℕ) (ls : List Lexeme) (ts : Tokens) (r : State) → AreRead text ls ts → run state.Start ts ≡ Some r → IsShallow ls → take_tokens text state.Start ls ≡ Ok r
takes_all text ls ts r a e h = reaches_takes text ls ts state.Start r a e (shallow_from ls h)

taken_bind : (text : List ℕ) (o : Result State Fault) (ls ks : List Lexeme) → ((r : State) → take_tokens text r (ls ++ ks) ≡ (take_tokens text r ls >>= λ q. take_tokens text q ks))
    → (o >>= λ r. take_tokens text r (ls ++ ks)) ≡ ((o >>= λ r. take_tokens text r ls) >>= λ q. take_tokens text q ks)
taken_bind text (Ok r) ls ks f = f r
taken_bind text (Err fault) ls ks f = refl

pub taken_append : (text : List ℕ) (s : State) (ls ks : List Lexeme) → take_tokens text s (ls ++ ks) ≡ (take_tokens text s ls >>= λ q. take_tokens text q ks)
taken_append text s [] ks = refl
taken_append text s (l ∷ ls) ks = taken_bind text (take_token text s l) ls ks (λ r. taken_append text r ls ks)

pub start_reaches : (text : List ℕ) (ls : List Lexeme) (r : State) → take_tokens text state.Start ls ≡ Ok r → Reaches text state.Start ls r
start_reaches text ls r e = taken_reaches text ls state.Start r (omega arith) e

pub taken_shallow : (text : List ℕ) (ls : List Lexeme) (r : State) → take_tokens text state.Start ls ≡ Ok r → IsShallow ls
taken_shallow text ls r e before after same =
    let b = split_bind (take_tokens text state.Start before) (λ q. take_tokens text q after) r (sym (taken_append text state.Start before after) ∙ ap (take_tokens text state.Start) (sym same) ∙ e) in
    let here = start_reaches text before b.0 b.1 in
    subst (λ n. n ≤ 200) (sym (level_is text before here.terminals b.0 here.read here.runs)) here.shallow

pub may_begin : (text : List ℕ) (ls : List Lexeme) (r : State) → take_tokens text state.Start ls ≡ Ok r → MayBegin text ls
may_begin text ls r e =
    let here = start_reaches text ls r e in
    record { terminals = here.terminals; read = here.read; begins = run_begins here.terminals r here.runs; shallow = taken_shallow text ls r e }

-- what begins a script is taken, at most 200 levels deep
pub begun_taken : (text : List ℕ) (ls : List Lexeme) → MayBegin text ls → (r : State) × (take_tokens text state.Start ls ≡ Ok r)
begun_taken text ls m =
    let b = m.begins in
    let c = split state.Start (state.Whole b.1) m.terminals b.0 (whole_taken (m.terminals ++ b.0) b.1 b.2) in
    (c.0, takes_all text ls m.terminals c.0 m.read c.1 m.shallow)
