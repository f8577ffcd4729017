-- The script of a span is the one that the grammar gives, and its fault is the first one.
use Rattle.std.proofs.Common.{◌≡◌, ◌∙◌, ℕ, List, [], ◌∷◌, ◌++◌, Option, Some, None, Result, Ok, Err, refl, sym, ap, subst}
use Rattle.pvs_base.specs.declared.code.Code.TheVariants as code
use Rattle.pvs_base.specs.declared.code.Fault.{Fault}
use Rattle.pvs_base.specs.declared.place.Pos.{Pos}
use Rattle.pvs_base.specs.Answers.{◌>>=◌}
use Rattle.pvs_syntax.specs.declared.unit.Proof.{Proof}
use Rattle.pvs_parser.specs.declared.failure.ParseFault.{ParseFault}
use Rattle.pvs_parser.specs.declared.failure.ParseFault.TheVariants as parse_fault
use Rattle.pvs_parser.specs.Text.{AnswersTree, AnswersFault}
use Rattle.pvs_parser.specs.code.Reading.{Returns}
use Rattle.pvs_scripts.specs.declared.lexeme.Lexeme.{Lexeme}
use Rattle.pvs_scripts.specs.declared.tree.ScriptTree.{ScriptTree}
use Rattle.pvs_scripts.specs.declared.state.State.{State}
use Rattle.pvs_scripts.specs.declared.state.State.TheVariants as state
use Rattle.pvs_scripts.specs.Tokens.{script_tokens, lexemes, end_place}
use Rattle.pvs_scripts.specs.Grammar.{IsScript}
use Rattle.pvs_scripts.specs.Faults.{fault_at, MayBegin, IsRefused, IsFirstFault, IsScriptAnswer, AnswersScript}
use Rattle.pvs_scripts.specs.code.Reading.{take_token, take_tokens, whole, ending, read_script, script_of}
use Rattle.pvs_scripts.proofs.Completeness.{whole_taken}
use Rattle.pvs_scripts.proofs.Meanings.{whole_derived}
use Rattle.pvs_scripts.proofs.Taken.{split_bind, taken_append, start_reaches, taken_shallow, may_begin, begun_taken, takes_all}
use Rattle.pvs_scripts.proofs.Refusals.{token_refused, refused_stops}

-- what is read of a whole span
abbrev outcome : List ℕ → Proof → State → Result ScriptTree Fault
outcome text proof s = ending (end_place text proof) (script_tokens text proof).fault s

script_is : (text : List ℕ) (proof : Proof) → script_of text proof ≡ (take_tokens text state.Start (lexemes text proof) >>= outcome text proof)
unfolding read_script
script_is text proof = refl

-- ---- tokens that are read to the end

whole_ok : (end : Pos) (s : State) (x : ScriptTree) → whole end s ≡ Ok x → s ≡ state.Whole x
whole_ok end (state.Whole y) x e = cc
whole_ok end state.Start x e = cc
whole_ok end (state.Inside nest) x e = cc

whole_err : (end : Pos) (s : State) (fault : Fault) → whole end s ≡ Err fault → fault_at end code.Unexpected ≡ fault
whole_err end (state.Whole y) fault e = cc
whole_err end state.Start fault e = cc
whole_err end (state.Inside nest) fault e = cc

ending_ok : (end : Pos) (o : Option Fault) (s : State) (x : ScriptTree) → ending end o s ≡ Ok x → (o ≡ None) × (s ≡ state.Whole x)
ending_ok end None s x e = (refl, whole_ok end s x e)
ending_ok end (Some fault) s x e = cc

-- the tokens are a script where reading them ends with it
script_found : (text : List ℕ) (proof : Proof) (x : ScriptTree) → (script_tokens text proof).fault ≡ None → take_tokens text state.Start (lexemes text proof) ≡ Ok (state.Whole x) → IsScript text proof x
script_found text proof x none e =
    let here = start_reaches text (lexemes text proof) (state.Whole x) e in
    record {
      faultless = none;
      shallow = taken_shallow text (lexemes text proof) (state.Whole x) e;
      terminals = here.terminals;
      read = here.read;
      derives = whole_derived here.terminals x here.runs;
    }

pub found : (text : List ℕ) (proof : Proof) (x : ScriptTree) → script_of text proof ≡ Ok x → IsScript text proof x
found text proof x e =
    let b = split_bind (take_tokens text state.Start (lexemes text proof)) (outcome text proof) x (sym (script_is text proof) ∙ e) in
    let f = ending_ok (end_place text proof) (script_tokens text proof).fault b.0 x b.2 in
    script_found text proof x f.0 (b.1 ∙ ap (λ z. Ok z) f.1)

-- and only there
script_takes : (text : List ℕ) (proof : Proof) (x : ScriptTree) → IsScript text proof x → take_tokens text state.Start (lexemes text proof) ≡ Ok (state.Whole x)
script_takes text proof x s = takes_all text (lexemes text proof) s.terminals (state.Whole x) s.read (whole_taken s.terminals x s.derives) s.shallow

-- at the end of the tokens
script_ends : (text : List ℕ) (proof : Proof) (s : State) → take_tokens text state.Start (lexemes text proof) ≡ Ok s → script_of text proof ≡ outcome text proof s
script_ends text proof s e = script_is text proof ∙ ap (λ o. o >>= outcome text proof) e

pub only : (text : List ℕ) (proof : Proof) (x : ScriptTree) → IsScript text proof x → script_of text proof ≡ Ok x
only text proof x s = script_ends text proof (state.Whole x) (script_takes text proof x s) ∙ ap (λ o. ending (end_place text proof) o (state.Whole x)) s.faultless

-- ---- the first fault

-- the end of the span, where the tokens are no script
end_fault : (text : List ℕ) (proof : Proof) (s : State) (fault : Fault) → take_tokens text state.Start (lexemes text proof) ≡ Ok s → (script_tokens text proof).fault ≡ None
    → whole (end_place text proof) s ≡ Err fault → IsFirstFault text proof fault
end_fault text proof s fault e none w =
    let nothing : (x : ScriptTree) → IsScript text proof x → ⊥ =
    λ x d. (let same : Ok s ≡ Ok (state.Whole x) = sym e ∙ script_takes text proof x d in let clash : whole (end_place text proof) (state.Whole x) ≡ Err fault = cc in cc) in
    subst (IsFirstFault text proof) (whole_err (end_place text proof) s fault w) (IsFirstFault.end (may_begin text (lexemes text proof) s e) none nothing)

ending_fault : (text : List ℕ) (proof : Proof) (s : State) (fault : Fault) (o : Option Fault) → take_tokens text state.Start (lexemes text proof) ≡ Ok s → (script_tokens text proof).fault ≡ o
    → ending (end_place text proof) o s ≡ Err fault → IsFirstFault text proof fault
ending_fault text proof s fault None e is f = end_fault text proof s fault e is f
ending_fault text proof s fault (Some other) e is f = let same : other ≡ fault = cc in IsFirstFault.lexical fault (may_begin text (lexemes text proof) s e) (is ∙ ap Some same)

-- reading stops at a token after others that are taken
pub record Stops (text : List ℕ) (s : State) (ls : List Lexeme) (fault : Fault) : Type 0 where
  pub before : List Lexeme
  pub token : Lexeme
  pub rest : List Lexeme
  pub state : State
  pub split : ls ≡ before ++ token ∷ rest
  pub taken : take_tokens text s before ≡ Ok state
  pub fails : take_token text state token ≡ Err fault

stops_after : (text : List ℕ) (s : State) (l : Lexeme) (ls : List Lexeme) (fault : Fault) (o : Result State Fault) → take_token text s l ≡ o → ((r : State) → take_tokens text r ls ≡ Err fault → Stops text r ls fault)
    → (o >>= λ r. take_tokens text r ls) ≡ Err fault → Stops text s (l ∷ ls) fault
stops_after text s l ls fault (Ok r) is f e =
    let b = f r e in
    record { before = l ∷ b.before; token = b.token; rest = b.rest; state = b.state; split = ap (λ z. l ∷ z) b.split; taken = ap (λ o. o >>= λ q. take_tokens text q b.before) is ∙ b.taken; fails = b.fails }
stops_after text s l ls fault (Err other) is f e =
    let same : other ≡ fault = cc in
    record { before = []; token = l; rest = ls; state = s; split = refl; taken = refl; fails = is ∙ ap (λ z. Err z) same }

stops : (text : List ℕ) (ls : List Lexeme) (s : State) (fault : Fault) → take_tokens text s ls ≡ Err fault → Stops text s ls fault
stops text [] s fault e = cc
stops text (l ∷ ls) s fault e = stops_after text s l ls fault (take_token text s l) refl (λ r f. stops text ls r fault f) e

token_fault : (text : List ℕ) (proof : Proof) (fault : Fault) → take_tokens text state.Start (lexemes text proof) ≡ Err fault → IsFirstFault text proof fault
token_fault text proof fault e =
    let s = stops text (lexemes text proof) state.Start fault e in
    IsFirstFault.token s.before s.rest s.token fault s.split (may_begin text s.before s.state s.taken)
    (token_refused text s.before s.token s.state fault s.fails (start_reaches text s.before s.state s.taken))

fault_by : (text : List ℕ) (proof : Proof) (fault : Fault) (o : Result State Fault) → take_tokens text state.Start (lexemes text proof) ≡ o → (o >>= outcome text proof) ≡ Err fault → IsFirstFault text proof fault
fault_by text proof fault (Ok s) is e = ending_fault text proof s fault (script_tokens text proof).fault is refl e
fault_by text proof fault (Err other) is e = let same : other ≡ fault = cc in token_fault text proof fault (is ∙ ap (λ z. Err z) same)

pub is_first : (text : List ℕ) (proof : Proof) (fault : Fault) → script_of text proof ≡ Err fault → IsFirstFault text proof fault
is_first text proof fault e = fault_by text proof fault (take_tokens text state.Start (lexemes text proof)) refl (sym (script_is text proof) ∙ e)

-- ---- the other way round

refused_taken : (text : List ℕ) (before rest : List Lexeme) (l : Lexeme) (f : Fault) → MayBegin text before → IsRefused text before l f → take_tokens text state.Start (before ++ l ∷ rest) ≡ Err f
refused_taken text before rest l f m refused =
    let s = begun_taken text before m in
    taken_append text state.Start before (l ∷ rest) ∙ ap (λ o. o >>= λ q. take_tokens text q (l ∷ rest)) s.1
    ∙ ap (λ o. o >>= λ q. take_tokens text q rest) (refused_stops text before l s.0 f refused (start_reaches text before s.0 s.1))

none_whole : (text : List ℕ) (proof : Proof) (s : State) → take_tokens text state.Start (lexemes text proof) ≡ Ok s → (script_tokens text proof).fault ≡ None → ((x : ScriptTree) → IsScript text proof x → ⊥)
    → whole (end_place text proof) s ≡ Err (fault_at (end_place text proof) code.Unexpected)
none_whole text proof (state.Whole x) e is none = absurd (none x (script_found text proof x is e))
none_whole text proof state.Start e is none = refl
none_whole text proof (state.Inside nest) e is none = refl

pub first : (text : List ℕ) (proof : Proof) (fault : Fault) → IsFirstFault text proof fault → script_of text proof ≡ Err fault
first text proof _ (IsFirstFault.token before rest l f is m refused) =
    script_is text proof ∙ ap (λ ls. take_tokens text state.Start ls >>= outcome text proof) is
    ∙ ap (λ o. o >>= outcome text proof) (refused_taken text before rest l f m refused)
first text proof _ (IsFirstFault.lexical f m is) =
    let s = begun_taken text (lexemes text proof) m in
    script_ends text proof s.0 s.1 ∙ ap (λ o. ending (end_place text proof) o s.0) is
first text proof _ (IsFirstFault.end m is none) =
    let s = begun_taken text (lexemes text proof) m in
    script_ends text proof s.0 s.1 ∙ ap (λ o. ending (end_place text proof) o s.0) is ∙ none_whole text proof s.0 s.1 is none

-- ---- one answer

answer_is : (text : List ℕ) (proof : Proof) (a : Result ScriptTree Fault) → IsScriptAnswer text proof a → script_of text proof ≡ a
answer_is text proof (Ok x) h = only text proof x h
answer_is text proof (Err f) h = first text proof f h

pub one_answer : (text : List ℕ) (proof : Proof) (a b : Result ScriptTree Fault) → IsScriptAnswer text proof a → IsScriptAnswer text proof b → a ≡ b
one_answer text proof a b h k = sym (answer_is text proof a h) ∙ answer_is text proof b k

answer_by : (text : List ℕ) (proof : Proof) (a : Result ScriptTree Fault) → script_of text proof ≡ a → IsScriptAnswer text proof a
answer_by text proof (Ok x) e = found text proof x e
answer_by text proof (Err f) e = is_first text proof f e

-- what reading gives is the answer
pub script_answer : (text : List ℕ) (proof : Proof) → IsScriptAnswer text proof (script_of text proof)
script_answer text proof = answer_by text proof (script_of text proof) refl

-- ---- what a call answers, unless memory runs out

pub answers : (text : List ℕ) (proof : Proof) (r : Result ScriptTree ParseFault) → Returns r (script_of text proof) → AnswersScript text proof r
answers text proof (Ok x) e = found text proof x e
answers text proof (Err (parse_fault.At f)) e = is_first text proof f e
answers text proof (Err parse_fault.Memory) e = tt

ok_same : (o : Result ScriptTree Fault) (x y : ScriptTree) → o ≡ Ok x → o ≡ Ok y → x ≡ y
ok_same o x y e f = cc

err_same : (o : Result ScriptTree Fault) (f g : Fault) → o ≡ Err f → o ≡ Err g → f ≡ g
err_same o f g e h = cc

ok_is_no_err : (o : Result ScriptTree Fault) (x : ScriptTree) (f : Fault) → o ≡ Ok x → o ≡ Err f → ⊥
ok_is_no_err o x f e g = cc

pub answers_only : (text : List ℕ) (proof : Proof) (r : Result ScriptTree ParseFault) → Returns r (script_of text proof) → (x : ScriptTree) → IsScript text proof x → AnswersTree x r
answers_only text proof (Ok y) e x s = ok_same (script_of text proof) y x e (only text proof x s)
answers_only text proof (Err (parse_fault.At f)) e x s = ok_is_no_err (script_of text proof) x f (only text proof x s) e
answers_only text proof (Err parse_fault.Memory) e x s = tt

pub answers_first : (text : List ℕ) (proof : Proof) (r : Result ScriptTree ParseFault) → Returns r (script_of text proof) → (f : Fault) → IsFirstFault text proof f → AnswersFault f r
answers_first text proof (Ok y) e f h = ok_is_no_err (script_of text proof) y f e (first text proof f h)
answers_first text proof (Err (parse_fault.At g)) e f h = err_same (script_of text proof) g f e (first text proof f h)
answers_first text proof (Err parse_fault.Memory) e f h = tt
