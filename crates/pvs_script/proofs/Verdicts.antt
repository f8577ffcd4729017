-- The script of a span is the one that the grammar gives, and its fault is the first one.
use Rattle.std.proofs.Common.{◌≡◌, ◌∙◌, ℕ, List, [], ◌∷◌, ◌++◌, Option, Some, None, Result, Ok, Err, IfOk, refl, sym, ap, subst, arith}
use Rattle.pvs_base.specs.declared.code.Fault.{Fault}
use Rattle.pvs_base.specs.declared.code.Code.{Code}
use Rattle.pvs_base.specs.declared.code.Code.TheVariants.{OutOfProfile}
use Rattle.pvs_base.specs.declared.place.Pos.{Pos}
use Rattle.pvs_syntax.specs.declared.unit.Proof.{Proof}
use Rattle.pvs_script.specs.declared.fault.ScriptFault.{ScriptFault}
use Rattle.pvs_script.specs.declared.fault.ScriptFault.TheVariants as faults
use Rattle.pvs_script.specs.declared.lexeme.Lexeme.{Lexeme}
use Rattle.pvs_script.specs.declared.tree.Script.{Script}
use Rattle.pvs_script.specs.declared.state.State.{State}
use Rattle.pvs_script.specs.declared.state.State.TheVariants as state
use Rattle.pvs_script.specs.Tokens.{script_tokens, lexemes, end_place}
use Rattle.pvs_script.specs.Grammar.{DerivesScript, BeginsScript, IsShallow, IsScript}
use Rattle.pvs_script.specs.Faults.{AllMayBegin, IsRefused, IsFirstFault, IsScriptAnswer}
use Rattle.pvs_script.specs.code.Reading.{Gives, fault_at, take_token, take_tokens, whole, ending, read_span, script_of}
use Rattle.pvs_base.specs.Answers.{◌>>=◌}
use Rattle.pvs_script.proofs.Runs.{Tokens, bind, run, run-append, some_same}
use Rattle.pvs_script.proofs.Completeness.{whole_taken}
use Rattle.pvs_script.proofs.Meanings.{means, means_begins, means_derived}
use Rattle.pvs_script.proofs.Prefixes.{split_bind, taken-append, taken_runs, may_begin, all_may_begin, stops, refuses, refused_not, one_code, all_taken}

-- ---- tokens that are read to the end

-- what is read of a whole span
abbrev outcome : List ℕ → Proof → State → Result Script Fault
outcome text proof s = ending (end_place text proof) (script_tokens text proof).fault s

script_is : (text : List ℕ) (proof : Proof) → script_of text proof ≡ (take_tokens state.Start (lexemes text proof) >>= outcome text proof)
unfolding read_span
script_is text proof = refl

derived : (ts : Tokens) (x : Script) → take_tokens state.Start ts ≡ Ok (state.Whole x) → DerivesScript ts x
derived ts x e = means_derived (state.Whole x) ts (means ts (state.Whole x) (taken_runs ts state.Start (state.Whole x) (omega arith) e).0)

-- the tokens are a script exactly where reading them ends with it
ends_whole : (ts : Tokens) (s : State) (x : Script) → take_tokens state.Start ts ≡ Ok s → DerivesScript ts x → s ≡ state.Whole x
ends_whole ts s x e d = some_same s (state.Whole x) (sym (taken_runs ts state.Start s (omega arith) e).0 ∙ whole_taken ts x d)

whole_ok : (end : Pos) (s : State) (x : Script) → whole end s ≡ Ok x → s ≡ state.Whole x
whole_ok end (state.Whole y) x e = cc
whole_ok end state.Start x e = cc
whole_ok end (state.Inside nest) x e = cc

whole_err : (end : Pos) (s : State) (fault : Fault) → whole end s ≡ Err fault → fault_at end OutOfProfile ≡ fault
whole_err end (state.Whole y) fault e = cc
whole_err end state.Start fault e = cc
whole_err end (state.Inside nest) fault e = cc

ending_ok : (end : Pos) (o : Option Fault) (s : State) (x : Script) → ending end o s ≡ Ok x → (o ≡ None) × (s ≡ state.Whole x)
ending_ok end None s x e = (refl, whole_ok end s x e)
ending_ok end (Some fault) s x e = cc

prefix_shallow : (ts : Tokens) → AllMayBegin ts → IsShallow ts
prefix_shallow ts all us vs is = (all us vs is).shallow

pub found : (text : List ℕ) (proof : Proof) (x : Script) → script_of text proof ≡ Ok x → IsScript text proof x
found text proof x e =
    let ts = lexemes text proof in
    let b = split_bind (take_tokens state.Start ts) (outcome text proof) x (sym (script_is text proof) ∙ e) in
    let f = ending_ok (end_place text proof) (script_tokens text proof).fault b.0 x b.2 in
    record {
      faultless = f.0;
      derives = derived ts x (b.1 ∙ ap Ok f.1);
      shallow = prefix_shallow ts (all_may_begin ts b.0 b.1);
    }

-- what is before the rest of a script begins one
prefix_by : (us vs : Tokens) (o : Option State) (r : State) → run state.Start us ≡ o → bind o (λ q. run q vs) ≡ Some r → BeginsScript us
prefix_by us vs None r is e = cc
prefix_by us vs (Some q) r is e = means_begins q us (means us q is)

prefix_begins : (ts us vs : Tokens) (x : Script) → DerivesScript ts x → ts ≡ us ++ vs → BeginsScript us
prefix_begins ts us vs x d is = prefix_by us vs (run state.Start us) (state.Whole x) refl (sym (run-append state.Start us vs) ∙ ap (run state.Start) (sym is) ∙ whole_taken ts x d)

-- at the end of the tokens
script_ends : (text : List ℕ) (proof : Proof) (s : State) → take_tokens state.Start (lexemes text proof) ≡ Ok s → script_of text proof ≡ outcome text proof s
script_ends text proof s e = script_is text proof ∙ ap (λ o. o >>= outcome text proof) e

pub only : (text : List ℕ) (proof : Proof) (x : Script) → IsScript text proof x → script_of text proof ≡ Ok x
only text proof x s =
    let ts = lexemes text proof in
    let t = all_taken ts (λ us vs is. record { begins = prefix_begins ts us vs x s.derives is; shallow = s.shallow us vs is }) in
    script_ends text proof t.0 t.1
    ∙ ap (λ o. ending (end_place text proof) o t.0) s.faultless
    ∙ ap (whole (end_place text proof)) (ends_whole ts t.0 x t.1 s.derives)

-- ---- the first fault

-- the end of the span, where the tokens are no script
end_fault : (text : List ℕ) (proof : Proof) (s : State) (fault : Fault) → take_tokens state.Start (lexemes text proof) ≡ Ok s → (script_tokens text proof).fault ≡ None
    → whole (end_place text proof) s ≡ Err fault → IsFirstFault text proof fault
end_fault text proof s fault e none w =
    let ts = lexemes text proof in
    let nothing : (x : Script) → DerivesScript ts x → ⊥ = λ x d. (let clash : Ok x ≡ Err fault = sym (ap (whole (end_place text proof)) (ends_whole ts s x e d)) ∙ w in cc) in
    let here : IsFirstFault text proof (fault_at (end_place text proof) OutOfProfile) = IsFirstFault.end (all_may_begin ts s e) none nothing in
    subst (IsFirstFault text proof) (whole_err (end_place text proof) s fault w) here

ending_fault : (text : List ℕ) (proof : Proof) (s : State) (fault : Fault) (o : Option Fault) → take_tokens state.Start (lexemes text proof) ≡ Ok s → (script_tokens text proof).fault ≡ o
    → ending (end_place text proof) o s ≡ Err fault → IsFirstFault text proof fault
ending_fault text proof s fault None e is f = end_fault text proof s fault e is f
ending_fault text proof s fault (Some other) e is f = let same : other ≡ fault = cc in IsFirstFault.lexical fault (all_may_begin (lexemes text proof) s e) (is ∙ ap Some same)

token_fault : (text : List ℕ) (proof : Proof) (fault : Fault) → take_tokens state.Start (lexemes text proof) ≡ Err fault → IsFirstFault text proof fault
token_fault text proof fault e =
    let s = stops (lexemes text proof) state.Start fault e in
    let r = refuses s.before s.token s.state fault s.taken s.fails in
    subst (IsFirstFault text proof) (sym r.same) (IsFirstFault.token s.before s.rest s.token r.code s.split (all_may_begin s.before s.state s.taken) r.refused)

fault_by : (text : List ℕ) (proof : Proof) (fault : Fault) (o : Result State Fault) → take_tokens state.Start (lexemes text proof) ≡ o → (o >>= outcome text proof) ≡ Err fault → IsFirstFault text proof fault
fault_by text proof fault (Ok s) is e = ending_fault text proof s fault (script_tokens text proof).fault is refl e
fault_by text proof fault (Err other) is e = let same : other ≡ fault = cc in token_fault text proof fault (is ∙ ap Err same)

pub is_first : (text : List ℕ) (proof : Proof) (fault : Fault) → script_of text proof ≡ Err fault → IsFirstFault text proof fault
is_first text proof fault e = fault_by text proof fault (take_tokens state.Start (lexemes text proof)) refl (sym (script_is text proof) ∙ e)

-- ---- the other way round

-- a refused token stops reading
refused_stops : (before : Tokens) (t : Lexeme) (s : State) (code : Code) (o : Result State Fault) → take_tokens state.Start before ≡ Ok s → IsRefused before t code → take_token s t ≡ o → o ≡ Err (fault_at t.pos code)
refused_stops before t s code (Ok r) e refused is =
    let all : take_tokens state.Start (before ++ t ∷ []) ≡ Ok r = taken-append state.Start before (t ∷ []) ∙ ap (λ o. o >>= λ q. take_tokens q (t ∷ [])) e ∙ ap (λ o. o >>= λ q. Ok q) is in
    absurd (refused_not before t code refused (may_begin (before ++ t ∷ []) r all))
refused_stops before t s code (Err other) e refused is =
    let r = refuses before t s other e is in
    ap Err (r.same ∙ ap (fault_at t.pos) (one_code before t r.code code r.refused refused))

refused_taken : (before rest : Tokens) (t : Lexeme) (code : Code) → AllMayBegin before → IsRefused before t code → take_tokens state.Start (before ++ t ∷ rest) ≡ Err (fault_at t.pos code)
refused_taken before rest t code all refused =
    let s = all_taken before all in
    taken-append state.Start before (t ∷ rest) ∙ ap (λ o. o >>= λ q. take_tokens q (t ∷ rest)) s.1
    ∙ ap (λ o. o >>= λ q. take_tokens q rest) (refused_stops before t s.0 code (take_token s.0 t) s.1 refused refl)

none_whole : (text : List ℕ) (proof : Proof) (s : State) → take_tokens state.Start (lexemes text proof) ≡ Ok s → ((x : Script) → DerivesScript (lexemes text proof) x → ⊥)
    → whole (end_place text proof) s ≡ Err (fault_at (end_place text proof) OutOfProfile)
none_whole text proof (state.Whole x) e none = absurd (none x (derived (lexemes text proof) x e))
none_whole text proof state.Start e none = refl
none_whole text proof (state.Inside nest) e none = refl

pub first : (text : List ℕ) (proof : Proof) (fault : Fault) → IsFirstFault text proof fault → script_of text proof ≡ Err fault
first text proof _ (IsFirstFault.token before rest t code is all refused) =
    script_is text proof ∙ ap (λ ts. take_tokens state.Start ts >>= outcome text proof) is
    ∙ ap (λ o. o >>= outcome text proof) (refused_taken before rest t code all refused)
first text proof _ (IsFirstFault.lexical fault all is) =
    let s = all_taken (lexemes text proof) all in
    script_ends text proof s.0 s.1 ∙ ap (λ o. ending (end_place text proof) o s.0) is
first text proof _ (IsFirstFault.end all is none) =
    let s = all_taken (lexemes text proof) all in
    script_ends text proof s.0 s.1 ∙ ap (λ o. ending (end_place text proof) o s.0) is ∙ none_whole text proof s.0 s.1 none

-- ---- one answer

answer_is : (text : List ℕ) (proof : Proof) (a : Result Script Fault) → IsScriptAnswer text proof a → script_of text proof ≡ a
answer_is text proof (Ok x) h = only text proof x h
answer_is text proof (Err f) h = first text proof f h

pub one_answer : (text : List ℕ) (proof : Proof) (a b : Result Script Fault) → IsScriptAnswer text proof a → IsScriptAnswer text proof b → a ≡ b
one_answer text proof a b h k = sym (answer_is text proof a h) ∙ answer_is text proof b k

answer_by : (text : List ℕ) (proof : Proof) (a : Result Script Fault) → script_of text proof ≡ a → IsScriptAnswer text proof a
answer_by text proof (Ok x) e = found text proof x e
answer_by text proof (Err f) e = is_first text proof f e

-- what reading gives is the answer
pub script_answer : (text : List ℕ) (proof : Proof) → IsScriptAnswer text proof (script_of text proof)
script_answer text proof = answer_by text proof (script_of text proof) refl

-- ---- what a call answers, unless memory runs out

pub gives_found : (text : List ℕ) (proof : Proof) (r : Result Script ScriptFault) → Gives r (script_of text proof) → IfOk r (λ x. IsScript text proof x)
gives_found text proof (Ok x) g = found text proof x g
gives_found text proof (Err e) g = tt

pub gives_only : (text : List ℕ) (proof : Proof) (r : Result Script ScriptFault) → Gives r (script_of text proof) → (x : Script) → IsScript text proof x → Gives r (Ok x)
gives_only text proof r g x s = subst (Gives r) (only text proof x s) g

pub gives_fault : (text : List ℕ) (proof : Proof) (r : Result Script ScriptFault) → Gives r (script_of text proof) → (f : Fault) → r ≡ Err (faults.At f) → IsFirstFault text proof f
gives_fault text proof r g f e = is_first text proof f (subst (λ z. Gives z (script_of text proof)) e g)

pub gives_first : (text : List ℕ) (proof : Proof) (r : Result Script ScriptFault) → Gives r (script_of text proof) → (f : Fault) → IsFirstFault text proof f → Gives r (Err f)
gives_first text proof r g f is = subst (Gives r) (first text proof f is) g
