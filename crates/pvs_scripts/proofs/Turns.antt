-- Reading one token, and then those after it.
use Rattle.std.proofs.Common.{◌≡◌, ◌∙◌, ap, refl, sym, ℕ, Bool, List, [], ◌∷◌, Option, Some, None, Result, Ok, Err}
use Rattle.pvs_base.specs.declared.code.Fault.{Fault}
use Rattle.pvs_base.specs.declared.place.Pos.{Pos}
use Rattle.pvs_base.specs.Answers.{◌>>=◌}
use Rattle.pvs_lexer.specs.declared.token.Token.{Token}
use Rattle.pvs_lexer.specs.Answers.{first_of, after_first, answer_of, after_answer}
use Rattle.pvs_lexer.specs.Tokens.{TokenStream}
use Rattle.pvs_scripts.specs.declared.lexeme.Lexeme.{Lexeme}
use Rattle.pvs_scripts.specs.declared.state.State.{State}
use Rattle.pvs_scripts.specs.declared.tree.ScriptTree.{ScriptTree}
use Rattle.pvs_scripts.specs.Tokens.{lexeme, lexemes_after, is_nonempty_type, terminal_kind}
use Rattle.pvs_scripts.specs.code.Reading.{take_token, take_tokens, read_tokens}

pub bind_bind : {A B C : Type 0} (r : Result A Fault) (f : A → Result B Fault) (g : B → Result C Fault) → ((r >>= f) >>= g) ≡ (r >>= λ x. f x >>= g)
bind_bind (Ok x) f g = refl
bind_bind (Err e) f g = refl

token_first : (text : List ℕ) (offset : ℕ) (at : Pos) (span : List ℕ) (b : Bool) (ts : List Token) (f : Option Fault) (token : Token) (s : State) → Some (Ok token) ≡ first_of ts f
    → read_tokens text offset at span b (record { tokens = ts; fault = f }) s
    ≡ (take_token text s (lexeme b offset span token) >>= λ r. read_tokens text offset at span (is_nonempty_type (terminal_kind span token)) (after_first ts f) r)
token_first text offset at span b [] None token s e = cc
token_first text offset at span b [] (Some f) token s e = cc
token_first text offset at span b (t ∷ ts) f token s e =
    let same : t ≡ token = cc in
    ap (λ z. read_tokens text offset at span b (record { tokens = z ∷ ts; fault = f }) s) same
    ∙ bind_bind (take_token text s (lexeme b offset span token)) (λ r. take_tokens text r (lexemes_after (is_nonempty_type (terminal_kind span token)) offset span ts)) _

-- where a token comes next, and what it leads to
pub token_next : (text : List ℕ) (offset : ℕ) (at : Pos) (span : List ℕ) (b : Bool) (stream : TokenStream) (token : Token) (s : State) → Some (Ok token) ≡ answer_of stream
    → read_tokens text offset at span b stream s
    ≡ (take_token text s (lexeme b offset span token) >>= λ r. read_tokens text offset at span (is_nonempty_type (terminal_kind span token)) (after_answer stream) r)
token_next text offset at span b stream token s e = token_first text offset at span b stream.tokens stream.fault token s e

-- reading goes on after a token that is taken
pub turned : (text : List ℕ) (offset : ℕ) (at : Pos) (span : List ℕ) (b : Bool) (stream : TokenStream) (token : Token) (s : State) (l : Lexeme) (r : State) (next : Bool) (rest : TokenStream) (whole : Result ScriptTree Fault)
    → whole ≡ read_tokens text offset at span b stream s → Some (Ok token) ≡ answer_of stream → rest ≡ after_answer stream → l ≡ lexeme b offset span token
    → next ≡ is_nonempty_type (terminal_kind span token) → take_token text s l ≡ Ok r → whole ≡ read_tokens text offset at span next rest r
turned text offset at span b stream token s l r next rest whole is answer after same word took =
    let here : take_token text s (lexeme b offset span token) ≡ Ok r = ap (take_token text s) (sym same) ∙ took in
    is ∙ token_next text offset at span b stream token s answer
    ∙ ap (λ o. o >>= λ q. read_tokens text offset at span (is_nonempty_type (terminal_kind span token)) (after_answer stream) q) here
    ∙ ap (λ z. read_tokens text offset at span z (after_answer stream) r) (sym word)
    ∙ ap (λ z. read_tokens text offset at span next z r) (sym after)

-- and stops at one that is not
pub stopped : (text : List ℕ) (offset : ℕ) (at : Pos) (span : List ℕ) (b : Bool) (stream : TokenStream) (token : Token) (s : State) (l : Lexeme) (f : Fault) (whole : Result ScriptTree Fault)
    → whole ≡ read_tokens text offset at span b stream s → Some (Ok token) ≡ answer_of stream → l ≡ lexeme b offset span token → take_token text s l ≡ Err f → whole ≡ Err f
stopped text offset at span b stream token s l f whole is answer same took =
    let here : take_token text s (lexeme b offset span token) ≡ Err f = ap (take_token text s) (sym same) ∙ took in
    is ∙ token_next text offset at span b stream token s answer
    ∙ ap (λ o. o >>= λ q. read_tokens text offset at span (is_nonempty_type (terminal_kind span token)) (after_answer stream) q) here
