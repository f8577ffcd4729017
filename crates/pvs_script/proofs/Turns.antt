-- Reading one token, and then those after it.
use Rattle.std.proofs.Common.{◌≡◌, ◌∙◌, ap, refl, ℕ, List, [], ◌∷◌, map, Option, Some, None, Result, Ok, Err}
use Rattle.pvs_base.specs.declared.code.Fault.{Fault}
use Rattle.pvs_base.specs.declared.place.Pos.{Pos}
use Rattle.pvs_lexer.specs.declared.token.Token.{Token}
use Rattle.pvs_lexer.specs.Answers.{first_of, after_first, answer_of, after_answer}
use Rattle.pvs_lexer.specs.Tokens.{TokenStream}
use Rattle.pvs_script.specs.declared.state.State.{State}
use Rattle.pvs_script.specs.Tokens.{lexeme}
use Rattle.pvs_script.specs.code.Reading.{take_token, take_tokens, read_tokens}
use Rattle.pvs_base.specs.Answers.{◌>>=◌}

pub bind_bind : {A B C : Type 0} (r : Result A Fault) (f : A → Result B Fault) (g : B → Result C Fault) → ((r >>= f) >>= g) ≡ (r >>= λ x. f x >>= g)
bind_bind (Ok x) f g = refl
bind_bind (Err e) f g = refl

token_first : (at : Pos) (span : List ℕ) (ts : List Token) (f : Option Fault) (token : Token) (s : State) → Some (Ok token) ≡ first_of ts f
    → read_tokens at span (record { tokens = ts; fault = f }) s ≡ (take_token s (lexeme span token) >>= λ r. read_tokens at span (after_first ts f) r)
token_first at span [] None token s e = cc
token_first at span [] (Some f) token s e = cc
token_first at span (t ∷ ts) f token s e =
    let same : t ≡ token = cc in
    ap (λ z. read_tokens at span (record { tokens = z ∷ ts; fault = f }) s) same ∙ bind_bind (take_token s (lexeme span token)) (λ r. take_tokens r (map (lexeme span) ts)) _

-- where a token comes next, and what it leads to
pub token_next : (at : Pos) (span : List ℕ) (script_tokens : TokenStream) (token : Token) (s : State) → Some (Ok token) ≡ answer_of script_tokens
    → read_tokens at span script_tokens s ≡ (take_token s (lexeme span token) >>= λ r. read_tokens at span (after_answer script_tokens) r)
token_next at span script_tokens token s e = token_first at span script_tokens.tokens script_tokens.fault token s e
