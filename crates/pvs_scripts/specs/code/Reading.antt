-- Which script, or which fault, the span of a proof gives.
use Rattle.std.specs.Prelude.{◌+◌, ◌-◌, ℕ, Bool, false, if◌then◌else◌, List, [], ◌∷◌, Option, Some, None, Result, Ok, Err}
use Rattle.pvs_base.specs.declared.code.Code.TheVariants as code
use Rattle.pvs_base.specs.declared.code.Fault.{Fault}
use Rattle.pvs_base.specs.declared.place.Pos.{Pos}
use Rattle.pvs_base.specs.Place.{place_after}
use Rattle.pvs_base.specs.Answers.{◌>>=◌}
use Rattle.pvs_lexer.specs.Tokens.{TokenStream, tokens_of}
use Rattle.pvs_syntax.specs.declared.expression.Expr.{Expr}
use Rattle.pvs_syntax.specs.declared.unit.Proof.{Proof}
use Rattle.pvs_syntax.specs.declared.word.Word.{Word}
use Rattle.pvs_parser.specs.code.Reading.{read_span}
use Rattle.pvs_scripts.specs.declared.lexeme.Lexeme.{Lexeme}
use Rattle.pvs_scripts.specs.declared.lexeme.LexemeKind.{LexemeKind}
use Rattle.pvs_scripts.specs.declared.lexeme.LexemeKind.TheVariants as kind
use Rattle.pvs_scripts.specs.declared.tree.ScriptTree.{ScriptTree}
use Rattle.pvs_scripts.specs.declared.state.State.{State}
use Rattle.pvs_scripts.specs.declared.state.State.TheVariants as state
use Rattle.pvs_scripts.specs.Tokens.{lexemes_after, script_span}
use Rattle.pvs_scripts.specs.Grammar.{terminal, after_quote}
use Rattle.pvs_scripts.specs.Faults.{fault_at, code_of}
use Rattle.pvs_scripts.specs.code.States.{next_state, takes_quote, is_deep}

-- the expression between the quotes of a quoted text, or the first fault there
unfoldable pub quote_of : List ℕ → Word → Result Expr Fault
quote_of text w = read_span text (w.start + 1) (w.end - 1) (after_quote w.pos)

-- the fault of a token that cannot come
abbrev pub refusal : Lexeme → Fault
refusal l = fault_at l.word.pos (code_of l)

-- what a token leads to, at most 200 levels deep
abbrev pub within_levels : Lexeme → Option State → Result State Fault
within_levels l None = Err (refusal l)
within_levels l (Some s) = if is_deep s then Err (fault_at l.word.pos code.TooNested) else Ok s

-- a token with what it holds
abbrev pub shift : State → Lexeme → Option Expr → Result State Fault
shift s l q = within_levels l (next_state s (terminal l q))

abbrev pub take_quote : List ℕ → State → Lexeme → Bool → Result State Fault
take_quote text s l may = if may then (quote_of text l.word >>= λ x. shift s l (Some x)) else Err (refusal l)

abbrev pub take_kind : List ℕ → State → Lexeme → LexemeKind → Result State Fault
take_kind text s l kind.Quoted = take_quote text s l (takes_quote s)
take_kind text s l _ = shift s l None

abbrev pub take_token : List ℕ → State → Lexeme → Result State Fault
take_token text s l = take_kind text s l l.kind

abbrev pub take_tokens : List ℕ → State → List Lexeme → Result State Fault
take_tokens text s [] = Ok s
take_tokens text s (l ∷ ls) = take_token text s l >>= λ r. take_tokens text r ls

-- at the end of the tokens
abbrev pub whole : Pos → State → Result ScriptTree Fault
whole end (state.Whole x) = Ok x
whole end state.Start = Err (fault_at end code.Unexpected)
whole end (state.Inside nest) = Err (fault_at end code.Unexpected)

abbrev pub ending : Pos → Option Fault → State → Result ScriptTree Fault
ending end None s = whole end s
ending end (Some fault) s = Err fault

-- what is read of tokens after others, of which the last one is NONEMPTY_TYPE or is not
abbrev pub read_tokens : List ℕ → ℕ → Pos → List ℕ → Bool → TokenStream → State → Result ScriptTree Fault
read_tokens text offset first span after_nonempty stream s =
    take_tokens text s (lexemes_after after_nonempty offset span stream.tokens) >>= ending (place_after first span) stream.fault

-- the script of a span whose first byte has a place and an offset, or the first fault
unfoldable pub read_script : List ℕ → ℕ → Pos → List ℕ → Result ScriptTree Fault
read_script text offset first span = read_tokens text offset first span false (tokens_of first span) state.Start

abbrev pub script_of : List ℕ → Proof → Result ScriptTree Fault
script_of text proof = read_script text proof.start proof.pos (script_span text proof)
