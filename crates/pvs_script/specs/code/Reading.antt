-- Which script, or which fault, the span of a proof gives.
use Rattle.std.specs.Prelude.{◌≡◌, ℕ, if◌then◌else◌, List, [], ◌∷◌, map, Option, Some, None, Result, Ok, Err}
use Rattle.pvs_base.specs.declared.code.Fault.{Fault}
use Rattle.pvs_base.specs.declared.code.Code.{Code}
use Rattle.pvs_base.specs.declared.code.Code.TheVariants.{OutOfProfile, TooNested}
use Rattle.pvs_base.specs.declared.place.Pos.{Pos}
use Rattle.pvs_base.specs.Place.{place_after}
use Rattle.pvs_base.specs.Answers.{◌>>=◌}
use Rattle.pvs_lexer.specs.Tokens.{TokenStream, tokens_of}
use Rattle.pvs_syntax.specs.declared.unit.Proof.{Proof}
use Rattle.pvs_script.specs.declared.fault.ScriptFault.{ScriptFault}
use Rattle.pvs_script.specs.declared.fault.ScriptFault.TheVariants as faults
use Rattle.pvs_script.specs.declared.lexeme.Lexeme.{Lexeme}
use Rattle.pvs_script.specs.declared.tree.Script.{Script}
use Rattle.pvs_script.specs.declared.state.State.{State}
use Rattle.pvs_script.specs.declared.state.State.TheVariants as state
use Rattle.pvs_script.specs.Tokens.{lexeme, script_span}
use Rattle.pvs_script.specs.code.States.{next_state, is_deep}

-- What a function returned is what reading gives, unless memory ran out.
abbrev pub Fails : {A : Type 0} → ScriptFault → Result A Fault → Type 0
Fails faults.Memory read = Unit {0}
Fails (faults.At fault) read = read ≡ Err fault

abbrev pub Gives : {A : Type 0} → Result A ScriptFault → Result A Fault → Type 0
Gives (Ok x) read = read ≡ Ok x
Gives (Err e) read = Fails e read

abbrev pub fault_at : Pos → Code → Fault
fault_at at code = record { pos = at; code = code }

-- what a token at a place leads to, at most 200 levels deep
abbrev pub within_levels : Pos → Option State → Result State Fault
within_levels at None = Err (fault_at at OutOfProfile)
within_levels at (Some s) = if is_deep s then Err (fault_at at TooNested) else Ok s

abbrev pub take_token : State → Lexeme → Result State Fault
take_token s t = within_levels t.pos (next_state s t)

abbrev pub take_tokens : State → List Lexeme → Result State Fault
take_tokens s [] = Ok s
take_tokens s (t ∷ ts) = take_token s t >>= λ r. take_tokens r ts

-- at the end of the tokens
abbrev pub whole : Pos → State → Result Script Fault
whole end (state.Whole x) = Ok x
whole end state.Start = Err (fault_at end OutOfProfile)
whole end (state.Inside nest) = Err (fault_at end OutOfProfile)

abbrev pub ending : Pos → Option Fault → State → Result Script Fault
ending end None s = whole end s
ending end (Some fault) s = Err fault

abbrev pub read_tokens : Pos → List ℕ → TokenStream → State → Result Script Fault
read_tokens first span script_tokens s = take_tokens s (map (lexeme span) script_tokens.tokens) >>= ending (place_after first span) script_tokens.fault

-- the script of a span whose first byte has a place, or the first fault
unfoldable pub read_span : Pos → List ℕ → Result Script Fault
read_span first span = read_tokens first span (tokens_of first span) state.Start

abbrev pub script_of : List ℕ → Proof → Result Script Fault
script_of text proof = read_span proof.pos (script_span text proof)
