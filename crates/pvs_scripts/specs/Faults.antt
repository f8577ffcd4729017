-- The first fault of the span of a script.
use Rattle.std.specs.Prelude.{◌≡◌, ◌+◌, ◌-◌, ℕ, if◌then◌else◌, List, [], ◌∷◌, ◌++◌, Option, Some, None, Result, Ok, Err, ⊤}
use Rattle.pvs_base.specs.declared.code.Code.{Code}
use Rattle.pvs_base.specs.declared.code.Code.TheVariants as code
use Rattle.pvs_base.specs.declared.code.Fault.{Fault}
use Rattle.pvs_base.specs.declared.place.Pos.{Pos}
use Rattle.pvs_syntax.specs.declared.expression.Expr.{Expr}
use Rattle.pvs_syntax.specs.declared.unit.Proof.{Proof}
use Rattle.pvs_parser.specs.declared.failure.ParseFault.{ParseFault}
use Rattle.pvs_parser.specs.declared.failure.ParseFault.TheVariants as parse_fault
use Rattle.pvs_parser.specs.Text.{IsFirstFaultOfSpan}
use Rattle.pvs_scripts.specs.declared.lexeme.Lexeme.{Lexeme}
use Rattle.pvs_scripts.specs.declared.lexeme.LexemeKind.TheVariants as kind
use Rattle.pvs_scripts.specs.declared.lexeme.Terminal.{Terminal}
use Rattle.pvs_scripts.specs.declared.tree.ScriptTree.{ScriptTree}
use Rattle.pvs_scripts.specs.Tokens.{script_tokens, lexemes, end_place}
use Rattle.pvs_scripts.specs.Grammar.{terminal, after_quote, AreRead, Begins, level, IsShallow, IsScript}

abbrev pub fault_at : Pos → Code → Fault
fault_at at c = record { pos = at; code = c }

-- the code of a token that the grammar has no place for
abbrev pub code_of : Lexeme → Code
code_of l = if l.outside then code.OutOfProfile else code.Unexpected

-- tokens that may begin a script, at most 200 levels deep
pub record MayBegin (text : List ℕ) (ls : List Lexeme) : Type 0 where
  pub terminals : List Terminal
  pub read : AreRead text ls terminals
  pub begins : Begins terminals
  pub shallow : IsShallow ls

-- a token may follow these in a script, whatever it holds if it is a quoted text
pub record MayFollow (text : List ℕ) (before : List Lexeme) (l : Lexeme) : Type 0 where
  pub terminals : List Terminal
  pub read : AreRead text before terminals
  pub held : Option Expr
  pub begins : Begins (terminals ++ terminal l held ∷ [])

-- why a token cannot follow these
pub data IsRefused (text : List ℕ) (before : List Lexeme) (l : Lexeme) : Fault → Type 0 where
  -- no script has it there
  outside : (MayFollow text before l → ⊥) → IsRefused text before l (fault_at l.word.pos (code_of l))
  -- it is a quoted text, and what stands between its quotes has a fault
  quoted : (f : Fault) → MayFollow text before l → l.kind ≡ kind.Quoted → IsFirstFaultOfSpan text (l.word.start + 1) (l.word.end - 1) (after_quote l.word.pos) f → IsRefused text before l f
  -- it is a parenthesis, and opens level 201
  nested : MayFollow text before l → l.kind ≡ kind.Open → level (before ++ l ∷ []) ≡ 201 → IsRefused text before l (fault_at l.word.pos code.TooNested)

-- The first fault of the span of a proof.
pub data IsFirstFault (text : List ℕ) (proof : Proof) : Fault → Type 0 where
  -- at the first token that cannot follow those before it, or inside it
  token : (before rest : List Lexeme) (l : Lexeme) (f : Fault) → lexemes text proof ≡ before ++ l ∷ rest → MayBegin text before → IsRefused text before l f
      → IsFirstFault text proof f
  -- after the tokens, where no token begins: the fault of the lexer
  lexical : (f : Fault) → MayBegin text (lexemes text proof) → (script_tokens text proof).fault ≡ Some f → IsFirstFault text proof f
  -- at the end of the span, where the tokens are only the beginning of a script
  end : MayBegin text (lexemes text proof) → (script_tokens text proof).fault ≡ None → ((x : ScriptTree) → IsScript text proof x → ⊥)
      → IsFirstFault text proof (fault_at (end_place text proof) code.Unexpected)

-- the script of a proof, or its first fault
abbrev pub IsScriptAnswer : List ℕ → Proof → Result ScriptTree Fault → Type 0
IsScriptAnswer text proof (Ok x) = IsScript text proof x
IsScriptAnswer text proof (Err f) = IsFirstFault text proof f

-- what is answered of a proof, unless memory runs out
abbrev pub AnswersScript : List ℕ → Proof → Result ScriptTree ParseFault → Type 0
AnswersScript text proof (Ok x) = IsScript text proof x
AnswersScript text proof (Err (parse_fault.At f)) = IsFirstFault text proof f
AnswersScript text proof (Err parse_fault.Memory) = ⊤
