-- The first fault of the span of a script.
use Rattle.std.specs.Prelude.{◌≡◌, ◌≤◌, ℕ, List, [], ◌∷◌, ◌++◌, Some, None, Result, Ok, Err}
use Rattle.pvs_base.specs.declared.code.Fault.{Fault}
use Rattle.pvs_base.specs.declared.code.Code.{Code}
use Rattle.pvs_base.specs.declared.code.Code.TheVariants.{OutOfProfile, TooNested}
use Rattle.pvs_syntax.specs.declared.unit.Proof.{Proof}
use Rattle.pvs_script.specs.declared.lexeme.Lexeme.{Lexeme}
use Rattle.pvs_script.specs.declared.lexeme.Sort.TheVariants as sort
use Rattle.pvs_script.specs.declared.tree.Script.{Script}
use Rattle.pvs_script.specs.Tokens.{script_tokens, lexemes, end_place}
use Rattle.pvs_script.specs.Grammar.{Is, DerivesScript, BeginsScript, IsScript, level}

-- tokens that may begin a script, at most 200 levels deep
pub record MayBegin (ts : List Lexeme) : Type 0 where
  pub begins : BeginsScript ts
  pub shallow : level ts ≤ 200

-- so may each prefix of the tokens
abbrev pub AllMayBegin : List Lexeme → Type 0
AllMayBegin ts = (us vs : List Lexeme) → ts ≡ us ++ vs → MayBegin us

-- why a token cannot follow these
pub data IsRefused (before : List Lexeme) (t : Lexeme) : Code → Type 0 where
  -- with it the tokens begin no script
  outside : (BeginsScript (before ++ t ∷ []) → ⊥) → IsRefused before t OutOfProfile
  -- they do, and it is a parenthesis that opens level 201
  nested : BeginsScript (before ++ t ∷ []) → Is sort.Open t → level (before ++ t ∷ []) ≡ 201 → IsRefused before t TooNested

-- The first fault of the span of a proof.
pub data IsFirstFault (text : List ℕ) (proof : Proof) : Fault → Type 0 where
  -- at the first token that cannot follow those before it
  token : (before rest : List Lexeme) (t : Lexeme) (code : Code) → lexemes text proof ≡ before ++ t ∷ rest → AllMayBegin before → IsRefused before t code
      → IsFirstFault text proof (record { pos = t.pos; code = code })
  -- after the tokens, where no token begins: the fault of the lexer
  lexical : (fault : Fault) → AllMayBegin (lexemes text proof) → (script_tokens text proof).fault ≡ Some fault → IsFirstFault text proof fault
  -- at the end of the span, where the tokens are only the beginning of a script
  end : AllMayBegin (lexemes text proof) → (script_tokens text proof).fault ≡ None → ((x : Script) → DerivesScript (lexemes text proof) x → ⊥)
      → IsFirstFault text proof (record { pos = end_place text proof; code = OutOfProfile })

-- the script of a proof, or its first fault
abbrev pub IsScriptAnswer : List ℕ → Proof → Result Script Fault → Type 0
IsScriptAnswer text proof (Ok x) = IsScript text proof x
IsScriptAnswer text proof (Err f) = IsFirstFault text proof f
