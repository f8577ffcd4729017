-- The grammar of a script: a case for each of its lines.
use Rattle.std.specs.Prelude.{◌≡◌, ◌≤◌, ◌+◌, ◌-◌, ℕ, zero, suc, ℤ, pos, negsuc, Bool, true, false, List, [], ◌∷◌, ◌++◌, count_by, Option, Some, None}
use Rattle.pvs_base.specs.declared.place.Pos.{Pos}
use Rattle.pvs_syntax.specs.declared.expression.Expr.{Expr}
use Rattle.pvs_syntax.specs.declared.unit.Proof.{Proof}
use Rattle.pvs_syntax.specs.declared.word.Word.{Word}
use Rattle.pvs_parser.specs.Text.{ReadsSpan}
use Rattle.pvs_scripts.specs.declared.lexeme.Lexeme.{Lexeme}
use Rattle.pvs_scripts.specs.declared.lexeme.LexemeKind.{LexemeKind}
use Rattle.pvs_scripts.specs.declared.lexeme.LexemeKind.TheVariants as kind
use Rattle.pvs_scripts.specs.declared.lexeme.Terminal.{Terminal}
use Rattle.pvs_scripts.specs.declared.tree.Argument.{Argument}
use Rattle.pvs_scripts.specs.declared.tree.Argument.TheVariants as argument
use Rattle.pvs_scripts.specs.declared.tree.ScriptTree.{ScriptTree}
use Rattle.pvs_scripts.specs.declared.tree.ScriptTree.TheViews.{roll-ScriptTree}
use Rattle.pvs_scripts.specs.declared.tree.StepExpr.{StepExpr}
use Rattle.pvs_scripts.specs.Tokens.{script_tokens, lexemes}

-- ---- Tokens, and what they hold.

-- a token that holds an expression or nothing
abbrev pub terminal : Lexeme → Option Expr → Terminal
terminal l q = record { lexeme = l; quote = q }

-- a token of this kind
abbrev pub Is : LexemeKind → Terminal → Type 0
Is k t = t.lexeme.kind ≡ k

abbrev pub place : Terminal → Pos
place t = t.lexeme.word.pos

abbrev pub is_quoted : LexemeKind → Bool
is_quoted kind.Quoted = true
is_quoted _ = false

-- the place after a quote
abbrev pub after_quote : Pos → Pos
after_quote p = record { line = p.line; col = p.col + 1 }

-- the bytes between the quotes of a quoted text are this expression
abbrev pub Quotes : List ℕ → Word → Expr → Type 0
Quotes text w x = ReadsSpan text (w.start + 1) (w.end - 1) (after_quote w.pos) x

-- what a token of a text holds: a quoted text the expression between its quotes, and any other token nothing
pub data Holds (text : List ℕ) : Lexeme → Option Expr → Type 0 where
  quoted : (l : Lexeme) (x : Expr) → l.kind ≡ kind.Quoted → Quotes text l.word x → Holds text l (Some x)
  plain : (l : Lexeme) → is_quoted l.kind ≡ false → Holds text l None

-- tokens of a text with what they hold
pub data AreRead (text : List ℕ) : List Lexeme → List Terminal → Type 0 where
  none : AreRead text [] []
  more : (l : Lexeme) (ls : List Lexeme) (q : Option Expr) (ts : List Terminal) → Holds text l q → AreRead text ls ts → AreRead text (l ∷ ls) (terminal l q ∷ ts)

-- ---- What tokens are a step, or a script.

-- the number of an antecedent
abbrev pub antecedent_number : ℕ → ℤ
antecedent_number zero = pos 0
antecedent_number (suc n) = negsuc n

pub data DerivesArgument : List Terminal → Argument → Type 0 where
  -- argument = number
  consequent : (t : Terminal) (n : ℕ) → Is (kind.Number n) t → DerivesArgument (t ∷ []) (argument.Signed (pos n) (place t))
  -- argument = "-" number
  antecedent : (t u : Terminal) (n : ℕ) → Is kind.Minus t → Is (kind.Number n) u → DerivesArgument (t ∷ u ∷ []) (argument.Signed (antecedent_number n) (place t))
  -- argument = quoted text
  quoted : (t : Terminal) (x : Expr) → Is kind.Quoted t → t.quote ≡ Some x → DerivesArgument (t ∷ []) (argument.QuotedExpr x (place t))
  -- argument = word
  word : (t : Terminal) → Is kind.Word t → DerivesArgument (t ∷ []) (argument.Plain t.lexeme.word)

-- { argument }
pub data DerivesArguments : List Terminal → List Argument → Type 0 where
  none : DerivesArguments [] []
  more : (ts us : List Terminal) (xs : List Argument) (x : Argument) → DerivesArguments ts xs → DerivesArgument us x → DerivesArguments (ts ++ us) (xs ++ x ∷ [])

pub data DerivesStep : List Terminal → StepExpr → Type 0 where
  -- step = "(" word { argument } ")"
  step : (t u v : Terminal) (ts : List Terminal) (xs : List Argument) → Is kind.Open t → Is kind.Word u → DerivesArguments ts xs → Is kind.Close v
      → DerivesStep (t ∷ u ∷ (ts ++ v ∷ [])) (record { word = u.lexeme.word; arguments = xs; pos = place t })

-- step { step }
pub data DerivesSteps : List Terminal → List StepExpr → Type 0 where
  one : (ts : List Terminal) (s : StepExpr) → DerivesStep ts s → DerivesSteps ts (s ∷ [])
  more : (ts us : List Terminal) (ss : List StepExpr) (s : StepExpr) → DerivesSteps ts ss → DerivesStep us s → DerivesSteps (ts ++ us) (ss ++ s ∷ [])

mutual
  -- script = "(" step { step } { script } ")"
  pub data DerivesScript : List Terminal → ScriptTree → Type 0 where
    script : (ts us : List Terminal) (ss : List StepExpr) (xs : List ScriptTree) (t u : Terminal) → Is kind.Open t → DerivesSteps ts ss → DerivesScripts us xs
        → Is kind.Close u → DerivesScript (t ∷ (ts ++ (us ++ u ∷ []))) (roll-ScriptTree (record { steps = ss; trees = xs }))

  -- { script }
  pub data DerivesScripts : List Terminal → List ScriptTree → Type 0 where
    none : DerivesScripts [] []
    more : (ts us : List Terminal) (xs : List ScriptTree) (x : ScriptTree) → DerivesScripts ts xs → DerivesScript us x → DerivesScripts (ts ++ us) (xs ++ x ∷ [])

-- a script begins with these tokens
abbrev pub Begins : List Terminal → Type 0
Begins ts = (more : List Terminal) × (x : ScriptTree) × DerivesScript (ts ++ more) x

-- ---- How deep tokens nest.

abbrev pub opens : LexemeKind → Bool
opens kind.Open = true
opens _ = false

abbrev pub closes : LexemeKind → Bool
closes kind.Close = true
closes _ = false

-- how many parentheses are open after the tokens
abbrev pub level : List Lexeme → ℕ
level ls = count_by (λ l. opens l.kind) ls - count_by (λ l. closes l.kind) ls

-- after no token more than 200 parentheses are open
abbrev pub IsShallow : List Lexeme → Type 0
IsShallow ls = (before after : List Lexeme) → ls ≡ before ++ after → level before ≤ 200

-- ---- The script of a proof.

-- The tokens of the span have no lexical fault, nest at most 200 levels deep, and are the script, with an expression in each
-- quoted text.
pub record IsScript (text : List ℕ) (proof : Proof) (x : ScriptTree) : Type 0 where
  pub faultless : (script_tokens text proof).fault ≡ None
  pub shallow : IsShallow (lexemes text proof)
  pub terminals : List Terminal
  pub read : AreRead text (lexemes text proof) terminals
  pub derives : DerivesScript terminals x
