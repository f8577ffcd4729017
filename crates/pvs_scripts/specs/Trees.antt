-- Which script trees are trees of a text: each word is a word of the text, each expression is one of a quoted text, and each script
-- has a step.
use Rattle.std.specs.Prelude.{◌≡◌, ◌<◌, ◌+◌, ◌&&◌, ℕ, false, IsTrue, List, [], ◌∷◌, length, All}
use Rattle.pvs_base.specs.declared.place.Pos.{Pos}
use Rattle.pvs_base.specs.Place.{place_after}
use Rattle.pvs_base.specs.Spans.{span_of}
use Rattle.pvs_lexer.specs.Tokens.{is_word}
use Rattle.pvs_syntax.specs.declared.expression.Expr.{Expr}
use Rattle.pvs_syntax.specs.declared.unit.Proof.{Proof}
use Rattle.pvs_syntax.specs.declared.word.Word.{Word}
use Rattle.pvs_syntax.specs.Trees.{Origin, is_word_in, IsTreeOfTerm}
use Rattle.pvs_syntax.specs.Words.{spelling}
use Rattle.pvs_scripts.specs.declared.tree.Argument.{Argument}
use Rattle.pvs_scripts.specs.declared.tree.Argument.TheVariants as argument
use Rattle.pvs_scripts.specs.declared.tree.ScriptTree.{ScriptTree}
use Rattle.pvs_scripts.specs.declared.tree.ScriptTree.TheViews.{roll-ScriptTree}
use Rattle.pvs_scripts.specs.declared.tree.StepExpr.{StepExpr}
use Rattle.pvs_scripts.specs.Grammar.{after_quote}

-- the text of a proof, with the places that its bytes have from the place of the script on
abbrev pub script_text : List ℕ → Proof → Origin
script_text text proof = record { text = text; quoted = false; place = λ at. place_after proof.pos (span_of text proof.start at) }

-- a word of the text, keyword or not, with the place of its first byte
abbrev pub IsWordOf : Origin → Word → Type 0
IsWordOf o w = IsTrue (is_word_in o w && is_word (spelling o.text w))

-- the expression of a quoted text whose first quote has a place
pub record IsQuotedIn (o : Origin) (x : Expr) (at : Pos) : Type 0 where
  -- the offset of that quote
  pub offset : ℕ
  pub within : offset < length o.text
  pub place : at ≡ o.place offset
  pub tree : IsTreeOfTerm o.text (offset + 1) (after_quote at) x

abbrev pub IsArgumentOf : Origin → Argument → Type 0
IsArgumentOf o (argument.Signed n at) = Unit {0}
IsArgumentOf o (argument.QuotedExpr x at) = IsQuotedIn o x at
IsArgumentOf o (argument.Plain w) = IsWordOf o w

pub record IsStepOf (o : Origin) (s : StepExpr) : Type 0 where
  pub word : IsWordOf o s.word
  pub arguments : All (IsArgumentOf o) s.arguments

mutual
  -- a script with a step
  pub data IsScriptOf (o : Origin) : ScriptTree → Type 0 where
    script : (s : StepExpr) (ss : List StepExpr) (xs : List ScriptTree) → All (IsStepOf o) (s ∷ ss) → AreScriptsOf o xs → IsScriptOf o (roll-ScriptTree (record { steps = s ∷ ss; trees = xs }))

  pub data AreScriptsOf (o : Origin) : List ScriptTree → Type 0 where
    none : AreScriptsOf o []
    more : (x : ScriptTree) (xs : List ScriptTree) → IsScriptOf o x → AreScriptsOf o xs → AreScriptsOf o (x ∷ xs)
