-- What is in the grammar is read.
use Rattle.std.proofs.Common.{◌≡◌, ◌∙◌, List, [], ◌∷◌, ◌++◌, Some, refl, sym, ap, append_assoc, append-nil}
use Rattle.pvs_base.specs.declared.place.Pos.{Pos}
use Rattle.pvs_syntax.specs.declared.word.Word.{Word}
use Rattle.pvs_scripts.specs.declared.lexeme.LexemeKind.TheVariants as kind
use Rattle.pvs_scripts.specs.declared.lexeme.Terminal.{Terminal}
use Rattle.pvs_scripts.specs.declared.tree.Argument.{Argument}
use Rattle.pvs_scripts.specs.declared.tree.ScriptTree.{ScriptTree}
use Rattle.pvs_scripts.specs.declared.tree.StepExpr.{StepExpr}
use Rattle.pvs_scripts.specs.declared.state.State.{State}
use Rattle.pvs_scripts.specs.declared.state.State.TheVariants as state
use Rattle.pvs_scripts.specs.declared.state.OpenTree.{OpenTree}
use Rattle.pvs_scripts.specs.declared.state.Prefix.TheVariants as prefix
use Rattle.pvs_scripts.specs.Grammar.{Is, place, DerivesArgument, DerivesArguments, DerivesStep, DerivesSteps, DerivesScript, DerivesScripts}
use Rattle.pvs_scripts.specs.code.States.{tree_of, inside, step_of, with_argument, script_of, state_after, state_after_in}
use Rattle.pvs_scripts.proofs.Stacks.{last_push}
use Rattle.pvs_scripts.proofs.Runs.{Tokens, run, runs_on, start_goes, open_goes, word_goes, number_goes, minus_goes, negated_goes, quoted_goes, plain_goes, step_goes, close_goes, enters, HasStep}

-- inside a tree with these steps and no tree
abbrev stepping : List OpenTree → List StepExpr → State
stepping outer ss = inside outer (tree_of ss []) prefix.Nothing

abbrev going : List OpenTree → List StepExpr → List ScriptTree → State
going outer ss xs = inside outer (tree_of ss xs) prefix.Nothing

-- inside a step with these arguments
abbrev arguing : List OpenTree → OpenTree → Word → List Argument → Pos → State
arguing outer tree w xs at = inside outer tree (prefix.Step (step_of w xs at))

-- ---- arguments

argument_taken : (ts us : Tokens) (x : Argument) → DerivesArgument ts x → (outer : List OpenTree) (tree : OpenTree) (s : StepExpr)
    → run (inside outer tree (prefix.Step s)) (ts ++ us) ≡ run (inside outer tree (prefix.Step (with_argument s x))) us
argument_taken _ us _ (DerivesArgument.consequent t n is) outer tree s = number_goes outer tree s t n us is
argument_taken _ us _ (DerivesArgument.antecedent t u n is num) outer tree s = minus_goes outer tree s t (u ∷ us) is ∙ negated_goes outer tree s (place t) u n us num
argument_taken _ us _ (DerivesArgument.quoted t x is held) outer tree s = quoted_goes outer tree s t x us is held
argument_taken _ us _ (DerivesArgument.word t is) outer tree s = plain_goes outer tree s t us is

arguments_taken : (ts us : Tokens) (xs : List Argument) → DerivesArguments ts xs → (outer : List OpenTree) (tree : OpenTree) (w : Word) (zs : List Argument) (at : Pos)
    → run (arguing outer tree w zs at) (ts ++ us) ≡ run (arguing outer tree w (zs ++ xs) at) us
arguments_taken _ us _ DerivesArguments.none outer tree w zs at = ap (λ l. run (arguing outer tree w l at) us) (sym (append-nil zs))
arguments_taken _ us _ (DerivesArguments.more ts vs xs x d e) outer tree w zs at =
    ap (run (arguing outer tree w zs at)) (append_assoc ts vs us)
    ∙ arguments_taken ts (vs ++ us) xs d outer tree w zs at
    ∙ argument_taken vs us x e outer tree (step_of w (zs ++ xs) at)
    ∙ ap (λ l. run (arguing outer tree w l at) us) (append_assoc zs xs (x ∷ []))

-- ---- steps

step_taken : (ts : Tokens) (s : StepExpr) → DerivesStep ts s → (outer : List OpenTree) (zs : List StepExpr) → run (stepping outer zs) ts ≡ Some (stepping outer (zs ++ s ∷ []))
step_taken _ _ (DerivesStep.step t u v ts xs opened word d close) outer zs =
    open_goes outer (tree_of zs []) t (u ∷ (ts ++ v ∷ [])) opened
    ∙ word_goes outer zs (place t) u (ts ++ v ∷ []) word
    ∙ arguments_taken ts (v ∷ []) xs d outer (tree_of zs []) u.lexeme.word [] (place t)
    ∙ step_goes outer (tree_of zs []) (step_of u.lexeme.word xs (place t)) v [] close

pub steps_taken : (ts : Tokens) (ss : List StepExpr) → DerivesSteps ts ss → (outer : List OpenTree) (zs : List StepExpr) → run (stepping outer zs) ts ≡ Some (stepping outer (zs ++ ss))
steps_taken _ _ (DerivesSteps.one ts s d) outer zs = step_taken ts s d outer zs
steps_taken _ _ (DerivesSteps.more ts us ss s d e) outer zs =
    runs_on (stepping outer zs) (stepping outer (zs ++ ss)) ts us (steps_taken ts ss d outer zs) ∙ step_taken us s e outer (zs ++ ss)
    ∙ ap (λ l. Some (stepping outer l)) (append_assoc zs ss (s ∷ []))

last_step : (ss : List StepExpr) (s : StepExpr) → HasStep (ss ++ s ∷ [])
last_step [] s = tt
last_step (z ∷ ss) s = tt

pub steps_some : (ts : Tokens) (ss : List StepExpr) → DerivesSteps ts ss → HasStep ss
steps_some _ _ (DerivesSteps.one ts s d) = tt
steps_some _ _ (DerivesSteps.more ts us ss s d e) = last_step ss s

abbrev FirstOpen : Tokens → Type 0
FirstOpen ts = (t : Terminal) × (us : Tokens) × (ts ≡ t ∷ us) × Is kind.Open t

step_open : (ts : Tokens) (s : StepExpr) → DerivesStep ts s → FirstOpen ts
step_open _ _ (DerivesStep.step t u v ts xs opened word d close) = (t, u ∷ (ts ++ v ∷ []), refl, opened)

open_prefix : (ts us : Tokens) → FirstOpen ts → FirstOpen (ts ++ us)
open_prefix ts us f = (f.0, f.1 ++ us, ap (λ z. z ++ us) f.2, f.3)

steps_open : (ts : Tokens) (ss : List StepExpr) → DerivesSteps ts ss → FirstOpen ts
steps_open _ _ (DerivesSteps.one ts s d) = step_open ts s d
steps_open _ _ (DerivesSteps.more ts us ss s d e) = open_prefix ts us (steps_open ts ss d)

-- a new tree inside an open one, after its parenthesis
new_tree : (outer : List OpenTree) (tree : OpenTree) (at : Pos) (ts : Tokens) → FirstOpen ts → HasStep tree.steps
    → run (inside outer tree (prefix.Opened at)) ts ≡ run (stepping (outer ++ tree ∷ []) []) ts
new_tree outer tree at ts f h =
    ap (run (inside outer tree (prefix.Opened at))) f.2 ∙ enters outer tree at f.0 f.1 f.3 h ∙ sym (open_goes (outer ++ tree ∷ []) (tree_of [] []) f.0 f.1 f.3)
    ∙ ap (run (stepping (outer ++ tree ∷ []) [])) (sym f.2)

-- ---- scripts

-- all after the parenthesis of a script, from what is read of its trees
body_taken : (ts us : Tokens) (ss : List StepExpr) (xs : List ScriptTree) (u : Terminal) → DerivesSteps ts ss → Is kind.Close u → (outer : List OpenTree)
    → run (going outer ss []) us ≡ Some (going outer ss xs) → run (stepping outer []) (ts ++ (us ++ u ∷ [])) ≡ Some (state_after outer (script_of (tree_of ss xs)))
body_taken ts us ss xs u d close outer e =
    runs_on (stepping outer []) (stepping outer ss) ts (us ++ u ∷ []) (steps_taken ts ss d outer [])
    ∙ runs_on (stepping outer ss) (going outer ss xs) us (u ∷ []) e
    ∙ close_goes outer (tree_of ss xs) u close (steps_some ts ss d)

mutual
  script_taken : (ts : Tokens) (x : ScriptTree) → DerivesScript ts x → (outer : List OpenTree) (zs : List StepExpr) (ys : List ScriptTree) → HasStep zs
      → run (going outer zs ys) ts ≡ Some (going outer zs (ys ++ x ∷ []))
  script_taken _ _ (DerivesScript.script ts us ss xs t u is d e close) outer zs ys h =
      open_goes outer (tree_of zs ys) t (ts ++ (us ++ u ∷ [])) is
      ∙ new_tree outer (tree_of zs ys) (place t) (ts ++ (us ++ u ∷ [])) (open_prefix ts (us ++ u ∷ []) (steps_open ts ss d)) h
      ∙ body_taken ts us ss xs u d close (outer ++ tree_of zs ys ∷ []) (scripts_taken us xs e (outer ++ tree_of zs ys ∷ []) ss [] (steps_some ts ss d))
      ∙ ap (λ o. Some (state_after_in (script_of (tree_of ss xs)) o)) (last_push outer (tree_of zs ys))

  scripts_taken : (ts : Tokens) (xs : List ScriptTree) → DerivesScripts ts xs → (outer : List OpenTree) (zs : List StepExpr) (ys : List ScriptTree) → HasStep zs
      → run (going outer zs ys) ts ≡ Some (going outer zs (ys ++ xs))
  scripts_taken _ _ DerivesScripts.none outer zs ys h = ap (λ l. Some (going outer zs l)) (sym (append-nil ys))
  scripts_taken _ _ (DerivesScripts.more ts us xs x d e) outer zs ys h =
      runs_on (going outer zs ys) (going outer zs (ys ++ xs)) ts us (scripts_taken ts xs d outer zs ys h)
      ∙ script_taken us x e outer zs (ys ++ xs) h ∙ ap (λ l. Some (going outer zs l)) (append_assoc ys xs (x ∷ []))

pub whole_taken : (ts : Tokens) (x : ScriptTree) → DerivesScript ts x → run state.Start ts ≡ Some (state.Whole x)
whole_taken _ _ (DerivesScript.script ts us ss xs t u is d e close) =
    start_goes t (ts ++ (us ++ u ∷ [])) is ∙ body_taken ts us ss xs u d close [] (scripts_taken us xs e [] ss [] (steps_some ts ss d))

pub one_whole : (ts : Tokens) (x y : ScriptTree) → DerivesScript ts x → DerivesScript ts y → x ≡ y
one_whole ts x y d e = let f = whole_taken ts x d in let g = whole_taken ts y e in cc
