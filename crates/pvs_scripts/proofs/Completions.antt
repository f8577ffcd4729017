-- What is read so far begins a script: it can be completed to one.
use Rattle.std.proofs.Common.{◌≡◌, false, ◌∙◌, List, [], ◌∷◌, ◌++◌, None, Some, refl, sym, ap, subst, append_assoc, append-nil}
use Rattle.pvs_scripts.specs.declared.lexeme.LexemeKind.{LexemeKind}
use Rattle.pvs_scripts.specs.declared.lexeme.LexemeKind.TheVariants as kind
use Rattle.pvs_scripts.specs.declared.lexeme.Terminal.{Terminal}
use Rattle.pvs_scripts.specs.declared.tree.ScriptTree.{ScriptTree}
use Rattle.pvs_scripts.specs.declared.tree.StepExpr.{StepExpr}
use Rattle.pvs_scripts.specs.declared.state.State.{State}
use Rattle.pvs_scripts.specs.declared.state.State.TheVariants as state
use Rattle.pvs_scripts.specs.declared.state.OpenTree.{OpenTree}
use Rattle.pvs_scripts.specs.declared.state.Prefix.{Prefix}
use Rattle.pvs_scripts.specs.Grammar.{Is, terminal, Begins, DerivesArgument, DerivesArguments, DerivesStep, DerivesSteps, DerivesScript, DerivesScripts}
use Rattle.pvs_scripts.proofs.Runs.{Tokens, run}
use Rattle.pvs_scripts.proofs.Meanings.{Around, Opened, Stepping, InStep, Means, means}

-- a token of a kind
abbrev made : LexemeKind → Terminal
made k = terminal (record { kind = k; outside = false; word = record { start = 0; end = 0; pos = record { line = 0; col = 0 } } }) None

abbrev closing : Tokens
closing = made kind.Close ∷ []

-- a step of three tokens
abbrev short : Tokens
short = made kind.Open ∷ made kind.Word ∷ made kind.Close ∷ []

short_step : (s : StepExpr) × DerivesStep short s
short_step = (_, DerivesStep.step (made kind.Open) (made kind.Word) (made kind.Close) [] [] refl refl DerivesArguments.none refl)

-- ---- what begins a step, or a script

-- a step begins with these tokens
abbrev BeginsStep : Tokens → Type 0
BeginsStep ts = (more : Tokens) × (s : StepExpr) × DerivesStep (ts ++ more) s

-- the same tokens, with more after them
begun : (ts us more : Tokens) (x : ScriptTree) → us ≡ ts ++ more → DerivesScript us x → Begins ts
begun ts us more x e d = (more, x, subst (λ z. DerivesScript z x) e d)

nothing_begins : Begins []
nothing_begins = let s = short_step in
    (made kind.Open ∷ (short ++ closing), _, DerivesScript.script short [] (s.0 ∷ []) [] (made kind.Open) (made kind.Close) refl (DerivesSteps.one short s.0 s.1) DerivesScripts.none refl)

whole_begins : (ts : Tokens) (x : ScriptTree) → DerivesScript ts x → Begins ts
whole_begins ts x d = begun ts ts [] x (sym (append-nil ts)) d

-- the first step
first_begins : (t : Terminal) (us : Tokens) → Is kind.Open t → BeginsStep us → Begins (t ∷ us)
first_begins t us is b =
    begun (t ∷ us) (t ∷ ((us ++ b.0) ++ closing)) (b.0 ++ closing) _ (ap (λ z. t ∷ z) (append_assoc us b.0 closing))
    (DerivesScript.script (us ++ b.0) [] (b.1 ∷ []) [] t (made kind.Close) is (DerivesSteps.one (us ++ b.0) b.1 b.2) DerivesScripts.none refl)

-- a step after others
step_begins : (t : Terminal) (ts us : Tokens) (ss : List StepExpr) → Is kind.Open t → DerivesSteps ts ss → BeginsStep us → Begins (t ∷ (ts ++ us))
step_begins t ts us ss is d b =
    let shape : t ∷ ((ts ++ (us ++ b.0)) ++ closing) ≡ (t ∷ (ts ++ us)) ++ (b.0 ++ closing) =
    ap (λ z. t ∷ z) (append_assoc ts (us ++ b.0) closing ∙ ap (λ z. ts ++ z) (append_assoc us b.0 closing) ∙ sym (append_assoc ts us (b.0 ++ closing))) in
    begun (t ∷ (ts ++ us)) (t ∷ ((ts ++ (us ++ b.0)) ++ closing)) (b.0 ++ closing) _ shape
    (DerivesScript.script (ts ++ (us ++ b.0)) [] (ss ++ b.1 ∷ []) [] t (made kind.Close) is (DerivesSteps.more ts (us ++ b.0) ss b.1 d b.2) DerivesScripts.none refl)

-- a script after the steps, and maybe after others
tree_begins : (t : Terminal) (ts us vs : Tokens) (ss : List StepExpr) (xs : List ScriptTree) → Is kind.Open t → DerivesSteps ts ss → DerivesScripts us xs → Begins vs → Begins (t ∷ (ts ++ (us ++ vs)))
tree_begins t ts us vs ss xs is d e b =
    let inner : (us ++ (vs ++ b.0)) ++ closing ≡ (us ++ vs) ++ (b.0 ++ closing) =
    append_assoc us (vs ++ b.0) closing ∙ ap (λ z. us ++ z) (append_assoc vs b.0 closing) ∙ sym (append_assoc us vs (b.0 ++ closing)) in
    let shape : t ∷ (ts ++ ((us ++ (vs ++ b.0)) ++ closing)) ≡ (t ∷ (ts ++ (us ++ vs))) ++ (b.0 ++ closing) =
    ap (λ z. t ∷ z) (ap (λ z. ts ++ z) inner ∙ sym (append_assoc ts (us ++ vs) (b.0 ++ closing))) in
    begun (t ∷ (ts ++ (us ++ vs))) (t ∷ (ts ++ ((us ++ (vs ++ b.0)) ++ closing))) (b.0 ++ closing) _ shape
    (DerivesScript.script ts (us ++ (vs ++ b.0)) ss (xs ++ b.1 ∷ []) t (made kind.Close) is d (DerivesScripts.more us (vs ++ b.0) xs b.1 e b.2) refl)

-- ---- what is read so far

-- what begins a script inside trees that are open
plugged : (ts us : Tokens) (outer : List OpenTree) → Around ts outer → Begins us → Begins (ts ++ us)
plugged _ us _ Around.none b = b
plugged _ us _ (Around.more ts vs ws outer ss xs t a is d e) b =
    let shape : (ts ++ (t ∷ (vs ++ ws))) ++ us ≡ ts ++ (t ∷ (vs ++ (ws ++ us))) = append_assoc ts (t ∷ (vs ++ ws)) us ∙ ap (λ z. ts ++ (t ∷ z)) (append_assoc vs ws us) in
    subst Begins (sym shape) (plugged ts (t ∷ (vs ++ (ws ++ us))) outer a (tree_begins t vs ws us ss xs is d e b))

opened_begins : (us : Tokens) (tree : OpenTree) → Opened us tree → Begins us
opened_begins _ _ (Opened.fresh t is) = first_begins t [] is (short, short_step.0, short_step.1)
opened_begins _ _ (Opened.full ts us ss xs t is d e) = subst (λ z. Begins (t ∷ (ts ++ z))) (append-nil us) (tree_begins t ts us [] ss xs is d e nothing_begins)

parenthesis_step : (t : Terminal) → Is kind.Open t → BeginsStep (t ∷ [])
parenthesis_step t is = (made kind.Word ∷ closing, _, DerivesStep.step t (made kind.Word) (made kind.Close) [] [] is refl DerivesArguments.none refl)

parenthesis_begins : (us : Tokens) (tree : OpenTree) (t : Terminal) → Opened us tree → Is kind.Open t → Begins (us ++ t ∷ [])
parenthesis_begins _ _ u (Opened.fresh t is) opened = first_begins t (u ∷ []) is (parenthesis_step u opened)
parenthesis_begins _ _ u (Opened.full ts us ss xs t is d e) opened =
    subst (λ z. Begins (t ∷ z)) (sym (append_assoc ts us (u ∷ []))) (tree_begins t ts us (u ∷ []) ss xs is d e (first_begins u [] opened (short, short_step.0, short_step.1)))

step_begun : (ts us more : Tokens) (s : StepExpr) → us ≡ ts ++ more → DerivesStep us s → BeginsStep ts
step_begun ts us more s e d = (more, s, subst (λ z. DerivesStep z s) e d)

in_step_begins : (vs : Tokens) (p : Prefix) → InStep vs p → BeginsStep vs
in_step_begins _ _ (InStep.arguments t u ts xs opened word d) = (closing, _, DerivesStep.step t u (made kind.Close) ts xs opened word d refl)
in_step_begins _ _ (InStep.minus t u v ts xs opened word d sign) =
    let n = made (kind.Number 0) in
    let shape : t ∷ u ∷ ((ts ++ v ∷ n ∷ []) ++ closing) ≡ (t ∷ u ∷ (ts ++ v ∷ [])) ++ (n ∷ closing) =
    ap (λ z. t ∷ u ∷ z) (append_assoc ts (v ∷ n ∷ []) closing ∙ sym (append_assoc ts (v ∷ []) (n ∷ closing))) in
    step_begun (t ∷ u ∷ (ts ++ v ∷ [])) (t ∷ u ∷ ((ts ++ v ∷ n ∷ []) ++ closing)) (n ∷ closing) _ shape
    (DerivesStep.step t u (made kind.Close) (ts ++ v ∷ n ∷ []) _ opened word (DerivesArguments.more ts (v ∷ n ∷ []) xs _ d (DerivesArgument.antecedent v n 0 sign refl)) refl)

stepping_begins : (us vs : Tokens) (ss : List StepExpr) → Stepping us ss → BeginsStep vs → Begins (us ++ vs)
stepping_begins _ vs _ (Stepping.fresh t is) b = first_begins t vs is b
stepping_begins _ vs _ (Stepping.full ts ss t is d) b = step_begins t ts vs ss is d b

means_begins : (s : State) (ts : Tokens) → Means s ts → Begins ts
means_begins _ _ Means.start = nothing_begins
means_begins _ _ (Means.whole ts x d) = whole_begins ts x d
means_begins _ _ (Means.nothing ts us outer tree a o) = plugged ts us outer a (opened_begins us tree o)
means_begins _ _ (Means.parenthesis ts us outer tree t a o is) = plugged ts (us ++ t ∷ []) outer a (parenthesis_begins us tree t o is)
means_begins _ _ (Means.middle ts us vs outer ss p a o i) = plugged ts (us ++ vs) outer a (stepping_begins us vs ss o (in_step_begins vs p i))

-- what is read begins a script
pub run_begins : (ts : Tokens) (r : State) → run state.Start ts ≡ Some r → Begins ts
run_begins ts r e = means_begins r ts (means ts r e)
