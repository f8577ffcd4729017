-- What is in the grammar is read, and what begins a script is taken.
use Rattle.std.proofs.Common.{◌≡◌, ◌∙◌, pos, List, [], ◌∷◌, ◌++◌, Some, refl, sym, ap, subst, append_assoc, append-nil}
use Rattle.pvs_base.specs.declared.place.Pos.{Pos}
use Rattle.pvs_script.specs.declared.lexeme.Lexeme.{Lexeme}
use Rattle.pvs_script.specs.declared.lexeme.Sort.TheVariants as sort
use Rattle.pvs_script.specs.declared.tree.Rule.TheVariants as rule
use Rattle.pvs_script.specs.declared.tree.Step.{Step}
use Rattle.pvs_script.specs.declared.tree.Script.{Script}
use Rattle.pvs_script.specs.declared.state.State.{State}
use Rattle.pvs_script.specs.declared.state.State.TheVariants as state
use Rattle.pvs_script.specs.declared.state.OpenTree.{OpenTree}
use Rattle.pvs_script.specs.declared.state.Prefix.TheVariants as prefix
use Rattle.pvs_script.specs.Grammar.{Is, DerivesStep, DerivesSteps, DerivesScript, DerivesScripts, BeginsStep, BeginsScript, antecedent_number}
use Rattle.pvs_script.specs.code.States.{tree_of, inside, step_of, script_of, state_after, state_after_in}
use Rattle.pvs_script.proofs.Stacks.{last_push}
use Rattle.pvs_script.proofs.Runs.{Tokens, run, runs_on, start_goes, open_goes, axiom_goes, if_goes, number_goes, minus_goes, negated_goes, step_goes, close_goes, enters, HasStep}

-- inside a tree with these steps and no tree
abbrev stepping : List OpenTree → List Step → State
stepping outer ss = inside outer (tree_of ss []) prefix.Nothing

abbrev going : List OpenTree → List Step → List Script → State
going outer ss xs = inside outer (tree_of ss xs) prefix.Nothing

-- ---- steps

step_taken : (ts : Tokens) (s : Step) → DerivesStep ts s → (outer : List OpenTree) (zs : List Step) → run (stepping outer zs) ts ≡ Some (stepping outer (zs ++ s ∷ []))
step_taken _ _ (DerivesStep.axiom_rule t u v opened word close) outer zs =
    open_goes outer (tree_of zs []) t (u ∷ v ∷ []) opened ∙ axiom_goes outer zs t.pos u (v ∷ []) word ∙ step_goes outer (tree_of zs []) (step_of rule.Axiom t.pos) v [] close
step_taken _ _ (DerivesStep.if_consequent t u v w opened word num close) outer zs =
    open_goes outer (tree_of zs []) t (u ∷ v ∷ w ∷ []) opened ∙ if_goes outer zs t.pos u (v ∷ w ∷ []) word ∙ number_goes outer (tree_of zs []) t.pos v (w ∷ []) num
    ∙ step_goes outer (tree_of zs []) (step_of (rule.If (pos v.number)) t.pos) w [] close
step_taken _ _ (DerivesStep.if_antecedent t u v w x opened word minus num close) outer zs =
    open_goes outer (tree_of zs []) t (u ∷ v ∷ w ∷ x ∷ []) opened ∙ if_goes outer zs t.pos u (v ∷ w ∷ x ∷ []) word ∙ minus_goes outer (tree_of zs []) t.pos v (w ∷ x ∷ []) minus
    ∙ negated_goes outer (tree_of zs []) t.pos w (x ∷ []) num ∙ step_goes outer (tree_of zs []) (step_of (rule.If (antecedent_number w.number)) t.pos) x [] close

pub steps_taken : (ts : Tokens) (ss : List Step) → DerivesSteps ts ss → (outer : List OpenTree) (zs : List Step) → run (stepping outer zs) ts ≡ Some (stepping outer (zs ++ ss))
steps_taken _ _ (DerivesSteps.one ts s d) outer zs = step_taken ts s d outer zs
steps_taken _ _ (DerivesSteps.more ts us ss s d e) outer zs =
    runs_on (stepping outer zs) (stepping outer (zs ++ ss)) ts us (steps_taken ts ss d outer zs) ∙ step_taken us s e outer (zs ++ ss)
    ∙ ap (λ l. Some (stepping outer l)) (append_assoc zs ss (s ∷ []))

last_step : (ss : List Step) (s : Step) → HasStep (ss ++ s ∷ [])
last_step [] s = tt
last_step (z ∷ ss) s = tt

pub steps_some : (ts : Tokens) (ss : List Step) → DerivesSteps ts ss → HasStep ss
steps_some _ _ (DerivesSteps.one ts s d) = tt
steps_some _ _ (DerivesSteps.more ts us ss s d e) = last_step ss s

abbrev FirstOpen : Tokens → Type 0
FirstOpen ts = (t : Lexeme) × (us : Tokens) × (ts ≡ t ∷ us) × Is sort.Open t

step_open : (ts : Tokens) (s : Step) → DerivesStep ts s → FirstOpen ts
step_open _ _ (DerivesStep.axiom_rule t u v opened word close) = (t, u ∷ v ∷ [], refl, opened)
step_open _ _ (DerivesStep.if_consequent t u v w opened word num close) = (t, u ∷ v ∷ w ∷ [], refl, opened)
step_open _ _ (DerivesStep.if_antecedent t u v w x opened word minus num close) = (t, u ∷ v ∷ w ∷ x ∷ [], refl, opened)

open_prefix : (ts us : Tokens) → FirstOpen ts → FirstOpen (ts ++ us)
open_prefix ts us f = (f.0, f.1 ++ us, ap (λ z. z ++ us) f.2, f.3)

steps_open : (ts : Tokens) (ss : List Step) → DerivesSteps ts ss → FirstOpen ts
steps_open _ _ (DerivesSteps.one ts s d) = step_open ts s d
steps_open _ _ (DerivesSteps.more ts us ss s d e) = open_prefix ts us (steps_open ts ss d)

-- a new tree inside an open one, after its parenthesis
new_tree : (outer : List OpenTree) (tree : OpenTree) (at : Pos) (ts : Tokens) → FirstOpen ts → HasStep tree.steps
    → run (inside outer tree (prefix.Opened at)) ts ≡ run (stepping (outer ++ tree ∷ []) []) ts
new_tree outer tree at ts f h =
    ap (run (inside outer tree (prefix.Opened at))) f.2 ∙ enters outer tree at f.0 f.1 f.3 h ∙ sym (open_goes (outer ++ tree ∷ []) (tree_of [] []) f.0 f.1 f.3)
    ∙ ap (run (stepping (outer ++ tree ∷ []) [])) (sym f.2)

-- ---- scripts

-- all after the parenthesis of a script, from what is read of its trees
body_taken : (ts us : Tokens) (ss : List Step) (xs : List Script) (u : Lexeme) → DerivesSteps ts ss → Is sort.Close u → (outer : List OpenTree)
    → run (going outer ss []) us ≡ Some (going outer ss xs) → run (stepping outer []) (ts ++ (us ++ u ∷ [])) ≡ Some (state_after outer (script_of (tree_of ss xs)))
body_taken ts us ss xs u d close outer e =
    runs_on (stepping outer []) (stepping outer ss) ts (us ++ u ∷ []) (steps_taken ts ss d outer [])
    ∙ runs_on (stepping outer ss) (going outer ss xs) us (u ∷ []) e
    ∙ close_goes outer (tree_of ss xs) u close (steps_some ts ss d)

mutual
  script_taken : (ts : Tokens) (x : Script) → DerivesScript ts x → (outer : List OpenTree) (zs : List Step) (ys : List Script) → HasStep zs
      → run (going outer zs ys) ts ≡ Some (going outer zs (ys ++ x ∷ []))
  script_taken _ _ (DerivesScript.script ts us ss xs t u is d e close) outer zs ys h =
      open_goes outer (tree_of zs ys) t (ts ++ (us ++ u ∷ [])) is
      ∙ new_tree outer (tree_of zs ys) t.pos (ts ++ (us ++ u ∷ [])) (open_prefix ts (us ++ u ∷ []) (steps_open ts ss d)) h
      ∙ body_taken ts us ss xs u d close (outer ++ tree_of zs ys ∷ []) (scripts_taken us xs e (outer ++ tree_of zs ys ∷ []) ss [] (steps_some ts ss d))
      ∙ ap (λ o. Some (state_after_in (script_of (tree_of ss xs)) o)) (last_push outer (tree_of zs ys))

  scripts_taken : (ts : Tokens) (xs : List Script) → DerivesScripts ts xs → (outer : List OpenTree) (zs : List Step) (ys : List Script) → HasStep zs
      → run (going outer zs ys) ts ≡ Some (going outer zs (ys ++ xs))
  scripts_taken _ _ DerivesScripts.none outer zs ys h = ap (λ l. Some (going outer zs l)) (sym (append-nil ys))
  scripts_taken _ _ (DerivesScripts.more ts us xs x d e) outer zs ys h =
      runs_on (going outer zs ys) (going outer zs (ys ++ xs)) ts us (scripts_taken ts xs d outer zs ys h)
      ∙ script_taken us x e outer zs (ys ++ xs) h ∙ ap (λ l. Some (going outer zs l)) (append_assoc ys xs (x ∷ []))

pub whole_taken : (ts : Tokens) (x : Script) → DerivesScript ts x → run state.Start ts ≡ Some (state.Whole x)
whole_taken _ _ (DerivesScript.script ts us ss xs t u is d e close) =
    start_goes t (ts ++ (us ++ u ∷ [])) is ∙ body_taken ts us ss xs u d close [] (scripts_taken us xs e [] ss [] (steps_some ts ss d))

pub one_whole : (ts : Tokens) (x y : Script) → DerivesScript ts x → DerivesScript ts y → x ≡ y
one_whole ts x y d e = let f = whole_taken ts x d in let g = whole_taken ts y e in cc

-- ---- what begins a step, or a script

abbrev pub Runs : State → Tokens → Type 0
Runs s ts = (r : State) × (run s ts ≡ Some r)

step_runs : (ts : Tokens) → BeginsStep ts → (outer : List OpenTree) (zs : List Step) → Runs (stepping outer zs) ts
step_runs _ BeginsStep.nothing outer zs = (_, refl)
step_runs _ (BeginsStep.opened t opened) outer zs = (_, open_goes outer (tree_of zs []) t [] opened)
step_runs _ (BeginsStep.axiom_word t u opened word) outer zs = (_, open_goes outer (tree_of zs []) t (u ∷ []) opened ∙ axiom_goes outer zs t.pos u [] word)
step_runs _ (BeginsStep.if_word t u opened word) outer zs = (_, open_goes outer (tree_of zs []) t (u ∷ []) opened ∙ if_goes outer zs t.pos u [] word)
step_runs _ (BeginsStep.consequent t u v opened word num) outer zs =
    (_, open_goes outer (tree_of zs []) t (u ∷ v ∷ []) opened ∙ if_goes outer zs t.pos u (v ∷ []) word ∙ number_goes outer (tree_of zs []) t.pos v [] num)
step_runs _ (BeginsStep.minus t u v opened word minus) outer zs =
    (_, open_goes outer (tree_of zs []) t (u ∷ v ∷ []) opened ∙ if_goes outer zs t.pos u (v ∷ []) word ∙ minus_goes outer (tree_of zs []) t.pos v [] minus)
step_runs _ (BeginsStep.antecedent t u v w opened word minus num) outer zs = (
  _,
  open_goes outer (tree_of zs []) t (u ∷ v ∷ w ∷ []) opened ∙ if_goes outer zs t.pos u (v ∷ w ∷ []) word ∙ minus_goes outer (tree_of zs []) t.pos v (w ∷ []) minus
      ∙ negated_goes outer (tree_of zs []) t.pos w [] num,
)
step_runs _ (BeginsStep.closed ts s d) outer zs = (_, step_taken ts s d outer zs)

-- nothing, or a parenthesis first
data OpenOrNothing : Tokens → Type 0 where
  nothing : OpenOrNothing []
  opened : (t : Lexeme) (ts : Tokens) → Is sort.Open t → OpenOrNothing (t ∷ ts)

step_opens : (ts : Tokens) → BeginsStep ts → OpenOrNothing ts
step_opens _ BeginsStep.nothing = OpenOrNothing.nothing
step_opens _ (BeginsStep.opened t is) = OpenOrNothing.opened t _ is
step_opens _ (BeginsStep.axiom_word t u is word) = OpenOrNothing.opened t _ is
step_opens _ (BeginsStep.if_word t u is word) = OpenOrNothing.opened t _ is
step_opens _ (BeginsStep.consequent t u v is word num) = OpenOrNothing.opened t _ is
step_opens _ (BeginsStep.minus t u v is word minus) = OpenOrNothing.opened t _ is
step_opens _ (BeginsStep.antecedent t u v w is word minus num) = OpenOrNothing.opened t _ is
step_opens _ (BeginsStep.closed ts s d) = let f = step_open ts s d in subst OpenOrNothing (sym f.2) (OpenOrNothing.opened f.0 f.1 f.3)

first_opens : (ts us : Tokens) → FirstOpen ts → OpenOrNothing (ts ++ us)
first_opens ts us f = subst (λ z. OpenOrNothing (z ++ us)) (sym f.2) (OpenOrNothing.opened f.0 (f.1 ++ us) f.3)

-- after the parenthesis of a new tree
new_runs : (outer : List OpenTree) (tree : OpenTree) (at : Pos) (ts : Tokens) → OpenOrNothing ts → HasStep tree.steps → Runs (stepping (outer ++ tree ∷ []) []) ts → Runs (inside outer tree (prefix.Opened at)) ts
new_runs outer tree at _ OpenOrNothing.nothing h r = (_, refl)
new_runs outer tree at _ (OpenOrNothing.opened t ts is) h r = (r.0, new_tree outer tree at (t ∷ ts) (t, ts, refl, is) h ∙ r.1)

-- first a parenthesis
opened_runs : (outer : List OpenTree) (zs : List Step) (ys : List Script) (t : Lexeme) (ts : Tokens) → Is sort.Open t → HasStep zs → OpenOrNothing ts
    → ((outer : List OpenTree) → Runs (stepping outer []) ts) → Runs (going outer zs ys) (t ∷ ts)
opened_runs outer zs ys t ts is h o f =
    let r = new_runs outer (tree_of zs ys) t.pos ts o h (f (outer ++ tree_of zs ys ∷ [])) in
    (r.0, open_goes outer (tree_of zs ys) t ts is ∙ r.1)

then_runs : (s r : State) (ts us : Tokens) → run s ts ≡ Some r → Runs r us → Runs s (ts ++ us)
then_runs s r ts us e f = (f.0, runs_on s r ts us e ∙ f.1)

-- steps, and what begins a further one
steps_runs : (ts us : Tokens) (ss : List Step) → DerivesSteps ts ss → BeginsStep us → (outer : List OpenTree) → Runs (stepping outer []) (ts ++ us)
steps_runs ts us ss d b outer = then_runs (stepping outer []) (stepping outer ss) ts us (steps_taken ts ss d outer []) (step_runs us b outer ss)

-- steps and trees, and what begins a further tree
trees_runs : (ts us vs : Tokens) (ss : List Step) (xs : List Script) → DerivesSteps ts ss → DerivesScripts us xs → (outer : List OpenTree) → Runs (going outer ss xs) vs → Runs (stepping outer []) (ts ++ (us ++ vs))
trees_runs ts us vs ss xs d e outer r =
    then_runs (stepping outer []) (stepping outer ss) ts (us ++ vs) (steps_taken ts ss d outer [])
    (then_runs (stepping outer ss) (going outer ss xs) us vs (scripts_taken us xs e outer ss [] (steps_some ts ss d)) r)

inner_runs : (ts : Tokens) → BeginsScript ts → (outer : List OpenTree) (zs : List Step) (ys : List Script) → HasStep zs → Runs (going outer zs ys) ts
inner_runs _ BeginsScript.nothing outer zs ys h = (_, refl)
inner_runs _ (BeginsScript.first ts t is b) outer zs ys h = opened_runs outer zs ys t ts is h (step_opens ts b) (λ o. step_runs ts b o [])
inner_runs _ (BeginsScript.step ts us ss t is d b) outer zs ys h = opened_runs outer zs ys t (ts ++ us) is h (first_opens ts us (steps_open ts ss d)) (λ o. steps_runs ts us ss d b o)
inner_runs _ (BeginsScript.tree ts us vs ss xs t is d e b) outer zs ys h =
    opened_runs outer zs ys t (ts ++ (us ++ vs)) is h (first_opens ts (us ++ vs) (steps_open ts ss d)) (λ o. trees_runs ts us vs ss xs d e o (inner_runs vs b o ss xs (steps_some ts ss d)))
inner_runs _ (BeginsScript.closed ts x d) outer zs ys h = (_, script_taken ts x d outer zs ys h)

start_runs : (t : Lexeme) (ts : Tokens) → Is sort.Open t → Runs (stepping [] []) ts → Runs state.Start (t ∷ ts)
start_runs t ts is r = (r.0, start_goes t ts is ∙ r.1)

-- what begins a script is taken
pub begins_runs : (ts : Tokens) → BeginsScript ts → Runs state.Start ts
begins_runs _ BeginsScript.nothing = (_, refl)
begins_runs _ (BeginsScript.first ts t is b) = start_runs t ts is (step_runs ts b [] [])
begins_runs _ (BeginsScript.step ts us ss t is d b) = start_runs t (ts ++ us) is (steps_runs ts us ss d b [])
begins_runs _ (BeginsScript.tree ts us vs ss xs t is d e b) = start_runs t (ts ++ (us ++ vs)) is (trees_runs ts us vs ss xs d e [] (inner_runs vs b [] ss xs (steps_some ts ss d)))
begins_runs _ (BeginsScript.closed ts x d) = (_, whole_taken ts x d)
