-- Reading tokens one by one, however deep they nest.
use Rattle.std.proofs.Common.{◌≡◌, ◌∙◌, pos, List, [], ◌∷◌, ◌++◌, Option, Some, None, refl, ap}
use Rattle.pvs_base.specs.declared.place.Pos.{Pos}
use Rattle.pvs_script.specs.declared.lexeme.Lexeme.{Lexeme}
use Rattle.pvs_script.specs.declared.lexeme.Sort.TheVariants as sort
use Rattle.pvs_script.specs.declared.tree.Rule.TheVariants as rule
use Rattle.pvs_script.specs.declared.tree.Step.{Step}
use Rattle.pvs_script.specs.declared.state.State.{State}
use Rattle.pvs_script.specs.declared.state.State.TheVariants as state
use Rattle.pvs_script.specs.declared.state.OpenTree.{OpenTree}
use Rattle.pvs_script.specs.declared.state.Prefix.TheVariants as prefix
use Rattle.pvs_script.specs.Grammar.{Is, antecedent_number}
use Rattle.pvs_script.specs.code.States.{tree_of, inside, step_of, with_step, script_of, state_after, closed, in_tree, after_whole, after_open, after_if, after_minus, after_step, first_state, next_state}

abbrev pub Tokens : Type 0
Tokens = List Lexeme

abbrev pub bind : Option State → (State → Option State) → Option State
bind None f = None
bind (Some s) f = f s

abbrev pub run : State → Tokens → Option State
run s [] = Some s
run s (t ∷ ts) = bind (next_state s t) (λ r. run r ts)

run_bind : (o : Option State) (ts us : Tokens) → ((r : State) → run r (ts ++ us) ≡ bind (run r ts) (λ r. run r us)) → bind o (λ r. run r (ts ++ us)) ≡ bind (bind o (λ r. run r ts)) (λ r. run r us)
run_bind None ts us f = refl
run_bind (Some s) ts us f = f s

pub run-append : (s : State) (ts us : Tokens) → run s (ts ++ us) ≡ bind (run s ts) (λ r. run r us)
run-append s [] us = refl
run-append s (t ∷ ts) us = run_bind (next_state s t) ts us (λ r. run-append r ts us)

-- first some tokens, then the others
pub runs_on : (s r : State) (ts us : Tokens) → run s ts ≡ Some r → run s (ts ++ us) ≡ run r us
runs_on s r ts us e = run-append s ts us ∙ ap (λ o. bind o (λ r. run r us)) e

-- two states that are one
pub some_same : (s r : State) → Some s ≡ Some r → s ≡ r
some_same s r e = cc

-- a token, and those after it
pub bound : (o : Option State) (ts : Tokens) (r : State) → bind o (λ z. run z ts) ≡ Some r → (s : State) × (o ≡ Some s) × (run s ts ≡ Some r)
bound None ts r e = cc
bound (Some s) ts r e = (s, refl, e)

-- ---- one token

pub start_goes : (t : Lexeme) (ts : Tokens) → Is sort.Open t → run state.Start (t ∷ ts) ≡ run (inside [] (tree_of [] []) prefix.Nothing) ts
start_goes t ts is = ap (λ c. bind (first_state c) (λ r. run r ts)) is

pub open_goes : (outer : List OpenTree) (tree : OpenTree) (t : Lexeme) (ts : Tokens) → Is sort.Open t → run (inside outer tree prefix.Nothing) (t ∷ ts) ≡ run (inside outer tree (prefix.Opened t.pos)) ts
open_goes outer tree t ts is = ap (λ c. bind (after_whole t outer tree c) (λ r. run r ts)) is

pub axiom_goes : (outer : List OpenTree) (ss : List Step) (at : Pos) (t : Lexeme) (ts : Tokens) → Is sort.Axiom t
    → run (inside outer (tree_of ss []) (prefix.Opened at)) (t ∷ ts) ≡ run (inside outer (tree_of ss []) (prefix.Step (step_of rule.Axiom at))) ts
axiom_goes outer ss at t ts is = ap (λ c. bind (after_open t outer (tree_of ss []) at c) (λ r. run r ts)) is

pub if_goes : (outer : List OpenTree) (ss : List Step) (at : Pos) (t : Lexeme) (ts : Tokens) → Is sort.If t
    → run (inside outer (tree_of ss []) (prefix.Opened at)) (t ∷ ts) ≡ run (inside outer (tree_of ss []) (prefix.If at)) ts
if_goes outer ss at t ts is = ap (λ c. bind (after_open t outer (tree_of ss []) at c) (λ r. run r ts)) is

pub number_goes : (outer : List OpenTree) (tree : OpenTree) (at : Pos) (t : Lexeme) (ts : Tokens) → Is sort.Number t
    → run (inside outer tree (prefix.If at)) (t ∷ ts) ≡ run (inside outer tree (prefix.Step (step_of (rule.If (pos t.number)) at))) ts
number_goes outer tree at t ts is = ap (λ c. bind (after_if t outer tree at c) (λ r. run r ts)) is

pub minus_goes : (outer : List OpenTree) (tree : OpenTree) (at : Pos) (t : Lexeme) (ts : Tokens) → Is sort.Minus t
    → run (inside outer tree (prefix.If at)) (t ∷ ts) ≡ run (inside outer tree (prefix.Minus at)) ts
minus_goes outer tree at t ts is = ap (λ c. bind (after_if t outer tree at c) (λ r. run r ts)) is

pub negated_goes : (outer : List OpenTree) (tree : OpenTree) (at : Pos) (t : Lexeme) (ts : Tokens) → Is sort.Number t
    → run (inside outer tree (prefix.Minus at)) (t ∷ ts) ≡ run (inside outer tree (prefix.Step (step_of (rule.If (antecedent_number t.number)) at))) ts
negated_goes outer tree at t ts is = ap (λ c. bind (after_minus t outer tree at c) (λ r. run r ts)) is

pub step_goes : (outer : List OpenTree) (tree : OpenTree) (s : Step) (t : Lexeme) (ts : Tokens) → Is sort.Close t
    → run (inside outer tree (prefix.Step s)) (t ∷ ts) ≡ run (inside outer (with_step tree s) prefix.Nothing) ts
step_goes outer tree s t ts is = ap (λ c. bind (after_step outer tree s c) (λ r. run r ts)) is

-- ---- the ends of trees, and trees after steps

abbrev pub HasStep : List Step → Type 0
HasStep [] = ⊥
HasStep (s ∷ ss) = Unit {0}

closed_some : (outer : List OpenTree) (tree : OpenTree) (ss : List Step) → HasStep ss → closed outer tree ss ≡ Some (state_after outer (script_of tree))
closed_some outer tree [] h = absurd h
closed_some outer tree (s ∷ ss) h = refl

pub close_goes : (outer : List OpenTree) (tree : OpenTree) (t : Lexeme) → Is sort.Close t → HasStep tree.steps → run (inside outer tree prefix.Nothing) (t ∷ []) ≡ Some (state_after outer (script_of tree))
close_goes outer tree t is h = ap (λ c. bind (after_whole t outer tree c) (λ r. Some r)) is ∙ ap (λ o. bind o (λ r. Some r)) (closed_some outer tree tree.steps h)

in_tree_some : (outer : List OpenTree) (tree : OpenTree) (at : Pos) (ss : List Step) → HasStep ss → in_tree outer tree at ss ≡ Some (inside (outer ++ tree ∷ []) (tree_of [] []) (prefix.Opened at))
in_tree_some outer tree at [] h = absurd h
in_tree_some outer tree at (s ∷ ss) h = refl

-- a parenthesis after one is as one in a new tree
pub enters : (outer : List OpenTree) (tree : OpenTree) (at : Pos) (t : Lexeme) (ts : Tokens) → Is sort.Open t → HasStep tree.steps
    → run (inside outer tree (prefix.Opened at)) (t ∷ ts) ≡ run (inside (outer ++ tree ∷ []) (tree_of [] []) (prefix.Opened t.pos)) ts
enters outer tree at t ts is h = ap (λ c. bind (after_open t outer tree at c) (λ r. run r ts)) is ∙ ap (λ o. bind o (λ r. run r ts)) (in_tree_some outer tree t.pos tree.steps h)
