-- Reading tokens one by one, however deep they nest.
use Rattle.std.proofs.Common.{◌≡◌, ◌∙◌, ℕ, pos, List, [], ◌∷◌, ◌++◌, Option, Some, None, refl, ap}
use Rattle.pvs_base.specs.declared.place.Pos.{Pos}
use Rattle.pvs_syntax.specs.declared.expression.Expr.{Expr}
use Rattle.pvs_scripts.specs.declared.lexeme.LexemeKind.TheVariants as kind
use Rattle.pvs_scripts.specs.declared.lexeme.Terminal.{Terminal}
use Rattle.pvs_scripts.specs.declared.tree.Argument.TheVariants as argument
use Rattle.pvs_scripts.specs.declared.tree.StepExpr.{StepExpr}
use Rattle.pvs_scripts.specs.declared.state.State.{State}
use Rattle.pvs_scripts.specs.declared.state.State.TheVariants as state
use Rattle.pvs_scripts.specs.declared.state.OpenTree.{OpenTree}
use Rattle.pvs_scripts.specs.declared.state.Prefix.TheVariants as prefix
use Rattle.pvs_scripts.specs.Grammar.{Is, place, antecedent_number}
use Rattle.pvs_scripts.specs.code.States.{tree_of, inside, step_of, with_argument, with_step, script_of, state_after, closed, in_tree, quoted, after_whole, after_open, after_argument, after_minus, first_state, next_state}

abbrev pub Tokens : Type 0
Tokens = List Terminal

abbrev pub bind : Option State → (State → Option State) → Option State
bind None f = None
bind (Some s) f = f s

abbrev pub run : State → Tokens → Option State
run s [] = Some s
run s (t ∷ ts) = bind (next_state s t) (λ r. run r ts)

run_bind : (o : Option State) (ts us : Tokens) → ((r : State) → run r (ts ++ us) ≡ bind (run r ts) (λ r. run r us)) → bind o (λ r. run r (ts ++ us)) ≡ bind (bind o (λ r. run r ts)) (λ r. run r us)
run_bind None ts us f = refl
run_bind (Some s) ts us f = f s

pub run-append : (s : State) (ts us : Tokens) → run s (ts ++ us) ≡ bind (run s ts) (λ r. run r us)
run-append s [] us = refl
run-append s (t ∷ ts) us = run_bind (next_state s t) ts us (λ r. run-append r ts us)

-- first some tokens, then the others
pub runs_on : (s r : State) (ts us : Tokens) → run s ts ≡ Some r → run s (ts ++ us) ≡ run r us
runs_on s r ts us e = run-append s ts us ∙ ap (λ o. bind o (λ r. run r us)) e

-- two states that are one
pub some_same : (s r : State) → Some s ≡ Some r → s ≡ r
some_same s r e = cc

-- a token, and those after it
pub bound : (o : Option State) (ts : Tokens) (r : State) → bind o (λ z. run z ts) ≡ Some r → (s : State) × (o ≡ Some s) × (run s ts ≡ Some r)
bound None ts r e = cc
bound (Some s) ts r e = (s, refl, e)

-- some tokens, and those after them
pub split : (s r : State) (ts us : Tokens) → run s (ts ++ us) ≡ Some r → (q : State) × (run s ts ≡ Some q) × (run q us ≡ Some r)
split s r [] us e = (s, refl, e)
split s r (t ∷ ts) us e =
    let b = bound (next_state s t) (ts ++ us) r e in
    let c = split b.0 r ts us b.2 in
    (c.0, ap (λ o. bind o (λ z. run z ts)) b.1 ∙ c.1, c.2)

-- ---- one token

pub start_goes : (t : Terminal) (ts : Tokens) → Is kind.Open t → run state.Start (t ∷ ts) ≡ run (inside [] (tree_of [] []) prefix.Nothing) ts
start_goes t ts is = ap (λ c. bind (first_state c) (λ r. run r ts)) is

pub open_goes : (outer : List OpenTree) (tree : OpenTree) (t : Terminal) (ts : Tokens) → Is kind.Open t
    → run (inside outer tree prefix.Nothing) (t ∷ ts) ≡ run (inside outer tree (prefix.Opened (place t))) ts
open_goes outer tree t ts is = ap (λ c. bind (after_whole t outer tree c) (λ r. run r ts)) is

pub word_goes : (outer : List OpenTree) (ss : List StepExpr) (at : Pos) (t : Terminal) (ts : Tokens) → Is kind.Word t
    → run (inside outer (tree_of ss []) (prefix.Opened at)) (t ∷ ts) ≡ run (inside outer (tree_of ss []) (prefix.Step (step_of t.lexeme.word [] at))) ts
word_goes outer ss at t ts is = ap (λ c. bind (after_open t outer (tree_of ss []) at c) (λ r. run r ts)) is

pub number_goes : (outer : List OpenTree) (tree : OpenTree) (s : StepExpr) (t : Terminal) (n : ℕ) (ts : Tokens) → Is (kind.Number n) t
    → run (inside outer tree (prefix.Step s)) (t ∷ ts) ≡ run (inside outer tree (prefix.Step (with_argument s (argument.Signed (pos n) (place t))))) ts
number_goes outer tree s t n ts is = ap (λ c. bind (after_argument t outer tree s c) (λ r. run r ts)) is

pub minus_goes : (outer : List OpenTree) (tree : OpenTree) (s : StepExpr) (t : Terminal) (ts : Tokens) → Is kind.Minus t
    → run (inside outer tree (prefix.Step s)) (t ∷ ts) ≡ run (inside outer tree (prefix.Minus s (place t))) ts
minus_goes outer tree s t ts is = ap (λ c. bind (after_argument t outer tree s c) (λ r. run r ts)) is

pub negated_goes : (outer : List OpenTree) (tree : OpenTree) (s : StepExpr) (at : Pos) (t : Terminal) (n : ℕ) (ts : Tokens) → Is (kind.Number n) t
    → run (inside outer tree (prefix.Minus s at)) (t ∷ ts) ≡ run (inside outer tree (prefix.Step (with_argument s (argument.Signed (antecedent_number n) at)))) ts
negated_goes outer tree s at t n ts is = ap (λ c. bind (after_minus outer tree s at c) (λ r. run r ts)) is

pub quoted_goes : (outer : List OpenTree) (tree : OpenTree) (s : StepExpr) (t : Terminal) (x : Expr) (ts : Tokens) → Is kind.Quoted t → t.quote ≡ Some x
    → run (inside outer tree (prefix.Step s)) (t ∷ ts) ≡ run (inside outer tree (prefix.Step (with_argument s (argument.QuotedExpr x (place t))))) ts
quoted_goes outer tree s t x ts is held = ap (λ c. bind (after_argument t outer tree s c) (λ r. run r ts)) is ∙ ap (λ q. bind (quoted t outer tree s q) (λ r. run r ts)) held

pub plain_goes : (outer : List OpenTree) (tree : OpenTree) (s : StepExpr) (t : Terminal) (ts : Tokens) → Is kind.Word t
    → run (inside outer tree (prefix.Step s)) (t ∷ ts) ≡ run (inside outer tree (prefix.Step (with_argument s (argument.Plain t.lexeme.word)))) ts
plain_goes outer tree s t ts is = ap (λ c. bind (after_argument t outer tree s c) (λ r. run r ts)) is

pub step_goes : (outer : List OpenTree) (tree : OpenTree) (s : StepExpr) (t : Terminal) (ts : Tokens) → Is kind.Close t
    → run (inside outer tree (prefix.Step s)) (t ∷ ts) ≡ run (inside outer (with_step tree s) prefix.Nothing) ts
step_goes outer tree s t ts is = ap (λ c. bind (after_argument t outer tree s c) (λ r. run r ts)) is

-- ---- the ends of trees, and trees after steps

abbrev pub HasStep : List StepExpr → Type 0
HasStep [] = ⊥
HasStep (s ∷ ss) = Unit {0}

closed_some : (outer : List OpenTree) (tree : OpenTree) (ss : List StepExpr) → HasStep ss → closed outer tree ss ≡ Some (state_after outer (script_of tree))
closed_some outer tree [] h = absurd h
closed_some outer tree (s ∷ ss) h = refl

pub close_goes : (outer : List OpenTree) (tree : OpenTree) (t : Terminal) → Is kind.Close t → HasStep tree.steps → run (inside outer tree prefix.Nothing) (t ∷ []) ≡ Some (state_after outer (script_of tree))
close_goes outer tree t is h = ap (λ c. bind (after_whole t outer tree c) (λ r. Some r)) is ∙ ap (λ o. bind o (λ r. Some r)) (closed_some outer tree tree.steps h)

in_tree_some : (outer : List OpenTree) (tree : OpenTree) (at : Pos) (ss : List StepExpr) → HasStep ss → in_tree outer tree at ss ≡ Some (inside (outer ++ tree ∷ []) (tree_of [] []) (prefix.Opened at))
in_tree_some outer tree at [] h = absurd h
in_tree_some outer tree at (s ∷ ss) h = refl

-- a parenthesis after one is as one in a new tree
pub enters : (outer : List OpenTree) (tree : OpenTree) (at : Pos) (t : Terminal) (ts : Tokens) → Is kind.Open t → HasStep tree.steps
    → run (inside outer tree (prefix.Opened at)) (t ∷ ts) ≡ run (inside (outer ++ tree ∷ []) (tree_of [] []) (prefix.Opened (place t))) ts
enters outer tree at t ts is h = ap (λ c. bind (after_open t outer tree at c) (λ r. run r ts)) is ∙ ap (λ o. bind o (λ r. run r ts)) (in_tree_some outer tree (place t) tree.steps h)
