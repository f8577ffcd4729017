-- What the tokens that are read so far are.
use Rattle.std.proofs.Common.{◌≡◌, ◌∙◌, pos, List, [], ◌∷◌, ◌++◌, Option, Some, None, refl, sym, ap, subst, append_assoc, append-nil}
use Rattle.pvs_syntax.specs.declared.expression.Expr.{Expr}
use Rattle.pvs_scripts.specs.declared.lexeme.LexemeKind.{LexemeKind}
use Rattle.pvs_scripts.specs.declared.lexeme.LexemeKind.TheVariants as kind
use Rattle.pvs_scripts.specs.declared.lexeme.Terminal.{Terminal}
use Rattle.pvs_scripts.specs.declared.tree.Argument.{Argument}
use Rattle.pvs_scripts.specs.declared.tree.Argument.TheVariants as argument
use Rattle.pvs_scripts.specs.declared.tree.ScriptTree.{ScriptTree}
use Rattle.pvs_scripts.specs.declared.tree.StepExpr.{StepExpr}
use Rattle.pvs_scripts.specs.declared.state.State.{State}
use Rattle.pvs_scripts.specs.declared.state.State.TheVariants as state
use Rattle.pvs_scripts.specs.declared.state.OpenTree.{OpenTree}
use Rattle.pvs_scripts.specs.declared.state.Prefix.{Prefix}
use Rattle.pvs_scripts.specs.declared.state.Prefix.TheVariants as prefix
use Rattle.pvs_scripts.specs.Grammar.{Is, place, DerivesArgument, DerivesArguments, DerivesStep, DerivesSteps, DerivesScript, DerivesScripts, antecedent_number}
use Rattle.pvs_scripts.specs.code.States.{tree_of, inside, step_of, with_step, script_of, state_after, state_after_in, closed, in_step, in_tree, quoted, after_whole, after_open, after_argument, after_minus, first_state, next_state}
use Rattle.pvs_scripts.proofs.Stacks.{last_push}
use Rattle.pvs_scripts.proofs.Runs.{Tokens, run, bound, some_same}

-- the tokens of the trees that are open around the innermost one, each up to the tree inside it
pub data Around : Tokens → List OpenTree → Type 0 where
  none : Around [] []
  more : (ts us vs : Tokens) (outer : List OpenTree) (ss : List StepExpr) (xs : List ScriptTree) (t : Terminal) → Around ts outer → Is kind.Open t → DerivesSteps us ss → DerivesScripts vs xs
      → Around (ts ++ (t ∷ (us ++ vs))) (outer ++ tree_of ss xs ∷ [])

-- the tokens of a tree that is open
pub data Opened : Tokens → OpenTree → Type 0 where
  fresh : (t : Terminal) → Is kind.Open t → Opened (t ∷ []) (tree_of [] [])
  full : (ts us : Tokens) (ss : List StepExpr) (xs : List ScriptTree) (t : Terminal) → Is kind.Open t → DerivesSteps ts ss → DerivesScripts us xs → Opened (t ∷ (ts ++ us)) (tree_of ss xs)

-- likewise, before all trees inside it
pub data Stepping : Tokens → List StepExpr → Type 0 where
  fresh : (t : Terminal) → Is kind.Open t → Stepping (t ∷ []) []
  full : (ts : Tokens) (ss : List StepExpr) (t : Terminal) → Is kind.Open t → DerivesSteps ts ss → Stepping (t ∷ ts) ss

-- the tokens of a step that has its first word
pub data InStep : Tokens → Prefix → Type 0 where
  arguments : (t u : Terminal) (ts : Tokens) (xs : List Argument) → Is kind.Open t → Is kind.Word u → DerivesArguments ts xs
      → InStep (t ∷ u ∷ ts) (prefix.Step (step_of u.lexeme.word xs (place t)))
  minus : (t u v : Terminal) (ts : Tokens) (xs : List Argument) → Is kind.Open t → Is kind.Word u → DerivesArguments ts xs → Is kind.Minus v
      → InStep (t ∷ u ∷ (ts ++ v ∷ [])) (prefix.Minus (step_of u.lexeme.word xs (place t)) (place v))

-- the tokens that lead to a state
pub data Means : State → Tokens → Type 0 where
  start : Means state.Start []
  whole : (ts : Tokens) (x : ScriptTree) → DerivesScript ts x → Means (state.Whole x) ts
  nothing : (ts us : Tokens) (outer : List OpenTree) (tree : OpenTree) → Around ts outer → Opened us tree → Means (inside outer tree prefix.Nothing) (ts ++ us)
  parenthesis : (ts us : Tokens) (outer : List OpenTree) (tree : OpenTree) (t : Terminal) → Around ts outer → Opened us tree → Is kind.Open t
      → Means (inside outer tree (prefix.Opened (place t))) (ts ++ (us ++ t ∷ []))
  middle : (ts us vs : Tokens) (outer : List OpenTree) (ss : List StepExpr) (p : Prefix) → Around ts outer → Stepping us ss → InStep vs p → Means (inside outer (tree_of ss []) p) (ts ++ (us ++ vs))

-- ---- what the next token leads to

start_means : (t : Terminal) (c : LexemeKind) → t.lexeme.kind ≡ c → (r : State) → first_state c ≡ Some r → Means r (t ∷ [])
start_means t kind.Open is r e = subst (λ z. Means z (t ∷ [])) (some_same _ r e) (Means.nothing [] (t ∷ []) [] (tree_of [] []) Around.none (Opened.fresh t is))
start_means t _ is r e = cc

-- a script that ends in the trees around it
ended_means : (ts us : Tokens) (outer : List OpenTree) (x : ScriptTree) → Around ts outer → DerivesScript us x → Means (state_after outer x) (ts ++ us)
ended_means _ us _ x Around.none d = Means.whole us x d
ended_means _ us _ x (Around.more ts vs ws outer ss xs t a is e f) d =
    let shape : (ts ++ (t ∷ (vs ++ ws))) ++ us ≡ ts ++ (t ∷ (vs ++ (ws ++ us))) = append_assoc ts (t ∷ (vs ++ ws)) us ∙ ap (λ z. ts ++ (t ∷ z)) (append_assoc vs ws us) in
    subst (λ z. Means z ((ts ++ (t ∷ (vs ++ ws))) ++ us)) (ap (state_after_in x) (sym (last_push outer (tree_of ss xs))))
    (subst (Means (inside outer (tree_of ss (xs ++ x ∷ [])) prefix.Nothing)) (sym shape)
    (Means.nothing ts (t ∷ (vs ++ (ws ++ us))) outer (tree_of ss (xs ++ x ∷ [])) a (Opened.full vs (ws ++ us) ss (xs ++ x ∷ []) t is e (DerivesScripts.more ws us xs x f d))))

closed_means : (ts us : Tokens) (outer : List OpenTree) (tree : OpenTree) (ss : List StepExpr) (u : Terminal) (r : State) → Around ts outer → Opened us tree → tree.steps ≡ ss → Is kind.Close u
    → closed outer tree ss ≡ Some r → Means r ((ts ++ us) ++ u ∷ [])
closed_means ts us outer tree [] u r a o same is e = cc
closed_means ts _ outer _ (s ∷ ss) u r a (Opened.fresh t opened) same is e = cc
closed_means ts _ outer _ (s ∷ ss) u r a (Opened.full vs ws zs xs t opened d f) same is e =
    let shape : (ts ++ (t ∷ (vs ++ ws))) ++ u ∷ [] ≡ ts ++ (t ∷ (vs ++ (ws ++ u ∷ []))) = append_assoc ts (t ∷ (vs ++ ws)) (u ∷ []) ∙ ap (λ z. ts ++ (t ∷ z)) (append_assoc vs ws (u ∷ [])) in
    subst (λ z. Means z ((ts ++ (t ∷ (vs ++ ws))) ++ u ∷ [])) (some_same (state_after outer (script_of (tree_of zs xs))) r e)
    (subst (Means (state_after outer (script_of (tree_of zs xs)))) (sym shape)
    (ended_means ts (t ∷ (vs ++ (ws ++ u ∷ []))) outer (script_of (tree_of zs xs)) a (DerivesScript.script vs ws zs xs t u opened d f is)))

nothing_means : (ts us : Tokens) (outer : List OpenTree) (tree : OpenTree) (t : Terminal) (c : LexemeKind) → t.lexeme.kind ≡ c → (r : State) → Around ts outer → Opened us tree
    → after_whole t outer tree c ≡ Some r → Means r ((ts ++ us) ++ t ∷ [])
nothing_means ts us outer tree t kind.Open is r a o e =
    subst (λ z. Means z ((ts ++ us) ++ t ∷ [])) (some_same _ r e)
    (subst (Means (inside outer tree (prefix.Opened (place t)))) (sym (append_assoc ts us (t ∷ []))) (Means.parenthesis ts us outer tree t a o is))
nothing_means ts us outer tree t kind.Close is r a o e = closed_means ts us outer tree tree.steps t r a o refl is e
nothing_means ts us outer tree t _ is r a o e = cc

-- no trees: no tokens of trees
last_tree : (xs : List ScriptTree) (x : ScriptTree) → (xs ++ x ∷ []) ≡ [] → ⊥
last_tree [] x e = cc
last_tree (y ∷ xs) x e = cc

scripts_none : (ts : Tokens) (xs : List ScriptTree) → DerivesScripts ts xs → xs ≡ [] → ts ≡ []
scripts_none _ _ DerivesScripts.none e = refl
scripts_none _ _ (DerivesScripts.more ts us xs x d f) e = absurd (last_tree xs x e)

stepping_of : (us : Tokens) (tree : OpenTree) → Opened us tree → tree.trees ≡ [] → Stepping us tree.steps
stepping_of _ _ (Opened.fresh t is) e = Stepping.fresh t is
stepping_of _ _ (Opened.full ts us ss xs t is d f) e =
    subst (λ z. Stepping (t ∷ z) ss) (sym (append-nil ts) ∙ ap (λ z. ts ++ z) (sym (scripts_none us xs f e))) (Stepping.full ts ss t is d)

-- a step with its first word
word_means : (ts us : Tokens) (outer : List OpenTree) (tree : OpenTree) (t u : Terminal) (p : Prefix) (xs : List ScriptTree) (r : State) → Around ts outer → Opened us tree → InStep (t ∷ u ∷ []) p
    → tree.trees ≡ xs → in_step outer tree p xs ≡ Some r → Means r ((ts ++ (us ++ t ∷ [])) ++ u ∷ [])
word_means ts us outer tree t u p (x ∷ xs) r a o i same e = cc
word_means ts us outer tree t u p [] r a o i same e =
    let shape : (ts ++ (us ++ t ∷ [])) ++ u ∷ [] ≡ ts ++ (us ++ (t ∷ u ∷ [])) = append_assoc ts (us ++ t ∷ []) (u ∷ []) ∙ ap (λ z. ts ++ z) (append_assoc us (t ∷ []) (u ∷ [])) in
    let made : inside outer (tree_of tree.steps []) p ≡ r = ap (λ z. inside outer (tree_of tree.steps z) p) (sym same) ∙ some_same _ r e in
    subst (λ z. Means z ((ts ++ (us ++ t ∷ [])) ++ u ∷ [])) made
    (subst (Means (inside outer (tree_of tree.steps []) p)) (sym shape)
    (Means.middle ts us (t ∷ u ∷ []) outer tree.steps p a (stepping_of us tree o same) i))

-- a tree inside the innermost one
inner_means : (ts us : Tokens) (outer : List OpenTree) (tree : OpenTree) (t u : Terminal) (ss : List StepExpr) (r : State) → Around ts outer → Opened us tree → Is kind.Open t → Is kind.Open u → tree.steps ≡ ss
    → in_tree outer tree (place u) ss ≡ Some r → Means r ((ts ++ (us ++ t ∷ [])) ++ u ∷ [])
inner_means ts us outer tree t u [] r a o opened is same e = cc
inner_means ts _ outer _ t u (s ∷ ss) r a (Opened.fresh w first) opened is same e = cc
inner_means ts _ outer _ t u (s ∷ ss) r a (Opened.full vs ws zs xs w first d f) opened is same e =
    let us = w ∷ (vs ++ ws) in
    let shape : (ts ++ (us ++ t ∷ [])) ++ u ∷ [] ≡ (ts ++ us) ++ ((t ∷ []) ++ u ∷ []) =
    ap (λ z. z ++ u ∷ []) (sym (append_assoc ts us (t ∷ []))) ∙ append_assoc (ts ++ us) (t ∷ []) (u ∷ []) in
    subst (λ z. Means z ((ts ++ (us ++ t ∷ [])) ++ u ∷ [])) (some_same _ r e)
    (subst (Means (inside (outer ++ tree_of zs xs ∷ []) (tree_of [] []) (prefix.Opened (place u)))) (sym shape)
    (Means.parenthesis (ts ++ us) (t ∷ []) (outer ++ tree_of zs xs ∷ []) (tree_of [] []) u (Around.more ts vs ws outer zs xs w a first d f) (Opened.fresh t opened) is))

opened_means : (ts us : Tokens) (outer : List OpenTree) (tree : OpenTree) (t u : Terminal) (c : LexemeKind) → u.lexeme.kind ≡ c → (r : State) → Around ts outer → Opened us tree → Is kind.Open t
    → after_open u outer tree (place t) c ≡ Some r → Means r ((ts ++ (us ++ t ∷ [])) ++ u ∷ [])
opened_means ts us outer tree t u kind.Word is r a o opened e =
    word_means ts us outer tree t u (prefix.Step (step_of u.lexeme.word [] (place t))) tree.trees r a o (InStep.arguments t u [] [] opened is DerivesArguments.none) refl e
opened_means ts us outer tree t u kind.Open is r a o opened e = inner_means ts us outer tree t u tree.steps r a o opened is refl e
opened_means ts us outer tree t u _ is r a o opened e = cc

-- one more token in a step
more_means : (ts us vs ws : Tokens) (outer : List OpenTree) (ss : List StepExpr) (t : Terminal) (p : Prefix) (r : State) → Around ts outer → Stepping us ss → InStep ws p → ws ≡ vs ++ t ∷ []
    → Some (inside outer (tree_of ss []) p) ≡ Some r → Means r ((ts ++ (us ++ vs)) ++ t ∷ [])
more_means ts us vs ws outer ss t p r a o i same e =
    let shape : (ts ++ (us ++ vs)) ++ t ∷ [] ≡ ts ++ (us ++ ws) = append_assoc ts (us ++ vs) (t ∷ []) ∙ ap (λ z. ts ++ z) (append_assoc us vs (t ∷ []) ∙ ap (λ z. us ++ z) (sym same)) in
    subst (λ z. Means z ((ts ++ (us ++ vs)) ++ t ∷ [])) (some_same _ r e)
    (subst (Means (inside outer (tree_of ss []) p)) (sym shape) (Means.middle ts us ws outer ss p a o i))

steps_push : (us vs : Tokens) (ss : List StepExpr) (s : StepExpr) → Stepping us ss → DerivesStep vs s → Opened (us ++ vs) (tree_of (ss ++ s ∷ []) [])
steps_push _ vs _ s (Stepping.fresh t is) d = subst (λ z. Opened (t ∷ z) (tree_of (s ∷ []) [])) (append-nil vs) (Opened.full vs [] (s ∷ []) [] t is (DerivesSteps.one vs s d) DerivesScripts.none)
steps_push _ vs _ s (Stepping.full ts ss t is e) d =
    subst (λ z. Opened (t ∷ z) (tree_of (ss ++ s ∷ []) [])) (append-nil (ts ++ vs))
    (Opened.full (ts ++ vs) [] (ss ++ s ∷ []) [] t is (DerivesSteps.more ts vs ss s e d) DerivesScripts.none)

-- the end of a step
end_means : (ts us vs : Tokens) (outer : List OpenTree) (ss : List StepExpr) (s : StepExpr) (t : Terminal) (r : State) → Around ts outer → Stepping us ss → DerivesStep (vs ++ t ∷ []) s
    → Some (inside outer (with_step (tree_of ss []) s) prefix.Nothing) ≡ Some r → Means r ((ts ++ (us ++ vs)) ++ t ∷ [])
end_means ts us vs outer ss s t r a o d e =
    let shape : (ts ++ (us ++ vs)) ++ t ∷ [] ≡ ts ++ (us ++ (vs ++ t ∷ [])) = append_assoc ts (us ++ vs) (t ∷ []) ∙ ap (λ z. ts ++ z) (append_assoc us vs (t ∷ [])) in
    subst (λ z. Means z ((ts ++ (us ++ vs)) ++ t ∷ [])) (some_same _ r e)
    (subst (Means (inside outer (with_step (tree_of ss []) s) prefix.Nothing)) (sym shape)
    (Means.nothing ts (us ++ (vs ++ t ∷ [])) outer (with_step (tree_of ss []) s) a (steps_push us (vs ++ t ∷ []) ss s o d)))

-- a further argument of one token
argument_means : (ts us vs : Tokens) (outer : List OpenTree) (ss : List StepExpr) (t u w : Terminal) (xs : List Argument) (x : Argument) (r : State) → Around ts outer → Stepping us ss → Is kind.Open t → Is kind.Word u
    → DerivesArguments vs xs → DerivesArgument (w ∷ []) x → Some (inside outer (tree_of ss []) (prefix.Step (step_of u.lexeme.word (xs ++ x ∷ []) (place t)))) ≡ Some r
    → Means r ((ts ++ (us ++ (t ∷ u ∷ vs))) ++ w ∷ [])
argument_means ts us vs outer ss t u w xs x r a o opened word d f e =
    more_means ts us (t ∷ u ∷ vs) (t ∷ u ∷ (vs ++ w ∷ [])) outer ss w (prefix.Step (step_of u.lexeme.word (xs ++ x ∷ []) (place t))) r a o
    (InStep.arguments t u (vs ++ w ∷ []) (xs ++ x ∷ []) opened word (DerivesArguments.more vs (w ∷ []) xs x d f)) refl e

quoted_means : (ts us vs : Tokens) (outer : List OpenTree) (ss : List StepExpr) (t u w : Terminal) (xs : List Argument) (q : Option Expr) → w.quote ≡ q → (r : State) → Around ts outer → Stepping us ss
    → Is kind.Open t → Is kind.Word u → DerivesArguments vs xs → Is kind.Quoted w → quoted w outer (tree_of ss []) (step_of u.lexeme.word xs (place t)) q ≡ Some r
    → Means r ((ts ++ (us ++ (t ∷ u ∷ vs))) ++ w ∷ [])
quoted_means ts us vs outer ss t u w xs (Some x) held r a o opened word d is e =
    argument_means ts us vs outer ss t u w xs (argument.QuotedExpr x (place w)) r a o opened word d (DerivesArgument.quoted w x is held) e
quoted_means ts us vs outer ss t u w xs None held r a o opened word d is e = cc

arguments_means : (ts us vs : Tokens) (outer : List OpenTree) (ss : List StepExpr) (t u w : Terminal) (xs : List Argument) (c : LexemeKind) → w.lexeme.kind ≡ c → (r : State) → Around ts outer → Stepping us ss
    → Is kind.Open t → Is kind.Word u → DerivesArguments vs xs → after_argument w outer (tree_of ss []) (step_of u.lexeme.word xs (place t)) c ≡ Some r
    → Means r ((ts ++ (us ++ (t ∷ u ∷ vs))) ++ w ∷ [])
arguments_means ts us vs outer ss t u w xs (kind.Number n) is r a o opened word d e =
    argument_means ts us vs outer ss t u w xs (argument.Signed (pos n) (place w)) r a o opened word d (DerivesArgument.consequent w n is) e
arguments_means ts us vs outer ss t u w xs kind.Minus is r a o opened word d e =
    more_means ts us (t ∷ u ∷ vs) (t ∷ u ∷ (vs ++ w ∷ [])) outer ss w (prefix.Minus (step_of u.lexeme.word xs (place t)) (place w)) r a o (InStep.minus t u w vs xs opened word d is) refl e
arguments_means ts us vs outer ss t u w xs kind.Quoted is r a o opened word d e = quoted_means ts us vs outer ss t u w xs w.quote refl r a o opened word d is e
arguments_means ts us vs outer ss t u w xs kind.Word is r a o opened word d e =
    argument_means ts us vs outer ss t u w xs (argument.Plain w.lexeme.word) r a o opened word d (DerivesArgument.word w is) e
arguments_means ts us vs outer ss t u w xs kind.Close is r a o opened word d e =
    end_means ts us (t ∷ u ∷ vs) outer ss (step_of u.lexeme.word xs (place t)) w r a o (DerivesStep.step t u w vs xs opened word d is) e
arguments_means ts us vs outer ss t u w xs kind.Open is r a o opened word d e = cc
arguments_means ts us vs outer ss t u w xs kind.Other is r a o opened word d e = cc

minus_means : (ts us vs : Tokens) (outer : List OpenTree) (ss : List StepExpr) (t u v w : Terminal) (xs : List Argument) (c : LexemeKind) → w.lexeme.kind ≡ c → (r : State) → Around ts outer → Stepping us ss
    → Is kind.Open t → Is kind.Word u → DerivesArguments vs xs → Is kind.Minus v → after_minus outer (tree_of ss []) (step_of u.lexeme.word xs (place t)) (place v) c ≡ Some r
    → Means r ((ts ++ (us ++ (t ∷ u ∷ (vs ++ v ∷ [])))) ++ w ∷ [])
minus_means ts us vs outer ss t u v w xs (kind.Number n) is r a o opened word d sign e =
    let same : t ∷ u ∷ (vs ++ v ∷ w ∷ []) ≡ (t ∷ u ∷ (vs ++ v ∷ [])) ++ w ∷ [] = ap (λ z. t ∷ u ∷ z) (sym (append_assoc vs (v ∷ []) (w ∷ []))) in
    let x = argument.Signed (antecedent_number n) (place v) in
    more_means ts us (t ∷ u ∷ (vs ++ v ∷ [])) (t ∷ u ∷ (vs ++ v ∷ w ∷ [])) outer ss w (prefix.Step (step_of u.lexeme.word (xs ++ x ∷ []) (place t))) r a o
    (InStep.arguments t u (vs ++ v ∷ w ∷ []) (xs ++ x ∷ []) opened word (DerivesArguments.more vs (v ∷ w ∷ []) xs x d (DerivesArgument.antecedent v w n sign is))) same e
minus_means ts us vs outer ss t u v w xs _ is r a o opened word d sign e = cc

step_means : (ts us vs : Tokens) (outer : List OpenTree) (ss : List StepExpr) (p : Prefix) (t : Terminal) (r : State) → Around ts outer → Stepping us ss → InStep vs p
    → next_state (inside outer (tree_of ss []) p) t ≡ Some r → Means r ((ts ++ (us ++ vs)) ++ t ∷ [])
step_means ts us _ outer ss _ w r a o (InStep.arguments t u vs xs opened word d) e = arguments_means ts us vs outer ss t u w xs w.lexeme.kind refl r a o opened word d e
step_means ts us _ outer ss _ w r a o (InStep.minus t u v vs xs opened word d sign) e = minus_means ts us vs outer ss t u v w xs w.lexeme.kind refl r a o opened word d sign e

token_means : (s : State) (ts : Tokens) (t : Terminal) (r : State) → Means s ts → next_state s t ≡ Some r → Means r (ts ++ t ∷ [])
token_means _ _ t r Means.start e = start_means t t.lexeme.kind refl r e
token_means _ _ t r (Means.whole ts x d) e = cc
token_means _ _ t r (Means.nothing ts us outer tree a o) e = nothing_means ts us outer tree t t.lexeme.kind refl r a o e
token_means _ _ t r (Means.parenthesis ts us outer tree u a o opened) e = opened_means ts us outer tree u t t.lexeme.kind refl r a o opened e
token_means _ _ t r (Means.middle ts us vs outer ss p a o i) e = step_means ts us vs outer ss p t r a o i e

run_means : (us ts : Tokens) (s r : State) → Means s ts → run s us ≡ Some r → Means r (ts ++ us)
run_means [] ts s r m e = subst (Means r) (sym (append-nil ts)) (subst (λ z. Means z ts) (some_same s r e) m)
run_means (t ∷ us) ts s r m e =
    let b = bound (next_state s t) us r e in
    subst (Means r) (append_assoc ts (t ∷ []) us) (run_means us (ts ++ t ∷ []) b.0 r (token_means s ts t b.0 m b.1) b.2)

pub means : (ts : Tokens) (r : State) → run state.Start ts ≡ Some r → Means r ts
means ts r e = run_means ts [] state.Start r Means.start e

-- a whole script is in the grammar
abbrev pub Derived : State → Tokens → Type 0
Derived (state.Whole x) ts = DerivesScript ts x
Derived _ ts = Unit {0}

means_derived : (s : State) (ts : Tokens) → Means s ts → Derived s ts
means_derived _ _ Means.start = tt
means_derived _ _ (Means.whole ts x d) = d
means_derived _ _ (Means.nothing ts us outer tree a o) = tt
means_derived _ _ (Means.parenthesis ts us outer tree t a o is) = tt
means_derived _ _ (Means.middle ts us vs outer ss p a o i) = tt

pub whole_derived : (ts : Tokens) (x : ScriptTree) → run state.Start ts ≡ Some (state.Whole x) → DerivesScript ts x
whole_derived ts x e = means_derived (state.Whole x) ts (means ts (state.Whole x) e)
