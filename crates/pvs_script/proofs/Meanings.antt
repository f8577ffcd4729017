-- What the tokens that are read so far are.
use Rattle.std.proofs.Common.{◌≡◌, ◌∙◌, pos, List, [], ◌∷◌, ◌++◌, Some, refl, sym, ap, subst, append_assoc, append-nil}
use Rattle.pvs_script.specs.declared.lexeme.Lexeme.{Lexeme}
use Rattle.pvs_script.specs.declared.lexeme.Sort.{Sort}
use Rattle.pvs_script.specs.declared.lexeme.Sort.TheVariants as sort
use Rattle.pvs_script.specs.declared.tree.Rule.TheVariants as rule
use Rattle.pvs_script.specs.declared.tree.Step.{Step}
use Rattle.pvs_script.specs.declared.tree.Script.{Script}
use Rattle.pvs_script.specs.declared.state.State.{State}
use Rattle.pvs_script.specs.declared.state.State.TheVariants as state
use Rattle.pvs_script.specs.declared.state.OpenTree.{OpenTree}
use Rattle.pvs_script.specs.declared.state.Prefix.{Prefix}
use Rattle.pvs_script.specs.declared.state.Prefix.TheVariants as prefix
use Rattle.pvs_script.specs.Grammar.{Is, DerivesStep, DerivesSteps, DerivesScript, DerivesScripts, BeginsStep, BeginsScript, antecedent_number}
use Rattle.pvs_script.specs.code.States.{tree_of, inside, step_of, with_step, script_of, state_after, state_after_in, closed, in_step, in_tree, after_whole, after_open, after_if, after_minus, after_step, first_state, next_state}
use Rattle.pvs_script.proofs.Stacks.{last_push}
use Rattle.pvs_script.proofs.Runs.{Tokens, run, bound, some_same}

-- the tokens of the trees that are open around the innermost one, each up to the tree inside it
pub data Around : Tokens → List OpenTree → Type 0 where
  none : Around [] []
  more : (ts us vs : Tokens) (outer : List OpenTree) (ss : List Step) (xs : List Script) (t : Lexeme) → Around ts outer → Is sort.Open t → DerivesSteps us ss → DerivesScripts vs xs
      → Around (ts ++ (t ∷ (us ++ vs))) (outer ++ tree_of ss xs ∷ [])

-- the tokens of a tree that is open
pub data Opened : Tokens → OpenTree → Type 0 where
  fresh : (t : Lexeme) → Is sort.Open t → Opened (t ∷ []) (tree_of [] [])
  full : (ts us : Tokens) (ss : List Step) (xs : List Script) (t : Lexeme) → Is sort.Open t → DerivesSteps ts ss → DerivesScripts us xs → Opened (t ∷ (ts ++ us)) (tree_of ss xs)

-- likewise, before all trees inside it
pub data Stepping : Tokens → List Step → Type 0 where
  fresh : (t : Lexeme) → Is sort.Open t → Stepping (t ∷ []) []
  full : (ts : Tokens) (ss : List Step) (t : Lexeme) → Is sort.Open t → DerivesSteps ts ss → Stepping (t ∷ ts) ss

-- the tokens of a step that has its first word
pub data InStep : Tokens → Prefix → Type 0 where
  axiom_word : (t u : Lexeme) → Is sort.Open t → Is sort.Axiom u → InStep (t ∷ u ∷ []) (prefix.Step (step_of rule.Axiom t.pos))
  if_word : (t u : Lexeme) → Is sort.Open t → Is sort.If u → InStep (t ∷ u ∷ []) (prefix.If t.pos)
  minus : (t u v : Lexeme) → Is sort.Open t → Is sort.If u → Is sort.Minus v → InStep (t ∷ u ∷ v ∷ []) (prefix.Minus t.pos)
  consequent : (t u v : Lexeme) → Is sort.Open t → Is sort.If u → Is sort.Number v → InStep (t ∷ u ∷ v ∷ []) (prefix.Step (step_of (rule.If (pos v.number)) t.pos))
  antecedent : (t u v w : Lexeme) → Is sort.Open t → Is sort.If u → Is sort.Minus v → Is sort.Number w → InStep (t ∷ u ∷ v ∷ w ∷ []) (prefix.Step (step_of (rule.If (antecedent_number w.number)) t.pos))

-- the tokens that lead to a state
pub data Means : State → Tokens → Type 0 where
  start : Means state.Start []
  whole : (ts : Tokens) (x : Script) → DerivesScript ts x → Means (state.Whole x) ts
  nothing : (ts us : Tokens) (outer : List OpenTree) (tree : OpenTree) → Around ts outer → Opened us tree → Means (inside outer tree prefix.Nothing) (ts ++ us)
  parenthesis : (ts us : Tokens) (outer : List OpenTree) (tree : OpenTree) (t : Lexeme) → Around ts outer → Opened us tree → Is sort.Open t
      → Means (inside outer tree (prefix.Opened t.pos)) (ts ++ (us ++ t ∷ []))
  middle : (ts us vs : Tokens) (outer : List OpenTree) (ss : List Step) (p : Prefix) → Around ts outer → Stepping us ss → InStep vs p → Means (inside outer (tree_of ss []) p) (ts ++ (us ++ vs))

-- ---- what the next token leads to

start_means : (t : Lexeme) (c : Sort) → t.sort ≡ c → (r : State) → first_state c ≡ Some r → Means r (t ∷ [])
start_means t sort.Open is r e = subst (λ z. Means z (t ∷ [])) (some_same _ r e) (Means.nothing [] (t ∷ []) [] (tree_of [] []) Around.none (Opened.fresh t is))
start_means t _ is r e = cc

-- a script that ends in the trees around it
ended_means : (ts us : Tokens) (outer : List OpenTree) (x : Script) → Around ts outer → DerivesScript us x → Means (state_after outer x) (ts ++ us)
ended_means _ us _ x Around.none d = Means.whole us x d
ended_means _ us _ x (Around.more ts vs ws outer ss xs t a is e f) d =
    let shape : (ts ++ (t ∷ (vs ++ ws))) ++ us ≡ ts ++ (t ∷ (vs ++ (ws ++ us))) = append_assoc ts (t ∷ (vs ++ ws)) us ∙ ap (λ z. ts ++ (t ∷ z)) (append_assoc vs ws us) in
    subst (λ z. Means z ((ts ++ (t ∷ (vs ++ ws))) ++ us)) (ap (state_after_in x) (sym (last_push outer (tree_of ss xs))))
    (subst (Means (inside outer (tree_of ss (xs ++ x ∷ [])) prefix.Nothing)) (sym shape)
    (Means.nothing ts (t ∷ (vs ++ (ws ++ us))) outer (tree_of ss (xs ++ x ∷ [])) a (Opened.full vs (ws ++ us) ss (xs ++ x ∷ []) t is e (DerivesScripts.more ws us xs x f d))))

closed_means : (ts us : Tokens) (outer : List OpenTree) (tree : OpenTree) (ss : List Step) (u : Lexeme) (r : State) → Around ts outer → Opened us tree → tree.steps ≡ ss → Is sort.Close u
    → closed outer tree ss ≡ Some r → Means r ((ts ++ us) ++ u ∷ [])
closed_means ts us outer tree [] u r a o same is e = cc
closed_means ts _ outer _ (s ∷ ss) u r a (Opened.fresh t opened) same is e = cc
closed_means ts _ outer _ (s ∷ ss) u r a (Opened.full vs ws zs xs t opened d f) same is e =
    let shape : (ts ++ (t ∷ (vs ++ ws))) ++ u ∷ [] ≡ ts ++ (t ∷ (vs ++ (ws ++ u ∷ []))) = append_assoc ts (t ∷ (vs ++ ws)) (u ∷ []) ∙ ap (λ z. ts ++ (t ∷ z)) (append_assoc vs ws (u ∷ [])) in
    subst (λ z. Means z ((ts ++ (t ∷ (vs ++ ws))) ++ u ∷ [])) (some_same (state_after outer (script_of (tree_of zs xs))) r e)
    (subst (Means (state_after outer (script_of (tree_of zs xs)))) (sym shape)
    (ended_means ts (t ∷ (vs ++ (ws ++ u ∷ []))) outer (script_of (tree_of zs xs)) a (DerivesScript.script vs ws zs xs t u opened d f is)))

nothing_means : (ts us : Tokens) (outer : List OpenTree) (tree : OpenTree) (t : Lexeme) (c : Sort) → t.sort ≡ c → (r : State) → Around ts outer → Opened us tree
    → after_whole t outer tree c ≡ Some r → Means r ((ts ++ us) ++ t ∷ [])
nothing_means ts us outer tree t sort.Open is r a o e =
    subst (λ z. Means z ((ts ++ us) ++ t ∷ [])) (some_same _ r e)
    (subst (Means (inside outer tree (prefix.Opened t.pos))) (sym (append_assoc ts us (t ∷ []))) (Means.parenthesis ts us outer tree t a o is))
nothing_means ts us outer tree t sort.Close is r a o e = closed_means ts us outer tree tree.steps t r a o refl is e
nothing_means ts us outer tree t _ is r a o e = cc

-- no trees: no tokens of trees
last_tree : (xs : List Script) (x : Script) → (xs ++ x ∷ []) ≡ [] → ⊥
last_tree [] x e = cc
last_tree (y ∷ xs) x e = cc

scripts_none : (ts : Tokens) (xs : List Script) → DerivesScripts ts xs → xs ≡ [] → ts ≡ []
scripts_none _ _ DerivesScripts.none e = refl
scripts_none _ _ (DerivesScripts.more ts us xs x d f) e = absurd (last_tree xs x e)

stepping_of : (us : Tokens) (tree : OpenTree) → Opened us tree → tree.trees ≡ [] → Stepping us tree.steps
stepping_of _ _ (Opened.fresh t is) e = Stepping.fresh t is
stepping_of _ _ (Opened.full ts us ss xs t is d f) e =
    subst (λ z. Stepping (t ∷ z) ss) (sym (append-nil ts) ∙ ap (λ z. ts ++ z) (sym (scripts_none us xs f e))) (Stepping.full ts ss t is d)

-- a step with its first word
word_means : (ts us : Tokens) (outer : List OpenTree) (tree : OpenTree) (t u : Lexeme) (p : Prefix) (xs : List Script) (r : State) → Around ts outer → Opened us tree → InStep (t ∷ u ∷ []) p → tree.trees ≡ xs
    → in_step outer tree p xs ≡ Some r → Means r ((ts ++ (us ++ t ∷ [])) ++ u ∷ [])
word_means ts us outer tree t u p (x ∷ xs) r a o i same e = cc
word_means ts us outer tree t u p [] r a o i same e =
    let shape : (ts ++ (us ++ t ∷ [])) ++ u ∷ [] ≡ ts ++ (us ++ (t ∷ u ∷ [])) = append_assoc ts (us ++ t ∷ []) (u ∷ []) ∙ ap (λ z. ts ++ z) (append_assoc us (t ∷ []) (u ∷ [])) in
    let made : inside outer (tree_of tree.steps []) p ≡ r = ap (λ z. inside outer (tree_of tree.steps z) p) (sym same) ∙ some_same _ r e in
    subst (λ z. Means z ((ts ++ (us ++ t ∷ [])) ++ u ∷ [])) made
    (subst (Means (inside outer (tree_of tree.steps []) p)) (sym shape)
    (Means.middle ts us (t ∷ u ∷ []) outer tree.steps p a (stepping_of us tree o same) i))

-- a tree inside the innermost one
inner_means : (ts us : Tokens) (outer : List OpenTree) (tree : OpenTree) (t u : Lexeme) (ss : List Step) (r : State) → Around ts outer → Opened us tree → Is sort.Open t → Is sort.Open u → tree.steps ≡ ss
    → in_tree outer tree u.pos ss ≡ Some r → Means r ((ts ++ (us ++ t ∷ [])) ++ u ∷ [])
inner_means ts us outer tree t u [] r a o opened is same e = cc
inner_means ts _ outer _ t u (s ∷ ss) r a (Opened.fresh w first) opened is same e = cc
inner_means ts _ outer _ t u (s ∷ ss) r a (Opened.full vs ws zs xs w first d f) opened is same e =
    let us = w ∷ (vs ++ ws) in
    let shape : (ts ++ (us ++ t ∷ [])) ++ u ∷ [] ≡ (ts ++ us) ++ ((t ∷ []) ++ u ∷ []) =
    ap (λ z. z ++ u ∷ []) (sym (append_assoc ts us (t ∷ []))) ∙ append_assoc (ts ++ us) (t ∷ []) (u ∷ []) in
    subst (λ z. Means z ((ts ++ (us ++ t ∷ [])) ++ u ∷ [])) (some_same _ r e)
    (subst (Means (inside (outer ++ tree_of zs xs ∷ []) (tree_of [] []) (prefix.Opened u.pos))) (sym shape)
    (Means.parenthesis (ts ++ us) (t ∷ []) (outer ++ tree_of zs xs ∷ []) (tree_of [] []) u (Around.more ts vs ws outer zs xs w a first d f) (Opened.fresh t opened) is))

opened_means : (ts us : Tokens) (outer : List OpenTree) (tree : OpenTree) (t u : Lexeme) (c : Sort) → u.sort ≡ c → (r : State) → Around ts outer → Opened us tree → Is sort.Open t
    → after_open u outer tree t.pos c ≡ Some r → Means r ((ts ++ (us ++ t ∷ [])) ++ u ∷ [])
opened_means ts us outer tree t u sort.Axiom is r a o opened e = word_means ts us outer tree t u (prefix.Step (step_of rule.Axiom t.pos)) tree.trees r a o (InStep.axiom_word t u opened is) refl e
opened_means ts us outer tree t u sort.If is r a o opened e = word_means ts us outer tree t u (prefix.If t.pos) tree.trees r a o (InStep.if_word t u opened is) refl e
opened_means ts us outer tree t u sort.Open is r a o opened e = inner_means ts us outer tree t u tree.steps r a o opened is refl e
opened_means ts us outer tree t u _ is r a o opened e = cc

-- one more token in a step
more_means : (ts us vs ws : Tokens) (outer : List OpenTree) (ss : List Step) (t : Lexeme) (p : Prefix) (r : State) → Around ts outer → Stepping us ss → InStep ws p → ws ≡ vs ++ t ∷ []
    → Some (inside outer (tree_of ss []) p) ≡ Some r → Means r ((ts ++ (us ++ vs)) ++ t ∷ [])
more_means ts us vs ws outer ss t p r a o i same e =
    let shape : (ts ++ (us ++ vs)) ++ t ∷ [] ≡ ts ++ (us ++ ws) = append_assoc ts (us ++ vs) (t ∷ []) ∙ ap (λ z. ts ++ z) (append_assoc us vs (t ∷ []) ∙ ap (λ z. us ++ z) (sym same)) in
    subst (λ z. Means z ((ts ++ (us ++ vs)) ++ t ∷ [])) (some_same _ r e)
    (subst (Means (inside outer (tree_of ss []) p)) (sym shape) (Means.middle ts us ws outer ss p a o i))

steps_push : (us vs : Tokens) (ss : List Step) (s : Step) → Stepping us ss → DerivesStep vs s → Opened (us ++ vs) (tree_of (ss ++ s ∷ []) [])
steps_push _ vs _ s (Stepping.fresh t is) d = subst (λ z. Opened (t ∷ z) (tree_of (s ∷ []) [])) (append-nil vs) (Opened.full vs [] (s ∷ []) [] t is (DerivesSteps.one vs s d) DerivesScripts.none)
steps_push _ vs _ s (Stepping.full ts ss t is e) d =
    subst (λ z. Opened (t ∷ z) (tree_of (ss ++ s ∷ []) [])) (append-nil (ts ++ vs))
    (Opened.full (ts ++ vs) [] (ss ++ s ∷ []) [] t is (DerivesSteps.more ts vs ss s e d) DerivesScripts.none)

-- the end of a step
end_means : (ts us vs : Tokens) (outer : List OpenTree) (ss : List Step) (s : Step) (t : Lexeme) (r : State) → Around ts outer → Stepping us ss → DerivesStep (vs ++ t ∷ []) s
    → Some (inside outer (with_step (tree_of ss []) s) prefix.Nothing) ≡ Some r → Means r ((ts ++ (us ++ vs)) ++ t ∷ [])
end_means ts us vs outer ss s t r a o d e =
    let shape : (ts ++ (us ++ vs)) ++ t ∷ [] ≡ ts ++ (us ++ (vs ++ t ∷ [])) = append_assoc ts (us ++ vs) (t ∷ []) ∙ ap (λ z. ts ++ z) (append_assoc us vs (t ∷ [])) in
    subst (λ z. Means z ((ts ++ (us ++ vs)) ++ t ∷ [])) (some_same _ r e)
    (subst (Means (inside outer (with_step (tree_of ss []) s) prefix.Nothing)) (sym shape)
    (Means.nothing ts (us ++ (vs ++ t ∷ [])) outer (with_step (tree_of ss []) s) a (steps_push us (vs ++ t ∷ []) ss s o d)))

if_means : (ts us : Tokens) (outer : List OpenTree) (ss : List Step) (t u v : Lexeme) (c : Sort) → v.sort ≡ c → (r : State) → Around ts outer → Stepping us ss → Is sort.Open t → Is sort.If u
    → after_if v outer (tree_of ss []) t.pos c ≡ Some r → Means r ((ts ++ (us ++ t ∷ u ∷ [])) ++ v ∷ [])
if_means ts us outer ss t u v sort.Number is r a o opened word e =
    more_means ts us (t ∷ u ∷ []) (t ∷ u ∷ v ∷ []) outer ss v (prefix.Step (step_of (rule.If (pos v.number)) t.pos)) r a o (InStep.consequent t u v opened word is) refl e
if_means ts us outer ss t u v sort.Minus is r a o opened word e =
    more_means ts us (t ∷ u ∷ []) (t ∷ u ∷ v ∷ []) outer ss v (prefix.Minus t.pos) r a o (InStep.minus t u v opened word is) refl e
if_means ts us outer ss t u v _ is r a o opened word e = cc

minus_means : (ts us : Tokens) (outer : List OpenTree) (ss : List Step) (t u v w : Lexeme) (c : Sort) → w.sort ≡ c → (r : State) → Around ts outer → Stepping us ss → Is sort.Open t → Is sort.If u → Is sort.Minus v
    → after_minus w outer (tree_of ss []) t.pos c ≡ Some r → Means r ((ts ++ (us ++ t ∷ u ∷ v ∷ [])) ++ w ∷ [])
minus_means ts us outer ss t u v w sort.Number is r a o opened word sign e =
    more_means ts us (t ∷ u ∷ v ∷ []) (t ∷ u ∷ v ∷ w ∷ []) outer ss w (prefix.Step (step_of (rule.If (antecedent_number w.number)) t.pos)) r a o (InStep.antecedent t u v w opened word sign is) refl e
minus_means ts us outer ss t u v w _ is r a o opened word sign e = cc

whole_step_means : (ts us vs : Tokens) (outer : List OpenTree) (ss : List Step) (s : Step) (t : Lexeme) (c : Sort) → t.sort ≡ c → (r : State) → Around ts outer → Stepping us ss
    → (Is sort.Close t → DerivesStep (vs ++ t ∷ []) s) → after_step outer (tree_of ss []) s c ≡ Some r → Means r ((ts ++ (us ++ vs)) ++ t ∷ [])
whole_step_means ts us vs outer ss s t sort.Close is r a o d e = end_means ts us vs outer ss s t r a o (d is) e
whole_step_means ts us vs outer ss s t _ is r a o d e = cc

step_means : (ts us vs : Tokens) (outer : List OpenTree) (ss : List Step) (p : Prefix) (t : Lexeme) (r : State) → Around ts outer → Stepping us ss → InStep vs p
    → next_state (inside outer (tree_of ss []) p) t ≡ Some r → Means r ((ts ++ (us ++ vs)) ++ t ∷ [])
step_means ts us _ outer ss _ w r a o (InStep.axiom_word t u opened word) e =
    whole_step_means ts us (t ∷ u ∷ []) outer ss (step_of rule.Axiom t.pos) w w.sort refl r a o (λ close. DerivesStep.axiom_rule t u w opened word close) e
step_means ts us _ outer ss _ w r a o (InStep.if_word t u opened word) e = if_means ts us outer ss t u w w.sort refl r a o opened word e
step_means ts us _ outer ss _ w r a o (InStep.minus t u v opened word sign) e = minus_means ts us outer ss t u v w w.sort refl r a o opened word sign e
step_means ts us _ outer ss _ w r a o (InStep.consequent t u v opened word num) e =
    whole_step_means ts us (t ∷ u ∷ v ∷ []) outer ss (step_of (rule.If (pos v.number)) t.pos) w w.sort refl r a o (λ close. DerivesStep.if_consequent t u v w opened word num close) e
step_means ts us _ outer ss _ x r a o (InStep.antecedent t u v w opened word sign num) e =
    whole_step_means ts us (t ∷ u ∷ v ∷ w ∷ []) outer ss (step_of (rule.If (antecedent_number w.number)) t.pos) x x.sort refl r a o (λ close. DerivesStep.if_antecedent t u v w x opened word sign num close) e

token_means : (s : State) (ts : Tokens) (t : Lexeme) (r : State) → Means s ts → next_state s t ≡ Some r → Means r (ts ++ t ∷ [])
token_means _ _ t r Means.start e = start_means t t.sort refl r e
token_means _ _ t r (Means.whole ts x d) e = cc
token_means _ _ t r (Means.nothing ts us outer tree a o) e = nothing_means ts us outer tree t t.sort refl r a o e
token_means _ _ t r (Means.parenthesis ts us outer tree u a o opened) e = opened_means ts us outer tree u t t.sort refl r a o opened e
token_means _ _ t r (Means.middle ts us vs outer ss p a o i) e = step_means ts us vs outer ss p t r a o i e

run_means : (us ts : Tokens) (s r : State) → Means s ts → run s us ≡ Some r → Means r (ts ++ us)
run_means [] ts s r m e = subst (Means r) (sym (append-nil ts)) (subst (λ z. Means z ts) (some_same s r e) m)
run_means (t ∷ us) ts s r m e =
    let b = bound (next_state s t) us r e in
    subst (Means r) (append_assoc ts (t ∷ []) us) (run_means us (ts ++ t ∷ []) b.0 r (token_means s ts t b.0 m b.1) b.2)

pub means : (ts : Tokens) (r : State) → run state.Start ts ≡ Some r → Means r ts
means ts r e = run_means ts [] state.Start r Means.start e

-- ---- what the tokens begin

-- what begins a script inside trees that are open
plugged : (ts us : Tokens) (outer : List OpenTree) → Around ts outer → BeginsScript us → BeginsScript (ts ++ us)
plugged _ us _ Around.none b = b
plugged _ us _ (Around.more ts vs ws outer ss xs t a is d e) b =
    let shape : (ts ++ (t ∷ (vs ++ ws))) ++ us ≡ ts ++ (t ∷ (vs ++ (ws ++ us))) = append_assoc ts (t ∷ (vs ++ ws)) us ∙ ap (λ z. ts ++ (t ∷ z)) (append_assoc vs ws us) in
    subst BeginsScript (sym shape) (plugged ts (t ∷ (vs ++ (ws ++ us))) outer a (BeginsScript.tree vs ws us ss xs t is d e b))

opened_begins : (us : Tokens) (tree : OpenTree) → Opened us tree → BeginsScript us
opened_begins _ _ (Opened.fresh t is) = BeginsScript.first [] t is BeginsStep.nothing
opened_begins _ _ (Opened.full ts us ss xs t is d e) =
    subst (λ z. BeginsScript (t ∷ (ts ++ z))) (append-nil us) (BeginsScript.tree ts us [] ss xs t is d e BeginsScript.nothing)

parenthesis_begins : (us : Tokens) (tree : OpenTree) (t : Lexeme) → Opened us tree → Is sort.Open t → BeginsScript (us ++ t ∷ [])
parenthesis_begins _ _ u (Opened.fresh t is) opened = BeginsScript.first (u ∷ []) t is (BeginsStep.opened u opened)
parenthesis_begins _ _ u (Opened.full ts us ss xs t is d e) opened =
    subst (λ z. BeginsScript (t ∷ z)) (sym (append_assoc ts us (u ∷ []))) (BeginsScript.tree ts us (u ∷ []) ss xs t is d e (BeginsScript.first [] u opened BeginsStep.nothing))

in_step_begins : (vs : Tokens) (p : Prefix) → InStep vs p → BeginsStep vs
in_step_begins _ _ (InStep.axiom_word t u is word) = BeginsStep.axiom_word t u is word
in_step_begins _ _ (InStep.if_word t u is word) = BeginsStep.if_word t u is word
in_step_begins _ _ (InStep.minus t u v is word sign) = BeginsStep.minus t u v is word sign
in_step_begins _ _ (InStep.consequent t u v is word num) = BeginsStep.consequent t u v is word num
in_step_begins _ _ (InStep.antecedent t u v w is word sign num) = BeginsStep.antecedent t u v w is word sign num

stepping_begins : (us vs : Tokens) (ss : List Step) → Stepping us ss → BeginsStep vs → BeginsScript (us ++ vs)
stepping_begins _ vs _ (Stepping.fresh t is) b = BeginsScript.first vs t is b
stepping_begins _ vs _ (Stepping.full ts ss t is d) b = BeginsScript.step ts vs ss t is d b

pub means_begins : (s : State) (ts : Tokens) → Means s ts → BeginsScript ts
means_begins _ _ Means.start = BeginsScript.nothing
means_begins _ _ (Means.whole ts x d) = BeginsScript.closed ts x d
means_begins _ _ (Means.nothing ts us outer tree a o) = plugged ts us outer a (opened_begins us tree o)
means_begins _ _ (Means.parenthesis ts us outer tree t a o is) = plugged ts (us ++ t ∷ []) outer a (parenthesis_begins us tree t o is)
means_begins _ _ (Means.middle ts us vs outer ss p a o i) = plugged ts (us ++ vs) outer a (stepping_begins us vs ss o (in_step_begins vs p i))

-- a whole script is in the grammar
abbrev pub Derived : State → Tokens → Type 0
Derived (state.Whole x) ts = DerivesScript ts x
Derived _ ts = Unit {0}

pub means_derived : (s : State) (ts : Tokens) → Means s ts → Derived s ts
means_derived _ _ Means.start = tt
means_derived _ _ (Means.whole ts x d) = d
means_derived _ _ (Means.nothing ts us outer tree a o) = tt
means_derived _ _ (Means.parenthesis ts us outer tree t a o is) = tt
means_derived _ _ (Means.middle ts us vs outer ss p a o i) = tt
