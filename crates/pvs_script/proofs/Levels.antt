-- How many parentheses are open after the tokens.
use Rattle.std.proofs.Common.{◌≡◌, ◌∙◌, ℕ, suc, ◌+◌, ◌<◌, ◌≤◌, cond, List, [], ◌∷◌, ◌++◌, length, Some, refl, sym, ap, subst, append_assoc, append-nil, length-append, arith}
use Rattle.std.specs.Prelude.{count_by}
use Rattle.std.proofs.lemmas.List.Sums.{sum_by-append}
use Rattle.pvs_base.specs.declared.place.Pos.{Pos}
use Rattle.pvs_script.specs.declared.lexeme.Lexeme.{Lexeme}
use Rattle.pvs_script.specs.declared.lexeme.Sort.{Sort}
use Rattle.pvs_script.specs.declared.lexeme.Sort.TheVariants as sort
use Rattle.pvs_script.specs.declared.tree.Step.{Step}
use Rattle.pvs_script.specs.declared.tree.Script.{Script}
use Rattle.pvs_script.specs.declared.state.State.{State}
use Rattle.pvs_script.specs.declared.state.State.TheVariants as state
use Rattle.pvs_script.specs.declared.state.OpenTree.{OpenTree}
use Rattle.pvs_script.specs.declared.state.Prefix.{Prefix}
use Rattle.pvs_script.specs.declared.state.Prefix.TheVariants as prefix
use Rattle.pvs_script.specs.Grammar.{opens, closes, level}
use Rattle.pvs_script.specs.code.States.{script_of, with_first, last_of, state_after, closed, in_step, in_tree, after_whole, after_open, after_if, after_minus, after_step, first_state, next_inside, next_state, prefix_depth, depth}
use Rattle.pvs_script.proofs.Runs.{Tokens, run, bound, some_same}

-- what a token of a sort makes of a number of open parentheses
abbrev pub Moves : Sort → ℕ → ℕ → Type 0
Moves sort.Open n m = m ≡ n + 1
Moves sort.Close n m = n ≡ m + 1
Moves sort.Minus n m = m ≡ n
Moves sort.Number n m = m ≡ n
Moves sort.Axiom n m = m ≡ n
Moves sort.If n m = m ≡ n
Moves sort.Other n m = m ≡ n

-- from the state that a token leads to
leads : (c : Sort) (n : ℕ) (s r : State) → Some s ≡ Some r → Moves c n (depth s) → Moves c n (depth r)
leads c n s r e m = subst (λ z. Moves c n (depth z)) (some_same s r e) m

length_last_of : (ts : List OpenTree) (t : OpenTree) → length (with_first t (last_of ts)).0 ≡ length ts
length_last_of [] t = refl
length_last_of (u ∷ us) t = ap suc (length_last_of us u)

depth_ended : (outer : List OpenTree) (x : Script) → depth (state_after outer x) ≡ length outer
depth_ended [] x = refl
depth_ended (t ∷ ts) x = omega (arith, length_last_of ts t)

start_moves : (c : Sort) (r : State) → first_state c ≡ Some r → Moves c 0 (depth r)
start_moves sort.Open r e = leads sort.Open 0 _ r e refl
start_moves _ r e = cc

closed_moves : (outer : List OpenTree) (tree : OpenTree) (ss : List Step) (r : State) → closed outer tree ss ≡ Some r → length outer + 1 + 0 ≡ depth r + 1
closed_moves outer tree [] r e = cc
closed_moves outer tree (s ∷ ss) r e = leads sort.Close (length outer + 1 + 0) _ r e (omega (arith, depth_ended outer (script_of tree)))

nothing_moves : (t : Lexeme) (outer : List OpenTree) (tree : OpenTree) (c : Sort) (r : State) → after_whole t outer tree c ≡ Some r → Moves c (length outer + 1 + 0) (depth r)
nothing_moves t outer tree sort.Open r e = leads sort.Open (length outer + 1 + 0) _ r e (omega arith)
nothing_moves t outer tree sort.Close r e = closed_moves outer tree tree.steps r e
nothing_moves t outer tree _ r e = cc

in_step_moves : (outer : List OpenTree) (tree : OpenTree) (p : Prefix) (xs : List Script) (r : State) → prefix_depth p ≡ 1 → in_step outer tree p xs ≡ Some r → depth r ≡ length outer + 1 + 1
in_step_moves outer tree p [] r one e = sym (ap depth (some_same _ r e)) ∙ ap (λ n. length outer + 1 + n) one
in_step_moves outer tree p (x ∷ xs) r one e = cc

in_tree_moves : (outer : List OpenTree) (tree : OpenTree) (at : Pos) (ss : List Step) (r : State) → in_tree outer tree at ss ≡ Some r → depth r ≡ length outer + 1 + 1 + 1
in_tree_moves outer tree at [] r e = cc
in_tree_moves outer tree at (s ∷ ss) r e = sym (ap depth (some_same _ r e)) ∙ omega (arith, length-append outer (tree ∷ []))

opened_moves : (t : Lexeme) (outer : List OpenTree) (tree : OpenTree) (at : Pos) (c : Sort) (r : State) → after_open t outer tree at c ≡ Some r → Moves c (length outer + 1 + 1) (depth r)
opened_moves t outer tree at sort.Axiom r e = in_step_moves outer tree _ tree.trees r refl e
opened_moves t outer tree at sort.If r e = in_step_moves outer tree _ tree.trees r refl e
opened_moves t outer tree at sort.Open r e = in_tree_moves outer tree t.pos tree.steps r e
opened_moves t outer tree at _ r e = cc

if_moves : (t : Lexeme) (outer : List OpenTree) (tree : OpenTree) (at : Pos) (c : Sort) (r : State) → after_if t outer tree at c ≡ Some r → Moves c (length outer + 1 + 1) (depth r)
if_moves t outer tree at sort.Number r e = leads sort.Number (length outer + 1 + 1) _ r e refl
if_moves t outer tree at sort.Minus r e = leads sort.Minus (length outer + 1 + 1) _ r e refl
if_moves t outer tree at _ r e = cc

minus_moves : (t : Lexeme) (outer : List OpenTree) (tree : OpenTree) (at : Pos) (c : Sort) (r : State) → after_minus t outer tree at c ≡ Some r → Moves c (length outer + 1 + 1) (depth r)
minus_moves t outer tree at sort.Number r e = leads sort.Number (length outer + 1 + 1) _ r e refl
minus_moves t outer tree at _ r e = cc

step_moves : (outer : List OpenTree) (tree : OpenTree) (s : Step) (c : Sort) (r : State) → after_step outer tree s c ≡ Some r → Moves c (length outer + 1 + 1) (depth r)
step_moves outer tree s sort.Close r e = leads sort.Close (length outer + 1 + 1) _ r e (omega arith)
step_moves outer tree s _ r e = cc

inside_moves : (t : Lexeme) (outer : List OpenTree) (tree : OpenTree) (p : Prefix) (r : State) → next_inside t outer tree p ≡ Some r → Moves t.sort (length outer + 1 + prefix_depth p) (depth r)
inside_moves t outer tree prefix.Nothing r e = nothing_moves t outer tree t.sort r e
inside_moves t outer tree (prefix.Opened at) r e = opened_moves t outer tree at t.sort r e
inside_moves t outer tree (prefix.If at) r e = if_moves t outer tree at t.sort r e
inside_moves t outer tree (prefix.Minus at) r e = minus_moves t outer tree at t.sort r e
inside_moves t outer tree (prefix.Step s) r e = step_moves outer tree s t.sort r e

pub token_moves : (s : State) (t : Lexeme) (r : State) → next_state s t ≡ Some r → Moves t.sort (depth s) (depth r)
token_moves state.Start t r e = start_moves t.sort r e
token_moves (state.Inside nest) t r e = inside_moves t nest.outer nest.tree nest.prefix r e
token_moves (state.Whole x) t r e = cc

-- ---- counts of tokens

abbrev ups : Tokens → ℕ
ups ts = count_by (λ t. opens t.sort) ts

abbrev downs : Tokens → ℕ
downs ts = count_by (λ t. closes t.sort) ts

ups-push : (ts : Tokens) (t : Lexeme) → ups (ts ++ t ∷ []) ≡ ups ts + cond (opens t.sort) 1 0
ups-push ts t = sum_by-append (λ t. cond (opens t.sort) 1 0) ts (t ∷ []) ∙ omega arith

downs-push : (ts : Tokens) (t : Lexeme) → downs (ts ++ t ∷ []) ≡ downs ts + cond (closes t.sort) 1 0
downs-push ts t = sum_by-append (λ t. cond (closes t.sort) 1 0) ts (t ∷ []) ∙ omega arith

counted : (c : Sort) (a b n m : ℕ) → Moves c n m → a ≡ b + n → a + cond (opens c) 1 0 ≡ b + cond (closes c) 1 0 + m
counted sort.Open a b n m moves e = omega (arith, moves, e)
counted sort.Close a b n m moves e = omega (arith, moves, e)
counted sort.Minus a b n m moves e = omega (arith, moves, e)
counted sort.Number a b n m moves e = omega (arith, moves, e)
counted sort.Axiom a b n m moves e = omega (arith, moves, e)
counted sort.If a b n m moves e = omega (arith, moves, e)
counted sort.Other a b n m moves e = omega (arith, moves, e)

run_counts : (us ts : Tokens) (s r : State) → ups ts ≡ downs ts + depth s → run s us ≡ Some r → ups (ts ++ us) ≡ downs (ts ++ us) + depth r
run_counts [] ts s r e f = subst (λ z. ups z ≡ downs z + depth r) (sym (append-nil ts)) (subst (λ z. ups ts ≡ downs ts + depth z) (some_same s r f) e)
run_counts (t ∷ us) ts s r e f =
    let b = bound (next_state s t) us r f in
    let here : ups (ts ++ t ∷ []) ≡ downs (ts ++ t ∷ []) + depth b.0 =
    ups-push ts t ∙ counted t.sort (ups ts) (downs ts) (depth s) (depth b.0) (token_moves s t b.0 b.1) e ∙ ap (λ n. n + depth b.0) (sym (downs-push ts t)) in
    subst (λ z. ups z ≡ downs z + depth r) (append_assoc ts (t ∷ []) us) (run_counts us (ts ++ t ∷ []) b.0 r here b.2)

pub level_is : (ts : Tokens) (r : State) → run state.Start ts ≡ Some r → level ts ≡ depth r
level_is ts r e = omega (arith, run_counts ts [] state.Start r refl e)

-- a token that leads deeper than 200 opens level 201
pub deep_open : (c : Sort) (n m : ℕ) → Moves c n m → n ≤ 200 → 200 < m → (c ≡ sort.Open) × (m ≡ 201)
deep_open sort.Open n m moves le lt = (refl, omega (arith, moves, le, lt))
deep_open sort.Close n m moves le lt = absurd (omega (arith, moves, le, lt))
deep_open sort.Minus n m moves le lt = absurd (omega (arith, moves, le, lt))
deep_open sort.Number n m moves le lt = absurd (omega (arith, moves, le, lt))
deep_open sort.Axiom n m moves le lt = absurd (omega (arith, moves, le, lt))
deep_open sort.If n m moves le lt = absurd (omega (arith, moves, le, lt))
deep_open sort.Other n m moves le lt = absurd (omega (arith, moves, le, lt))
