-- How many parentheses are open after the tokens.
use Rattle.std.proofs.Common.{◌≡◌, ◌∙◌, ℕ, suc, ◌+◌, ◌<◌, ◌≤◌, cond, List, [], ◌∷◌, length, Option, Some, None, refl, sym, ap, subst, length-append, arith}
use Rattle.std.specs.Prelude.{count_by}
use Rattle.std.proofs.lemmas.List.Sums.{sum_by-append}
use Rattle.pvs_base.specs.declared.place.Pos.{Pos}
use Rattle.pvs_syntax.specs.declared.expression.Expr.{Expr}
use Rattle.pvs_scripts.specs.declared.lexeme.Lexeme.{Lexeme}
use Rattle.pvs_scripts.specs.declared.lexeme.LexemeKind.{LexemeKind}
use Rattle.pvs_scripts.specs.declared.lexeme.LexemeKind.TheVariants as kind
use Rattle.pvs_scripts.specs.declared.lexeme.Terminal.{Terminal}
use Rattle.pvs_scripts.specs.declared.tree.ScriptTree.{ScriptTree}
use Rattle.pvs_scripts.specs.declared.tree.StepExpr.{StepExpr}
use Rattle.pvs_scripts.specs.declared.state.State.{State}
use Rattle.pvs_scripts.specs.declared.state.State.TheVariants as state
use Rattle.pvs_scripts.specs.declared.state.OpenTree.{OpenTree}
use Rattle.pvs_scripts.specs.declared.state.Prefix.{Prefix}
use Rattle.pvs_scripts.specs.declared.state.Prefix.TheVariants as prefix
use Rattle.pvs_scripts.specs.Grammar.{opens, closes}
use Rattle.pvs_scripts.specs.code.States.{script_of, with_first, last_of, state_after, closed, in_step, in_tree, quoted, after_whole, after_open, after_argument, after_minus, first_state, next_inside, next_state, prefix_depth, depth}
use Rattle.pvs_scripts.proofs.Runs.{some_same}

-- what a token of a kind makes of a number of open parentheses
abbrev pub Moves : LexemeKind → ℕ → ℕ → Type 0
Moves kind.Open n m = m ≡ n + 1
Moves kind.Close n m = n ≡ m + 1
Moves kind.Minus n m = m ≡ n
Moves (kind.Number k) n m = m ≡ n
Moves kind.Quoted n m = m ≡ n
Moves kind.Word n m = m ≡ n
Moves kind.Other n m = m ≡ n

-- from the state that a token leads to
leads : (c : LexemeKind) (n : ℕ) (s r : State) → Some s ≡ Some r → Moves c n (depth s) → Moves c n (depth r)
leads c n s r e m = subst (λ z. Moves c n (depth z)) (some_same s r e) m

length_last_of : (ts : List OpenTree) (t : OpenTree) → length (with_first t (last_of ts)).0 ≡ length ts
length_last_of [] t = refl
length_last_of (u ∷ us) t = ap suc (length_last_of us u)

depth_ended : (outer : List OpenTree) (x : ScriptTree) → depth (state_after outer x) ≡ length outer
depth_ended [] x = refl
depth_ended (t ∷ ts) x = omega (arith, length_last_of ts t)

start_moves : (c : LexemeKind) (r : State) → first_state c ≡ Some r → Moves c 0 (depth r)
start_moves kind.Open r e = leads kind.Open 0 _ r e refl
start_moves _ r e = cc

closed_moves : (outer : List OpenTree) (tree : OpenTree) (ss : List StepExpr) (r : State) → closed outer tree ss ≡ Some r → length outer + 1 + 0 ≡ depth r + 1
closed_moves outer tree [] r e = cc
closed_moves outer tree (s ∷ ss) r e = leads kind.Close (length outer + 1 + 0) _ r e (omega (arith, depth_ended outer (script_of tree)))

nothing_moves : (t : Terminal) (outer : List OpenTree) (tree : OpenTree) (c : LexemeKind) (r : State) → after_whole t outer tree c ≡ Some r → Moves c (length outer + 1 + 0) (depth r)
nothing_moves t outer tree kind.Open r e = leads kind.Open (length outer + 1 + 0) _ r e (omega arith)
nothing_moves t outer tree kind.Close r e = closed_moves outer tree tree.steps r e
nothing_moves t outer tree _ r e = cc

in_step_moves : (outer : List OpenTree) (tree : OpenTree) (p : Prefix) (xs : List ScriptTree) (r : State) → prefix_depth p ≡ 1 → in_step outer tree p xs ≡ Some r → depth r ≡ length outer + 1 + 1
in_step_moves outer tree p [] r one e = sym (ap depth (some_same _ r e)) ∙ ap (λ n. length outer + 1 + n) one
in_step_moves outer tree p (x ∷ xs) r one e = cc

in_tree_moves : (outer : List OpenTree) (tree : OpenTree) (at : Pos) (ss : List StepExpr) (r : State) → in_tree outer tree at ss ≡ Some r → depth r ≡ length outer + 1 + 1 + 1
in_tree_moves outer tree at [] r e = cc
in_tree_moves outer tree at (s ∷ ss) r e = sym (ap depth (some_same _ r e)) ∙ omega (arith, length-append outer (tree ∷ []))

opened_moves : (t : Terminal) (outer : List OpenTree) (tree : OpenTree) (at : Pos) (c : LexemeKind) (r : State) → after_open t outer tree at c ≡ Some r → Moves c (length outer + 1 + 1) (depth r)
opened_moves t outer tree at kind.Word r e = in_step_moves outer tree _ tree.trees r refl e
opened_moves t outer tree at kind.Open r e = in_tree_moves outer tree t.lexeme.word.pos tree.steps r e
opened_moves t outer tree at _ r e = cc

quoted_moves : (t : Terminal) (outer : List OpenTree) (tree : OpenTree) (s : StepExpr) (q : Option Expr) (r : State) → quoted t outer tree s q ≡ Some r → depth r ≡ length outer + 1 + 1
quoted_moves t outer tree s (Some x) r e = leads kind.Quoted (length outer + 1 + 1) _ r e refl
quoted_moves t outer tree s None r e = cc

argument_moves : (t : Terminal) (outer : List OpenTree) (tree : OpenTree) (s : StepExpr) (c : LexemeKind) (r : State) → after_argument t outer tree s c ≡ Some r → Moves c (length outer + 1 + 1) (depth r)
argument_moves t outer tree s (kind.Number n) r e = leads (kind.Number n) (length outer + 1 + 1) _ r e refl
argument_moves t outer tree s kind.Minus r e = leads kind.Minus (length outer + 1 + 1) _ r e refl
argument_moves t outer tree s kind.Quoted r e = quoted_moves t outer tree s t.quote r e
argument_moves t outer tree s kind.Word r e = leads kind.Word (length outer + 1 + 1) _ r e refl
argument_moves t outer tree s kind.Close r e = leads kind.Close (length outer + 1 + 1) _ r e (omega arith)
argument_moves t outer tree s kind.Open r e = cc
argument_moves t outer tree s kind.Other r e = cc

minus_moves : (outer : List OpenTree) (tree : OpenTree) (s : StepExpr) (at : Pos) (c : LexemeKind) (r : State) → after_minus outer tree s at c ≡ Some r → Moves c (length outer + 1 + 1) (depth r)
minus_moves outer tree s at (kind.Number n) r e = leads (kind.Number n) (length outer + 1 + 1) _ r e refl
minus_moves outer tree s at _ r e = cc

inside_moves : (t : Terminal) (outer : List OpenTree) (tree : OpenTree) (p : Prefix) (r : State) → next_inside t outer tree p ≡ Some r → Moves t.lexeme.kind (length outer + 1 + prefix_depth p) (depth r)
inside_moves t outer tree prefix.Nothing r e = nothing_moves t outer tree t.lexeme.kind r e
inside_moves t outer tree (prefix.Opened at) r e = opened_moves t outer tree at t.lexeme.kind r e
inside_moves t outer tree (prefix.Step s) r e = argument_moves t outer tree s t.lexeme.kind r e
inside_moves t outer tree (prefix.Minus s at) r e = minus_moves outer tree s at t.lexeme.kind r e

pub token_moves : (s : State) (t : Terminal) (r : State) → next_state s t ≡ Some r → Moves t.lexeme.kind (depth s) (depth r)
token_moves state.Start t r e = start_moves t.lexeme.kind r e
token_moves (state.Inside nest) t r e = inside_moves t nest.outer nest.tree nest.prefix r e
token_moves (state.Whole x) t r e = cc

-- ---- counts of tokens

abbrev pub ups : List Lexeme → ℕ
ups ls = count_by (λ l. opens l.kind) ls

abbrev pub downs : List Lexeme → ℕ
downs ls = count_by (λ l. closes l.kind) ls

pub ups_cons : (l : Lexeme) (ls : List Lexeme) → ups (l ∷ ls) ≡ cond (opens l.kind) 1 0 + ups ls
ups_cons l ls = sum_by-append (λ l. cond (opens l.kind) 1 0) (l ∷ []) ls ∙ omega arith

pub downs_cons : (l : Lexeme) (ls : List Lexeme) → downs (l ∷ ls) ≡ cond (closes l.kind) 1 0 + downs ls
downs_cons l ls = sum_by-append (λ l. cond (closes l.kind) 1 0) (l ∷ []) ls ∙ omega arith

-- a token before others
pub counted : (c : LexemeKind) (a b n m k : ℕ) → Moves c n m → a + m ≡ b + k → (cond (opens c) 1 0 + a) + n ≡ (cond (closes c) 1 0 + b) + k
counted kind.Open a b n m k moves e = omega (arith, moves, e)
counted kind.Close a b n m k moves e = omega (arith, moves, e)
counted kind.Minus a b n m k moves e = omega (arith, moves, e)
counted (kind.Number i) a b n m k moves e = omega (arith, moves, e)
counted kind.Quoted a b n m k moves e = omega (arith, moves, e)
counted kind.Word a b n m k moves e = omega (arith, moves, e)
counted kind.Other a b n m k moves e = omega (arith, moves, e)

-- a token that leads deeper than 200 opens level 201
pub deep_open : (c : LexemeKind) (n m : ℕ) → Moves c n m → n ≤ 200 → 200 < m → (c ≡ kind.Open) × (m ≡ 201)
deep_open kind.Open n m moves le lt = (refl, omega (arith, moves, le, lt))
deep_open kind.Close n m moves le lt = absurd (omega (arith, moves, le, lt))
deep_open kind.Minus n m moves le lt = absurd (omega (arith, moves, le, lt))
deep_open (kind.Number i) n m moves le lt = absurd (omega (arith, moves, le, lt))
deep_open kind.Quoted n m moves le lt = absurd (omega (arith, moves, le, lt))
deep_open kind.Word n m moves le lt = absurd (omega (arith, moves, le, lt))
deep_open kind.Other n m moves le lt = absurd (omega (arith, moves, le, lt))
