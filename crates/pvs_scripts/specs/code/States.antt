-- What is read of a script, one token at a time and without looking ahead.
use Rattle.std.specs.Prelude.{ℕ, ◌+◌, nat_lt, Bool, true, false, pos, List, [], ◌∷◌, ◌++◌, length, Option, Some, None}
use Rattle.pvs_base.specs.declared.place.Pos.{Pos}
use Rattle.pvs_syntax.specs.declared.expression.Expr.{Expr}
use Rattle.pvs_syntax.specs.declared.word.Word.{Word}
use Rattle.pvs_scripts.specs.declared.lexeme.LexemeKind.{LexemeKind}
use Rattle.pvs_scripts.specs.declared.lexeme.LexemeKind.TheVariants as kind
use Rattle.pvs_scripts.specs.declared.lexeme.Terminal.{Terminal}
use Rattle.pvs_scripts.specs.declared.tree.Argument.{Argument}
use Rattle.pvs_scripts.specs.declared.tree.Argument.TheVariants as argument
use Rattle.pvs_scripts.specs.declared.tree.ScriptTree.{ScriptTree}
use Rattle.pvs_scripts.specs.declared.tree.ScriptTree.TheViews.{roll-ScriptTree}
use Rattle.pvs_scripts.specs.declared.tree.StepExpr.{StepExpr}
use Rattle.pvs_scripts.specs.declared.state.State.{State}
use Rattle.pvs_scripts.specs.declared.state.State.TheVariants as state
use Rattle.pvs_scripts.specs.declared.state.OpenTree.{OpenTree}
use Rattle.pvs_scripts.specs.declared.state.Prefix.{Prefix}
use Rattle.pvs_scripts.specs.declared.state.Prefix.TheVariants as prefix
use Rattle.pvs_scripts.specs.Grammar.{place, antecedent_number}

abbrev pub tree_of : List StepExpr → List ScriptTree → OpenTree
tree_of ss xs = record { steps = ss; trees = xs }

abbrev pub inside : List OpenTree → OpenTree → Prefix → State
inside outer tree p = state.Inside (record { outer = outer; tree = tree; prefix = p })

-- a step with this word and these arguments
abbrev pub step_of : Word → List Argument → Pos → StepExpr
step_of w xs at = record { word = w; arguments = xs; pos = at }

abbrev pub with_argument : StepExpr → Argument → StepExpr
with_argument s x = step_of s.word (s.arguments ++ x ∷ []) s.pos

abbrev pub with_step : OpenTree → StepExpr → OpenTree
with_step tree s = tree_of (tree.steps ++ s ∷ []) tree.trees

abbrev pub with_tree : OpenTree → ScriptTree → OpenTree
with_tree tree x = tree_of tree.steps (tree.trees ++ x ∷ [])

abbrev pub script_of : OpenTree → ScriptTree
script_of tree = roll-ScriptTree (record { steps = tree.steps; trees = tree.trees })

abbrev pub with_first : OpenTree → Option (List OpenTree × OpenTree) → List OpenTree × OpenTree
with_first tree None = ([], tree)
with_first tree (Some p) = (tree ∷ p.0, p.1)

-- the last of the trees, and those before it
abbrev pub last_of : List OpenTree → Option (List OpenTree × OpenTree)
last_of [] = None
last_of (tree ∷ trees) = Some (with_first tree (last_of trees))

-- a script that ends inside the last of these trees, if there is one
abbrev pub state_after_in : ScriptTree → Option (List OpenTree × OpenTree) → State
state_after_in x None = state.Whole x
state_after_in x (Some p) = inside p.0 (with_tree p.1 x) prefix.Nothing

abbrev pub state_after : List OpenTree → ScriptTree → State
state_after outer x = state_after_in x (last_of outer)

-- ---- What the next token leads to. None: it can't come.

abbrev pub at : List OpenTree → OpenTree → Prefix → Option State
at outer tree p = Some (inside outer tree p)

-- the end of a tree, which has a step
abbrev pub closed : List OpenTree → OpenTree → List StepExpr → Option State
closed outer tree [] = None
closed outer tree (s ∷ ss) = Some (state_after outer (script_of tree))

-- a step, which stands before all trees
abbrev pub in_step : List OpenTree → OpenTree → Prefix → List ScriptTree → Option State
in_step outer tree p [] = Some (inside outer tree p)
in_step outer tree p (x ∷ xs) = None

-- a tree, which stands after a step
abbrev pub in_tree : List OpenTree → OpenTree → Pos → List StepExpr → Option State
in_tree outer tree at [] = None
in_tree outer tree at (s ∷ ss) = Some (inside (outer ++ tree ∷ []) (tree_of [] []) (prefix.Opened at))

abbrev pub after_whole : Terminal → List OpenTree → OpenTree → LexemeKind → Option State
after_whole t outer tree kind.Open = Some (inside outer tree (prefix.Opened (place t)))
after_whole t outer tree kind.Close = closed outer tree tree.steps
after_whole t outer tree _ = None

abbrev pub after_open : Terminal → List OpenTree → OpenTree → Pos → LexemeKind → Option State
after_open t outer tree at kind.Word = in_step outer tree (prefix.Step (step_of t.lexeme.word [] at)) tree.trees
after_open t outer tree at kind.Open = in_tree outer tree (place t) tree.steps
after_open t outer tree at _ = None

-- a further argument of a step
abbrev pub argued : List OpenTree → OpenTree → StepExpr → Argument → Option State
argued outer tree s x = Some (inside outer tree (prefix.Step (with_argument s x)))

-- a quoted text, which holds an expression
abbrev pub quoted : Terminal → List OpenTree → OpenTree → StepExpr → Option Expr → Option State
quoted t outer tree s (Some x) = argued outer tree s (argument.QuotedExpr x (place t))
quoted t outer tree s None = None

abbrev pub after_argument : Terminal → List OpenTree → OpenTree → StepExpr → LexemeKind → Option State
after_argument t outer tree s (kind.Number n) = argued outer tree s (argument.Signed (pos n) (place t))
after_argument t outer tree s kind.Minus = Some (inside outer tree (prefix.Minus s (place t)))
after_argument t outer tree s kind.Quoted = quoted t outer tree s t.quote
after_argument t outer tree s kind.Word = argued outer tree s (argument.Plain t.lexeme.word)
after_argument t outer tree s kind.Close = Some (inside outer (with_step tree s) prefix.Nothing)
after_argument t outer tree s _ = None

abbrev pub after_minus : List OpenTree → OpenTree → StepExpr → Pos → LexemeKind → Option State
after_minus outer tree s at (kind.Number n) = argued outer tree s (argument.Signed (antecedent_number n) at)
after_minus outer tree s at _ = None

abbrev pub next_inside : Terminal → List OpenTree → OpenTree → Prefix → Option State
next_inside t outer tree prefix.Nothing = after_whole t outer tree t.lexeme.kind
next_inside t outer tree (prefix.Opened at) = after_open t outer tree at t.lexeme.kind
next_inside t outer tree (prefix.Step s) = after_argument t outer tree s t.lexeme.kind
next_inside t outer tree (prefix.Minus s at) = after_minus outer tree s at t.lexeme.kind

abbrev pub first_state : LexemeKind → Option State
first_state kind.Open = Some (inside [] (tree_of [] []) prefix.Nothing)
first_state _ = None

abbrev pub next_state : State → Terminal → Option State
next_state state.Start t = first_state t.lexeme.kind
next_state (state.Inside nest) t = next_inside t nest.outer nest.tree nest.prefix
next_state (state.Whole x) t = None

-- ---- Where a quoted text may come.

abbrev pub is_in_step : Prefix → Bool
is_in_step (prefix.Step s) = true
is_in_step _ = false

abbrev pub takes_quote : State → Bool
takes_quote state.Start = false
takes_quote (state.Inside nest) = is_in_step nest.prefix
takes_quote (state.Whole x) = false

-- ---- How many parentheses are open.

abbrev pub prefix_depth : Prefix → ℕ
prefix_depth prefix.Nothing = 0
prefix_depth (prefix.Opened at) = 1
prefix_depth (prefix.Step s) = 1
prefix_depth (prefix.Minus s at) = 1

abbrev pub depth : State → ℕ
depth state.Start = 0
depth (state.Inside nest) = length nest.outer + 1 + prefix_depth nest.prefix
depth (state.Whole x) = 0

abbrev pub is_deep : State → Bool
is_deep s = nat_lt 200 (depth s)
