-- What is read of a script, one token at a time and without looking ahead.
use Rattle.std.specs.Prelude.{ℕ, ◌+◌, nat_lt, Bool, pos, List, [], ◌∷◌, ◌++◌, length, Option, Some, None}
use Rattle.pvs_base.specs.declared.place.Pos.{Pos}
use Rattle.pvs_script.specs.declared.lexeme.Lexeme.{Lexeme}
use Rattle.pvs_script.specs.declared.lexeme.Sort.{Sort}
use Rattle.pvs_script.specs.declared.lexeme.Sort.TheVariants as sort
use Rattle.pvs_script.specs.declared.tree.Rule.{Rule}
use Rattle.pvs_script.specs.declared.tree.Rule.TheVariants as rule
use Rattle.pvs_script.specs.declared.tree.Step.{Step}
use Rattle.pvs_script.specs.declared.tree.Script.{Script}
use Rattle.pvs_script.specs.declared.tree.Script.TheViews.{roll-Script}
use Rattle.pvs_script.specs.declared.state.State.{State}
use Rattle.pvs_script.specs.declared.state.State.TheVariants as state
use Rattle.pvs_script.specs.declared.state.OpenTree.{OpenTree}
use Rattle.pvs_script.specs.declared.state.Prefix.{Prefix}
use Rattle.pvs_script.specs.declared.state.Prefix.TheVariants as prefix
use Rattle.pvs_script.specs.Grammar.{antecedent_number}

abbrev pub tree_of : List Step → List Script → OpenTree
tree_of ss xs = record { steps = ss; trees = xs }

abbrev pub inside : List OpenTree → OpenTree → Prefix → State
inside outer tree p = state.Inside (record { outer = outer; tree = tree; prefix = p })

abbrev pub step_of : Rule → Pos → Step
step_of r at = record { rule = r; pos = at }

abbrev pub with_step : OpenTree → Step → OpenTree
with_step tree s = tree_of (tree.steps ++ s ∷ []) tree.trees

abbrev pub with_tree : OpenTree → Script → OpenTree
with_tree tree x = tree_of tree.steps (tree.trees ++ x ∷ [])

abbrev pub script_of : OpenTree → Script
script_of tree = roll-Script (record { steps = tree.steps; trees = tree.trees })

abbrev pub with_first : OpenTree → Option (List OpenTree × OpenTree) → List OpenTree × OpenTree
with_first tree None = ([], tree)
with_first tree (Some p) = (tree ∷ p.0, p.1)

-- the last of the trees, and those before it
abbrev pub last_of : List OpenTree → Option (List OpenTree × OpenTree)
last_of [] = None
last_of (tree ∷ trees) = Some (with_first tree (last_of trees))

-- a script that ends inside the last of these trees, if there is one
abbrev pub state_after_in : Script → Option (List OpenTree × OpenTree) → State
state_after_in x None = state.Whole x
state_after_in x (Some p) = inside p.0 (with_tree p.1 x) prefix.Nothing

abbrev pub state_after : List OpenTree → Script → State
state_after outer x = state_after_in x (last_of outer)

-- ---- What the next token leads to. None: it can't come.

abbrev pub at : List OpenTree → OpenTree → Prefix → Option State
at outer tree p = Some (inside outer tree p)

-- the end of a tree, which has a step
abbrev pub closed : List OpenTree → OpenTree → List Step → Option State
closed outer tree [] = None
closed outer tree (s ∷ ss) = Some (state_after outer (script_of tree))

-- a step, which stands before all trees
abbrev pub in_step : List OpenTree → OpenTree → Prefix → List Script → Option State
in_step outer tree p [] = Some (inside outer tree p)
in_step outer tree p (x ∷ xs) = None

-- a tree, which stands after a step
abbrev pub in_tree : List OpenTree → OpenTree → Pos → List Step → Option State
in_tree outer tree at [] = None
in_tree outer tree at (s ∷ ss) = Some (inside (outer ++ tree ∷ []) (tree_of [] []) (prefix.Opened at))

abbrev pub after_whole : Lexeme → List OpenTree → OpenTree → Sort → Option State
after_whole t outer tree sort.Open = Some (inside outer tree (prefix.Opened t.pos))
after_whole t outer tree sort.Close = closed outer tree tree.steps
after_whole t outer tree _ = None

abbrev pub after_open : Lexeme → List OpenTree → OpenTree → Pos → Sort → Option State
after_open t outer tree at sort.Axiom = in_step outer tree (prefix.Step (step_of rule.Axiom at)) tree.trees
after_open t outer tree at sort.If = in_step outer tree (prefix.If at) tree.trees
after_open t outer tree at sort.Open = in_tree outer tree t.pos tree.steps
after_open t outer tree at _ = None

abbrev pub after_if : Lexeme → List OpenTree → OpenTree → Pos → Sort → Option State
after_if t outer tree at sort.Number = Some (inside outer tree (prefix.Step (step_of (rule.If (pos t.number)) at)))
after_if t outer tree at sort.Minus = Some (inside outer tree (prefix.Minus at))
after_if t outer tree at _ = None

abbrev pub after_minus : Lexeme → List OpenTree → OpenTree → Pos → Sort → Option State
after_minus t outer tree at sort.Number = Some (inside outer tree (prefix.Step (step_of (rule.If (antecedent_number t.number)) at)))
after_minus t outer tree at _ = None

abbrev pub after_step : List OpenTree → OpenTree → Step → Sort → Option State
after_step outer tree s sort.Close = Some (inside outer (with_step tree s) prefix.Nothing)
after_step outer tree s _ = None

abbrev pub next_inside : Lexeme → List OpenTree → OpenTree → Prefix → Option State
next_inside t outer tree prefix.Nothing = after_whole t outer tree t.sort
next_inside t outer tree (prefix.Opened at) = after_open t outer tree at t.sort
next_inside t outer tree (prefix.If at) = after_if t outer tree at t.sort
next_inside t outer tree (prefix.Minus at) = after_minus t outer tree at t.sort
next_inside t outer tree (prefix.Step s) = after_step outer tree s t.sort

abbrev pub first_state : Sort → Option State
first_state sort.Open = Some (inside [] (tree_of [] []) prefix.Nothing)
first_state _ = None

abbrev pub next_state : State → Lexeme → Option State
next_state state.Start t = first_state t.sort
next_state (state.Inside nest) t = next_inside t nest.outer nest.tree nest.prefix
next_state (state.Whole x) t = None

-- ---- How many parentheses are open.

abbrev pub prefix_depth : Prefix → ℕ
prefix_depth prefix.Nothing = 0
prefix_depth (prefix.Opened at) = 1
prefix_depth (prefix.If at) = 1
prefix_depth (prefix.Minus at) = 1
prefix_depth (prefix.Step s) = 1

abbrev pub depth : State → ℕ
depth state.Start = 0
depth (state.Inside nest) = length nest.outer + 1 + prefix_depth nest.prefix
depth (state.Whole x) = 0

abbrev pub is_deep : State → Bool
is_deep s = nat_lt 200 (depth s)
