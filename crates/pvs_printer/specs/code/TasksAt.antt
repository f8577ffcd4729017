-- What the tasks of the code stand for.
use Rattle.std.specs.Prelude.{◌≡◌, ℕ, zero, suc, ◌<◌, ◌+◌, List, [], ◌∷◌, ◌++◌, map}
use Rattle.pvs_terms.specs.Tree as t
use Rattle.pvs_terms.specs.Tree.{Tree, Trees, ref_actuals}
use Rattle.pvs_terms.specs.Stored.{Stored, tree_at, ref_at, text_at, IsNode, IsRef, IsName}
use Rattle.pvs_printer.specs.declared.tasks.Piece.{Piece}
use Rattle.pvs_printer.specs.declared.tasks.Piece.TheVariants as piece
use Rattle.pvs_printer.specs.declared.tasks.Task.{Task}
use Rattle.pvs_printer.specs.declared.tasks.Task.TheVariants as task
use Rattle.pvs_printer.specs.Form.{Declared, Bound, Free}
use Rattle.pvs_printer.specs.Mentions.{mentions}
use Rattle.pvs_printer.specs.Names.{Names}
use Rattle.pvs_printer.specs.Pieces as shown
use Rattle.pvs_printer.specs.Pieces.{spell}
use Rattle.pvs_printer.specs.code.Steps.{part_list, component_list}
use Rattle.pvs_printer.specs.code.Tasks as model

-- the actuals from this one on, counted from 0
abbrev pub trees_from : ℕ → Trees → Trees
trees_from n t.none = t.none
trees_from zero (t.more x xs) = t.more x xs
trees_from (suc n) (t.more x xs) = trees_from n xs

module _ (s : Stored) (names : Names) where
  abbrev pub piece_at : Piece → shown.Piece
  piece_at piece.Space = shown.Space
  piece_at (piece.Fixed k) = shown.Fixed k
  piece_at (piece.Bound n) = shown.Named (Bound n)
  piece_at (piece.Free n) = shown.Named (Free n)
  piece_at (piece.Number n) = shown.Number n
  piece_at (piece.Own n) = shown.Named (Declared (names.own n))
  piece_at (piece.Formal n) = shown.Named (Declared (names.formal n))
  piece_at (piece.Theory th) = shown.Named (Declared (text_at s th))
  piece_at (piece.Entry th n) = shown.Named (Declared (names.entry (text_at s th) n))

  abbrev pub task_at : Task → model.Task
  task_at (task.Write p) = model.Write (piece_at p)
  task_at (task.Print d x) = model.Print d (tree_at s x)
  task_at (task.Operand d x) = model.Operand d (tree_at s x)
  task_at (task.Arguments d k x) = model.Arguments d (part_list k (tree_at s x))
  task_at (task.Components d k x) = model.Components d (component_list k (tree_at s x))
  task_at (task.Actuals r n) = model.Actuals (trees_from n (ref_actuals (ref_at s r)))
  task_at (task.Binding n x) = model.Binding (mentions 0 (tree_at s x)) n

  abbrev pub tasks_at : List Task → List model.Task
  tasks_at xs = map task_at xs

-- the numbers of a task are of the store
abbrev pub PieceIn : Stored → Piece → Type 0
PieceIn s (piece.Theory th) = IsName s th
PieceIn s (piece.Entry th n) = IsName s th
PieceIn s _ = Unit {0}

abbrev pub TaskIn : Stored → Task → Type 0
TaskIn s (task.Write p) = PieceIn s p
TaskIn s (task.Print d x) = IsNode s x
TaskIn s (task.Operand d x) = IsNode s x
TaskIn s (task.Arguments d k x) = IsNode s x
TaskIn s (task.Components d k x) = IsNode s x
TaskIn s (task.Actuals r n) = IsRef s r
TaskIn s (task.Binding n x) = IsNode s x

abbrev pub TasksIn : Stored → List Task → Type 0
TasksIn s [] = Unit {0}
TasksIn s (x ∷ xs) = TaskIn s x × TasksIn s xs

-- these were put on the stack, and stand for the tasks that the names give
pub record Pushes (s : Stored) (ts : Names → List model.Task) (old new : List Task) : Type 0 where
  pub tasks : List Task
  pub pushed : new ≡ model.onto old tasks
  pub within : TasksIn s tasks
  pub stand : (names : Names) → tasks_at s names tasks ≡ ts names

-- each has room for the numbers of its binders, whatever the names are
abbrev pub HaveRoom : Stored → List Task → Type 0
HaveRoom s xs = (names : Names) → model.AllRoomy (tasks_at s names xs)

-- what a step does: it writes the first bytes of the task, and puts tasks for the others on the stack, with less to do
pub record Steps (s : Stored) (names : Names) (vars : ℕ) (x : Task) (old new : List Task) (before after : List ℕ) : Type 0 where
  pub written : List ℕ
  pub adds : after ≡ before ++ written
  pub left : spell (model.task_pieces names vars (task_at s names x)) ++ model.left_bytes names vars (tasks_at s names old) ≡ written ++ model.left_bytes names vars (tasks_at s names new)
  pub less : model.all_work (tasks_at s names new) < model.all_work (tasks_at s names old) + model.task_work (task_at s names x)
  pub room : HaveRoom s old → HaveRoom s new
  pub within : TasksIn s old → TasksIn s new

-- of a text, all but the rest was added
pub record Progress (old text new rest : List ℕ) : Type 0 where
  pub written : List ℕ
  pub whole : text ≡ written ++ rest
  pub adds : new ≡ old ++ written
