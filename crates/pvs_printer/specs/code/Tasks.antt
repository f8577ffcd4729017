-- What is left to print, as the code keeps it: tasks, each of which stands for some pieces. A task that is no piece is replaced by
-- smaller ones.
use Rattle.std.specs.Prelude.{ℕ, ◌+◌, ◌≤◌, Bool, true, false, List, [], ◌∷◌, ◌++◌}
use Rattle.pvs_terms.specs.Tree as t
use Rattle.pvs_terms.specs.Tree.{Tree, Ref, Trees, size}
use Rattle.pvs_printer.specs.declared.words.Sign.TheVariants as sign
use Rattle.pvs_printer.specs.Form.{Declared, Bound}
use Rattle.pvs_printer.specs.Mentions.{mentions, mentioned}
use Rattle.pvs_printer.specs.Names.{Names}
use Rattle.pvs_printer.specs.Pieces.{Piece, Space, Fixed, Named, Number, binder_sign, infix_sign, variable_pieces, guarded, is_tight, pieces, list_pieces, spell}
use Rattle.pvs_printer.specs.Row as r
use Rattle.pvs_printer.specs.Row.{Row, row}
use Rattle.pvs_printer.specs.TreeForm.{form, exprs, components, actuals, single, number_if}

pub data Task : Type 0 where
  Write : Piece → Task
  -- a tree under so many binders, and one as an operand
  Print : ℕ → Tree → Task
  Operand : ℕ → Tree → Task
  -- arguments or parts, components, and actuals, with commas between them
  Arguments : ℕ → List Tree → Task
  Components : ℕ → List Tree → Task
  Actuals : Trees → Task
  -- a variable and a colon, where it is mentioned
  Binding : Bool → ℕ → Task

module _ (names : Names) (vars : ℕ) where
  abbrev pub task_pieces : Task → List Piece
  task_pieces (Write p) = p ∷ []
  task_pieces (Print d x) = pieces (form names vars x d)
  task_pieces (Operand d x) = guarded (is_tight (form names vars x d)) (pieces (form names vars x d))
  task_pieces (Arguments d xs) = list_pieces (exprs (λ e u. form names vars u e) d xs)
  task_pieces (Components d xs) = list_pieces (components (λ e u. form names vars u e) d xs)
  task_pieces (Actuals xs) = list_pieces (actuals (λ e u. form names vars u e) xs)
  task_pieces (Binding b n) = variable_pieces (number_if b n)

  abbrev pub all_pieces : List Task → List Piece
  all_pieces [] = []
  all_pieces (x ∷ xs) = task_pieces x ++ all_pieces xs

-- ---- What a task is replaced by.

abbrev pub ref_tasks : Names → Ref → List Task
ref_tasks names (t.Own n) = Write (Named (Declared (names.own n))) ∷ []
ref_tasks names (t.Formal n) = Write (Named (Declared (names.formal n))) ∷ []
ref_tasks names (t.Inst th n t.none) = Write (Named (Declared th)) ∷ Write (Fixed sign.Dot) ∷ Write (Named (Declared (names.entry th n))) ∷ []
ref_tasks names (t.Inst th n (t.more x xs)) =
    Write (Named (Declared th)) ∷ Write (Fixed sign.OpenBracket) ∷ Actuals (t.more x xs) ∷ Write (Fixed sign.CloseBracket) ∷ Write (Fixed sign.Dot) ∷ Write (Named (Declared (names.entry th n))) ∷ []

module _ (names : Names) (vars : ℕ) where
  abbrev pub row_tasks : ℕ → Row → List Task
  row_tasks d (r.Truth true) = Write (Fixed sign.True) ∷ []
  row_tasks d (r.Truth false) = Write (Fixed sign.False) ∷ []
  row_tasks d (r.Variable n) = Write (Named (single vars d n)) ∷ []
  row_tasks d (r.Named s q) = ref_tasks names q
  row_tasks d (r.Quantified w a p) =
      Write (Fixed (binder_sign w)) ∷ Write Space ∷ Write (Fixed sign.Open) ∷ Write (Named (Bound (d + 1))) ∷ Write (Fixed sign.Colon) ∷ Write Space ∷ Print d a
      ∷ Write (Fixed sign.Close) ∷ Write (Fixed sign.Colon) ∷ Write Space ∷ Print (d + 1) p ∷ []
  row_tasks d (r.Not a) = Write (Fixed sign.Not) ∷ Write Space ∷ Operand d a ∷ []
  row_tasks d (r.Infix w a b) = Operand d a ∷ Write Space ∷ Write (Fixed (infix_sign w)) ∷ Write Space ∷ Operand d b ∷ []
  row_tasks d (r.Cond c a b) =
      Write (Fixed sign.If) ∷ Write Space ∷ Print d c ∷ Write Space ∷ Write (Fixed sign.Then) ∷ Write Space ∷ Print d a
      ∷ Write Space ∷ Write (Fixed sign.Else) ∷ Write Space ∷ Print d b ∷ Write Space ∷ Write (Fixed sign.EndIf) ∷ []
  row_tasks d (r.Apply g x xs) = Operand d g ∷ Write (Fixed sign.Open) ∷ Arguments d (x ∷ xs) ∷ Write (Fixed sign.Close) ∷ []
  row_tasks d (r.Tuple x y ys) = Write (Fixed sign.Open) ∷ Print d x ∷ Write (Fixed sign.Comma) ∷ Write Space ∷ Arguments d (y ∷ ys) ∷ Write (Fixed sign.Close) ∷ []
  row_tasks d (r.Part a i) = Operand d a ∷ Write (Fixed sign.Backquote) ∷ Write (Number i) ∷ []
  row_tasks d r.Boolean = Write (Fixed sign.Bool) ∷ []
  row_tasks d (r.SubType a p) =
      Write (Fixed sign.OpenBrace) ∷ Write (Named (Bound (d + 1))) ∷ Write (Fixed sign.Colon) ∷ Write Space ∷ Print d a
      ∷ Write Space ∷ Write (Fixed sign.Bar) ∷ Write Space ∷ Print (d + 1) p ∷ Write (Fixed sign.CloseBrace) ∷ []
  row_tasks d (r.FunType a b) =
      Write (Fixed sign.OpenBracket) ∷ Binding (mentions 0 b) (d + 1) ∷ Print d a ∷ Write Space ∷ Write (Fixed sign.Arrow) ∷ Write Space ∷ Print (d + 1) b ∷ Write (Fixed sign.CloseBracket) ∷ []
  row_tasks d (r.TupleType a b bs) =
      Write (Fixed sign.OpenBracket) ∷ Binding (mentioned 0 (b ∷ bs)) (d + 1) ∷ Print d a ∷ Write (Fixed sign.Comma) ∷ Write Space ∷ Components (d + 1) (b ∷ bs) ∷ Write (Fixed sign.CloseBracket) ∷ []
  row_tasks d (r.TaggedTuple k a b) =
      Write (Fixed sign.Open) ∷ Write (Number k) ∷ Write (Fixed sign.Semicolon) ∷ Write Space ∷ Print d a ∷ Write (Fixed sign.Comma) ∷ Write Space ∷ Print d b ∷ Write (Fixed sign.Close) ∷ []
  row_tasks d (r.Rest a) = Operand d a ∷ Write (Fixed sign.Backquote) ∷ Write (Fixed sign.Rest) ∷ []
  row_tasks d (r.TaggedType k a b) =
      Write (Fixed sign.OpenBracket) ∷ Write (Number k) ∷ Write (Fixed sign.Semicolon) ∷ Write Space ∷ Binding (mentions 0 b) (d + 1) ∷ Print d a
      ∷ Write (Fixed sign.Comma) ∷ Write Space ∷ Print (d + 1) b ∷ Write (Fixed sign.CloseBracket) ∷ []

-- whether a tree of this row stands as an operand without parentheses
abbrev pub is_tight_row : Row → Bool
is_tight_row (r.Quantified w a p) = false
is_tight_row (r.Not a) = false
is_tight_row (r.Infix w a b) = false
is_tight_row _ = true

abbrev pub operand_tasks : Bool → ℕ → Tree → List Task
operand_tasks true d x = Print d x ∷ []
operand_tasks false d x = Write (Fixed sign.Open) ∷ Print d x ∷ Write (Fixed sign.Close) ∷ []

abbrev pub argument_tasks : ℕ → List Tree → List Task
argument_tasks d [] = []
argument_tasks d (x ∷ []) = Print d x ∷ []
argument_tasks d (x ∷ y ∷ ys) = Print d x ∷ Write (Fixed sign.Comma) ∷ Write Space ∷ Arguments d (y ∷ ys) ∷ []

abbrev pub component_tasks : ℕ → List Tree → List Task
component_tasks d [] = []
component_tasks d (x ∷ []) = Print d x ∷ []
component_tasks d (x ∷ y ∷ ys) = Binding (mentioned 0 (y ∷ ys)) (d + 1) ∷ Print d x ∷ Write (Fixed sign.Comma) ∷ Write Space ∷ Components (d + 1) (y ∷ ys) ∷ []

abbrev pub actual_tasks : Trees → List Task
actual_tasks t.none = []
actual_tasks (t.more x t.none) = Print 0 x ∷ []
actual_tasks (t.more x (t.more y ys)) = Print 0 x ∷ Write (Fixed sign.Comma) ∷ Write Space ∷ Actuals (t.more y ys) ∷ []

abbrev pub binding_tasks : Bool → ℕ → List Task
binding_tasks true n = Write (Named (Bound n)) ∷ Write (Fixed sign.Colon) ∷ Write Space ∷ []
binding_tasks false n = []

module _ (names : Names) (vars : ℕ) where
  abbrev pub expand : Task → List Task
  expand (Write p) = []
  expand (Print d x) = row_tasks names vars d (row x)
  expand (Operand d x) = operand_tasks (is_tight_row (row x)) d x
  expand (Arguments d xs) = argument_tasks d xs
  expand (Components d xs) = component_tasks d xs
  expand (Actuals xs) = actual_tasks xs
  expand (Binding b n) = binding_tasks b n

-- a task that is no piece
abbrev pub IsCompound : Task → Type 0
IsCompound (Write p) = ⊥
IsCompound _ = Unit {0}

-- ---- A stack of tasks, the first of which is the last in the list.

-- these on top, the first of them uppermost
abbrev pub onto : {A : Type 0} → List A → List A → List A
onto xs [] = xs
onto xs (y ∷ ys) = onto xs ys ++ y ∷ []

-- the bytes of what is left to print
abbrev pub left_bytes : Names → ℕ → List Task → List ℕ
left_bytes names vars [] = []
left_bytes names vars (x ∷ xs) = left_bytes names vars xs ++ spell (task_pieces names vars x)

-- ---- How much is left to do.

abbrev mutual
  pub work : Tree → ℕ
  work (t.Leaf o) = 20
  work (t.Var n) = 20
  work (t.Name s q) = 20 + ref_work q
  work (t.Bind o a b) = 20 + (work a + work b)
  work (t.Join o a b) = 20 + (work a + work b)
  work (t.Project o a) = 20 + work a
  work (t.If a b c) = 20 + (work a + (work b + work c))

  pub ref_work : Ref → ℕ
  ref_work (t.Own n) = 0
  ref_work (t.Formal n) = 0
  ref_work (t.Inst th n xs) = trees_work xs

  pub trees_work : Trees → ℕ
  trees_work t.none = 1
  trees_work (t.more x xs) = 4 + (work x + trees_work xs)

abbrev pub arguments_work : List Tree → ℕ
arguments_work [] = 1
arguments_work (x ∷ xs) = 4 + (work x + arguments_work xs)

abbrev pub components_work : List Tree → ℕ
components_work [] = 1
components_work (x ∷ xs) = 8 + (work x + components_work xs)

abbrev pub task_work : Task → ℕ
task_work (Write p) = 1
task_work (Print d x) = work x
task_work (Operand d x) = 3 + work x
task_work (Arguments d xs) = arguments_work xs
task_work (Components d xs) = components_work xs
task_work (Actuals xs) = trees_work xs
task_work (Binding b n) = 4

abbrev pub all_work : List Task → ℕ
all_work [] = 0
all_work (x ∷ xs) = task_work x + all_work xs

-- ---- The number of the next binder has its range.

abbrev pub has_room : ℕ → Tree → Type 0
has_room d x = d + size x ≤ 1000000

abbrev pub AllHaveRoom : ℕ → List Tree → Type 0
AllHaveRoom d [] = Unit {0}
AllHaveRoom d (x ∷ xs) = has_room d x × AllHaveRoom d xs

-- each component stands under those before it
abbrev pub ComponentsHaveRoom : ℕ → List Tree → Type 0
ComponentsHaveRoom d [] = Unit {0}
ComponentsHaveRoom d (x ∷ xs) = has_room d x × ComponentsHaveRoom (d + 1) xs

abbrev pub ActualsHaveRoom : Trees → Type 0
ActualsHaveRoom t.none = Unit {0}
ActualsHaveRoom (t.more x xs) = has_room 0 x × ActualsHaveRoom xs

abbrev pub HasRoom : Task → Type 0
HasRoom (Write p) = Unit {0}
HasRoom (Print d x) = has_room d x
HasRoom (Operand d x) = has_room d x
HasRoom (Arguments d xs) = AllHaveRoom d xs
HasRoom (Components d xs) = ComponentsHaveRoom d xs
HasRoom (Actuals xs) = ActualsHaveRoom xs
HasRoom (Binding b n) = Unit {0}

abbrev pub AllRoomy : List Task → Type 0
AllRoomy [] = Unit {0}
AllRoomy (x ∷ xs) = HasRoom x × AllRoomy xs
