-- The tasks that are put on the stack.
use Rattle.std.proofs.Common.{◌≡◌, ℕ, zero, suc, ◌+◌, ◌-◌, ◌<◌, ◌≤◌, length, Bool, true, false, nat_le, ◌==◌, List, [], ◌∷◌, slice_index_or, refl, sym, subst, ap, ◌∙◌, add-one, arith}
use Rattle.std.specs.Prelude.{Result, OnOk}
use Rattle.pvs_terms.specs.Tree as t
use Rattle.pvs_terms.specs.Tree.{Text, Tree, Ref, Trees, ref_actuals, size}
use Rattle.pvs_terms.specs.Stored.{Stored, tree_at, trees_at, AllBelow}
use Rattle.pvs_printer.specs.declared.words.Sign.TheVariants as sign
use Rattle.pvs_printer.specs.Form.{Declared}
use Rattle.pvs_printer.specs.Mentions.{mentions, mentioned}
use Rattle.pvs_printer.specs.Names.{Names}
use Rattle.pvs_printer.specs.Pieces.{Space, Fixed, Named}
use Rattle.pvs_printer.specs.code.RowsAt.{apply_row, tuple_row, type_row, row_at}
use Rattle.pvs_printer.specs.code.Steps.{part_list, component_list, listed_by}
use Rattle.pvs_printer.specs.code.Tasks.{Task, Write, Print, Operand, Arguments, Components, Actuals, Binding, ref_tasks, row_tasks, argument_tasks, component_tasks, actual_tasks, HasRoom, ComponentsHaveRoom}
use Rattle.pvs_printer.specs.code.TasksAt.{trees_from, task_at, Pushes}
use Rattle.pvs_printer.specs.declared.row.Row as code_row
use Rattle.pvs_printer.specs.declared.tasks.Task as code
use Rattle.pvs_printer.specs.declared.tasks.Task.TheVariants as task
use Rattle.pvs_printer.proofs.MentionLaws.{mentioned_listed}

-- a list of parts or components is not empty
pub record Filled (xs : List Tree) : Type 0 where
  pub y : Tree
  pub ys : List Tree
  pub is : xs ≡ y ∷ ys

filled_by : (b : Bool) (x a : Tree) (xs : List Tree) → Filled (listed_by b x (a ∷ xs))
filled_by true x a xs = record { y = a; ys = xs; is = refl }
filled_by false x a xs = record { y = x; ys = []; is = refl }

filled_parts : (k : ℕ) (x : Tree) → Filled (part_list k x)
filled_parts k (t.Tup j a b) = filled_by (nat_le 2 k) (t.Tup j a b) a (part_list (k - 1) b)
filled_parts k x = record { y = x; ys = []; is = refl }

filled_components : (k : ℕ) (x : Tree) → Filled (component_list k x)
filled_components k (t.TPair j a b) = filled_by (nat_le 2 k) (t.TPair j a b) a (component_list (k - 1) b)
filled_components k x = record { y = x; ys = []; is = refl }

module _ (names : Names) (vars : ℕ) where
  apply_by : (d : ℕ) (f : Tree) (xs : List Tree) (r : Filled xs) → Operand d f ∷ Write (Fixed sign.Open) ∷ Arguments d xs ∷ Write (Fixed sign.Close) ∷ [] ≡ row_tasks names vars d (apply_row f xs)
  apply_by d f xs r = ap (λ l. Operand d f ∷ Write (Fixed sign.Open) ∷ Arguments d l ∷ Write (Fixed sign.Close) ∷ []) r.is ∙ ap (λ l. row_tasks names vars d (apply_row f l)) (sym r.is)

  pub apply_tasks : (d : ℕ) (f : Tree) (k : ℕ) (x : Tree) → Operand d f ∷ Write (Fixed sign.Open) ∷ Arguments d (part_list k x) ∷ Write (Fixed sign.Close) ∷ [] ≡ row_tasks names vars d (apply_row f (part_list k x))
  apply_tasks d f k x = apply_by d f (part_list k x) (filled_parts k x)

  abbrev tuple_list : ℕ → Tree → List Tree → List Task
  tuple_list d a xs = Write (Fixed sign.Open) ∷ Print d a ∷ Write (Fixed sign.Comma) ∷ Write Space ∷ Arguments d xs ∷ Write (Fixed sign.Close) ∷ []

  tuple_by : (d : ℕ) (a : Tree) (xs : List Tree) (r : Filled xs) → tuple_list d a xs ≡ row_tasks names vars d (tuple_row a xs)
  tuple_by d a xs r = ap (tuple_list d a) r.is ∙ ap (λ l. row_tasks names vars d (tuple_row a l)) (sym r.is)

  pub tuple_tasks : (d k : ℕ) (a b : Tree) → Write (Fixed sign.Open) ∷ Print d a ∷ Write (Fixed sign.Comma) ∷ Write Space ∷ Arguments d (part_list k b) ∷ Write (Fixed sign.Close) ∷ [] ≡ row_tasks names vars d (tuple_row a (part_list k b))
  tuple_tasks d k a b = tuple_by d a (part_list k b) (filled_parts k b)

  abbrev type_list : ℕ → Bool → Tree → List Tree → List Task
  type_list d m a xs = Write (Fixed sign.OpenBracket) ∷ Binding m (d + 1) ∷ Print d a ∷ Write (Fixed sign.Comma) ∷ Write Space ∷ Components (d + 1) xs ∷ Write (Fixed sign.CloseBracket) ∷ []

  type_by : (d : ℕ) (a : Tree) (xs : List Tree) (r : Filled xs) → type_list d (mentioned 0 xs) a xs ≡ row_tasks names vars d (type_row a xs)
  type_by d a xs r = ap (λ l. type_list d (mentioned 0 l) a l) r.is ∙ ap (λ l. row_tasks names vars d (type_row a l)) (sym r.is)

  pub type_tasks : (d k : ℕ) (a b : Tree)
      → Write (Fixed sign.OpenBracket) ∷ Binding (mentions 0 b) (d + 1) ∷ Print d a ∷ Write (Fixed sign.Comma) ∷ Write Space ∷ Components (d + 1) (component_list k b) ∷ Write (Fixed sign.CloseBracket) ∷ [] ≡ row_tasks names vars d (type_row a (component_list k b))
  type_tasks d k a b = ap (λ m. type_list d m a (component_list k b)) (sym (mentioned_listed 0 k b)) ∙ type_by d a (component_list k b) (filled_components k b)

abbrev argument_list : ℕ → Tree → List Tree → List Task
argument_list d a xs = Print d a ∷ Write (Fixed sign.Comma) ∷ Write Space ∷ Arguments d xs ∷ []

arguments_by : (d : ℕ) (a : Tree) (xs : List Tree) (r : Filled xs) → argument_list d a xs ≡ argument_tasks d (a ∷ xs)
arguments_by d a xs r = ap (argument_list d a) r.is ∙ ap (λ l. argument_tasks d (a ∷ l)) (sym r.is)

pub more_arguments : (d m k : ℕ) (x a b : Tree) → part_list k x ≡ a ∷ part_list (k - 1) b → m ≡ k - 1
    → Print d a ∷ Write (Fixed sign.Comma) ∷ Write Space ∷ Arguments d (part_list m b) ∷ [] ≡ argument_tasks d (part_list k x)
more_arguments d m k x a b e h =
    ap (λ n. argument_list d a (part_list n b)) h ∙ arguments_by d a (part_list (k - 1) b) (filled_parts (k - 1) b) ∙ ap (argument_tasks d) (sym e)

abbrev component_list_of : ℕ → Bool → Tree → List Tree → List Task
component_list_of d m a xs = Binding m (d + 1) ∷ Print d a ∷ Write (Fixed sign.Comma) ∷ Write Space ∷ Components (d + 1) xs ∷ []

components_by : (d : ℕ) (a : Tree) (xs : List Tree) (r : Filled xs) → component_list_of d (mentioned 0 xs) a xs ≡ component_tasks d (a ∷ xs)
components_by d a xs r = ap (λ l. component_list_of d (mentioned 0 l) a l) r.is ∙ ap (λ l. component_tasks d (a ∷ l)) (sym r.is)

pub more_components : (d m k : ℕ) (x a b : Tree) → component_list k x ≡ a ∷ component_list (k - 1) b → m ≡ k - 1
    → Binding (mentions 0 b) (d + 1) ∷ Print d a ∷ Write (Fixed sign.Comma) ∷ Write Space ∷ Components (d + 1) (component_list m b) ∷ [] ≡ component_tasks d (component_list k x)
more_components d m k x a b e h =
    ap (λ n. component_list_of d (mentions 0 b) a (component_list n b)) h ∙ ap (λ n. component_list_of d n a (component_list (k - 1) b)) (sym (mentioned_listed 0 (k - 1) b))
    ∙ components_by d a (component_list (k - 1) b) (filled_components (k - 1) b) ∙ ap (component_tasks d) (sym e)

-- the tasks of a row, where it is another one
pub row_tasks_of : {T E : Type 0} (s : Stored) (vars d : ℕ) (q r : code_row.Row) (o : Result T E) (old new : List code.Task) → q ≡ r → OnOk o (Pushes s (λ names. row_tasks names vars d (row_at s r)) old new) → OnOk o (Pushes s (λ names. row_tasks names vars d (row_at s q)) old new)
row_tasks_of s vars d q r o old new e h = subst (λ z. OnOk o (Pushes s (λ names. row_tasks names vars d (row_at s z)) old new)) (sym e) h

-- ---- Actuals.

pub from_first : (xs : Trees) → trees_from 0 xs ≡ xs
from_first t.none = refl
from_first (t.more x xs) = refl

named_by : (names : Names) (th : Text) (n : ℕ) (s : Stored) (xs : List ℕ) → (length xs == 0) ≡ false
    → Write (Named (Declared th)) ∷ Write (Fixed sign.OpenBracket) ∷ Actuals (trees_at s xs) ∷ Write (Fixed sign.CloseBracket) ∷ Write (Fixed sign.Dot) ∷ Write (Named (Declared (names.entry th n))) ∷ []
    ≡ ref_tasks names (t.Inst th n (trees_at s xs))
named_by names th n s [] h = cc
named_by names th n s (x ∷ xs) h = refl

pub instance_tasks : (names : Names) (th : Text) (n : ℕ) (s : Stored) (xs : List ℕ) (q : Ref) → (length xs == 0) ≡ false → q ≡ t.Inst th n (ref_actuals q) → trees_at s xs ≡ ref_actuals q
    → Write (Named (Declared th)) ∷ Write (Fixed sign.OpenBracket) ∷ Actuals (trees_from 0 (ref_actuals q)) ∷ Write (Fixed sign.CloseBracket) ∷ Write (Fixed sign.Dot) ∷ Write (Named (Declared (names.entry th n))) ∷ []
    ≡ ref_tasks names q
instance_tasks names th n s xs q h e g =
    ap (λ z. Write (Named (Declared th)) ∷ Write (Fixed sign.OpenBracket) ∷ Actuals z ∷ Write (Fixed sign.CloseBracket) ∷ Write (Fixed sign.Dot) ∷ Write (Named (Declared (names.entry th n))) ∷ []) (from_first (ref_actuals q) ∙ sym g)
    ∙ named_by names th n s xs h ∙ ap (λ z. ref_tasks names (t.Inst th n z)) g ∙ ap (ref_tasks names) (sym e)

pub no_actuals : (s : Stored) (n : ℕ) (xs : List ℕ) → length xs ≤ n → trees_from n (trees_at s xs) ≡ t.none
no_actuals s n [] h = refl
no_actuals s zero (x ∷ xs) h = absurd (omega (arith, h))
no_actuals s (suc n) (x ∷ xs) h = no_actuals s n xs (omega (arith, h))

some_actuals : (s : Stored) (d n : ℕ) (xs : List ℕ) → n < length xs → trees_from n (trees_at s xs) ≡ t.more (tree_at s (slice_index_or xs n d)) (trees_from (suc n) (trees_at s xs))
some_actuals s d n [] h = absurd (omega (arith, h))
some_actuals s d zero (x ∷ xs) h = ap (λ z. t.more (tree_at s x) z) (sym (from_first (trees_at s xs)))
some_actuals s d (suc n) (x ∷ xs) h = some_actuals s d n xs (omega (arith, h))

-- the actual at a place, by any value that is there
pub last_tasks : (s : Stored) (i n : ℕ) (xs : List ℕ) (ts : Trees) → i ≡ slice_index_or xs n i → trees_at s xs ≡ ts → n + 1 ≡ length xs → Print 0 (tree_at s i) ∷ [] ≡ actual_tasks (trees_from n ts)
last_tasks s i n xs ts e g h =
    ap (λ j. Print 0 (tree_at s j) ∷ []) e
    ∙ ap actual_tasks (ap (λ z. t.more (tree_at s (slice_index_or xs n i)) z) (sym (no_actuals s (suc n) xs (omega (arith, h)))) ∙ sym (some_actuals s i n xs (omega (arith, h))))
    ∙ ap (λ z. actual_tasks (trees_from n z)) g

pub more_tasks : (s : Stored) (i n : ℕ) (xs : List ℕ) (ts : Trees) → i ≡ slice_index_or xs n i → trees_at s xs ≡ ts → n < length xs → (n + 1 ≡ length xs → ⊥)
    → Print 0 (tree_at s i) ∷ Write (Fixed sign.Comma) ∷ Write Space ∷ Actuals (trees_from (n + 1) ts) ∷ [] ≡ actual_tasks (trees_from n ts)
more_tasks s i n xs ts e g l h =
    let x = tree_at s (slice_index_or xs n i) in
    let next : suc n < length xs = omega (arith, l, h) in
    let k = some_actuals s i (suc n) xs next in
    ap (λ j. Print 0 (tree_at s j) ∷ Write (Fixed sign.Comma) ∷ Write Space ∷ Actuals (trees_from (n + 1) ts) ∷ []) e
    ∙ ap (λ z. Print 0 x ∷ Write (Fixed sign.Comma) ∷ Write Space ∷ Actuals (trees_from (n + 1) z) ∷ []) (sym g)
    ∙ ap (λ m. Print 0 x ∷ Write (Fixed sign.Comma) ∷ Write Space ∷ Actuals (trees_from m (trees_at s xs)) ∷ []) (add-one n)
    ∙ ap (λ z. Print 0 x ∷ Write (Fixed sign.Comma) ∷ Write Space ∷ Actuals z ∷ []) k ∙ ap (λ z. actual_tasks (t.more x z)) (sym k)
    ∙ ap actual_tasks (sym (some_actuals s i n xs l)) ∙ ap (λ z. actual_tasks (trees_from n z)) g

pub none_tasks : (s : Stored) (n : ℕ) (xs : List ℕ) (ts : Trees) → trees_at s xs ≡ ts → length xs ≤ n → [] ≡ actual_tasks (trees_from n ts)
none_tasks s n xs ts g h = ap actual_tasks (sym (no_actuals s n xs h)) ∙ ap (λ z. actual_tasks (trees_from n z)) g

below_index : (m d i : ℕ) (xs : List ℕ) → AllBelow m xs → i < length xs → slice_index_or xs i d < m
below_index m d i [] h k = absurd (omega (arith, k))
below_index m d zero (x ∷ xs) h k = h.0
below_index m d (suc i) (x ∷ xs) h k = below_index m d i xs h.1 (omega (arith, k))

pub below_at : (m i n : ℕ) (xs : List ℕ) → i ≡ slice_index_or xs n i → AllBelow m xs → n < length xs → i < m
below_at m i n xs e h k = let l = below_index m i n xs h k in omega (arith, e, l)

-- ---- The numbers of binders have their range.

size_positive : (x : Tree) → 1 ≤ size x
size_positive (t.Leaf o) = omega arith
size_positive (t.Var n) = omega arith
size_positive (t.Name s q) = omega arith
size_positive (t.Bind o a b) = omega arith
size_positive (t.Join o a b) = omega arith
size_positive (t.Project o a) = omega arith
size_positive (t.If a b c) = omega arith

no_names : Names
no_names = record { own = λ n. []; formal = λ n. []; entry = λ th n. [] }

pub print_depth : (s : Stored) (q : code.Task) (d x : ℕ) → q ≡ task.Print d x → ((names : Names) → HasRoom (task_at s names q)) → d < 1000000
print_depth s q d x e h =
    let k : d + size (tree_at s x) ≤ 1000000 = subst (λ z. HasRoom (task_at s no_names z)) e (h no_names) in
    omega (arith, k, size_positive (tree_at s x))

first_room : (d : ℕ) (xs : List Tree) → Filled xs → ComponentsHaveRoom d xs → d < 1000000
first_room d xs r h =
    let k : d + size r.y ≤ 1000000 = (subst (ComponentsHaveRoom d) r.is h).0 in
    omega (arith, k, size_positive r.y)

pub components_depth : (s : Stored) (q : code.Task) (d k x : ℕ) → q ≡ task.Components d k x → ((names : Names) → HasRoom (task_at s names q)) → d < 1000000
components_depth s q d k x e h = first_room d (component_list k (tree_at s x)) (filled_components k (tree_at s x)) (subst (λ z. HasRoom (task_at s no_names z)) e (h no_names))
