-- What is left to do, and what it finds.
use Rattle.std.specs.Prelude.{◌≡◌, ℕ, ◌+◌, ◌*◌, true, false, List, [], ◌∷◌, ◌++◌, drop, length, reverse, Option, Some, None}
use Rattle.std.specs.Borrow.{Bor}
use Rattle.pvs_base.specs.declared.place.Pos.{Pos}
use Rattle.pvs_syntax.specs.declared.expression.Binding.{Binding}
use Rattle.pvs_syntax.specs.declared.expression.BinderWord.{BinderWord}
use Rattle.pvs_syntax.specs.declared.expression.BinderWord.TheVariants as binder_word
use Rattle.pvs_syntax.specs.declared.expression.Expr.{Expr}
use Rattle.pvs_syntax.specs.declared.expression.TypeExpr.{TypeExpr}
use Rattle.pvs_terms.specs.Tree.{Text}
use Rattle.pvs_elab.specs.Desugar.{names, type_from, type_phrase}
use Rattle.pvs_elab.specs.Phrase.{Phrase, TypeOf}
use Rattle.pvs_elab.specs.Formula.{Occurs, occurrences}
use Rattle.pvs_elab.specs.Names.{Names}
use Rattle.pvs_phrases.specs.declared.layer.Layer.{Layer}
use Rattle.pvs_phrases.specs.declared.layer.Layer.TheVariants as layer
use Rattle.pvs_phrases.specs.declared.layer.Binary.{Binary}
use Rattle.pvs_phrases.specs.declared.layer.Binary.TheVariants as binary
use Rattle.pvs_phrases.specs.declared.layer.Ternary.{Ternary}
use Rattle.pvs_phrases.specs.declared.layer.Ternary.TheVariants as ternary
use Rattle.pvs_phrases.specs.declared.part.Part.{Part}
use Rattle.pvs_phrases.specs.declared.part.Part.TheVariants as part
use Rattle.pvs_phrases.specs.Parts.{bounds, phrase_at}
use Rattle.pvs_phrases.specs.Size.{size}
use Rattle.pvs_free_variables.specs.declared.task.Task.{Task}
use Rattle.pvs_free_variables.specs.declared.task.Task.TheVariants as task
use Rattle.pvs_free_variables.specs.declared.task.Tasks.{Tasks}
use Rattle.pvs_free_variables.specs.code.Bindings.{shared_occurrences, names_onto, bindings_work}

abbrev pub next_first : Tasks → List Task
next_first ts = reverse ts.stack.items

-- what these tasks find in order, under binders with these names
abbrev pub task_occurrences : Text → Names → List Text → List Task → List Occurs
task_occurrences text ns bound [] = []
task_occurrences text ns bound (task.Term p ∷ ts) = occurrences ns true bound (phrase_at text p) ++ task_occurrences text ns bound ts
task_occurrences text ns bound (task.Type p ∷ ts) = occurrences ns false bound (phrase_at text p) ++ task_occurrences text ns bound ts
task_occurrences text ns bound (task.Bindings bs k searched ∷ ts) =
    shared_occurrences ns searched bound (bounds text (drop k bs.now)) ++ task_occurrences text ns (names_onto bound (bounds text (drop k bs.now))) ts
task_occurrences text ns bound (task.Enter x ∷ ts) = task_occurrences text ns (x.now ∷ bound) ts
task_occurrences text ns bound (task.EnterAll bs ∷ ts) = task_occurrences text ns (names (bounds text bs.now) ++ bound) ts
task_occurrences text ns bound (task.Leave n ∷ ts) = task_occurrences text ns (drop n bound) ts

-- a measure that falls with each task
abbrev pub task_work : Text → Task → ℕ
task_work text (task.Term p) = 8 * size (phrase_at text p)
task_work text (task.Type p) = 8 * size (phrase_at text p)
task_work text (task.Bindings bs k searched) = bindings_work (bounds text (drop k bs.now))
task_work text (task.Enter x) = 1
task_work text (task.EnterAll bs) = 1
task_work text (task.Leave n) = 1

abbrev pub work : Text → List Task → ℕ
work text [] = 0
work text (t ∷ ts) = task_work text t + work text ts

-- a task in the scope of a name, and in that of several variables
abbrev pub under : Bor Text → Task → List Task
under x t = task.Enter x ∷ t ∷ task.Leave 1 ∷ []

abbrev pub under_all : Bor (List Binding) → Task → List Task
under_all bs t = task.EnterAll bs ∷ t ∷ task.Leave (length bs.now) ∷ []

-- the type that is written next after so many of these bindings
abbrev pub type_written : Text → Text → Pos → Option (Bor TypeExpr) → Phrase
type_written text x pos (Some a) = type_phrase text a.now
type_written text x pos None = TypeOf x pos

abbrev pub type_tasks : Option (Bor TypeExpr) → List Task
type_tasks (Some a) = task.Type (part.Type a) ∷ []
type_tasks None = []

-- the type that is written next is added as a task
pub record AddsType (old new : List Task) (bs : List Binding) (k : ℕ) : Type 0 where
  pub written : Option (Bor TypeExpr)
  pub is : (text x : Text) (pos : Pos) → type_from x pos (bounds text (drop k bs)) ≡ type_written text x pos written
  pub tasks : new ≡ type_tasks written ++ old

-- what is to be done of bindings and their scopes
abbrev pub quantifier_tasks : Bor (List Binding) → Bor Expr → List Task
quantifier_tasks bs e = task.Bindings bs 0 false ∷ task.Term (part.Expr e) ∷ task.Leave (length bs.now) ∷ []

abbrev pub scope_tasks : Bor (List Binding) → Task → List Task
scope_tasks bs t = task.Bindings bs 0 false ∷ task.Leave (length bs.now) ∷ under_all bs t

abbrev pub binder_tasks : BinderWord → Bor (List Binding) → Bor Expr → List Task
binder_tasks binder_word.Forall bs e = quantifier_tasks bs e
binder_tasks binder_word.Exists bs e = quantifier_tasks bs e
binder_tasks binder_word.Lambda bs e = scope_tasks bs (task.Term (part.Expr e))

abbrev pub tuple_tasks : Bor (List Binding) → List Task
tuple_tasks bs = task.Bindings bs 0 false ∷ task.Leave (length bs.now) ∷ []

-- what is to be done of a form
abbrev pub binary_tasks : Binary → Part → Part → List Task
binary_tasks binary.Apply x y = task.Term x ∷ task.Term y ∷ []
binary_tasks (binary.Tuple k p) x y = task.Term x ∷ task.Term y ∷ []
binary_tasks binary.Equal x y = task.Term x ∷ task.Term y ∷ []
binary_tasks binary.Iff x y = task.Term x ∷ task.Term y ∷ []
binary_tasks (binary.Forall n pos) x y = task.Type x ∷ under n (task.Term y)
binary_tasks (binary.Lambda bs pos) x y = task.Type x ∷ under_all bs (task.Term y)
binary_tasks (binary.Let n pos) x y = task.Term x ∷ under n (task.Term y)
binary_tasks (binary.Subtype n pos) x y = task.Type x ∷ under n (task.Term y)
binary_tasks (binary.Function bs pos) x y = task.Type x ∷ under_all bs (task.Type y)
binary_tasks (binary.Product k n pos) x y = task.Type x ∷ under n (task.Type y)

abbrev pub ternary_tasks : Ternary → Part → Part → Part → List Task
ternary_tasks (ternary.Choice early join p) x y z = task.Term x ∷ task.Term y ∷ task.Term z ∷ []
ternary_tasks (ternary.LetAs n pos) x y z = task.Type x ∷ task.Term y ∷ under n (task.Term z)

abbrev pub layer_tasks : Layer → List Task
layer_tasks (layer.Nullary f) = []
layer_tasks (layer.Unary f x) = task.Term x ∷ []
layer_tasks (layer.Binary f x y) = binary_tasks f x y
layer_tasks (layer.Ternary f x y z) = ternary_tasks f x y z
