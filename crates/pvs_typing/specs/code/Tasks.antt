-- What is left of a coercion: which outcomes tasks stand for, and how much work they are at most.
use Rattle.std.specs.Prelude.{◌≡◌, ◌<◌, ◌≤◌, ◌+◌, ℕ, zero, suc, List, [], ◌∷◌, ◌++◌, Result, IfOk, IfErr}
use Rattle.pvs_terms.specs.Tree.{Tree, Ref}
use Rattle.pvs_terms.specs.declared.shape.Sort.{Sort}
use Rattle.pvs_terms.specs.declared.shape.Sort.TheVariants.{OfType, OfTerm}
use Rattle.pvs_terms.specs.Stored.{Stored, tree_at}
use Rattle.pvs_subst.specs.Replace.{put_in}
use Rattle.pvs_subst.specs.Contexts.{Assumptions, Variable, context_at}
use Rattle.pvs_subst.specs.declared.context.Condition.{Condition}
use Rattle.pvs_subst.specs.declared.context.Context.{Context}
use Rattle.pvs_sig.specs.Lookups.{Lookups, type_size}
use Rattle.pvs_types.specs.Outcome.{Outcome, Accepted, outcome_after, ◌>>=◌, ◌>>◌, pure, owe, from_result, within_limits}
use Rattle.pvs_types.specs.Forms.{head}
use Rattle.pvs_types.specs.Coerce.{application, second_part, same_type, coerce}
use Rattle.pvs_typing.specs.Growth.{IsKnown, IsKnownContext}
use Rattle.pvs_typing.specs.Owed.{condition_at, conditions_at, IsKnownCondition, AreKnownConditions}
use Rattle.pvs_typing.specs.Answers.{Gives, IsFault}
use Rattle.pvs_typing.specs.State.{State, Grows}
use Rattle.pvs_typing.specs.declared.fault.TypeFault.{TypeFault}
use Rattle.pvs_typing.specs.declared.tasks.Task.{Task}
use Rattle.pvs_typing.specs.declared.tasks.Task.TheVariants.{Coerce, Satisfy, Second, Apply}
use Rattle.pvs_typing.specs.declared.tasks.Next.{Next}
use Rattle.pvs_typing.specs.declared.tasks.Next.TheVariants.{Done, Owe, One, Two, Three}

-- nothing, where the head of `b` is the type `a`
abbrev pub head_outcome : Lookups → Tree → Tree → Outcome (Unit {0})
head_outcome l b a = from_result (head l b) >>= (λ d. same_type d a)

-- the predicate of a subtype of a term
abbrev pub satisfy_outcome : Assumptions → Tree → Tree → Outcome (Unit {0})
satisfy_outcome g p t = do
  goal ← within_limits (put_in p t)
  owe g goal

-- the second component of a tuple, once the first is coerced
abbrev pub second_outcome : Lookups → Assumptions → Tree → ℕ → Tree → Tree → Tree → Outcome (Unit {0})
second_outcome l g t k first b1 b2 = do
  second ← within_limits (second_part k t)
  c1 ← within_limits (put_in b1 first)
  c2 ← within_limits (put_in b2 first)
  coerce l g second c1 c2

-- the application of a function to a variable of the domain
abbrev pub apply_outcome : Lookups → Assumptions → Tree → Tree → Tree → Tree → Outcome (Unit {0})
apply_outcome l g a t b1 b2 = do
  result ← within_limits (application a t)
  coerce l (Variable a ∷ g) result b1 b2

-- the outcome that a task stands for
abbrev pub task_outcome : Lookups → Stored → Task → Outcome (Unit {0})
task_outcome l s (Coerce g t b a) = coerce l (context_at s g.items) (tree_at s t) (tree_at s b) (tree_at s a)
task_outcome l s (Satisfy g p t) = satisfy_outcome (context_at s g.items) (tree_at s p) (tree_at s t)
task_outcome l s (Second g k t f b a) = second_outcome l (context_at s g.items) (tree_at s t) k (tree_at s f) (tree_at s b) (tree_at s a)
task_outcome l s (Apply g d t b a) = apply_outcome l (context_at s g.items) (tree_at s d) (tree_at s t) (tree_at s b) (tree_at s a)

-- that of tasks of which the last comes first, before what `rest` gives
abbrev pub stack_outcome : Lookups → Stored → List Task → Outcome (Unit {0}) → Outcome (Unit {0})
stack_outcome l s [] rest = rest
stack_outcome l s (x ∷ xs) rest = stack_outcome l s xs (task_outcome l s x >> rest)

abbrev pub next_outcome : Lookups → Stored → Next → Outcome (Unit {0})
next_outcome l s Done = pure tt
next_outcome l s (Owe c) = Accepted tt (condition_at s c ∷ []) []
next_outcome l s (One x) = task_outcome l s x
next_outcome l s (Two x y) = task_outcome l s x >> task_outcome l s y
next_outcome l s (Three x y z) = task_outcome l s x >> (task_outcome l s y >> task_outcome l s z)

-- the numbers of a task are of the store, and their names are declared
pub record IsKnownCoercion (s : Stored) (P : Sort → Ref → Type 0) (g : Context) (t b a : ℕ) : Type 0 where
  pub context : IsKnownContext s P g.items
  pub term : IsKnown s P OfTerm t
  pub from : IsKnown s P OfType b
  pub to : IsKnown s P OfType a

abbrev pub IsKnownTask : Stored → (Sort → Ref → Type 0) → Task → Type 0
IsKnownTask s P (Coerce g t b a) = IsKnownCoercion s P g t b a
IsKnownTask s P (Satisfy g p t) = IsKnownContext s P g.items × IsKnown s P OfTerm p × IsKnown s P OfTerm t
IsKnownTask s P (Second g k t f b a) = (2 ≤ k) × IsKnown s P OfTerm f × IsKnownCoercion s P g t b a
IsKnownTask s P (Apply g d t b a) = IsKnown s P OfType d × IsKnownCoercion s P g t b a

abbrev pub AreKnownTasks : Stored → (Sort → Ref → Type 0) → List Task → Type 0
AreKnownTasks s P [] = Unit {0}
AreKnownTasks s P (x ∷ xs) = IsKnownTask s P x × AreKnownTasks s P xs

abbrev pub IsKnownNext : Stored → (Sort → Ref → Type 0) → Next → Type 0
IsKnownNext s P Done = Unit {0}
IsKnownNext s P (Owe c) = IsKnownCondition s P c
IsKnownNext s P (One x) = IsKnownTask s P x
IsKnownNext s P (Two x y) = IsKnownTask s P x × IsKnownTask s P y
IsKnownNext s P (Three x y z) = IsKnownTask s P x × IsKnownTask s P y × IsKnownTask s P z

-- a bound on the steps of a coercion between types of this size in sum, which doubles with each
abbrev pub steps_bound : ℕ → ℕ
steps_bound zero = 2
steps_bound (suc n) = steps_bound n + steps_bound n

abbrev pub coercion_work : Lookups → Tree → Tree → ℕ
coercion_work l b a = steps_bound (type_size l.rank b + type_size l.rank a)

abbrev pub task_work : Lookups → Stored → Task → ℕ
task_work l s (Coerce g t b a) = coercion_work l (tree_at s b) (tree_at s a)
task_work l s (Satisfy g p t) = 1
task_work l s (Second g k t f b a) = suc (coercion_work l (tree_at s b) (tree_at s a))
task_work l s (Apply g d t b a) = suc (coercion_work l (tree_at s b) (tree_at s a))

abbrev pub stack_work : Lookups → Stored → List Task → ℕ
stack_work l s [] = 0
stack_work l s (x ∷ xs) = task_work l s x + stack_work l s xs

abbrev pub next_work : Lookups → Stored → Next → ℕ
next_work l s Done = 0
next_work l s (Owe c) = 0
next_work l s (One x) = task_work l s x
next_work l s (Two x y) = task_work l s x + task_work l s y
next_work l s (Three x y z) = task_work l s x + (task_work l s y + task_work l s z)

-- what follows a step stands for the outcome, and is less work than that
pub record Follows (l : Lookups) (s : Stored) (P : Sort → Ref → Type 0) (o : Outcome (Unit {0})) (work : ℕ) (x : Next) : Type 0 where
  pub known : IsKnownNext s P x
  pub outcome : next_outcome l s x ≡ o
  pub less : next_work l s x < work

-- the lists after what follows is added
abbrev pub tasks_after : List Task → Next → List Task
tasks_after ts Done = ts
tasks_after ts (Owe c) = ts
tasks_after ts (One x) = ts ++ x ∷ []
tasks_after ts (Two x y) = (ts ++ y ∷ []) ++ x ∷ []
tasks_after ts (Three x y z) = ((ts ++ z ∷ []) ++ y ∷ []) ++ x ∷ []

abbrev pub conditions_after : List Condition → Next → List Condition
conditions_after cs Done = cs
conditions_after cs (Owe c) = cs ++ c ∷ []
conditions_after cs (One x) = cs
conditions_after cs (Two x y) = cs
conditions_after cs (Three x y z) = cs

-- two steps that each give a tree
abbrev pub both : Outcome Tree → Outcome Tree → Outcome (Tree × Tree)
both o u = do
  c ← o
  d ← u
  pure (c, d)

-- two trees, the first of which is to be within the limits first
abbrev pub both_within : Tree → Tree → Outcome (Tree × Tree)
both_within a b = both (within_limits a) (within_limits b)

-- what is owed so far, and then what the tasks stand for, is the outcome
pub record Leaves (l : Lookups) (s : Stored) (P : Sort → Ref → Type 0) (o : Outcome (Unit {0})) (cs : List Condition) (ts : List Task) : Type 0 where
  pub tasks : AreKnownTasks s P ts
  pub conditions : AreKnownConditions s P cs
  pub same : o ≡ outcome_after (conditions_at s cs) [] (stack_outcome l s ts (pure tt))

-- the same in the terms of a theory
abbrev pub IsCoercionOf : State → ℕ → Context → ℕ → ℕ → ℕ → Type 0
IsCoercionOf k theory g t b a = IsKnownCoercion k.stored (k.declares theory) g t b a

abbrev pub IsTaskOf : State → ℕ → Task → Type 0
IsTaskOf k theory x = IsKnownTask k.stored (k.declares theory) x

-- What a call answers that goes from one state to the next, in the terms of a theory.

-- two types by number, where both trees are within the limits
pub record MakesBoth (k m : State) (theory : ℕ) (f h : Stored → Tree) (r : Result (ℕ × ℕ) TypeFault) : Type 0 where
  pub first : IfOk r (λ p. Gives m.stored (m.declares theory) OfType (f k.stored) p.0)
  pub second : IfOk r (λ p. Gives m.stored (m.declares theory) OfType (h k.stored) p.1)
  pub refused : IfErr r (IsFault (both_within (f k.stored) (h k.stored)))
  pub kept : Grows k m theory

-- nothing, where the outcome accepts and owes nothing
pub record Passes (k m : State) (theory : ℕ) (f : Stored → Lookups → Outcome (Unit {0})) (r : Result (Unit {0}) TypeFault) : Type 0 where
  pub ok : IfOk r (λ _. f k.stored (k.lookups theory) ≡ pure tt)
  pub refused : IfErr r (IsFault (f k.stored (k.lookups theory)))
  pub kept : Grows k m theory

-- what follows a step that stands for the outcome `f`, with less than this work
pub record Steps (k m : State) (theory : ℕ) (f : Stored → Lookups → Outcome (Unit {0})) (work : Stored → Lookups → ℕ) (r : Result Next TypeFault) : Type 0 where
  pub ok : IfOk r (Follows (k.lookups theory) m.stored (m.declares theory) (f k.stored (k.lookups theory)) (work k.stored (k.lookups theory)))
  pub refused : IfErr r (IsFault (f k.stored (k.lookups theory)))
  pub kept : Grows k m theory
