-- What a tree means in a model and an environment: a set for a type, a value for a term; and a flag that tells
-- whether each name, application and projection that counts for it is defined.
use Rattle.std.specs.Prelude.{ℕ, zero, suc, Bool, true, false, ◌&&◌, if◌then◌else◌, List, [], ◌∷◌, slice_index_or}
use Rattle.std.specs.List.{list_all}
use Rattle.pvs_terms.specs.Tree.{Tree, Leaf, Var, Name, Bind, Join, Project, If, Ref}
use Rattle.pvs_terms.specs.declared.shape.Sort.{Sort}
use Rattle.pvs_terms.specs.declared.shape.Sort.TheVariants.{OfType, OfTerm}
use Rattle.pvs_terms.specs.declared.shape.Plain.{Plain}
use Rattle.pvs_terms.specs.declared.shape.Plain.TheVariants.{BoolType, Yes, No}
use Rattle.pvs_terms.specs.declared.shape.Binder.{Binder}
use Rattle.pvs_terms.specs.declared.shape.Binder.TheVariants.{Subtype, Function, Product, Lambda}
use Rattle.pvs_terms.specs.declared.shape.Joint.{Joint}
use Rattle.pvs_terms.specs.declared.shape.Joint.TheVariants.{Apply, Tuple, Equal}
use Rattle.pvs_terms.specs.declared.shape.Projection.{Projection}
use Rattle.pvs_terms.specs.declared.shape.Projection.TheVariants.{First, Second}
use Rattle.pvs_sem.specs.Value.{Value, Truth, Pair, value_eq, is_true, is_truth, is_pair, first_of_pair, second_of_pair, result_at, has_argument, table, tables, pairs, subset}

-- the set of a type and the value of a term; a type's value is FALSE, and a term's set is empty
pub record Meaning : Type 0 where
  pub set : List Value
  pub value : Value

abbrev pub value_meaning : Value → Meaning
value_meaning v = record { set = []; value = v }

abbrev pub set_meaning : List Value → Meaning
set_meaning xs = record { set = xs; value = Truth false }

-- what each reference means, and whether it has a meaning; `model_of` makes one of a finite map
pub record Model : Type 0 where
  pub meaning : Ref → Meaning
  pub has : Ref → Bool

-- the value of each index
abbrev pub Env : Type 0
Env = ℕ → Value

-- the environment of these values, that of index 0 first
abbrev pub env_of : List Value → Env
env_of vs n = slice_index_or vs n (Truth false)

-- an environment with one more value, for index 0
abbrev pub env_with : Value → Env → Env
env_with v e zero = v
env_with v e (suc n) = e n

-- an environment without the value of index 0
abbrev pub env_rest : Env → Env
env_rest e n = e (suc n)

-- the meaning of a node by the meanings of its parts, and of a part under a binder by the value that is bound
abbrev pub plain_meaning : Plain → Meaning
plain_meaning BoolType = set_meaning (Truth false ∷ Truth true ∷ [])
plain_meaning Yes = value_meaning (Truth true)
plain_meaning No = value_meaning (Truth false)

abbrev pub name_meaning : Sort → Meaning → Meaning
name_meaning OfType x = set_meaning x.set
name_meaning OfTerm x = value_meaning x.value

abbrev pub bind_meaning : Binder → Meaning → (Value → Meaning) → Meaning
bind_meaning Subtype a b = set_meaning (subset (λ v. is_true (b v).value) a.set)
bind_meaning Function a b = set_meaning (tables a.set (λ v. (b v).set))
bind_meaning (Product k) a b = set_meaning (pairs a.set (λ v. (b v).set))
bind_meaning Lambda a b = value_meaning (table a.set (λ v. (b v).value))

abbrev pub join_meaning : Joint → Meaning → Meaning → Meaning
join_meaning Apply f a = value_meaning (result_at f.value a.value)
join_meaning (Tuple k) a b = value_meaning (Pair a.value b.value)
join_meaning Equal a b = value_meaning (Truth (value_eq a.value b.value))

abbrev pub project_meaning : Projection → Meaning → Meaning
project_meaning (First k) t = value_meaning (first_of_pair t.value)
project_meaning (Second k) t = value_meaning (second_of_pair t.value)

abbrev pub if_meaning : Meaning → Meaning → Meaning → Meaning
if_meaning c a b = value_meaning (if is_true c.value then a.value else b.value)

-- the meaning of a tree
abbrev pub mean : Model → Tree → Env → Meaning
mean m (Leaf o) e = plain_meaning o
mean m (Var n) e = value_meaning (e n)
mean m (Name s r) e = name_meaning s (m.meaning r)
mean m (Bind o a b) e = bind_meaning o (mean m a e) (λ v. mean m b (env_with v e))
mean m (Join o a b) e = join_meaning o (mean m a e) (mean m b e)
mean m (Project o a) e = project_meaning o (mean m a e)
mean m (If c a b) e = if_meaning (mean m c e) (mean m a e) (mean m b e)

-- an application counts only where the table has the argument
abbrev pub join_inside : Joint → Value → Value → Bool
join_inside Apply f a = has_argument f a
join_inside (Tuple k) a b = true
join_inside Equal a b = true

-- a choice is between its branches, and the branch that is not chosen does not count
abbrev pub if_inside : Value → Bool → Bool → Bool
if_inside c a b = is_truth c && (if is_true c then a else b)

-- Whether each name has a meaning, each argument is in its table, and each projection is of a pair: in a part under
-- a binder at each member of the binder's set, and in a branch where it is chosen.
abbrev pub inside : Model → Tree → Env → Bool
inside m (Leaf o) e = true
inside m (Var n) e = true
inside m (Name s r) e = m.has r
inside m (Bind o a b) e = inside m a e && list_all (λ v. inside m b (env_with v e)) (mean m a e).set
inside m (Join o a b) e = (inside m a e && inside m b e) && join_inside o (mean m a e).value (mean m b e).value
inside m (Project o a) e = inside m a e && is_pair (mean m a e).value
inside m (If c a b) e = inside m c e && if_inside (mean m c e).value (inside m a e) (inside m b e)
