-- The type of a term, what it takes to be of a type, and what makes a type well formed: one recursion on trees. In
-- each case conditions, and faults, come in the order of the lines.
use Rattle.std.specs.Prelude.{ℕ, zero, suc, Bool, false, if◌then◌else◌, [], ◌∷◌, Option, Some, None, nat_eq}
use Rattle.pvs_base.specs.declared.code.Code.TheVariants.{NotFunction, NotTuple, NoSuchPart, Unknown}
use Rattle.pvs_terms.specs.Tree.{Tree, Leaf, Var, Name, Bind, Join, Project, If, Ref, TBool, True, False, TName, Const, TFun, TPair, Lam, Fst, tree_eq}
use Rattle.pvs_terms.specs.declared.shape.Plain.{Plain}
use Rattle.pvs_terms.specs.declared.shape.Plain.TheVariants.{BoolType, Yes, No}
use Rattle.pvs_terms.specs.declared.shape.Sort.{Sort}
use Rattle.pvs_terms.specs.declared.shape.Sort.TheVariants.{OfType, OfTerm}
use Rattle.pvs_terms.specs.declared.shape.Binder.{Binder}
use Rattle.pvs_terms.specs.declared.shape.Binder.TheVariants.{Subtype, Function, Product, Lambda}
use Rattle.pvs_terms.specs.declared.shape.Joint.{Joint}
use Rattle.pvs_terms.specs.declared.shape.Joint.TheVariants.{Apply, Tuple, Equal}
use Rattle.pvs_terms.specs.declared.shape.Projection.{Projection}
use Rattle.pvs_terms.specs.declared.shape.Projection.TheVariants.{First, Second}
use Rattle.pvs_subst.specs.Replace.{lift, put_in}
use Rattle.pvs_subst.specs.Contexts.{Assumptions, Variable, Hypothesis}
use Rattle.pvs_sig.specs.Lookups.{Lookups}
use Rattle.pvs_types.specs.Outcome.{Outcome, ◌>>=◌, ◌>>◌, pure, refuse, uses, from_option, from_result, within_limits}
use Rattle.pvs_types.specs.Forms.{head, up, most, first_among}
use Rattle.pvs_types.specs.Coerce.{lift_one, coerce}
use Rattle.pvs_types.specs.Symbols.{symbols}

-- the type of a variable, as it stands at its binder
abbrev pub binder_type : Assumptions → ℕ → Option Tree
binder_type [] n = None
binder_type (Variable a ∷ g) zero = Some a
binder_type (Variable a ∷ g) (suc n) = binder_type g n
binder_type (Hypothesis p ∷ g) n = binder_type g n

abbrev pub lift_option : ℕ → Option Tree → Option Tree
lift_option by None = None
lift_option by (Some t) = Some (lift t by 0)

-- the type of a variable where it is used: lifted over itself and the variables that are bound after it
abbrev pub variable_type : Assumptions → ℕ → Option Tree
variable_type g n = lift_option (suc n) (binder_type g n)

abbrev pub negation : Tree → Tree
negation t = If t False True

-- What is answered for a tree in a context: the type of a term, what it takes to be of a type, what makes a type well
-- formed, and what it takes to be the predicate of a FORALL.
pub record Typing : Type 0 where
  pub infer : Assumptions → Outcome Tree
  pub check : Assumptions → Tree → Outcome (Unit {0})
  pub well_formed : Assumptions → Outcome (Unit {0})
  pub predicate : Assumptions → Outcome (Unit {0})

-- A term is checked by its own type. A term is no type, and a type is no term: what stands in the other's place, as
-- it never does in a store, is Unknown.
abbrev pub term_typing : Lookups → Tree → (Assumptions → Outcome Tree) → Typing
term_typing s t infer = record {
  infer = infer;
  check = λ g a. infer g >>= (λ b. coerce s g t b a);
  well_formed = λ g. refuse Unknown;
  predicate = λ g. refuse Unknown;
}

abbrev pub type_typing : (Assumptions → Outcome (Unit {0})) → Typing
type_typing well_formed = record {
  infer = λ g. refuse Unknown;
  check = λ g a. refuse Unknown;
  well_formed = well_formed;
  predicate = λ g. refuse Unknown;
}

abbrev pub leaf_typing : Lookups → Plain → Typing
leaf_typing s BoolType = type_typing (λ g. pure tt)
leaf_typing s Yes = term_typing s True (λ g. pure TBool)
leaf_typing s No = term_typing s False (λ g. pure TBool)

abbrev pub variable_infer : ℕ → Assumptions → Outcome Tree
variable_infer n g = do
  a ← from_option Unknown (variable_type g n)
  within_limits a

abbrev pub constant_infer : Lookups → Ref → Assumptions → Outcome Tree
constant_infer s r g = do
  uses (symbols (Const r))
  a ← from_option Unknown (s.type_of r)
  within_limits a

abbrev pub name_well_formed : Lookups → Ref → Assumptions → Outcome (Unit {0})
name_well_formed s r g = if s.is_type r then uses (symbols (TName r)) else refuse Unknown

abbrev pub name_typing : Lookups → Sort → Ref → Typing
name_typing s OfType r = type_typing (name_well_formed s r)
name_typing s OfTerm r = term_typing s (Const r) (constant_infer s r)

-- Below, x, y and z are the typings of the parts.

-- a type, then a predicate on it
abbrev pub predicate_check : Tree → Typing → Typing → Assumptions → Outcome (Unit {0})
predicate_check a x y g = do
  x.well_formed g
  y.check (Variable a ∷ g) TBool

-- a type, then a type that may depend on it
abbrev pub dependent_well_formed : Tree → Typing → Typing → Assumptions → Outcome (Unit {0})
dependent_well_formed a x y g = do
  x.well_formed g
  y.well_formed (Variable a ∷ g)

abbrev pub lambda_infer : Tree → Typing → Typing → Assumptions → Outcome Tree
lambda_infer a x y g = do
  x.well_formed g
  c ← y.infer (Variable a ∷ g)
  within_limits (TFun a c)

abbrev pub bind_typing : Lookups → Binder → Tree → Tree → Typing → Typing → Typing
bind_typing s Subtype a p x y = type_typing (predicate_check a x y)
bind_typing s Function a b x y = type_typing (dependent_well_formed a x y)
bind_typing s (Product k) a b x y = type_typing (dependent_well_formed a x y)
bind_typing s Lambda a b x y = record (term_typing s (Lam a b) (lambda_infer a x y)) { predicate = predicate_check a x y }

-- the two parts of a function type or a tuple type
pub record Components : Type 0 where
  pub first : Tree
  pub second : Tree

abbrev pub function_of : Tree → Outcome Components
function_of (Bind Function a b) = pure (record { first = a; second = b })
function_of t = refuse NotFunction

abbrev pub tuple_of : ℕ → Tree → Outcome Components
tuple_of k (Bind (Product j) a b) = if nat_eq j k then pure (record { first = a; second = b }) else refuse NoSuchPart
tuple_of k t = refuse NotTuple

-- the two sides of a FORALL: a predicate, and TRUE on the same type
abbrev pub is_forall : Tree → Tree → Bool
is_forall (Bind Lambda a p) (Bind Lambda b (Leaf Yes)) = tree_eq a b
is_forall t u = false

abbrev pub apply_infer : Lookups → Tree → Typing → Typing → Assumptions → Outcome Tree
apply_infer s a x y g = do
  c ← x.infer g
  d ← from_result (head s c)
  function ← function_of d
  y.check g function.first
  within_limits (put_in function.second a)

abbrev pub tuple_infer : ℕ → Typing → Typing → Assumptions → Outcome Tree
tuple_infer k x y g = do
  c ← x.infer g
  d ← y.infer g
  within_limits (TPair k c (lift_one d))

-- both sides, the right one first, are of the most general form of the left one's type
abbrev pub equal_infer : Lookups → Tree → Tree → Typing → Typing → Assumptions → Outcome Tree
equal_infer s a b x y g = do
  c ← x.infer g
  d ← y.infer g
  common ← from_result (most s c)
  coerce s g b d common
  coerce s g a c common
  pure TBool

abbrev pub join_infer : Lookups → Joint → Tree → Tree → Typing → Typing → Assumptions → Outcome Tree
join_infer s Apply f a x y g = apply_infer s a x y g
join_infer s (Tuple k) a b x y g = tuple_infer k x y g
join_infer s Equal a b x y g = if is_forall a b then x.predicate g >> pure TBool else equal_infer s a b x y g

abbrev pub project_infer : Lookups → Projection → Tree → Typing → Assumptions → Outcome Tree
project_infer s (First k) t x g = do
  c ← x.infer g
  d ← from_result (head s c)
  tuple ← tuple_of k d
  pure tuple.first
project_infer s (Second k) t x g = do
  c ← x.infer g
  d ← from_result (head s c)
  tuple ← tuple_of k d
  first ← within_limits (Fst k t)
  within_limits (put_in tuple.second first)

-- a type of both branches: one above both types, or the most general form of the first, to which both are coerced
abbrev pub common_type : Lookups → Assumptions → Assumptions → Tree → Tree → Tree → Tree → Option Tree → Outcome Tree
common_type s g h a b c d (Some u) = pure u
common_type s g h a b c d None = do
  common ← from_result (most s c)
  coerce s g a c common
  coerce s h b d common
  pure common

abbrev pub if_infer : Lookups → Tree → Tree → Tree → Typing → Typing → Typing → Assumptions → Outcome Tree
if_infer s t a b x y z g = do
  x.check g TBool
  c ← y.infer (Hypothesis t ∷ g)
  n ← within_limits (negation t)
  d ← z.infer (Hypothesis n ∷ g)
  above_c ← from_result (up s c)
  above_d ← from_result (up s d)
  common_type s (Hypothesis t ∷ g) (Hypothesis n ∷ g) a b c d (first_among above_c above_d)

abbrev pub if_check : Tree → Typing → Typing → Typing → Assumptions → Tree → Outcome (Unit {0})
if_check t x y z g u = do
  x.check g TBool
  y.check (Hypothesis t ∷ g) u
  n ← within_limits (negation t)
  z.check (Hypothesis n ∷ g) u

abbrev pub if_typing : Lookups → Tree → Tree → Tree → Typing → Typing → Typing → Typing
if_typing s t a b x y z = record (term_typing s (If t a b) (if_infer s t a b x y z)) { check = if_check t x y z }

-- what is answered for a tree
abbrev pub typing : Lookups → Tree → Typing
typing s (Leaf o) = leaf_typing s o
typing s (Var n) = term_typing s (Var n) (variable_infer n)
typing s (Name o r) = name_typing s o r
typing s (Bind o a b) = bind_typing s o a b (typing s a) (typing s b)
typing s (Join o a b) = term_typing s (Join o a b) (join_infer s o a b (typing s a) (typing s b))
typing s (Project o a) = term_typing s (Project o a) (project_infer s o a (typing s a))
typing s (If t a b) = if_typing s t a b (typing s t) (typing s a) (typing s b)

-- the type of a term, with the conditions under which it has one
abbrev pub infer : Lookups → Assumptions → Tree → Outcome Tree
infer s g t = (typing s t).infer g

-- the conditions under which a term is of a type: `check s g t a`
abbrev pub check : Lookups → Assumptions → Tree → Tree → Outcome (Unit {0})
check s g t a = (typing s t).check g a

-- the conditions under which a type is well formed
abbrev pub well_formed : Lookups → Assumptions → Tree → Outcome (Unit {0})
well_formed s g a = (typing s a).well_formed g
