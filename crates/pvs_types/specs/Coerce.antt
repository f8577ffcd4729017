-- Under which conditions a term of one type is of another.
use Rattle.std.specs.Prelude.{ℕ, ◌+◌, if◌then◌else◌, ◌∷◌, nat_eq}
use Rattle.pvs_base.specs.declared.code.Code.TheVariants.{Mismatch}
use Rattle.pvs_terms.specs.Tree.{Tree, Leaf, Var, Name, Bind, Join, TName, Lam, App, Fst, Snd, tree_eq}
use Rattle.pvs_terms.specs.declared.shape.Sort.TheVariants.{OfType}
use Rattle.pvs_terms.specs.declared.shape.Binder.TheVariants.{Subtype, Function, Product, Lambda}
use Rattle.pvs_terms.specs.declared.shape.Joint.TheVariants.{Tuple}
use Rattle.pvs_subst.specs.Replace.{lift, put_in}
use Rattle.pvs_subst.specs.Contexts.{Assumptions, Variable}
use Rattle.pvs_sig.specs.Lookups.{Lookups, type_size}
use Rattle.pvs_types.specs.Outcome.{Outcome, ◌>>=◌, ◌>>◌, pure, refuse, owe, from_result, within_limits}
use Rattle.pvs_types.specs.BySize.{by_size}
use Rattle.pvs_types.specs.Forms.{by_body, body, head, up, is_among}

-- a tree under one more variable
abbrev pub lift_one : Tree → Tree
lift_one t = lift t 1 0

-- a function on `a`, applied to a new variable
abbrev pub application : Tree → Tree → Tree
application a (Bind Lambda c b) = if tree_eq c a then b else App (lift_one (Lam c b)) (Var 0)
application a t = App (lift_one t) (Var 0)

-- the parts of a tuple
abbrev pub first_part : ℕ → Tree → Tree
first_part k (Join (Tuple j) a b) = a
first_part k t = Fst k t

abbrev pub second_part : ℕ → Tree → Tree
second_part k (Join (Tuple j) a b) = b
second_part k t = Snd k t

-- in a context, for a term, from one type to another
abbrev pub Coercion : Type 0
Coercion = Assumptions → Tree → Tree → Tree → Outcome (Unit {0})

-- no condition between equal types
abbrev pub same_type : Tree → Tree → Outcome (Unit {0})
same_type b a = if tree_eq b a then pure tt else refuse Mismatch

-- Between tuple types the first part is coerced, then the second, with the first part put into both types. `go`
-- coerces between smaller types.
abbrev pub coerce_parts : Coercion → Assumptions → Tree → ℕ → Tree → Tree → Tree → Tree → Outcome (Unit {0})
coerce_parts go g t k a1 b1 a2 b2 = do
  first ← within_limits (first_part k t)
  go g first a1 a2
  second ← within_limits (second_part k t)
  c1 ← within_limits (put_in b1 first)
  c2 ← within_limits (put_in b2 first)
  go g second c1 c2

abbrev pub coerce_pair : Coercion → Assumptions → Tree → ℕ → Tree → Tree → Tree → Outcome (Unit {0})
coerce_pair go g t k a2 b2 (Bind (Product j) a1 b1) = if nat_eq j k then coerce_parts go g t k a1 b1 a2 b2 else refuse Mismatch
coerce_pair go g t k a2 b2 b = refuse Mismatch

-- between domains, unless they are equal, a variable of each is coerced to the other
abbrev pub coerce_domains : Coercion → Assumptions → Tree → Tree → Outcome (Unit {0})
coerce_domains go g a1 a2 = if tree_eq a1 a2 then pure tt else (do
  c1 ← within_limits (lift_one a1)
  c2 ← within_limits (lift_one a2)
  go (Variable a1 ∷ g) (Var 0) c1 c2
  go (Variable a2 ∷ g) (Var 0) c2 c1)

-- between function types the domains are coerced, then the application to a variable of the first domain
abbrev pub coerce_function : Coercion → Assumptions → Tree → Tree → Tree → Tree → Outcome (Unit {0})
coerce_function go g t a2 b2 (Bind Function a1 b1) = do
  coerce_domains go g a1 a2
  result ← within_limits (application a1 t)
  go (Variable a1 ∷ g) result b1 b2
coerce_function go g t a2 b2 b = refuse Mismatch

-- the cases after the first, by the form of the type that is wanted
abbrev pub coerce_to : Lookups → Coercion → Assumptions → Tree → Tree → Tree → Outcome (Unit {0})
coerce_to s go g t b (Leaf o) = do
  d ← from_result (head s b)
  same_type d (Leaf o)
coerce_to s go g t b (Name OfType r) = do
  definition ← from_result (body s r)
  by_body (go g t b) (from_result (head s b) >>= (λ d. same_type d (TName r))) definition
coerce_to s go g t b (Bind Subtype a p) = do
  go g t b a
  goal ← within_limits (put_in p t)
  owe g goal
coerce_to s go g t b (Bind (Product k) a2 b2) = do
  d ← from_result (head s b)
  coerce_pair go g t k a2 b2 d
coerce_to s go g t b (Bind Function a2 b2) = do
  d ← from_result (head s b)
  coerce_function go g t a2 b2 d
coerce_to s go g t b a = refuse Mismatch

-- the cases: nothing is owed where the wanted type is above the given one
abbrev pub coerce_by : Lookups → Coercion → Coercion
coerce_by s go g t b a = do
  above ← from_result (up s b)
  if is_among a above then pure tt else coerce_to s go g t b a

-- the recursion goes to smaller types, and may exchange the two
abbrev pub both_sizes : Lookups → Tree × Tree → ℕ
both_sizes s x = type_size s.rank x.0 + type_size s.rank x.1

abbrev pub as_coercion : (Tree × Tree → Assumptions → Tree → Outcome (Unit {0})) → Coercion
as_coercion go g t b a = go (b, a) g t

abbrev pub coerce_step : Lookups → (Tree × Tree → Assumptions → Tree → Outcome (Unit {0})) → Tree × Tree → Assumptions → Tree
    → Outcome (Unit {0})
coerce_step s go x g t = coerce_by s (as_coercion go) g t x.0 x.1

-- the conditions under which a term of the type `b` is of the type `a`: `coerce s g t b a`
unfoldable pub coerce : Lookups → Coercion
coerce s = as_coercion (by_size (both_sizes s) (coerce_step s) (λ x g t. refuse Mismatch))
