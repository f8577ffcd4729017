-- The forms of types: the head of a type, the types above it, its most general form, and whether it is known to be
-- nonempty. Each is refused, with TooLarge, only where a tree that it needs passes a limit.
use Rattle.std.specs.Prelude.{ℕ, suc, Bool, true, false, if◌then◌else◌, ◌||◌, List, [], ◌∷◌, Option, Some, None, nat_eq, Result, Ok, Err}
use Rattle.pvs_base.specs.Answers.{◌>>=◌}
use Rattle.pvs_base.specs.declared.code.Code.{Code}
use Rattle.pvs_base.specs.declared.code.Code.TheVariants.{TooLarge}
use Rattle.pvs_terms.specs.Tree.{Tree, Leaf, Var, Name, Bind, Join, Project, If, Ref, TName, TSub, TFun, TPair, tree_eq}
use Rattle.pvs_terms.specs.declared.shape.Plain.TheVariants.{BoolType}
use Rattle.pvs_terms.specs.declared.shape.Sort.TheVariants.{OfType}
use Rattle.pvs_terms.specs.declared.shape.Binder.TheVariants.{Subtype, Function, Product}
use Rattle.pvs_sig.specs.Lookups.{Lookups, type_size}
use Rattle.pvs_types.specs.Limits.{is_within_limits}
use Rattle.pvs_types.specs.BySize.{by_size}

-- a tree that a form needs
abbrev pub small_tree : Tree → Result Tree Code
small_tree t = if is_within_limits t then Ok t else Err TooLarge

abbrev pub small_body : Option Tree → Result (Option Tree) Code
small_body None = Ok None
small_body (Some t) = small_tree t >>= (λ t. Ok (Some t))

-- the body of a type's name; None where it is not defined
abbrev pub body : Lookups → Ref → Result (Option Tree) Code
body s r = small_body (s.body_of r)

-- `go` at the body, and `other` where there is none
abbrev pub by_body : {A : Type 0} → (Tree → A) → A → Option Tree → A
by_body go other None = other
by_body go other (Some t) = go t

-- Each form by its cases, where `go` is the form of what is smaller.

-- a defined name has the head of its body, and a subtype that of its supertype
abbrev pub head_by : Lookups → (Tree → Result Tree Code) → Tree → Result Tree Code
head_by s go (Name OfType r) = do
  definition ← body s r
  by_body go (Ok (TName r)) definition
head_by s go (Bind Subtype a p) = go a
head_by s go t = Ok t

-- the type itself, then the types above its body or its supertype
abbrev pub up_by : Lookups → (Tree → Result (List Tree) Code) → Tree → Result (List Tree) Code
up_by s go (Name OfType r) = do
  definition ← body s r
  above ← by_body go (Ok []) definition
  Ok (TName r ∷ above)
up_by s go (Bind Subtype a p) = do
  above ← go a
  Ok (TSub a p ∷ above)
up_by s go t = Ok (t ∷ [])

-- whether the variable of this index occurs
abbrev pub mentions : ℕ → Tree → Bool
mentions n (Leaf o) = false
mentions n (Var k) = nat_eq n k
mentions n (Name s r) = false
mentions n (Bind o a b) = mentions n a || mentions (suc n) b
mentions n (Join o a b) = mentions n a || mentions n b
mentions n (Project o a) = mentions n a
mentions n (If c a b) = mentions n c || (mentions n a || mentions n b)

-- the first component is widened only where the second does not mention its variable
abbrev pub most_pair : (Tree → Result Tree Code) → ℕ → Tree → Tree → Result Tree Code
most_pair go k a most_b = if mentions 0 most_b then small_tree (TPair k a most_b) else (do
  most_a ← go a
  small_tree (TPair k most_a most_b))

-- subtypes give way to their supertypes, but in the domains of functions
abbrev pub most_by : Lookups → (Tree → Result Tree Code) → Tree → Result Tree Code
most_by s go (Name OfType r) = do
  definition ← body s r
  by_body go (Ok (TName r)) definition
most_by s go (Bind Subtype a p) = go a
most_by s go (Bind Function a b) = do
  most_b ← go b
  small_tree (TFun a most_b)
most_by s go (Bind (Product k) a b) = do
  most_b ← go b
  most_pair go k a most_b
most_by s go t = Ok t

-- what is not known to be nonempty may still have members
abbrev pub nonempty_by : Lookups → (Tree → Result Bool Code) → Tree → Result Bool Code
nonempty_by s go (Leaf BoolType) = Ok true
nonempty_by s go (Name OfType r) = do
  definition ← body s r
  by_body go (Ok (s.is_nonempty r)) definition
nonempty_by s go (Bind Function a b) = go b
nonempty_by s go (Bind (Product k) a b) = do
  first ← go a
  if first then go b else Ok false
nonempty_by s go t = Ok false

-- the head of a type: neither a defined name nor a predicate subtype
unfoldable pub head : Lookups → Tree → Result Tree Code
head s = by_size (type_size s.rank) (head_by s) (λ t. Ok t)

-- the types above a type, itself first
unfoldable pub up : Lookups → Tree → Result (List Tree) Code
up s = by_size (type_size s.rank) (up_by s) (λ t. Ok (t ∷ []))

-- the most general form of a type
unfoldable pub most : Lookups → Tree → Result Tree Code
most s = by_size (type_size s.rank) (most_by s) (λ t. Ok t)

-- whether a type is known to be nonempty
unfoldable pub is_known_nonempty : Lookups → Tree → Result Bool Code
is_known_nonempty s = by_size (type_size s.rank) (nonempty_by s) (λ t. Ok false)

abbrev pub is_among : Tree → List Tree → Bool
is_among t [] = false
is_among t (u ∷ us) = tree_eq t u || is_among t us

-- the first of these trees that is among those
abbrev pub first_among : List Tree → List Tree → Option Tree
first_among [] us = None
first_among (t ∷ ts) us = if is_among t us then Some t else first_among ts us
