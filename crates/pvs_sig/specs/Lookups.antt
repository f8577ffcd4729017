-- What typing looks up in the theories that stand: the type of a constant, the body of a defined type, and how large a
-- type is once its names are replaced by their bodies.
use Rattle.std.specs.Prelude.{◌≡◌, ◌<◌, ◌+◌, ℕ, suc, Bool, Option, Some}
use Rattle.pvs_terms.specs.declared.shape.Sort.TheVariants.{OfType, OfTerm}
use Rattle.pvs_terms.specs.declared.shape.Binder.TheVariants.{Subtype, Function, Product, Lambda}
use Rattle.pvs_terms.specs.Tree.{Tree, Ref, Leaf, Var, Name, Bind, Join, Project, If}

pub record Lookups : Type 0 where
  -- the type of a constant
  pub type_of : Ref → Option Tree
  -- the body of a defined type
  pub body_of : Ref → Option Tree
  -- whether a reference is a type, defined or not
  pub is_type : Ref → Bool
  -- whether a type without a body was declared nonempty
  pub is_nonempty : Ref → Bool
  -- how large the body of a defined type is, its names replaced by their bodies
  pub rank : Ref → ℕ

-- How large a type is, where a name counts for one more than its rank. Terms do not count.
abbrev pub type_size : (Ref → ℕ) → Tree → ℕ
type_size rank (Leaf o) = 1
type_size rank (Var n) = 1
type_size rank (Name OfType r) = suc (rank r)
type_size rank (Name OfTerm r) = 1
type_size rank (Bind Subtype a p) = suc (type_size rank a)
type_size rank (Bind Function a b) = suc (type_size rank a + type_size rank b)
type_size rank (Bind (Product k) a b) = suc (type_size rank a + type_size rank b)
type_size rank (Bind Lambda a b) = 1
type_size rank (Join o a b) = 1
type_size rank (Project o a) = 1
type_size rank (If c a b) = 1

-- each defined name is larger than its body
abbrev pub IsOrdered : Lookups → Type 0
IsOrdered s = (r : Ref) (t : Tree) → s.body_of r ≡ Some t → type_size s.rank t < suc (s.rank r)
