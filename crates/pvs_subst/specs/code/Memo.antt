-- What one call has made of parts so far, so that a part that stands at several places is treated
-- once.
use Rattle.std.specs.Prelude.{ℕ, ◌≡◌, List, Option, Some, Bool, ◌&&◌, nat_eq}
use Rattle.std.specs.Map.{lookup}
use Rattle.pvs_terms.specs.Tree.{Text, Tree, Trees}
use Rattle.pvs_terms.specs.Stored.{Stored, tree_at, IsNode, Stands}
use Rattle.pvs_subst.specs.Replace.{lift, put_at}
use Rattle.pvs_subst.specs.Instance.{instantiate}
use Rattle.pvs_subst.specs.declared.memo.Part.{Part}

abbrev pub part_eq : Part → Part → Bool
part_eq p q = nat_eq p.id q.id && nat_eq p.depth q.depth

-- what was made of a part
abbrev pub made_of : List (Part × ℕ) → Part → Option ℕ
made_of m p = lookup (part_eq p) m

-- the number stands for what the operation makes of the part
pub record IsMade (s : Stored) (f : Tree → ℕ → Tree) (p : Part) (i : ℕ) : Type 0 where
  pub node : IsNode s p.id
  pub stands : Stands s (f (tree_at s p.id) p.depth) i

-- what was made of each part is right
pub record Remembers (s : Stored) (f : Tree → ℕ → Tree) (m : List (Part × ℕ)) : Type 0 where
  pub made : (p : Part) (i : ℕ) → made_of m p ≡ Some i → IsMade s f p i

-- the three operations, of a tree and the number of binders above it
abbrev pub lifts : ℕ → Tree → ℕ → Tree
lifts by t from = lift t by from

abbrev pub puts : Tree → Tree → ℕ → Tree
puts arg t at = put_at t arg at

abbrev pub instances : Text → Trees → Tree → ℕ → Tree
instances th acts t depth = instantiate t th acts
