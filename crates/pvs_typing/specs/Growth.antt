-- What calls of typing need of a tree, and what they leave of a store and of what is looked up.
use Rattle.std.specs.Prelude.{◌≡◌, ℕ, List, [], ◌∷◌, map}
use Rattle.pvs_terms.specs.Tree.{Tree, Leaf, Var, Name, Bind, Join, Project, If, Ref}
use Rattle.pvs_terms.specs.declared.shape.Sort.{Sort}
use Rattle.pvs_terms.specs.declared.shape.Sort.TheVariants.{OfType, OfTerm}
use Rattle.pvs_terms.specs.Sorts.{sort_of}
use Rattle.pvs_terms.specs.Stored.{Stored, tree_at, IsNode, Extends}
use Rattle.pvs_subst.specs.declared.context.Assumed.{Assumed}
use Rattle.pvs_subst.specs.declared.context.Assumed.TheVariants as assumed
use Rattle.pvs_sig.specs.Development.{Development}
use Rattle.pvs_sig.specs.Lookups.{Lookups}

-- each name of the tree is declared with the sort of its node
abbrev pub EachName : (Sort → Ref → Type 0) → Tree → Type 0
EachName P (Leaf o) = Unit {0}
EachName P (Var n) = Unit {0}
EachName P (Name o r) = P o r
EachName P (Bind o a b) = EachName P a × EachName P b
EachName P (Join o a b) = EachName P a × EachName P b
EachName P (Project o a) = EachName P a
EachName P (If a b c) = EachName P a × EachName P b × EachName P c

-- a number of a type or of a term whose names are declared
pub record IsKnown (s : Stored) (P : Sort → Ref → Type 0) (o : Sort) (i : ℕ) : Type 0 where
  pub node : IsNode s i
  pub sort : sort_of (tree_at s i) ≡ o
  pub names : EachName P (tree_at s i)

-- the types of variables and the hypotheses of a context
abbrev pub IsKnownItem : Stored → (Sort → Ref → Type 0) → Assumed → Type 0
IsKnownItem s P (assumed.Bind i) = IsKnown s P OfType i
IsKnownItem s P (assumed.Hyp i) = IsKnown s P OfTerm i

abbrev pub IsKnownContext : Stored → (Sort → Ref → Type 0) → List Assumed → Type 0
IsKnownContext s P [] = Unit {0}
IsKnownContext s P (x ∷ xs) = IsKnownItem s P x × IsKnownContext s P xs

-- each number stands for what it stood for, the same is looked up, what was declared still is, and the same theories stand
pub record Keeps (s : Stored) (P : Sort → Ref → Type 0) (l : Lookups) (t : Stored) (Q : Sort → Ref → Type 0) (m : Lookups) (D E : Development) : Type 0 where
  pub stored : Extends s t
  pub declared : (o : Sort) (r : Ref) → P o r → Q o r
  pub lookups : m ≡ l
  pub theories : E ≡ D

-- known types, in a list
abbrev pub AreKnown : Stored → (Sort → Ref → Type 0) → Sort → List ℕ → Type 0
AreKnown s P o [] = Unit {0}
AreKnown s P o (i ∷ is) = IsKnown s P o i × AreKnown s P o is

abbrev pub all_at : Stored → List ℕ → List Tree
all_at s is = map (tree_at s) is
