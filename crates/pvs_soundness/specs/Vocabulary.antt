-- What trees are made of: the references that they mention, and the numbers of components of their tuples.
use Rattle.std.specs.Prelude.{◌≡◌, ℕ, Bool, true, nat_lt}
use Rattle.pvs_terms.specs.Tree.{Tree, Leaf, Var, Name, Bind, Join, Project, If, Ref, Own, Formal, Inst, Trees, none, more}
use Rattle.pvs_terms.specs.declared.shape.Binder.{Binder}
use Rattle.pvs_terms.specs.declared.shape.Binder.TheVariants.{Subtype, Function, Product, Lambda}
use Rattle.pvs_terms.specs.declared.shape.Joint.{Joint}
use Rattle.pvs_terms.specs.declared.shape.Joint.TheVariants.{Apply, Tuple, Equal}
use Rattle.pvs_terms.specs.declared.shape.Projection.{Projection}
use Rattle.pvs_terms.specs.declared.shape.Projection.TheVariants.{First, Second}

pub record Vocabulary : Type 0 where
  -- which references may be mentioned
  pub has_reference : Ref → Bool
  -- how many components a tuple may have
  pub has_arity : ℕ → Bool

abbrev pub HasReference : Vocabulary → Ref → Type 0
HasReference v r = v.has_reference r ≡ true

abbrev pub HasArity : Vocabulary → ℕ → Type 0
HasArity v k = v.has_arity k ≡ true

abbrev pub BinderArity : Vocabulary → Binder → Type 0
BinderArity v Subtype = Unit {0}
BinderArity v Function = Unit {0}
BinderArity v (Product k) = HasArity v k
BinderArity v Lambda = Unit {0}

abbrev pub JointArity : Vocabulary → Joint → Type 0
JointArity v Apply = Unit {0}
JointArity v (Tuple k) = HasArity v k
JointArity v Equal = Unit {0}

abbrev pub ProjectionArity : Vocabulary → Projection → Type 0
ProjectionArity v (First k) = HasArity v k
ProjectionArity v (Second k) = HasArity v k

-- the tree is over the vocabulary, within the actuals of references too
abbrev mutual
  pub IsOver : Vocabulary → Tree → Type 0
  IsOver v (Leaf o) = Unit {0}
  IsOver v (Var n) = Unit {0}
  IsOver v (Name o r) = HasReference v r × IsReferenceOver v r
  IsOver v (Bind o a b) = IsOver v a × IsOver v b × BinderArity v o
  IsOver v (Join o a b) = IsOver v a × IsOver v b × JointArity v o
  IsOver v (Project o a) = IsOver v a × ProjectionArity v o
  IsOver v (If a b c) = IsOver v a × IsOver v b × IsOver v c

  pub IsReferenceOver : Vocabulary → Ref → Type 0
  IsReferenceOver v (Own n) = Unit {0}
  IsReferenceOver v (Formal n) = Unit {0}
  IsReferenceOver v (Inst th n xs) = AreOver v xs

  pub AreOver : Vocabulary → Trees → Type 0
  AreOver v none = Unit {0}
  AreOver v (more x xs) = IsOver v x × AreOver v xs

-- these references, and tuples of two components or more
abbrev pub vocabulary_of : (Ref → Bool) → Vocabulary
vocabulary_of p = record { has_reference = p; has_arity = λ k. nat_lt 1 k }
