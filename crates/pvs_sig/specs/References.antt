-- The references of a tree.
use Rattle.std.specs.Prelude.{Option, Some, None}
use Rattle.pvs_terms.specs.Tree.{Tree, Leaf, Var, Name, Bind, Join, Project, If, Ref, Own, Formal, Inst, Trees, none, more}
use Rattle.pvs_sig.specs.Signature.{Kind, TypeSig, ConstSig, VarSig, FormulaSig}

-- P holds of each reference of the tree, within the actuals of references too
abbrev mutual
  pub EachRef : (Ref → Type 0) → Tree → Type 0
  EachRef P (Leaf o) = Unit {0}
  EachRef P (Var n) = Unit {0}
  EachRef P (Name o r) = P r × EachWithin P r
  EachRef P (Bind o a b) = EachRef P a × EachRef P b
  EachRef P (Join o a b) = EachRef P a × EachRef P b
  EachRef P (Project o a) = EachRef P a
  EachRef P (If a b c) = EachRef P a × EachRef P b × EachRef P c

  pub EachWithin : (Ref → Type 0) → Ref → Type 0
  EachWithin P (Own n) = Unit {0}
  EachWithin P (Formal n) = Unit {0}
  EachWithin P (Inst th n xs) = EachOf P xs

  pub EachOf : (Ref → Type 0) → Trees → Type 0
  EachOf P none = Unit {0}
  EachOf P (more x xs) = EachRef P x × EachOf P xs

abbrev pub OptionEach : (Ref → Type 0) → Option Tree → Type 0
OptionEach P None = Unit {0}
OptionEach P (Some t) = EachRef P t

-- of the trees of a kind
abbrev pub KindEach : (Ref → Type 0) → Kind → Type 0
KindEach P (TypeSig b body) = OptionEach P body
KindEach P (ConstSig t body) = EachRef P t × OptionEach P body
KindEach P (VarSig t) = EachRef P t
KindEach P (FormulaSig c t o) = EachRef P t
