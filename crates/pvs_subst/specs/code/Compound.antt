-- Shapes that are treated by themselves.
use Rattle.pvs_terms.specs.declared.shape.Shape.{Shape}
use Rattle.pvs_terms.specs.declared.shape.Shape.TheVariants.{Leaf, Index, Name, Bind, Join, Project, Choose}

-- no variable
abbrev pub IsCompound : Shape → Type 0
IsCompound (Leaf o) = Unit {0}
IsCompound (Index n) = ⊥
IsCompound (Name s r) = Unit {0}
IsCompound (Bind o a b) = Unit {0}
IsCompound (Join o a b) = Unit {0}
IsCompound (Project o a) = Unit {0}
IsCompound (Choose a b c) = Unit {0}

-- no name
abbrev pub IsNoName : Shape → Type 0
IsNoName (Leaf o) = Unit {0}
IsNoName (Index n) = Unit {0}
IsNoName (Name s r) = ⊥
IsNoName (Bind o a b) = Unit {0}
IsNoName (Join o a b) = Unit {0}
IsNoName (Project o a) = Unit {0}
IsNoName (Choose a b c) = Unit {0}
