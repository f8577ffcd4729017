-- Terms whose parts are terms, as far as coercion goes on with them.
use Rattle.pvs_terms.specs.Tree.{Tree, Leaf, Var, Name, Bind, Join, Project, If}
use Rattle.pvs_terms.specs.declared.shape.Plain.TheVariants.{BoolType, Yes, No}
use Rattle.pvs_terms.specs.declared.shape.Sort.TheVariants.{OfType, OfTerm}
use Rattle.pvs_terms.specs.declared.shape.Binder.TheVariants.{Subtype, Function, Product, Lambda}
use Rattle.pvs_terms.specs.declared.shape.Joint.TheVariants.{Apply, Tuple, Equal}

-- A term; and so are the body of an abstraction and the components of a tuple. Each term of a store is one, since the
-- parts of its nodes have their sorts.
abbrev pub IsProperTerm : Tree → Type 0
IsProperTerm (Leaf BoolType) = ⊥
IsProperTerm (Leaf Yes) = Unit {0}
IsProperTerm (Leaf No) = Unit {0}
IsProperTerm (Var n) = Unit {0}
IsProperTerm (Name OfType r) = ⊥
IsProperTerm (Name OfTerm r) = Unit {0}
IsProperTerm (Bind Subtype a p) = ⊥
IsProperTerm (Bind Function a b) = ⊥
IsProperTerm (Bind (Product k) a b) = ⊥
IsProperTerm (Bind Lambda a b) = IsProperTerm b
IsProperTerm (Join Apply a b) = Unit {0}
IsProperTerm (Join (Tuple k) a b) = IsProperTerm a × IsProperTerm b
IsProperTerm (Join Equal a b) = Unit {0}
IsProperTerm (Project o a) = Unit {0}
IsProperTerm (If c a b) = Unit {0}
