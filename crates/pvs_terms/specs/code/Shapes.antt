-- A node by its shape and the numbers of its parts.
use Rattle.pvs_terms.specs.declared.shape.Plain.TheVariants.{BoolType, Yes, No}
use Rattle.pvs_terms.specs.declared.shape.Sort.TheVariants.{OfType, OfTerm}
use Rattle.pvs_terms.specs.declared.shape.Binder.TheVariants.{Subtype, Function, Product, Lambda}
use Rattle.pvs_terms.specs.declared.shape.Joint.TheVariants.{Apply, Tuple, Equal}
use Rattle.pvs_terms.specs.declared.shape.Projection.TheVariants.{First, Second}
use Rattle.pvs_terms.specs.declared.node.Node.{Node}
use Rattle.pvs_terms.specs.declared.node.Node.TheVariants as node
use Rattle.pvs_terms.specs.declared.shape.Shape.{Shape}
use Rattle.pvs_terms.specs.declared.shape.Shape.TheVariants.{Leaf, Index, Name, Bind, Join, Project, Choose}

-- the shape of a node
abbrev pub shape_of : Node → Shape
shape_of node.TBool = Leaf BoolType
shape_of (node.TName r) = Name OfType r
shape_of (node.TSub a b) = Bind Subtype a b
shape_of (node.TFun a b) = Bind Function a b
shape_of (node.TPair k a b) = Bind (Product k) a b
shape_of (node.Var n) = Index n
shape_of (node.Const r) = Name OfTerm r
shape_of node.True = Leaf Yes
shape_of node.False = Leaf No
shape_of (node.Lam a b) = Bind Lambda a b
shape_of (node.App a b) = Join Apply a b
shape_of (node.Tup k a b) = Join (Tuple k) a b
shape_of (node.Fst k a) = Project (First k) a
shape_of (node.Snd k a) = Project (Second k) a
shape_of (node.If a b c) = Choose a b c
shape_of (node.Eq a b) = Join Equal a b
