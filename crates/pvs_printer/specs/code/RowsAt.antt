-- What the rows of the code stand for.
use Rattle.std.specs.Prelude.{ℕ, Option, Some, None, List, [], ◌∷◌}
use Rattle.pvs_terms.specs.Tree.{Tree}
use Rattle.pvs_terms.specs.Stored.{Stored, tree_at, ref_at, IsNode, IsRef}
use Rattle.pvs_printer.specs.Row as table
use Rattle.pvs_printer.specs.declared.row.Row.{Row}
use Rattle.pvs_printer.specs.declared.row.Row.TheVariants as row
use Rattle.pvs_printer.specs.code.Steps.{part_list, component_list}

abbrev pub pair_at : Stored → Option (ℕ × ℕ) → Option (Tree × Tree)
pair_at s None = None
pair_at s (Some q) = Some (tree_at s q.0, tree_at s q.1)

abbrev pub id_at : Stored → Option ℕ → Option Tree
id_at s None = None
id_at s (Some p) = Some (tree_at s p)

-- what was climbed to, and how far
abbrev pub climbed_at : Stored → ℕ × ℕ → Tree × ℕ
climbed_at s q = (tree_at s q.0, q.1)

-- an application to the parts of a tuple, and a tuple of them
abbrev pub apply_row : Tree → List Tree → table.Row
apply_row f [] = table.Apply f f []
apply_row f (x ∷ xs) = table.Apply f x xs

abbrev pub tuple_row : Tree → List Tree → table.Row
tuple_row a [] = table.Tuple a a []
tuple_row a (y ∷ ys) = table.Tuple a y ys

abbrev pub type_row : Tree → List Tree → table.Row
type_row a [] = table.TupleType a a []
type_row a (y ∷ ys) = table.TupleType a y ys

-- the row of trees; where there are arguments, parts or components, their number stands before them
abbrev pub row_at : Stored → Row → table.Row
row_at s (row.Truth b) = table.Truth b
row_at s (row.Variable n) = table.Variable n
row_at s (row.Named o r) = table.Named o (ref_at s r)
row_at s row.Boolean = table.Boolean
row_at s (row.Quantified w a p) = table.Quantified w (tree_at s a) (tree_at s p)
row_at s (row.Not a) = table.Not (tree_at s a)
row_at s (row.Infix w a b) = table.Infix w (tree_at s a) (tree_at s b)
row_at s (row.Cond c a b) = table.Cond (tree_at s c) (tree_at s a) (tree_at s b)
row_at s (row.Apply f k a) = apply_row (tree_at s f) (part_list k (tree_at s a))
row_at s (row.Tuple k a b) = tuple_row (tree_at s a) (part_list k (tree_at s b))
row_at s (row.Part a i) = table.Part (tree_at s a) i
row_at s (row.SubType a p) = table.SubType (tree_at s a) (tree_at s p)
row_at s (row.FunType a b) = table.FunType (tree_at s a) (tree_at s b)
row_at s (row.TupleType k a b) = type_row (tree_at s a) (component_list k (tree_at s b))
row_at s (row.TaggedTuple k a b) = table.TaggedTuple k (tree_at s a) (tree_at s b)
row_at s (row.Rest a) = table.Rest (tree_at s a)
row_at s (row.TaggedType k a b) = table.TaggedType k (tree_at s a) (tree_at s b)

-- its parts are of the store
abbrev pub RowIn : Stored → Row → Type 0
RowIn s (row.Truth b) = Unit {0}
RowIn s (row.Variable n) = Unit {0}
RowIn s (row.Named o r) = IsRef s r
RowIn s row.Boolean = Unit {0}
RowIn s (row.Quantified w a p) = IsNode s a × IsNode s p
RowIn s (row.Not a) = IsNode s a
RowIn s (row.Infix w a b) = IsNode s a × IsNode s b
RowIn s (row.Cond c a b) = IsNode s c × IsNode s a × IsNode s b
RowIn s (row.Apply f k a) = IsNode s f × IsNode s a
RowIn s (row.Tuple k a b) = IsNode s a × IsNode s b
RowIn s (row.Part a i) = IsNode s a
RowIn s (row.SubType a p) = IsNode s a × IsNode s p
RowIn s (row.FunType a b) = IsNode s a × IsNode s b
RowIn s (row.TupleType k a b) = IsNode s a × IsNode s b
RowIn s (row.TaggedTuple k a b) = IsNode s a × IsNode s b
RowIn s (row.Rest a) = IsNode s a
RowIn s (row.TaggedType k a b) = IsNode s a × IsNode s b
