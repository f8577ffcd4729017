-- What a text says once its abbreviations are written out: types and terms in one data type, with the places of faults, and
-- with names that nothing stands for yet. Each phrase leads to one node of a core tree, or to a few.
use Rattle.std.specs.Prelude.{ℕ, Bool, List}
use Rattle.pvs_base.specs.declared.place.Pos.{Pos}
use Rattle.pvs_terms.specs.Tree.{Text}

pub data Phrase : Type 0 where
  -- a constant or a variable where a term stands, and a type where a type stands
  Name : Text → Pos → Phrase
  Truth : Bool → Pos → Phrase
  Apply : Phrase → Phrase → Phrase
  -- a tuple of k + 2 parts: the first, and the tuple of the others
  Tuple : ℕ → Phrase → Phrase → Pos → Phrase
  -- the operand, and the number with its place
  Part : Phrase → ℕ → Pos → Phrase
  Group : Phrase → Pos → Phrase
  -- whether the tree is made before its branches are joined; the place of branches that do not join, and its own
  Choice : Bool → Phrase → Phrase → Phrase → Pos → Pos → Phrase
  Not : Phrase → Pos → Phrase
  Equal : Phrase → Phrase → Phrase
  Iff : Phrase → Phrase → Phrase
  All : Text → Phrase → Phrase → Pos → Phrase
  -- the type of the variable, and the names for its parts
  Lambda : Phrase → List Text → Phrase → Pos → Phrase
  Let : Text → Phrase → Phrase → Pos → Phrase
  LetAs : Text → Phrase → Phrase → Phrase → Pos → Phrase
  -- the type that the VAR of this name has
  TypeOf : Text → Pos → Phrase
  Sub : Text → Phrase → Phrase → Pos → Phrase
  Predicate : Phrase → Pos → Phrase
  Function : Phrase → List Text → Phrase → Pos → Phrase
  -- the type of the tuples of k + 2 parts: the name and the type of the first, and the type of the tuple of the others
  Product : ℕ → Text → Phrase → Phrase → Pos → Phrase
  -- a form that is not built
  Other : Pos → Phrase

-- where a phrase begins
abbrev pub place : Phrase → Pos
place (Name x pos) = pos
place (Truth b pos) = pos
place (Apply f x) = place f
place (Tuple k x y pos) = pos
place (Part x i pos) = place x
place (Group x pos) = pos
place (Choice early c x y join pos) = pos
place (Not x pos) = pos
place (Equal x y) = place x
place (Iff x y) = place x
place (All x a p pos) = pos
place (Lambda d xs b pos) = pos
place (Let x v b pos) = pos
place (LetAs x a v b pos) = pos
place (TypeOf x pos) = pos
place (Sub x a p pos) = pos
place (Predicate q pos) = pos
place (Function d xs b pos) = pos
place (Product k x a b pos) = pos
place (Other pos) = pos
