-- Formulas: their free VARs, in the order of their first occurrence, are bound before them.
use Rattle.std.specs.Prelude.{ℕ, suc, Bool, true, false, bytes_eq, if◌then◌else◌, List, [], ◌∷◌, ◌++◌, reverse, map, is_ok}
use Rattle.std.specs.List.{list_any}
use Rattle.pvs_base.specs.Answers.{◌>>=◌}
use Rattle.pvs_base.specs.declared.place.Pos.{Pos}
use Rattle.pvs_terms.specs.Tree.{Text, Tree, Ref, Var, TBool}
use Rattle.pvs_subst.specs.Contexts.{Assumptions, Variable}
use Rattle.pvs_sig.specs.Lookups.{Lookups}
use Rattle.pvs_elab.specs.Answer.{Answer, pure, within_limits_at, from_name}
use Rattle.pvs_elab.specs.Names.{Names}
use Rattle.pvs_elab.specs.Phrase.{Phrase, Name, Truth, Apply, Tuple, Part, Group, Choice, Not, Equal, Iff, All, Lambda, Let, LetAs, TypeOf, Sub, Predicate, Function, Product, Other, place}
use Rattle.pvs_elab.specs.Elab.{Local, Here, elab, universal}

-- an occurrence of a VAR
pub record Occurs : Type 0 where
  pub name : Text
  pub pos : Pos

abbrev pub is_in : Text → List Text → Bool
is_in x xs = list_any (bytes_eq x) xs

-- a plain name in a term's place, where no binder has it and it is a VAR
abbrev pub occurrence : Names → List Text → Text → Pos → List Occurs
occurrence names bound x pos = if is_in x bound then [] else (if is_ok (names.variable_named x) then record { name = x; pos = pos } ∷ [] else [])

-- the occurrences in a term (true) or a type (false), under binders with these names
abbrev pub occurrences : Names → Bool → List Text → Phrase → List Occurs
occurrences names true bound (Name x pos) = occurrence names bound x pos
occurrences names false bound (Name x pos) = []
occurrences names b bound (Truth v pos) = []
occurrences names b bound (Apply f x) = occurrences names true bound f ++ occurrences names true bound x
occurrences names b bound (Tuple k x y pos) = occurrences names true bound x ++ occurrences names true bound y
occurrences names b bound (Part x i pos) = occurrences names true bound x
occurrences names b bound (Group x pos) = occurrences names true bound x
occurrences names b bound (Choice early c x y join pos) = occurrences names true bound c ++ (occurrences names true bound x ++ occurrences names true bound y)
occurrences names b bound (Not x pos) = occurrences names true bound x
occurrences names b bound (Equal x y) = occurrences names true bound x ++ occurrences names true bound y
occurrences names b bound (Iff x y) = occurrences names true bound x ++ occurrences names true bound y
occurrences names b bound (All x a p pos) = occurrences names false bound a ++ occurrences names true (x ∷ bound) p
occurrences names b bound (Lambda d xs e pos) = occurrences names false bound d ++ occurrences names true (xs ++ bound) e
occurrences names b bound (Let x v e pos) = occurrences names true bound v ++ occurrences names true (x ∷ bound) e
occurrences names b bound (LetAs x a v e pos) = occurrences names false bound a ++ (occurrences names true bound v ++ occurrences names true (x ∷ bound) e)
occurrences names b bound (TypeOf x pos) = []
occurrences names b bound (Sub x a p pos) = occurrences names false bound a ++ occurrences names true (x ∷ bound) p
occurrences names b bound (Predicate q pos) = occurrences names true bound q
occurrences names b bound (Function d xs e pos) = occurrences names false bound d ++ occurrences names false (xs ++ bound) e
occurrences names b bound (Product k x a e pos) = occurrences names false bound a ++ occurrences names false (x ∷ bound) e
occurrences names b bound (Other pos) = []

-- each once, where it comes first
abbrev pub firsts : List Text → List Occurs → List Occurs
firsts seen [] = []
firsts seen (o ∷ os) = if is_in o.name seen then firsts seen os else o ∷ firsts (o.name ∷ seen) os

-- a free VAR
pub record FreeVariable : Type 0 where
  pub name : Text
  pub reference : Ref
  pub ty : Tree

abbrev pub free_variables : Names → List Occurs → Answer (List FreeVariable)
free_variables names [] = pure []
free_variables names (o ∷ os) = do
  v ← from_name o.pos (names.variable_named o.name)
  rest ← free_variables names os
  pure (record { name = o.name; reference = v.reference; ty = v.ty } ∷ rest)

-- the first of these is the innermost; their types are closed
abbrev pub locals_of : ℕ → List FreeVariable → List Local
locals_of n [] = []
locals_of n (b ∷ bs) = record { name = b.name; term = Var n } ∷ locals_of (suc n) bs

abbrev pub binders_of : List FreeVariable → Assumptions
binders_of bs = map (λ (b : FreeVariable). Variable b.ty) bs

abbrev pub here_under : List FreeVariable → Here
here_under bs = record { locals = locals_of 0 bs; context = binders_of bs }

-- the formula under these binders, the innermost first
abbrev pub closed_by : Pos → List FreeVariable → Tree → Answer Tree
closed_by pos [] t = pure t
closed_by pos (b ∷ bs) t = do
  u ← within_limits_at pos (universal b.ty t)
  closed_by pos bs u

-- FORALL over these variables, the innermost first
abbrev pub closure : List FreeVariable → Tree → Tree
closure [] t = t
closure (b ∷ bs) t = closure bs (universal b.ty t)

-- A formula: its free VARs, the innermost first, its tree under them, and the closed tree.
pub record Formula : Type 0 where
  pub variables : List FreeVariable
  pub open_tree : Tree
  pub tree : Tree

abbrev pub formula_under : Lookups → Names → Phrase → List FreeVariable → Answer Formula
formula_under s names e bs = do
  t ← (elab s names e).check (here_under bs) (place e) TBool
  u ← closed_by (place e) bs t
  pure (record { variables = bs; open_tree = t; tree = u })

abbrev pub formula : Lookups → Names → Phrase → Answer Formula
formula s names e = free_variables names (firsts [] (occurrences names true [] e)) >>= (λ bs. formula_under s names e (reverse bs))
