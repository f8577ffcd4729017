-- What an elaborated tree is made of: only references that names stand for, and what these lead to.
use Rattle.std.specs.Prelude.{◌≡◌, List, [], ◌∷◌, Ok}
use Rattle.pvs_base.specs.declared.place.Pos.{Pos}
use Rattle.pvs_terms.specs.Tree.{Text, Tree, Ref, TName, Const}
use Rattle.pvs_elab.specs.Names.{Names, TypedVariable}
use Rattle.pvs_elab.specs.Elab.{Local, Here, TypedTree, Elab}
use Rattle.pvs_elab.specs.Laws.{Holds}
use Rattle.pvs_soundness.specs.Local.{EachAssumed}
use Rattle.pvs_soundness.specs.Vocabulary.{Vocabulary, IsOver}

abbrev pub EachLocal : Vocabulary → List Local → Type 0
EachLocal V [] = Unit {0}
EachLocal V (l ∷ ls) = IsOver V l.term × EachLocal V ls

-- local names and the context are over the vocabulary
pub record EachHere (V : Vocabulary) (h : Here) : Type 0 where
  pub locals : EachLocal V h.locals
  pub context : EachAssumed V h.context

-- names stand for references of it, without actuals outside it
pub record EachName (V : Vocabulary) (names : Names) : Type 0 where
  pub types : (x : Text) (r : Ref) → names.type_named x ≡ Ok r → IsOver V (TName r)
  pub constants : (x : Text) (r : Ref) → names.constant_named x ≡ Ok r → IsOver V (Const r)
  pub variables : (x : Text) (v : TypedVariable) → names.variable_named x ≡ Ok v → IsOver V v.ty

-- the trees that are answered are over it
pub record StaysIn (V : Vocabulary) (e : Elab) : Type 0 where
  pub infer : (h : Here) → EachHere V h → Holds (λ (t : TypedTree). IsOver V t.tree) (e.infer h)
  pub check : (h : Here) (at : Pos) (a : Tree) → EachHere V h → Holds (IsOver V) (e.check h at a)
  pub formed : (h : Here) → EachHere V h → Holds (IsOver V) (e.formed h)
