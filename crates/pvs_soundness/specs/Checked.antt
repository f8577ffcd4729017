-- What typing has accepted of an entry, where it owes no condition: its trees are over a vocabulary, and typing accepts them
-- by these look-ups.
use Rattle.std.specs.Prelude.{◌≡◌, List, [], ◌∷◌, Some, None}
use Rattle.pvs_terms.specs.Tree.{Tree, Ref, TBool, TFun, Lam}
use Rattle.pvs_subst.specs.Contexts.{Assumptions, Variable}
use Rattle.pvs_sig.specs.Lookups.{Lookups}
use Rattle.pvs_sig.specs.Signature.{Kind, TypeSig, ConstSig, VarSig, FormulaSig}
use Rattle.pvs_types.specs.Outcome.{Outcome, Accepted}
use Rattle.pvs_types.specs.Typing.{check, well_formed}
use Rattle.pvs_elab.specs.Formula.{FreeVariable, binders_of, closure}
use Rattle.pvs_soundness.specs.Vocabulary.{Vocabulary, IsOver}

-- accepted without a condition
pub record OwesNothing (o : Outcome (Unit {0})) : Type 0 where
  pub used : List Ref
  pub accepted : o ≡ Accepted tt [] used

pub record IsFormedBy (V : Vocabulary) (s : Lookups) (g : Assumptions) (a : Tree) : Type 0 where
  pub each : IsOver V a
  pub used : List Ref
  pub accepted : well_formed s g a ≡ Accepted tt [] used

pub record IsCheckedBy (V : Vocabulary) (s : Lookups) (g : Assumptions) (t a : Tree) : Type 0 where
  pub each : IsOver V t
  pub type_each : IsOver V a
  pub used : List Ref
  pub accepted : check s g t a ≡ Accepted tt [] used

-- a definition is checked by its type, or its body is under a parameter
pub data IsDefinedBy (V : Vocabulary) (s : Lookups) (t a : Tree) : Type 0 where
  plainly : IsCheckedBy V s [] t a → IsDefinedBy V s t a
  under_parameter : (c b r : Tree) → a ≡ TFun c r → t ≡ Lam c b → IsFormedBy V s [] c → IsCheckedBy V s (Variable c ∷ []) b r → IsDefinedBy V s t a

abbrev pub AreFormedBy : Vocabulary → Lookups → List FreeVariable → Type 0
AreFormedBy V s [] = Unit {0}
AreFormedBy V s (b ∷ bs) = IsFormedBy V s [] b.ty × AreFormedBy V s bs

-- a formula is closed over its variables, whose types are closed
pub record IsFormulaBy (V : Vocabulary) (s : Lookups) (t : Tree) : Type 0 where
  pub variables : List FreeVariable
  pub open_tree : Tree
  pub formed : AreFormedBy V s variables
  pub checked : IsCheckedBy V s (binders_of variables) open_tree TBool
  pub closed : t ≡ closure variables open_tree

abbrev pub IsKindBy : Vocabulary → Lookups → Kind → Type 0
IsKindBy V s (TypeSig b None) = Unit {0}
IsKindBy V s (TypeSig b (Some a)) = IsFormedBy V s [] a
IsKindBy V s (ConstSig a None) = IsFormedBy V s [] a
IsKindBy V s (ConstSig a (Some t)) = IsFormedBy V s [] a × IsDefinedBy V s t a
IsKindBy V s (VarSig a) = IsFormedBy V s [] a
IsKindBy V s (FormulaSig c t o) = IsFormulaBy V s t
