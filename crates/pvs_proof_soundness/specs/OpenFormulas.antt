-- A formula that is not proved need not hold.
use Rattle.std.specs.Prelude.{◌≡◌, ℕ, false, List, [], Some, Ok}
use Rattle.pvs_terms.specs.Tree.{Text, Tree}
use Rattle.pvs_syntax.specs.declared.unit.Decl.{Decl}
use Rattle.pvs_sig.specs.declared.signature.Class.TheVariants.{Lemma}
use Rattle.pvs_sig.specs.Signature.{FormulaSig, kind_at}
use Rattle.pvs_sem.specs.Value.{Truth}
use Rattle.pvs_sem.specs.Meaning.{mean}
use Rattle.pvs_sem.specs.Interpretations.{FiniteMap, AreSets, model_of}
use Rattle.pvs_soundness.specs.Fits.{nowhere}
use Rattle.pvs_soundness.specs.Read.{FitsBefore}
use Rattle.pvs_soundness.specs.Theory.{CheckedTheory, with_declarations, empty_theory}

-- The theory t is read from these declarations. The lemma of the entry of this number is FALSE in an interpretation by finite sets that
-- fits the entries before it.
pub record IsFalseLemma (text name : Text) (xs : List Decl) (t : CheckedTheory) (i : ℕ) (formula : Tree) (m : FiniteMap) : Type 0 where
  pub read : with_declarations [] text (empty_theory name) xs ≡ Ok t
  pub stated : kind_at t.signature i ≡ Some (FormulaSig Lemma formula 0)
  pub sets : AreSets m
  pub fits : FitsBefore (model_of m) t.signature i
  pub untrue : (mean (model_of m) formula nowhere).value ≡ Truth false

-- there is such a lemma
abbrev pub LemmasCanBeFalse : Type 0
LemmasCanBeFalse = (text : Text) × (name : Text) × (xs : List Decl) × (t : CheckedTheory) × (i : ℕ) × (formula : Tree) × (m : FiniteMap)
    × IsFalseLemma text name xs t i formula m
