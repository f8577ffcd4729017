-- What a proof of a formula promises.
use Rattle.std.specs.Prelude.{◌≡◌, ℕ, List, Some, Ok}
use Rattle.pvs_terms.specs.Tree.{Text, Tree}
use Rattle.pvs_syntax.specs.declared.unit.Decl.{Decl}
use Rattle.pvs_sig.specs.declared.signature.Class.{Class}
use Rattle.pvs_sig.specs.Signature.{Signature, FormulaSig, kind_at}
use Rattle.pvs_sig.specs.Development.{Development, IsDevelopment}
use Rattle.pvs_sem.specs.Interpretations.{FiniteMap, AreSets, model_of}
use Rattle.pvs_soundness.specs.Read.{IsAcceptedSignature, FitsBefore}
use Rattle.pvs_soundness.specs.Theory.{CheckedTheory, with_declarations, empty_theory}
use Rattle.pvs_proof_soundness.specs.Holds.{IsProved, HoldsAt}

-- in each interpretation by finite sets that fits the entries before it, a formula of a signature that is proved holds
abbrev pub ProvedFormulasHold : Signature → Type 0
ProvedFormulasHold s = (i : ℕ) (c : Class) (t : Tree) (owner : ℕ) → kind_at s i ≡ Some (FormulaSig c t owner) → IsProved t
    → (m : FiniteMap) → AreSets m → FitsBefore (model_of m) s i → HoldsAt (model_of m) s i t

-- This is so of a signature whose entries typing accepts over those before them,
abbrev pub ProofsOfSignaturesAreSound : Type 0
ProofsOfSignaturesAreSound = (d : Development) (s : Signature) → IsDevelopment d → IsAcceptedSignature d s → ProvedFormulasHold s

-- and so of a theory that is read from its declarations.
abbrev pub ProofsOfTheoriesAreSound : Type 0
ProofsOfTheoriesAreSound = (d : Development) → IsDevelopment d → (text name : Text) (xs : List Decl)
    → (t : CheckedTheory) → with_declarations d text (empty_theory name) xs ≡ Ok t → ProvedFormulasHold t.signature
