-- What holds of a theory that is read from its declarations: it has no formals and no importings, and typing accepts each
-- entry over those before it.
use Rattle.std.specs.Prelude.{◌≡◌, ◌<◌, ℕ, [], Some}
use Rattle.pvs_terms.specs.Tree.{Own}
use Rattle.pvs_sig.specs.Signature.{Signature, Kind, kind_at}
use Rattle.pvs_sig.specs.Development.{Development}
use Rattle.pvs_sig.specs.LookupsOf.{lookups_of}
use Rattle.pvs_sem.specs.Meaning.{Model}
use Rattle.pvs_soundness.specs.Within.{entries_before}
use Rattle.pvs_soundness.specs.Checked.{IsKindBy}
use Rattle.pvs_soundness.specs.Fits.{FitsKind}

pub record IsAcceptedSignature (d : Development) (s : Signature) : Type 0 where
  pub formals : s.formals ≡ []
  pub imports : s.imports ≡ []
  pub entries : (k : ℕ) (x : Kind) → kind_at s k ≡ Some x → IsKindBy (entries_before k) (lookups_of d s) x

-- the model fits the entries before this one
abbrev pub FitsBefore : Model → Signature → ℕ → Type 0
FitsBefore m s i = (k : ℕ) (x : Kind) → k < i → kind_at s k ≡ Some x → FitsKind m (Own k) x
