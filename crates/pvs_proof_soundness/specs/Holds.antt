-- What a script proves, and when a formula of a theory holds in a model.
use Rattle.std.specs.Prelude.{◌≡◌, ◌<◌, ℕ, true, List, Some}
use Rattle.pvs_terms.specs.Tree.{Tree, Ref}
use Rattle.pvs_sig.specs.Signature.{Signature, Kind, kind_at}
use Rattle.pvs_sem.specs.Value.{Truth}
use Rattle.pvs_sem.specs.Meaning.{Model, mean, inside}
use Rattle.pvs_script.specs.declared.tree.Script.{Script}
use Rattle.pvs_sequent.specs.Sequents.{goal}
use Rattle.pvs_replay.specs.Logic.{logic_effect}
use Rattle.pvs_replay.specs.Replaying.{Proved, replay}
use Rattle.pvs_soundness.specs.Fits.{nowhere, IsInsideKind}

-- some script proves the formula by the rules of logic
abbrev pub IsProved : Tree → Type 0
IsProved t = (x : Script) × (cited : List Ref) × (uses : List Ref) × (replay logic_effect x (goal t) ≡ Proved cited uses)

-- The formula of the entry of this number is TRUE. In it and in each entry before it each name has a meaning, each argument is in the
-- domain of its function, and each projection is of a pair.
pub record HoldsAt (m : Model) (s : Signature) (i : ℕ) (t : Tree) : Type 0 where
  pub value : (mean m t nowhere).value ≡ Truth true
  pub flag : inside m t nowhere ≡ true
  pub earlier : (k : ℕ) (x : Kind) → k < i → kind_at s k ≡ Some x → IsInsideKind m x
