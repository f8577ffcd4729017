-- A formula that a script proves holds in each model that fits the entries before it.
use Rattle.std.proofs.Common.{◌≡◌, ◌<◌, ℕ, true, arith}
use Rattle.pvs_terms.specs.Tree.{Tree}
use Rattle.pvs_sig.specs.Signature.{Signature, FormulaSig}
use Rattle.pvs_sem.specs.Value.{Truth}
use Rattle.pvs_sem.specs.Meaning.{Model, Env, mean}
use Rattle.pvs_sem.specs.Interpretations.{model_of}
use Rattle.pvs_sem.specs.ModelTruth.{is_true_in}
use Rattle.pvs_sem.proofs.AscendingLaws.{ascending_model}
use Rattle.pvs_sem.proofs.ModelTruthLaws.{true_terms_are_true}
use Rattle.pvs_sequent.specs.Sequents.{goal}
use Rattle.pvs_sequent.proofs.GoalLaws.{true_goal}
use Rattle.pvs_replay.proofs.SoundReplay.{logic_sound}
use Rattle.pvs_soundness.specs.Read.{FitsBefore}
use Rattle.pvs_soundness.specs.Theory.{empty_theory}
use Rattle.pvs_soundness.proofs.ReadLaws.{unread_plain, all_plain}
use Rattle.pvs_soundness.proofs.TheorySound.{entry_inside}
use Rattle.pvs_proof_soundness.specs.Holds.{IsProved}
use Rattle.pvs_proof_soundness.specs.Laws.{ProofsOfSignaturesAreSound, ProofsOfTheoriesAreSound}

-- a formula that a script proves is TRUE in each model and environment
proved_true : (m : Model) (e : Env) (t : Tree) → IsProved t → (mean m t e).value ≡ Truth true
proved_true m e t p = (true_terms_are_true m e t).0 (true_goal (is_true_in m e) t (logic_sound (is_true_in m e) p.0 (goal t) p.1 p.2 p.3))

fits_earlier : (m : Model) (s : Signature) (k i : ℕ) → k < i → FitsBefore m s i → FitsBefore m s k
fits_earlier m s k i l f j x h e = f j x (omega (arith, l, h)) e

pub signatures_sound : ProofsOfSignaturesAreSound
signatures_sound d s development accepted i c t owner e p m sets f =
    let each = entry_inside d s development accepted (model_of m) (ascending_model m sets) in record {
      value = proved_true (model_of m) _ t p;
      flag = each i (FormulaSig c t owner) e f;
      earlier = λ k x l h. each k x h (fits_earlier (model_of m) s k i l f);
    }

pub theories_sound : ProofsOfTheoriesAreSound
theories_sound d development text name xs t h = signatures_sound d t.signature development (all_plain d development text (empty_theory name) (unread_plain d name) xs t h)
