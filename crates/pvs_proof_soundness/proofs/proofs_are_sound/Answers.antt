use Rattle.pvs_proof_soundness.proofs.ProvedLaws.{signatures_sound, theories_sound}
use Rattle.pvs_proof_soundness.proofs.OpenExample.{lemmas_can_be_false}
use Rattle.pvs_proof_soundness.proofs.proofs_are_sound.Goals as goal

pub returns : goal.returns
returns c = record { signatures = signatures_sound; theories = theories_sound; false_lemmas = lemmas_can_be_false }
