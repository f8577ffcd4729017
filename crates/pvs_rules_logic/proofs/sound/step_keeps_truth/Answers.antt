use Rattle.pvs_rules_logic.proofs.SoundRows.{step_sound}
use Rattle.pvs_rules_logic.proofs.sound.step_keeps_truth.Goals as goal

pub returns : goal.returns
returns c = step_sound
