use Rattle.pvs_replay.proofs.SoundReplay.{logic_sound}
use Rattle.pvs_replay.proofs.sound.logic_keeps_truth.Goals as goal

pub returns : goal.returns
returns c = logic_sound
