use Rattle.pvs_replay.proofs.SoundReplay.{replay_sound}
use Rattle.pvs_replay.proofs.sound.replay_keeps_truth.Goals as goal

pub returns : goal.returns
returns c = replay_sound
