pub mod OutcomeLaws
pub mod RunLaws
pub mod SoundReplay
pub mod ScriptLaws
