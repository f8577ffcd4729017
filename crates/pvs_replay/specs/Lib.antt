pub mod Effects
pub mod Replaying
pub mod Soundness
pub mod Logic
pub mod Numbers
