pub mod Tasks
pub mod Rows
pub mod Frames
