pub mod Tree
pub mod Sorts
pub mod Stored
pub mod code
