pub mod Occurrences
pub mod code
