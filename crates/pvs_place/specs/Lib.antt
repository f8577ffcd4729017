pub mod Place
pub mod NextEntry
pub mod Existence
pub mod code
