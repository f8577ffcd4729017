pub mod Binders
pub mod Bindings
pub mod Counts
pub mod Finding
pub mod Searching
pub mod Tasks
