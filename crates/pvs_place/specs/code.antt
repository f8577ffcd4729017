pub mod Sorted
pub mod Nonempty
pub mod Existence
