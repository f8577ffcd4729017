pub mod Refers
pub mod NamesAt
pub mod code
