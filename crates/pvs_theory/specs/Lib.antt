pub mod Names
pub mod Forms
pub mod Entries
pub mod Theories
pub mod code
