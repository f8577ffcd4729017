pub mod Terminals
pub mod Language
pub mod Units
pub mod FirstTokens
pub mod Faults
pub mod Text
pub mod code
