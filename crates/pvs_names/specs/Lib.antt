pub mod Members
pub mod Resolve
pub mod Laws
pub mod Answer
pub mod Qualifiers
pub mod code
