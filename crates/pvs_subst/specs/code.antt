pub mod Compound
pub mod Faults
pub mod Memo
