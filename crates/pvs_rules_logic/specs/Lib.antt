pub mod Rules
pub mod Rows
pub mod Step
pub mod Numbers
pub mod Branches
