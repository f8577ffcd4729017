pub mod Changes
pub mod KeptTrees
pub mod Places
pub mod Growing
pub mod Examples
pub mod Importing
