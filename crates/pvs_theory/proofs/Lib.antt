pub mod Loops
pub mod PartLaws
pub mod IndexLaws
pub mod RepeatLaws
pub mod Resolving
pub mod ShownLaws
pub mod EntryLaws
pub mod CoreLaws
